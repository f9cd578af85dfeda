-- Collections by what their member holds.
use Rattle.std.specs.Prelude.{codes}
use Rattle.std.proofs.Common.{◌≡◌, Bool, true, false, bytes_eq, Result, Ok, refl, sym, ap, ◌∙◌}
use Rattle.std.proofs.lemmas.Bool.{cond-true, cond-false}
use Rattle.json_scan.specs.Tree.{Tree, NullAt, FalseAt, TrueAt, NumberAt, TextAt, ListAt, ObjectAt, Entries, NoEntries, NextEntry, OnceIn}
use Rattle.json_scan.specs.Tree.{lookup}
use Rattle.topo_reader.specs.Sequence.{and_then}
use Rattle.topo_reader.proofs.Lookups.{once-first, once-later}
use Rattle.geo_reader.specs.declared.fault.GeoFault.{GeoFault}
use Rattle.geo_reader.specs.Geo.{Geo}
use Rattle.geo_reader.specs.Steps.{list_of, required}
use Rattle.geo_reader.specs.Geometries.{collection_of, collection_geometry, geometry_list, geometries_of}
use Rattle.geo_reader.proofs.Holding.{required-once}

-- a List or its fault, and then its geometries
list-first : (geo : Geo) (t : Tree) → geometry_list t geo ≡ and_then (list_of t) (λ trees. geometries_of trees geo)
list-first geo (NullAt e) = refl
list-first geo (FalseAt e) = refl
list-first geo (TrueAt e) = refl
list-first geo (NumberAt e whole) = refl
list-first geo (TextAt e word) = refl
list-first geo (ListAt e trees) = refl
list-first geo (ObjectAt e members) = refl

-- where the member stands once, a collection holds what its value does
collection-once : (geo : Geo) (t : Tree) (members : Entries) → lookup (codes "geometries") members ≡ OnceIn t
    → collection_of members geo ≡ geometry_list t geo
collection-once geo t NoEntries h = absurd cc
collection-once geo t (NextEntry e word value others) h =
    at_case (collection-once geo t others) (bytes_eq word (codes "geometries")) refl
  where
    at_case : (lookup (codes "geometries") others ≡ OnceIn t → collection_of others geo ≡ geometry_list t geo) → (b : Bool)
        → bytes_eq word (codes "geometries") ≡ b → collection_of (NextEntry e word value others) geo ≡ geometry_list t geo
    at_case further true same = cond-true (bytes_eq word (codes "geometries")) _ _ same
        ∙ ap (λ (u : Tree). geometry_list u geo) (once-first (codes "geometries") e word value t others h same)
    at_case further false other = cond-false (bytes_eq word (codes "geometries")) _ _ other
        ∙ further (once-later (codes "geometries") e word value t others h other)

-- what comes of the only member is what comes of a collection
pub collection-is : (holder : Tree) (members : Entries) (t : Tree) (geo : Geo) → Ok t ≡ required (codes "geometries") holder members
    → collection_geometry holder members geo ≡ and_then (list_of t) (λ trees. geometries_of trees geo)
collection-is holder members t geo h =
    ap (λ (r : Result Tree GeoFault). and_then r (λ value. collection_of members geo)) (sym h)
    ∙ collection-once geo t members (required-once (codes "geometries") holder members t h) ∙ list-first geo t

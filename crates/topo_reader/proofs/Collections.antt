-- Collections by what their member holds.
use Rattle.std.specs.Prelude.{codes}
use Rattle.std.proofs.Common.{◌≡◌, Bool, true, false, bytes_eq, List, Result, Ok, refl, sym, ap, ◌∙◌}
use Rattle.std.proofs.lemmas.Bool.{cond-true, cond-false}
use Rattle.grid_exact.specs.Geometry.{Place}
use Rattle.json_scan.specs.Tree.{Tree, NullAt, FalseAt, TrueAt, NumberAt, TextAt, ListAt, ObjectAt, Entries, NoEntries, NextEntry, OnceIn}
use Rattle.json_scan.specs.Tree.{lookup}
use Rattle.topo_reader.specs.declared.fault.ReadFault.{ReadFault}
use Rattle.topo_reader.specs.Sequence.{and_then, list_of, required}
use Rattle.topo_reader.specs.Geometries.{Seen, collection_of, collection_geometry, geometry_list, geometries_of}
use Rattle.topo_reader.proofs.Lookups.{once-first, once-later, required-once}

-- a List or its fault, and then its geometries
list-first : (arcs : List (List Place)) (seen : Seen) (t : Tree)
    → geometry_list arcs t seen ≡ and_then (list_of t) (λ trees. geometries_of arcs trees seen)
list-first arcs seen (NullAt e) = refl
list-first arcs seen (FalseAt e) = refl
list-first arcs seen (TrueAt e) = refl
list-first arcs seen (NumberAt e whole) = refl
list-first arcs seen (TextAt e word) = refl
list-first arcs seen (ListAt e trees) = refl
list-first arcs seen (ObjectAt e members) = refl

-- where the member stands once, a collection holds what its value does
collection-once : (arcs : List (List Place)) (seen : Seen) (t : Tree) (members : Entries) → lookup (codes "geometries") members ≡ OnceIn t
    → collection_of arcs members seen ≡ geometry_list arcs t seen
collection-once arcs seen t NoEntries h = absurd cc
collection-once arcs seen t (NextEntry e word value others) h =
    at_case (collection-once arcs seen t others) (bytes_eq word (codes "geometries")) refl
  where
    at_case : (lookup (codes "geometries") others ≡ OnceIn t → collection_of arcs others seen ≡ geometry_list arcs t seen) → (b : Bool)
        → bytes_eq word (codes "geometries") ≡ b
        → collection_of arcs (NextEntry e word value others) seen ≡ geometry_list arcs t seen
    at_case further true same = cond-true (bytes_eq word (codes "geometries")) _ _ same
        ∙ ap (λ (u : Tree). geometry_list arcs u seen) (once-first (codes "geometries") e word value t others h same)
    at_case further false other = cond-false (bytes_eq word (codes "geometries")) _ _ other
        ∙ further (once-later (codes "geometries") e word value t others h other)

-- what comes of the only member is what comes of a collection
pub collection-is : (arcs : List (List Place)) (holder : Tree) (members : Entries) (t : Tree) (seen : Seen)
    → Ok t ≡ required (codes "geometries") holder members
    → collection_geometry arcs holder members seen ≡ and_then (list_of t) (λ trees. geometries_of arcs trees seen)
collection-is arcs holder members t seen h =
    ap (λ (r : Result Tree ReadFault). and_then r (λ value. collection_of arcs members seen)) (sym h)
    ∙ collection-once arcs seen t members (required-once (codes "geometries") holder members t h) ∙ list-first arcs seen t

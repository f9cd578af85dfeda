-- Values by what they hold: how large that is, and what is written of it.
use Rattle.std.specs.Prelude.{codes}
use Rattle.std.proofs.Common.{◌≡◌, ◌∙◌, inl, inr, ℕ, ◌≤◌, Bool, true, false, bytes_eq, Option, None, Some, List, refl, sym, ap, arith}
use Rattle.std.proofs.lemmas.Bool.{cond-true, cond-false}
use Rattle.json_scan.specs.Parts.{items_in}
use Rattle.json_scan.specs.Tree.{Tree, NullAt, FalseAt, TrueAt, NumberAt, TextAt, ListAt, ObjectAt, Entries, NoEntries, NextEntry}
use Rattle.json_scan.specs.Tree.{Lookup, NowhereIn, OnceIn, TwiceIn, lookup}
use Rattle.topo_reader.proofs.Lookups.{IsAmong, once-among, once-first, once-later}
use Rattle.topo_reader.proofs.Sizes.{size, entry_sizes}
use Rattle.geo_text.specs.Shapes.{once, value_in}
use Rattle.geo_text.specs.Drafts.{Draft}
use Rattle.geo_text.specs.BuiltText.{collected, geometry_list}

-- ---- sizes

pub once-some : (l : Lookup) (t : Tree) → once l ≡ Some t → l ≡ OnceIn t
once-some NowhereIn t h = absurd cc
once-some (OnceIn u) t h = let same : u ≡ t = cc in ap (λ (v : Tree). OnceIn v) same
once-some (TwiceIn e) t h = absurd cc

among-size : (t : Tree) (members : Entries) → IsAmong t members → size t ≤ entry_sizes members
among-size t NoEntries is = absurd is
among-size t (NextEntry e word value others) (inl same) = omega (arith, ap size same)
among-size t (NextEntry e word value others) (inr further) = omega (arith, among-size t others further)

pub value-size : (name : List ℕ) (members : Entries) (t : Tree) → value_in name members ≡ Some t → size t ≤ entry_sizes members
value-size name members t h = among-size t members (once-among name members t (once-some (lookup name members) t h))

-- ---- what is written

pub list-none : (t : Tree) (d : Draft) → items_in t ≡ None → geometry_list t d ≡ d
list-none (ListAt e trees) d h = absurd cc
list-none (NullAt e) d h = refl
list-none (FalseAt e) d h = refl
list-none (TrueAt e) d h = refl
list-none (NumberAt e whole) d h = refl
list-none (TextAt e word) d h = refl
list-none (ObjectAt e members) d h = refl

collected-once : (members : Entries) (t : Tree) (d : Draft) → lookup (codes "geometries") members ≡ OnceIn t
    → collected members d ≡ geometry_list t d
collected-once NoEntries t d h = absurd cc
collected-once (NextEntry e word value others) t d h = at_case (collected-once others t d) (bytes_eq word (codes "geometries")) refl
  where
    at_case : (lookup (codes "geometries") others ≡ OnceIn t → collected others d ≡ geometry_list t d) → (b : Bool)
        → bytes_eq word (codes "geometries") ≡ b → collected (NextEntry e word value others) d ≡ geometry_list t d
    at_case further true same = cond-true (bytes_eq word (codes "geometries")) _ _ same
        ∙ ap (λ (u : Tree). geometry_list u d) (once-first (codes "geometries") e word value t others h same)
    at_case further false other = cond-false (bytes_eq word (codes "geometries")) _ _ other
        ∙ further (once-later (codes "geometries") e word value t others h other)

-- a collection writes what its member does
pub collected-is : (members : Entries) (t : Tree) (d : Draft) → value_in (codes "geometries") members ≡ Some t
    → collected members d ≡ geometry_list t d
collected-is members t d h = collected-once members t d (once-some (lookup (codes "geometries") members) t h)

-- Which values a tree holds, wherever it stands.
use Rattle.std.proofs.Common.{◌≡◌, ℕ, List, refl, ap, ◌∙◌}
use Rattle.json_scan.specs.Tree.{Extent, Tree, TextAt, ListAt, ObjectAt, Trees, Entries, NoEntries, NextEntry}
use Rattle.topo_writer.proofs.TreeShapes.{IsListTree}

abbrev pub IsTextTree : List ℕ → Tree → Type 0
IsTextTree word (TextAt e symbols) = symbols ≡ word
IsTextTree word _ = ⊥

abbrev pub IsObjectTree : (Entries → Type 0) → Tree → Type 0
IsObjectTree Q (ObjectAt e members) = Q members
IsObjectTree Q _ = ⊥

-- the first member has this name, its value and the members behind it are such
abbrev pub StartsWith : List ℕ → (Tree → Type 0) → (Entries → Type 0) → Entries → Type 0
StartsWith name P Q NoEntries = ⊥
StartsWith name P Q (NextEntry e word t others) = (word ≡ name) × P t × Q others

abbrev pub IsEnd : Entries → Type 0
IsEnd NoEntries = Unit {0}
IsEnd (NextEntry e word t others) = ⊥

-- ---- the parts of a tree

pub record TextParts (word : List ℕ) (t : Tree) : Type 0 where
  pub at : Extent
  pub parts : t ≡ TextAt at word

pub text-parts : (word : List ℕ) (t : Tree) → IsTextTree word t → TextParts word t
text-parts word (TextAt e symbols) is = record { at = e; parts = ap (TextAt e) is }
text-parts word t is = absurd is

pub record ListParts (Q : Trees → Type 0) (t : Tree) : Type 0 where
  pub at : Extent
  pub trees : Trees
  pub parts : t ≡ ListAt at trees
  pub are : Q trees

pub list-parts : (Q : Trees → Type 0) (t : Tree) → IsListTree Q t → ListParts Q t
list-parts Q (ListAt e trees) is = record { at = e; trees = trees; parts = refl; are = is }
list-parts Q t is = absurd is

record ObjectParts (Q : Entries → Type 0) (t : Tree) : Type 0 where
  at : Extent
  members : Entries
  parts : t ≡ ObjectAt at members
  are : Q members

object-parts : (Q : Entries → Type 0) (t : Tree) → IsObjectTree Q t → ObjectParts Q t
object-parts Q (ObjectAt e members) is = record { at = e; members = members; parts = refl; are = is }
object-parts Q t is = absurd is

record EntryParts (name : List ℕ) (P : Tree → Type 0) (Q : Entries → Type 0) (members : Entries) : Type 0 where
  at : Extent
  value : Tree
  others : Entries
  parts : members ≡ NextEntry at name value others
  is : P value
  are : Q others

entry-parts : (name : List ℕ) (P : Tree → Type 0) (Q : Entries → Type 0) (members : Entries) → StartsWith name P Q members
    → EntryParts name P Q members
entry-parts name P Q NoEntries is = absurd is
entry-parts name P Q (NextEntry e word t others) is = record {
  at = e;
  value = t;
  others = others;
  parts =
      ap (λ (w : List ℕ). NextEntry e w t others) is.0;
  is = is.1;
  are = is.2;
}

end-parts : (members : Entries) → IsEnd members → members ≡ NoEntries
end-parts NoEntries is = refl
end-parts (NextEntry e word t others) is = absurd is

two-put : (t : Tree) (members others rest : Entries) (e f g : Extent) (name other : List ℕ) (v w : Tree) → t ≡ ObjectAt e members
    → members ≡ NextEntry f name v others → others ≡ NextEntry g other w rest → rest ≡ NoEntries
    → t ≡ ObjectAt e (NextEntry f name v (NextEntry g other w NoEntries))
two-put t members others rest e f g name other v w p q r s = p ∙ ap (ObjectAt e) (q
    ∙ ap (NextEntry f name v) (r ∙ ap (NextEntry g other w) s))

three-put : (t : Tree) (members others more rest : Entries) (e f g h : Extent) (name other last : List ℕ) (v w z : Tree)
    → t ≡ ObjectAt e members → members ≡ NextEntry f name v others → others ≡ NextEntry g other w more
    → more ≡ NextEntry h last z rest → rest ≡ NoEntries
    → t ≡ ObjectAt e (NextEntry f name v (NextEntry g other w (NextEntry h last z NoEntries)))
three-put t members others more rest e f g h name other last v w z p q r s u = p
    ∙ ap (ObjectAt e) (q ∙ ap (NextEntry f name v) (two-behind others more rest g h other last w z r s u))
  where
    two-behind : (others more rest : Entries) (g h : Extent) (other last : List ℕ) (w z : Tree) → others ≡ NextEntry g other w more
        → more ≡ NextEntry h last z rest → rest ≡ NoEntries → others ≡ NextEntry g other w (NextEntry h last z NoEntries)
    two-behind others more rest g h other last w z r s u = r ∙ ap (NextEntry g other w) (s ∙ ap (NextEntry h last z) u)

-- an object of two members
pub record TwoParts (name : List ℕ) (P : Tree → Type 0) (other : List ℕ) (Q : Tree → Type 0) (t : Tree) : Type 0 where
  pub at : Extent
  pub first_at : Extent
  pub first : Tree
  pub second_at : Extent
  pub second : Tree
  pub parts : t ≡ ObjectAt at (NextEntry first_at name first (NextEntry second_at other second NoEntries))
  pub first_is : P first
  pub second_is : Q second

pub two-parts : (name : List ℕ) (P : Tree → Type 0) (other : List ℕ) (Q : Tree → Type 0) (t : Tree)
    → IsObjectTree (StartsWith name P (StartsWith other Q IsEnd)) t → TwoParts name P other Q t
two-parts name P other Q t is =
    let o = object-parts (StartsWith name P (StartsWith other Q IsEnd)) t is in
    let a = entry-parts name P (StartsWith other Q IsEnd) o.members o.are in
    let b = entry-parts other Q IsEnd a.others a.are in
    record {
      at = o.at;
      first_at = a.at;
      first = a.value;
      second_at = b.at;
      second = b.value;
      parts = two-put t o.members a.others b.others o.at a.at b.at name other a.value b.value o.parts a.parts b.parts
          (end-parts b.others b.are);
      first_is = a.is;
      second_is = b.is;
    }

-- an object of three members
pub record ThreeParts (name : List ℕ) (P : Tree → Type 0) (other : List ℕ) (Q : Tree → Type 0) (last : List ℕ) (R : Tree
    → Type 0) (t : Tree) : Type 0 where
  pub at : Extent
  pub first_at : Extent
  pub first : Tree
  pub second_at : Extent
  pub second : Tree
  pub third_at : Extent
  pub third : Tree
  pub parts : t ≡ ObjectAt at (NextEntry first_at name first (NextEntry second_at other second (NextEntry third_at last third NoEntries)))
  pub first_is : P first
  pub second_is : Q second
  pub third_is : R third

pub three-parts : (name : List ℕ) (P : Tree → Type 0) (other : List ℕ) (Q : Tree → Type 0) (last : List ℕ) (R : Tree → Type 0) (t : Tree)
    → IsObjectTree (StartsWith name P (StartsWith other Q (StartsWith last R IsEnd))) t → ThreeParts name P other Q last R t
three-parts name P other Q last R t is =
    let o = object-parts (StartsWith name P (StartsWith other Q (StartsWith last R IsEnd))) t is in
    let a = entry-parts name P (StartsWith other Q (StartsWith last R IsEnd)) o.members o.are in
    let b = entry-parts other Q (StartsWith last R IsEnd) a.others a.are in
    let c = entry-parts last R IsEnd b.others b.are in
    record {
      at = o.at;
      first_at = a.at;
      first = a.value;
      second_at = b.at;
      second = b.value;
      third_at = c.at;
      third = c.value;
      parts = three-put t o.members a.others b.others c.others o.at a.at b.at c.at name other last a.value b.value c.value o.parts a.parts
          b.parts c.parts (end-parts c.others c.are);
      first_is = a.is;
      second_is = b.is;
      third_is = c.is;
    }

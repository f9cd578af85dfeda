-- The value that a member has.
use Rattle.std.proofs.Common.{◌≡◌, ◌⊎◌, inl, inr, ℕ, Bool, true, false, bytes_eq, List, Ok, refl, sym, ap, ◌∙◌}
use Rattle.std.proofs.lemmas.Bool.{cond-true, cond-false}
use Rattle.json_scan.specs.Tree.{Extent, Tree, Entries, NoEntries, NextEntry, Lookup, NowhereIn, OnceIn, TwiceIn, named, at_first}
use Rattle.json_scan.specs.Tree.{at_second, lookup}
use Rattle.topo_reader.specs.Sequence.{at_found, required}
use Rattle.topo_reader.proofs.ArcLaws.{not-ok, same-ok}

-- a value is that of one of the members
abbrev pub IsAmong : Tree → Entries → Type 0
IsAmong t NoEntries = ⊥
IsAmong t (NextEntry e word value others) = (value ≡ t) ⊎ IsAmong t others

second-once : (found t : Tree) (others : Entries) → at_second found others ≡ OnceIn t → found ≡ t
second-once found t NoEntries h = cc
second-once found t (NextEntry e word value others) h = absurd cc

-- the first member of a name, where the name stands once
pub once-first : (name : List ℕ) (e : Extent) (word : List ℕ) (value t : Tree) (others : Entries)
    → lookup name (NextEntry e word value others) ≡ OnceIn t → bytes_eq word name ≡ true → value ≡ t
once-first name e word value t others h same =
    let here : named name (NextEntry e word value others) ≡ NextEntry e word value others = cond-true (bytes_eq word name) _ _ same in
    second-once value t (named name others) (sym (ap (at_first name) here) ∙ h)

pub once-later : (name : List ℕ) (e : Extent) (word : List ℕ) (value t : Tree) (others : Entries)
    → lookup name (NextEntry e word value others) ≡ OnceIn t → bytes_eq word name ≡ false → lookup name others ≡ OnceIn t
once-later name e word value t others h other =
    let past : named name (NextEntry e word value others) ≡ named name others = cond-false (bytes_eq word name) _ _ other in
    sym (ap (at_first name) past) ∙ h

pub once-among : (name : List ℕ) (members : Entries) (t : Tree) → lookup name members ≡ OnceIn t → IsAmong t members
once-among name NoEntries t h = absurd cc
once-among name (NextEntry e word value others) t h = at_case (once-among name others t) (bytes_eq word name) refl
  where
    at_case : (lookup name others ≡ OnceIn t → IsAmong t others) → (b : Bool) → bytes_eq word name ≡ b
        → IsAmong t (NextEntry e word value others)
    at_case further true same = inl (once-first name e word value t others h same)
    at_case further false other = inr (further (once-later name e word value t others h other))

found-once : (holder t : Tree) (l : Lookup) → Ok t ≡ at_found holder l → l ≡ OnceIn t
found-once holder t NowhereIn h = not-ok _ t (sym h)
found-once holder t (OnceIn u) h = ap (λ (v : Tree). OnceIn v) (sym (same-ok t u h))
found-once holder t (TwiceIn e) h = not-ok _ t (sym h)

pub required-once : (name : List ℕ) (holder : Tree) (members : Entries) (t : Tree) → Ok t ≡ required name holder members
    → lookup name members ≡ OnceIn t
required-once name holder members t h = found-once holder t (lookup name members) h

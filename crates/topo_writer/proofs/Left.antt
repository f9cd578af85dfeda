-- What is left of the texts of lists after the first of them.
use Rattle.std.proofs.Common.{◌≡◌, ℕ, zero, suc, Some, ◌+◌, ◌<◌, ◌≤◌, Bool, List, [], ◌∷◌, ◌++◌, length, get_or, drop, map}
use Rattle.std.proofs.Common.{sum_by, refl, arith, add-one, drop-cons, append_assoc}
use Rattle.std.specs.Prelude.{codes, slice_get}
use Rattle.std.proofs.lemmas.List.Sums.{sum_by-cons}
use Rattle.arc_map.specs.Map.{IsArc}
use Rattle.grid_exact.specs.Geometry.{Place}
use Rattle.topo_writer.specs.Texts.{behind_commas, position_text}
use Rattle.topo_writer.specs.ArcsText.{arc_text, coded_positions}

-- the texts of the positions that follow p, each behind a comma
abbrev pub later_text : Bool → Place → List Place → List ℕ
later_text coded p qs = behind_commas (map position_text (coded_positions coded p qs))

-- the texts of the arcs, each behind a comma
abbrev pub arcs_left : Bool → List (List Place) → List ℕ
arcs_left coded arcs = behind_commas (map (arc_text coded) arcs)

arcs-at_suc : (coded : Bool) (arcs : List (List Place)) (i : ℕ) (arc : List Place) → slice_get arcs i ≡ Some arc
    → arcs_left coded (drop i arcs) ≡ codes "," ++ arc_text coded arc ++ arcs_left coded (drop (suc i) arcs)
arcs-at_suc coded [] i arc e = cc
arcs-at_suc coded (a ∷ arcs) zero arc e = let same : a ≡ arc = cc in rw same refl
arcs-at_suc coded (a ∷ arcs) (suc i) arc e = arcs-at_suc coded arcs i arc e

lengths-at_suc : (arcs : List (List Place)) (i : ℕ) (arc : List Place) → slice_get arcs i ≡ Some arc
    → sum_by length (drop i arcs) ≡ length arc + sum_by length (drop (suc i) arcs)
lengths-at_suc [] i arc e = cc
lengths-at_suc (a ∷ arcs) zero arc e = let same : a ≡ arc = cc in rw same (sum_by-cons length arc arcs)
lengths-at_suc (a ∷ arcs) (suc i) arc e = lengths-at_suc arcs i arc e

pub arcs-at : (coded : Bool) (arcs : List (List Place)) (i : ℕ) (arc : List Place) → slice_get arcs i ≡ Some arc
    → arcs_left coded (drop i arcs) ≡ codes "," ++ arc_text coded arc ++ arcs_left coded (drop (i + 1) arcs)
arcs-at coded arcs i arc e = rw add-one (arcs-at_suc coded arcs i arc e)

pub lengths-at : (arcs : List (List Place)) (i : ℕ) (arc : List Place) → slice_get arcs i ≡ Some arc
    → sum_by length (drop i arcs) ≡ length arc + sum_by length (drop (i + 1) arcs)
lengths-at arcs i arc e = rw add-one (lengths-at_suc arcs i arc e)

-- an arc is its first position and those that are written after it
pub arc-parts : (coded : Bool) (arc rest : List Place) (first : Place) → IsArc arc → first ≡ get_or arc 0 first
    → (length arc ≡ 1 → rest ≡ arc) → (1 < length arc → rest ≡ drop 1 arc)
    → arc_text coded arc ≡ codes "[" ++ position_text first ++ behind_commas (map position_text (coded_positions coded first rest))
    ++ codes "]"
arc-parts coded [] rest first h e one more = absurd h
arc-parts coded (p ∷ []) rest first h e one more = rw (e, one refl) refl
arc-parts coded (p ∷ q ∷ qs) rest first h e one more = rw (e, more (omega arith)) refl

-- the text so far and what is left make up the whole, also after the next part behind a comma
pub goes-on : (before comma after part left more whole : List ℕ) → comma ≡ before ++ codes "," → after ≡ comma ++ part
    → left ≡ codes "," ++ part ++ more → before ++ left ≡ whole → after ++ more ≡ whole
goes-on before comma after part left more whole p q r s =
    let split = rw r at s in
    rw (q, p) (simp append_assoc (simp append_assoc at split))

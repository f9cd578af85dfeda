-- The namings of an arc.
use Rattle.std.proofs.Common.{◌≡◌, ◌∙◌, ℕ, ◌+◌, ◌-◌, ◌<◌, ◌≤◌, ◌==◌, Bool, false, List, All, length, get_or, take}
use Rattle.std.proofs.Common.{drop, sym, ap, subst, arith, inl, inr}
use Rattle.std.specs.Prelude.{◌&&◌}
use Rattle.std.specs.List.Sorted.{IsNonDecreasingBy}
use Rattle.std.proofs.lemmas.Bool.{and_left, cases_lt, eq-eqb, ne_eqb}
use Rattle.std.proofs.lemmas.List.{get_or-drop, get_or-take, get_or_default, length-drop, length-take-le, take-append-drop}
use Rattle.std.proofs.lemmas.List.Elements.{All-weaker}
use Rattle.grid_exact.specs.Walks.{differ}
use Rattle.face_parity.specs.Parities.{pass_oddly}
use Rattle.face_parity.specs.Naming.{IsStartOf}
use Rattle.face_parity.specs.declared.namings.Naming.{Naming}
use Rattle.grid_exact.proofs.Crossings.{differ_false}
use Rattle.face_parity.proofs.Sums.{pass-agree, pass-append, pass-none}

abbrev pub some_naming : Naming
some_naming = record { arc = 0; polygon = 0; floor = 0 }

-- ---- where an arc begins

-- the first naming that is not of an earlier arc is the start
pub start-here : (ns : List Naming) (arc at : ℕ) (e : Naming) → IsNonDecreasingBy (λ n. n.arc) ns → at < length ns
    → arc ≤ (get_or ns at e).arc → ((k : ℕ) (d : Naming) → k < at → (get_or ns k d).arc < arc) → IsStartOf ns arc at
start-here ns arc at e sorted within high below = record {
  within = omega arith;
  before = below;
  after = λ k d from_at in_list.
      let same : (get_or ns at e).arc ≡ (get_or ns at d).arc = ap (λ (n : Naming). n.arc) (get_or_default ns at e d within) in
      let rises = sorted at k d from_at in_list in
      omega (arith, high, same, rises);
}

pub starts-rise : (ns : List Naming) (arc next start end : ℕ) → arc ≤ next → IsStartOf ns arc start → IsStartOf ns next end → start ≤ end
starts-rise ns arc next start end later first second = elim (cases_lt end start) [
  | inl back ↦
      let low = first.before end some_naming back in
      let high = second.after end some_naming (omega arith) (omega (arith, first.within)) in
      absurd (omega (arith, low, high))
  | inr rises ↦ rises
]

front-all : (P : Naming → Type 0) (ns : List Naming) (n : ℕ) → n ≤ length ns → ((k : ℕ) (d : Naming) → k < n → P (get_or ns k d))
    → All P (take n ns)
front-all P ns n within all k d below =
    let long = length-take-le n ns within in
    let inside : k < n = omega (arith, long, below) in
    subst P (sym (get_or-take n ns k d inside)) (all k d inside)

back-all : (P : Naming → Type 0) (ns : List Naming) (n : ℕ) → n ≤ length ns
    → ((k : ℕ) (d : Naming) → n ≤ k → k < length ns → P (get_or ns k d)) → All P (drop n ns)
back-all P ns n within all k d below =
    let long = length-drop n ns in
    subst P (sym (get_or-drop n ns k d)) (all (n + k) d (omega arith) (omega (arith, long, below, within)))

differ-false-left : (b c : Bool) → b ≡ false → differ b c ≡ c
differ-false-left b c is = ap (λ x. differ x c) is

differ-false-right : (b c : Bool) → c ≡ false → differ b c ≡ b
differ-false-right b c is = ap (differ b) is ∙ differ_false b

module _ (ns : List Naming) (arc start end : ℕ) (first : IsStartOf ns arc start) (second : IsStartOf ns (arc + 1) end) where
  abbrev rest : List Naming
  rest = drop start ns

  abbrev mine : List Naming
  mine = take (end - start) rest

  inside : end - start ≤ length rest
  inside = let long = length-drop start ns in omega (arith, long, second.within)

  at-rest : (k : ℕ) (d : Naming) → get_or rest k d ≡ get_or ns (start + k) d
  at-rest k d = get_or-drop start ns k d

  arc-at-rest : (k : ℕ) (d : Naming) → (get_or rest k d).arc ≡ (get_or ns (start + k) d).arc
  arc-at-rest k d = ap (λ (n : Naming). n.arc) (at-rest k d)

  mine-of-arc : All (λ n. n.arc ≡ arc) mine
  mine-of-arc = front-all (λ n. n.arc ≡ arc) rest (end - start) inside (λ k d below.
      let long = length-drop start ns in
      let same = arc-at-rest k d in
      let low = first.after (start + k) d (omega arith) (omega (arith, long, below, inside, second.within)) in
      let high = second.before (start + k) d (omega (arith, below)) in
      omega (arith, same, low, high))

  later-of-others : All (λ n. n.arc ≡ arc → ⊥) (drop (end - start) rest)
  later-of-others = back-all (λ n. n.arc ≡ arc → ⊥) rest (end - start) inside (λ k d low below is.
      let long = length-drop start ns in
      let same = arc-at-rest k d in
      let high = second.after (start + k) d (omega (arith, low)) (omega (arith, long, below, first.within)) in
      omega (arith, same, high, is))

  earlier-of-others : All (λ n. n.arc ≡ arc → ⊥) (take start ns)
  earlier-of-others = front-all (λ n. n.arc ≡ arc → ⊥) ns start first.within (λ k d below is. let low = first.before k d below in
      omega (arith, low, is))

  -- the namings of the arc are those between its start and that of the next one
  pub part-odd : (test : Naming → Bool) → pass_oddly test mine ≡ pass_oddly (λ n. (n.arc == arc) && test n) ns
  part-odd test =
      let own = λ (n : Naming). (n.arc == arc) && test n in
      let others = λ (n : Naming). λ (apart : n.arc ≡ arc → ⊥). and_left (n.arc == arc) (test n) (ne_eqb n.arc arc apart) in
      let back = pass-none own (drop (end - start) rest) (All-weaker (λ n. n.arc ≡ arc
      → ⊥) (λ n. own n ≡ false) others (drop (end - start) rest) later-of-others) in
      let front = pass-none own (take start ns) (All-weaker (λ n. n.arc ≡ arc
      → ⊥) (λ n. own n ≡ false) others (take start ns) earlier-of-others) in
      let here = pass-agree test own mine (All-weaker (λ n. n.arc ≡ arc) (λ n. test n ≡ own n) (λ n same.
      ap (λ b. b && test n) (sym (eq-eqb n.arc arc same))) mine mine-of-arc) in
      here
      ∙ sym (differ-false-right (pass_oddly own mine) (pass_oddly own (drop (end - start) rest)) back)
      ∙ sym (pass-append own mine (drop (end - start) rest))
      ∙ ap (pass_oddly own) (take-append-drop (end - start) rest)
      ∙ sym (differ-false-left (pass_oddly own (take start ns)) (pass_oddly own rest) front)
      ∙ sym (pass-append own (take start ns) rest)
      ∙ ap (pass_oddly own) (take-append-drop start ns)

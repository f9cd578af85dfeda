-- The bytes between two places of a text, also where the places are not in order or not in the text.
use Rattle.std.proofs.Common.{◌≡◌, ◌∙◌, inl, inr, ℕ, ◌+◌, ◌-◌, ◌<◌, ◌≤◌, min, List, [], length, take, drop, refl, sym, ap, arith}
use Rattle.std.proofs.Common.{eq-zero-or-pos}
use Rattle.std.proofs.lemmas.List.{drop-take, drop_all, take_all, length-take}

-- past its end a list is taken whole
same-end : (text : List ℕ) (end b : ℕ) → b ≡ min end (length text) → take b text ≡ take end text
same-end text end b is =
    elim (eq-zero-or-pos (end - length text)) [
      | inl none ↦ let same : b ≡ end = omega (arith, is, none) in ap (λ (n : ℕ). take n text) same
      | inr some ↦
          let all : length text ≤ b = omega (arith, is, some) in
          let past : length text ≤ end = omega (arith, some) in
          take_all b text all ∙ sym (take_all end text past)
    ]

-- past its end nothing is left
same-start : (part : List ℕ) (start a : ℕ) → (length part ≤ start → length part ≤ a) → (start < length part → a ≡ start)
    → drop a part ≡ drop start part
same-start part start a past before =
    elim (eq-zero-or-pos (length part - start)) [
      | inl none ↦
          let beyond : length part ≤ start = omega (arith, none) in
          drop_all a part (past beyond) ∙ sym (drop_all start part beyond)
      | inr some ↦ ap (λ (n : ℕ). drop n part) (before (omega (arith, some)))
    ]

pub bytes-between : (text : List ℕ) (start end a b : ℕ) → b ≡ min end (length text) → a ≡ min start b
    → take (b - a) (drop a text) ≡ drop start (take end text)
bytes-between text start end a b upto from =
    let total : a + (b - a) ≡ b = omega (arith, from) in
    let long : length (take b text) ≡ b = omega (arith, length-take b text, upto) in
    sym (drop-take a (b - a) text)
    ∙ ap (λ (n : ℕ). drop a (take n text)) total
    ∙ same-start (take b text) start a (λ past. omega (arith, past, from, long)) (λ before. omega (arith, before, from, long))
    ∙ ap (drop start) (same-end text end b upto)

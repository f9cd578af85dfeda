-- What is left of the text of a list after its first values.
use Rattle.std.proofs.Common.{◌≡◌, ℕ, zero, suc, ◌+◌, ◌-◌, ◌<◌, ◌≤◌, List, [], ◌∷◌, ◌++◌, map, refl, arith, append_assoc, append-nil}
use Rattle.std.specs.Prelude.{codes}
use Rattle.std.specs.List.{range_with_len}
use Rattle.topo_writer.specs.Texts.{behind_commas, list_text}
use Rattle.topo_writer.specs.Texts.{position_text}
use Rattle.map_gen.specs.Make.{list_of, position, wavy_text}

-- the texts f k to f (n - 1), each behind a comma
abbrev pub left : (ℕ → List ℕ) → ℕ → ℕ → List ℕ
left f k n = behind_commas (map f (range_with_len k (n - k)))

left-suc : (f : ℕ → List ℕ) (k m : ℕ) → behind_commas (map f (range_with_len k (suc m))) ≡ codes "," ++ f k
    ++ behind_commas (map f (range_with_len (k + 1) m))
left-suc f k m = refl

pub left-at : (f : ℕ → List ℕ) (k n : ℕ) → k < n → left f k n ≡ codes "," ++ f k ++ left f (k + 1) n
left-at f k n h =
    let more : n - k ≡ suc (n - (k + 1)) = omega arith in
    rw more (left-suc f k (n - (k + 1)))

pub left-none : (f : ℕ → List ℕ) (k n : ℕ) → n ≤ k → left f k n ≡ []
left-none f k n h = let none : n - k ≡ 0 = omega arith in rw none refl

pub list-begins : (f : ℕ → List ℕ) (n : ℕ) → 0 < n → list_of f n ≡ codes "[" ++ f 0 ++ left f 1 n ++ codes "]"
list-begins f zero h = absurd (omega arith)
list-begins f (suc m) h = let same : suc m - 1 ≡ m = omega arith in rw same refl

pub list-done : (f : ℕ → List ℕ) (k n : ℕ) (before written closed : List ℕ) → 0 < n → n ≤ k
    → written ++ left f k n ≡ before ++ codes "[" ++ f 0 ++ left f 1 n → closed ≡ written ++ codes "]" → closed ≡ before ++ list_of f n
list-done f k n before written closed some past whole close =
    let end : written ≡ before ++ codes "[" ++ f 0 ++ left f 1 n = simp append-nil at (rw (left-none f k n past) at whole) in
    rw (list-begins f n some, close, end) (simp append_assoc refl)

abbrev pub position_text_at : ℕ → ℕ → ℕ → ℕ → ℕ → List ℕ
position_text_at rows cols seed arc k = position_text (position rows cols seed arc k)

-- an arc is the list of its positions
pub wavy-list : (rows cols seed arc : ℕ) → wavy_text rows cols seed arc ≡ list_of (position_text_at rows cols seed arc) 9
unfolding wavy_text
wavy-list rows cols seed arc = refl

pub four-joined : (out a b c d : List ℕ) → ((((((((out ++ codes "[") ++ a) ++ codes ",") ++ b) ++ codes ",") ++ c) ++ codes ",") ++ d)
    ++ codes "]" ≡ out ++ list_text (a ∷ b ∷ c ∷ d ∷ [])
four-joined out a b c d =
    rw (
      append_assoc a (44 ∷ (b ++ 44 ∷ (c ++ 44 ∷ (d ++ [])))) (93 ∷ []),
      append_assoc b (44 ∷ (c ++ 44 ∷ (d ++ []))) (93 ∷ []),
      append_assoc c (44 ∷ (d ++ [])) (93 ∷ []),
      append_assoc d [] (93 ∷ []),
    ) (simp append_assoc refl)

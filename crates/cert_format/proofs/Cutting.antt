-- The first place of a byte in a text.
use Rattle.std.proofs.Common.{◌≡◌, ◌≢◌, ◌<◌, ◌≤◌, ◌==◌, ℕ, zero, suc, true, not, List, [], ◌∷◌, ◌++◌, length, take, drop, slice_index}
use Rattle.std.proofs.Common.{slice_get, take_all, Some, ◌-◌, refl, sym, ap, ◌∙◌, arith}
use Rattle.std.proofs.lemmas.Bool.{and_parts, eq-eqb, ne_eqb, cond-true, cond-false, true≢false}
use Rattle.json.proofs.Found.{Some_inj}
use Rattle.cert_format.specs.Parts.{lacks, behind_comma}

-- the byte does not stand among those that lack it
other_at : (byte : ℕ) (front rest : List ℕ) → lacks byte front ≡ true → (k : ℕ) → k < length front → slice_index (front ++ rest) k ≢ byte
other_at byte [] rest none k within = absurd (omega arith)
other_at byte (b ∷ front) rest none zero within = λ same. true≢false (sym (and_parts _ _ none).0 ∙ ap not (eq-eqb b byte same))
other_at byte (b ∷ front) rest none (suc k) within = other_at byte front rest (and_parts _ _ none).1 k (omega arith)

there : (byte : ℕ) (front rest : List ℕ) → slice_index (front ++ byte ∷ rest) (length front) ≡ byte
there byte [] rest = refl
there byte (b ∷ front) rest = there byte front rest

-- where it stands, and nowhere before, is its first place
pub first_place : (byte : ℕ) (text front rest : List ℕ) (k : ℕ) → lacks byte front ≡ true → text ≡ front ++ byte ∷ rest
    → ((j : ℕ) → j < k → slice_index text j ≢ byte) → slice_index text k ≡ byte → k ≡ length front
first_place byte text front rest k none is before at =
    let low : ¬ (k < length front) = λ less. other_at byte front (byte ∷ rest) none k less (ap (λ t. slice_index t k) (sym is) ∙ at) in
    let high : ¬ (length front < k) = λ less. before (length front) less (ap (λ t. slice_index t (length front)) is ∙ there byte front rest)
    in
    omega arith

pub within_text : (byte : ℕ) (text front rest : List ℕ) (k : ℕ) → text ≡ front ++ byte ∷ rest
    → ((j : ℕ) → j < k → slice_index text j ≢ byte) → length text ≤ k → ⊥
within_text byte text front rest k is before past =
    let long : length front < length text = omega (arith, ap length is, longer front) in
    before (length front) (omega arith) (ap (λ t. slice_index t (length front)) is ∙ there byte front rest)
  where
    longer : (xs : List ℕ) → length xs < length (xs ++ byte ∷ rest)
    longer [] = omega arith
    longer (x ∷ xs) = let h = longer xs in omega arith

-- ---- a comma at the front

pub comma_passed : (text : List ℕ) → slice_get text 0 ≡ Some 44 → take (length text - 1) (drop 1 text) ≡ behind_comma text
comma_passed [] there = absurd (cc)
comma_passed (b ∷ bs) there =
    let is : b ≡ 44 = Some_inj b 44 there in
    let n : length (b ∷ bs) - 1 ≡ length bs = omega arith in
    ap (λ k. take k bs) n ∙ take_all (length bs) bs (omega arith) ∙ sym (cond-true (b == 44) bs (b ∷ bs) (eq-eqb b 44 is))

pub no_comma : (text : List ℕ) → ¬ (slice_get text 0 ≡ Some 44) → text ≡ behind_comma text
no_comma [] other = refl
no_comma (b ∷ bs) other = sym (cond-false (b == 44) bs (b ∷ bs) (ne_eqb b 44 (λ is. other (ap Some is))))

-- What a sweep passes: past the end of a band, or past the east of a thing, nothing meets it any more.
use Rattle.std.proofs.Common.{◌≡◌, ◌∙◌, ◌+◌, ◌<◌, ◌≤◌, ◌⊎◌, inl, inr, ℕ, suc, List, [], ◌∷◌, ◌++◌, true, length, get_or, refl, ap, sym}
use Rattle.std.proofs.Common.{arith}
use Rattle.std.specs.Prelude.{◌&&◌, ◌==◌, not, nat_le, nat_lt, max}
use Rattle.std.specs.Prelude.{◌/◌}
use Rattle.std.specs.List.Sorted.{IsNonDecreasingBy}
use Rattle.std.proofs.lemmas.Bool.{and_parts, or_cases, not-true, eqb-true, eqb-false, leb-true, ltb-true, cases_lt}
use Rattle.sweep_index.specs.Things.{key_of}
use Rattle.sweep_index.specs.Meetings.{do_meet, is_behind, is_met, meetings_from, meetings_of, with_head}
use Rattle.sweep_index.specs.declared.things.Banded.{Banded}
use Rattle.sweep_index.proofs.Skipping.{filter-drop_to, filter-drop_none}

met_band : (height : ℕ) (e f : Banded) → is_met height (e, f) ≡ true → f.band ≡ e.band
met_band height e f met = eqb-true f.band e.band (and_parts (f.band == e.band) (do_meet e.extent f.extent
    && (max e.extent.south f.extent.south / height == e.band)) met).0

met_west : (height : ℕ) (e f : Banded) → is_met height (e, f) ≡ true → f.extent.west ≤ e.extent.east
met_west height e f met =
    let boxes = (and_parts (f.band == e.band) (do_meet e.extent f.extent && (max e.extent.south f.extent.south / height == e.band)) met).1
    in
    let meets = (and_parts (do_meet e.extent f.extent) (max e.extent.south f.extent.south / height == e.band) boxes).0 in
    let across = (and_parts (nat_le e.extent.west f.extent.east && nat_le f.extent.west e.extent.east) (nat_le e.extent.south f.extent.north
    && nat_le f.extent.south e.extent.north) meets).0 in
    leb-true f.extent.west e.extent.east (and_parts (nat_le e.extent.west f.extent.east) (nat_le f.extent.west e.extent.east) across).1

-- f is behind e, and g is not before f: then e does not meet g
never_by : (height : ℕ) (e f g : Banded) → key_of e ≤ key_of f → key_of f ≤ key_of g
    → (not (f.band == e.band) ≡ true) ⊎ (nat_lt e.extent.east f.extent.west ≡ true) → is_met height (e, g) ≡ true → ⊥
never_by height e f g first second (inl apart) met =
    let other = eqb-false f.band e.band (not-true (f.band == e.band) apart) in
    let band = met_band height e g met in
    other (omega (arith, first, second, band, e.extent.small, f.extent.small, g.extent.small))
never_by height e f g first second (inr past) met =
    let band = met_band height e g met in
    let west = met_west height e g met in
    let east = ltb-true e.extent.east f.extent.west past in
    omega (arith, first, second, band, west, east, e.extent.small, f.extent.small, g.extent.small)

never : (height : ℕ) (e f g : Banded) → key_of e ≤ key_of f → key_of f ≤ key_of g → is_behind e f ≡ true → is_met height (e, g) ≡ true → ⊥
never height e f g first second behind met = never_by height e f g first second
    (or_cases (not (f.band == e.band)) (nat_lt e.extent.east f.extent.west) behind) met

stop_by : (height : ℕ) (head : Banded) (others : List Banded) (start k : ℕ) (x : Banded) → IsNonDecreasingBy key_of (head ∷ others)
    → is_behind head (get_or others k x) ≡ true → ((j : ℕ) → start ≤ j → j < k
    → ((d : Banded) → is_met height (head, get_or others j d) ≡ true) → ⊥) → (j : ℕ) → start ≤ j → j < length others
    → ((d : Banded) → is_met height (head, get_or others j d) ≡ true) → ((j < k) ⊎ (k ≤ j)) → ⊥
stop_by height head others start k x sorted behind before j from_start within met (inl earlier) = before j from_start earlier met
stop_by height head others start k x sorted behind before j from_start within met (inr later) =
    never height head (get_or others k x) (get_or others j x) (sorted 0 (suc k) x (omega arith) (omega (arith, later, within)))
    (sorted (suc k) (suc j) x (omega (arith, later)) (omega (arith, within))) behind (met x)

pub stop : (height : ℕ) (head : Banded) (others : List Banded) (start k : ℕ) (x : Banded) → IsNonDecreasingBy key_of (head ∷ others)
    → is_behind head (get_or others k x) ≡ true → ((j : ℕ) → start ≤ j → j < k
    → ((d : Banded) → is_met height (head, get_or others j d) ≡ true) → ⊥) → (j : ℕ) → start ≤ j → j < length others
    → ((d : Banded) → is_met height (head, get_or others j d) ≡ true) → ⊥
stop height head others start k x sorted behind before j from_start within met =
    stop_by height head others start k x sorted behind before j from_start within met (cases_lt j k)

pub sorted_rest : (head : Banded) (others : List Banded) → IsNonDecreasingBy key_of (head ∷ others) → IsNonDecreasingBy key_of others
sorted_rest head others sorted i j d le within = sorted (suc i) (suc j) d (omega (arith, le)) (omega (arith, within))

-- a walk from the start gives all meetings
pub meetings_from-start : (height : ℕ) (es : List Banded) → meetings_from height es 0 ≡ meetings_of height es
meetings_from-start height [] = refl
meetings_from-start height (e ∷ es) = refl

-- the next meeting of the head
pub meetings_from-met : (height : ℕ) (head : Banded) (others : List Banded) (passed k : ℕ) (x : Banded) → passed ≤ k → k < length others
    → x ≡ get_or others k x → is_met height (head, x) ≡ true → ((j : ℕ) → passed ≤ j → j < k
    → ((d : Banded) → is_met height (head, get_or others j d) ≡ true) → ⊥)
    → meetings_from height (head ∷ others) passed ≡ (head, x) ∷ meetings_from height (head ∷ others) (k + 1)
meetings_from-met height head others passed k x le within is met none =
    ap (λ ms. ms ++ meetings_of height others) (filter-drop_to (is_met height) (with_head head) others passed k x le within is met
    (λ j l m n yes. none j l m yes))

-- no more meeting of the head
pub meetings_from-none : (height : ℕ) (head : Banded) (others : List Banded) (passed : ℕ)
    → ((j : ℕ) → passed ≤ j → j < length others → ((d : Banded) → is_met height (head, get_or others j d) ≡ true) → ⊥)
    → meetings_from height (head ∷ others) passed ≡ meetings_from height others 0
meetings_from-none height head others passed none =
    ap (λ ms. ms ++ meetings_of height others) (filter-drop_none (is_met height) (with_head head) others passed (λ j l m n yes.
    none j l m yes)) ∙ sym (meetings_from-start height others)

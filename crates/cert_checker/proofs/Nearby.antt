-- Nearness by the weighted places.
use Rattle.std.proofs.Common.{◌≡◌, ◌∙◌, ◌↔◌, ℕ, ℤ, ◌+◌, ◌-◌, ◌<◌, ◌≤◌, Bool, IsTrue, List, length, get_or, drop, map, sym, ap, subst, arith}
use Rattle.std.proofs.Common.{inl, inr}
use Rattle.std.specs.List.{between}
use Rattle.std.proofs.lemmas.Bool.{cases_eq}
use Rattle.std.specs.Prelude.{All}
use Rattle.std.proofs.lemmas.List.{get_or_default, get_or-drop, get_or-map, get_or-take, length-drop, length-map, length-take-le}
use Rattle.std.proofs.lemmas.List.Elements.{All-map}
use Rattle.grid_exact.specs.Geometry.{Place, IsWithin}
use Rattle.grid_exact.specs.Near.{IsNear, weighted}
use Rattle.grid_exact.proofs.Weighted.{near_is_within}
use Rattle.arc_map.specs.Arranged.{nowhere}
use Rattle.cert_checker.specs.Runs.{IsRunWithin, place_at}
use Rattle.cert_checker.proofs.Parts.{between-map}

pub near_iff : (wx wy e : ℤ) (first last end from to : Place) → from ≡ weighted wx wy first → to ≡ weighted wx wy last → last ≡ end
    → (p : Place) → IsNear wx wy first end p e ↔ IsWithin from to (weighted wx wy p) e
near_iff wx wy e first last end from to start finish same p =
    subst (λ a. IsNear wx wy first end p e ↔ IsWithin a to (weighted wx wy p) e) (sym start)
    (subst (λ b. IsNear wx wy first end p e ↔ IsWithin (weighted wx wy first) b (weighted wx wy p) e)
    (sym (finish ∙ ap (weighted wx wy) same))
    (near_is_within wx wy first end p e))

-- ---- runs by numbers

between_at : (ps : List Place) (i j n : ℕ) (d : Place) → n < j - (i + 1) → get_or (between (i + 1) j ps) n d ≡ get_or ps (i + 1 + n) d
between_at ps i j n d below = get_or-take (j - (i + 1)) (drop (i + 1) ps) n d below ∙ get_or-drop (i + 1) ps n d

between_count : (ps : List Place) (i j : ℕ) → j ≤ length ps → length (between (i + 1) j ps) ≡ j - (i + 1)
between_count ps i j within = length-take-le (j - (i + 1)) (drop (i + 1) ps) (omega (arith, length-drop (i + 1) ps))

-- a place of a run that is near
pub run_near : (bound : ℤ) (ps : List Place) (i j n : ℕ) → i < n → n < j → j ≤ length ps → IsRunWithin bound ps i j
    → IsWithin (place_at ps i) (place_at ps j) (place_at ps n) bound
run_near bound ps i j n after before within all =
    let size = between_count ps i j within in
    let inside : n - (i + 1) < j - (i + 1) = omega arith in
    let place : i + 1 + (n - (i + 1)) ≡ n = omega arith in
    subst (λ q. IsWithin (place_at ps i) (place_at ps j) q bound) (between_at ps i j (n - (i + 1)) nowhere inside
    ∙ ap (λ m. get_or ps m nowhere) place) (all (n - (i + 1)) nowhere (omega (arith, size, inside)))

-- a place of the run that is too far away
pub run_fails : (bound : ℤ) (ps : List Place) (i j n : ℕ) → i < n → n < j → j ≤ length ps
    → (IsWithin (place_at ps i) (place_at ps j) (place_at ps n) bound → ⊥) → IsRunWithin bound ps i j → ⊥
run_fails bound ps i j n after before within far all = far (run_near bound ps i j n after before within all)

-- each place of the run is near enough
pub run_holds : (bound : ℤ) (ps : List Place) (i j : ℕ) → j ≤ length ps
    → ((n : ℕ) → i < n → n < j → IsWithin (place_at ps i) (place_at ps j) (place_at ps n) bound) → IsRunWithin bound ps i j
run_holds bound ps i j within near n d below =
    let size = between_count ps i j within in
    let inside : n < j - (i + 1) = omega (arith, size, below) in
    let known : i + 1 + n < length ps = omega (arith, inside, within) in
    subst (λ q. IsWithin (place_at ps i) (place_at ps j) q bound) (get_or_default ps (i + 1 + n) nowhere d known
    ∙ sym (between_at ps i j n d inside)) (near (i + 1 + n) (omega arith) (omega (arith, inside)))

-- a test of three places that were read
pub tested_at : (bound : ℤ) (ps : List Place) (i j n : ℕ) (a b p : Place) (r : Bool) → i < length ps → j < length ps → n < length ps
    → a ≡ get_or ps i a → b ≡ get_or ps j b → p ≡ get_or ps n p → (IsTrue r ↔ IsWithin a b p bound) → IsTrue r
    ↔ IsWithin (place_at ps i) (place_at ps j) (place_at ps n) bound
tested_at bound ps i j n a b p r in_i in_j in_n read_a read_b read_p says =
    let e : a ≡ place_at ps i = read_a ∙ get_or_default ps i a nowhere in_i in
    let f : b ≡ place_at ps j = read_b ∙ get_or_default ps j b nowhere in_j in
    let g : p ≡ place_at ps n = read_p ∙ get_or_default ps n p nowhere in_n in
    subst (λ x. IsTrue r ↔ IsWithin x (place_at ps j) (place_at ps n) bound) e
    (subst (λ y. IsTrue r ↔ IsWithin a y (place_at ps n) bound) f (subst (λ z. IsTrue r ↔ IsWithin a b z bound) g says))

pub near_more : (bound : ℤ) (ps : List Place) (i j at : ℕ) → IsWithin (place_at ps i) (place_at ps j) (place_at ps at) bound
    → ((n : ℕ) → i < n → n < at → IsWithin (place_at ps i) (place_at ps j) (place_at ps n) bound) → (n : ℕ) → i < n → n < at + 1
    → IsWithin (place_at ps i) (place_at ps j) (place_at ps n) bound
near_more bound ps i j at here before n after below = elim (cases_eq n at) [
  | inl e ↦ subst (λ m. IsWithin (place_at ps i) (place_at ps j) (place_at ps m) bound) (sym e) here
  | inr e ↦ before n after (omega (arith, e, below))
]

-- ---- runs of weighted places

pub weighted_at : (wx wy : ℤ) (ps : List Place) (i : ℕ) → i < length ps
    → place_at (map (weighted wx wy) ps) i ≡ weighted wx wy (place_at ps i)
weighted_at wx wy ps i within = get_or-map (weighted wx wy) ps i nowhere nowhere within

-- the weighted places tell what is near
pub near_by_weighted : (wx wy bound : ℤ) (ps ws : List Place) (i j : ℕ) → ws ≡ map (weighted wx wy) ps → i < j → j < length ps
    → IsRunWithin bound ws i j ↔ All (λ p. IsNear wx wy (place_at ps i) (place_at ps j) p bound) (between (i + 1) j ps)
near_by_weighted wx wy bound ps ws i j weighed order within =
    let start : place_at ws i ≡ weighted wx wy (place_at ps i) = ap (λ qs. place_at qs i) weighed
    ∙ weighted_at wx wy ps i (omega (arith, order, within)) in
    let end : place_at ws j ≡ weighted wx wy (place_at ps j) = ap (λ qs. place_at qs j) weighed ∙ weighted_at wx wy ps j within in
    let inner : between (i + 1) j ws ≡ map (weighted wx wy) (between (i + 1) j ps) = ap (between (i + 1) j) weighed
    ∙ between-map (weighted wx wy) (i + 1) j ps in
    let near = near_is_within wx wy (place_at ps i) (place_at ps j) in
    let Within : Place → Place → List Place → Type 0 = λ a b qs. All (λ q. IsWithin a b q bound) qs in (
      λ h.
          let g : Within (weighted wx wy (place_at ps i)) (weighted wx wy (place_at ps j)) (map (weighted wx wy) (between (i + 1) j ps)) =
          subst (λ a. Within a (weighted wx wy (place_at ps j)) (map (weighted wx wy) (between (i + 1) j ps))) start
          (subst (λ b. Within (place_at ws i) b (map (weighted wx wy) (between (i + 1) j ps))) end
          (subst (λ qs. Within (place_at ws i) (place_at ws j) qs) inner h)) in
          λ n d below. (near (get_or (between (i + 1) j ps) n d) bound).1
          (subst (λ q. IsWithin (weighted wx wy (place_at ps i)) (weighted wx wy (place_at ps j)) q bound)
          (get_or-map (weighted wx wy) (between (i + 1) j ps) n d d below)
          (g n d (omega (arith, below, length-map (between (i + 1) j ps) (weighted wx wy))))),
      λ h.
          let g : Within (weighted wx wy (place_at ps i)) (weighted wx wy (place_at ps j)) (map (weighted wx wy) (between (i + 1) j ps)) =
          All-map (λ q. IsWithin (weighted wx wy (place_at ps i)) (weighted wx wy (place_at ps j)) q bound) (weighted wx wy)
          (between (i + 1) j ps) (λ n d below. (near (get_or (between (i + 1) j ps) n d) bound).0 (h n d below)) in
          subst (λ qs. Within (place_at ws i) (place_at ws j) qs) (sym inner)
          (subst (λ b. Within (place_at ws i) b (map (weighted wx wy) (between (i + 1) j ps))) (sym end)
          (subst (λ a. Within a (weighted wx wy (place_at ps j)) (map (weighted wx wy) (between (i + 1) j ps))) (sym start) g)),
    )

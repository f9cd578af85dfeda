-- What a cone lets once a point is taken, and when it lets nothing.
use Rattle.std.proofs.Common.{◌≡◌, ◌↔◌, inl, inr, IsTrue, ℤ, pos, ◌-ℤ◌, ◌*ℤ◌, ◌≤ℤ◌, ◌<ℤ◌, sym, subst, arith}
use Rattle.std.proofs.lemmas.Int.{ints}
use lib.Signed.{lt_z}
use Rattle.grid_exact.specs.Geometry.{Place, IsWithin}
use Rattle.grid_exact.proofs.WholeLaws.{sums}
use Rattle.grid_exact.proofs.Signs.{at_most_or_above}
use Rattle.error_cone.specs.Ways.{mirrored, IsUnder, IsUnderSquare}
use Rattle.error_cone.specs.Cone.{Lets, IsPast, Passes, way_to}
use Rattle.error_cone.specs.declared.ways.Way.{Way}
use Rattle.error_cone.specs.declared.cone.Cone.{Cone}
use Rattle.error_cone.proofs.Slopes.{forward_by, along_forward, along_by, place_by, way_of-place_by, open_by, open_limit, under_itself}
use Rattle.error_cone.proofs.Near.{meets_by_within}

-- the limit stands for the old one and the corner of a square
pub record IsNarrowed (e : ℤ) (way old new : Way) : Type 0 where
  pub same : (d : Way) → pos 0 ≤ℤ d.across → IsUnder new d ↔ (IsUnder old d × IsUnderSquare e way d)

pub narrowed : (e : ℤ) (way old corner new : Way) → ((d : Way) → pos 0 ≤ℤ d.across → IsUnder new d ↔ (IsUnder old d × IsUnder corner d))
    → ((d : Way) → pos 0 ≤ℤ d.across → IsUnder corner d ↔ IsUnderSquare e way d) → IsNarrowed e way old new
narrowed e way old corner new flat square = record {
  same = λ d low.
      (λ h. let both = (flat d low).0 h in (both.0, (square d low).0 both.1), λ both. (flat d low).1 (both.0, (square d low).1 both.1));
}

-- both limits are narrowed by the square about p, which is past the bound
pub record IsTaken (c : Cone) (p : Place) (above below : Way) : Type 0 where
  pub past : c.bound <ℤ (way_to c p).across
  pub above_is : IsNarrowed c.bound (way_to c p) c.above above
  pub below_is : IsNarrowed c.bound (mirrored (way_to c p)) c.below below

pub taken : (c : Cone) (p : Place) (way above below : Way) → way ≡ way_to c p → c.bound <ℤ way.across → IsNarrowed c.bound way c.above above
    → IsNarrowed c.bound (mirrored way) c.below below → IsTaken c p above below
taken c p way above below is past up down =
    record {
      past = subst (λ (w : Way). c.bound <ℤ w.across) is past;
      above_is = subst (λ (w : Way). IsNarrowed c.bound w c.above above) is up;
      below_is = subst (λ (w : Way). IsNarrowed c.bound (mirrored w) c.below below) is down;
    }

-- what the two limits let
pub record AreLimits (c : Cone) (above below : Way) (v : Place) : Type 0 where
  pub above_lets : IsUnder above (way_to c v)
  pub below_lets : IsUnder below (mirrored (way_to c v))

pub lets_taken : (c : Cone) (p v : Place) (above below : Way) → IsTaken c p above below → IsPast c v → AreLimits c above below v
    ↔ (Lets c v × Passes c p v)
lets_taken c p v above below h past =
    let low = (along_forward c.direction.frame c.direction.rising c.origin v past).across in
    let up = h.above_is.same (way_to c v) low in
    let down = h.below_is.same (mirrored (way_to c v)) low in (
      λ lim. let a = up.0 lim.above_lets in let b = down.0 lim.below_lets in
          (record { above = a.0; below = b.0 }, λ far. record { not_above = a.1; not_below = b.1 }),
      λ both. let met = both.1 h.past in record {
        above_lets = up.1 (both.0.above, met.not_above);
        below_lets =
            down.1 (both.0.below, met.not_below);
      },
    )

pub passes_near : (c : Cone) (p v : Place) → pos 0 ≤ℤ c.bound → IsWithin c.origin v p c.bound → Passes c p v
passes_near c p v some near far = meets_by_within c.direction.frame c.direction.rising c.origin v p c.bound some near

-- ---- a cone that lets nothing

abbrev pub IsShut : Cone → Type 0
IsShut c = (c.above.up *ℤ c.below.across) <ℤ (pos 0 -ℤ c.above.across *ℤ c.below.up)

pub shut_iff : (c : Cone) → IsShut c ↔ ((v : Place) → IsPast c v → ¬ (Lets c v))
shut_iff c =
    let up = forward_by c.above c.above_forward in
    let down = forward_by c.below c.below_forward in
    let there = place_by c.direction.frame c.direction.rising c.origin c.above in
    let way = way_of-place_by c.direction.frame c.direction.rising c.origin c.above in (
      λ shut v past lets. let is_open = open_by c.above c.below (way_to c v) up down
          (along_forward c.direction.frame c.direction.rising c.origin v past) lets.above lets.below in omega (arith, sums, is_open, shut),
      λ none.
          elim (at_most_or_above (pos 0 -ℤ c.above.across *ℤ c.below.up) (c.above.up *ℤ c.below.across)) [
            | inl is_open ↦
                absurd (none there (along_by c.direction.frame c.direction.rising c.origin c.above up) (record {
                  above = subst (λ (w : Way). IsUnder c.above w) (sym way) (under_itself c.above);
                  below = subst (λ (w : Way). IsUnder c.below (mirrored w)) (sym way) (open_limit c.above c.below is_open);
                }))
            | inr shut ↦ shut
          ],
    )

-- a test of two numbers that are known
pub below_tested : {P : Type 0} (x y a b : ℤ) → x ≡ a → y ≡ b → ((a <ℤ b) ↔ P) → IsTrue (lt_z x y) ↔ P
below_tested x y a b p q both = (λ t. both.0 (omega (arith, ints, t)), λ h. let k : a <ℤ b = both.1 h in grind (arith, ints))

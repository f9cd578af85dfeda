-- The premises of the law of one replacement can be met: a bump of one vertex, with a feature point beside it, is replaced.
use Rattle.std.proofs.Common.{◌≡◌, ◌≢◌, ℕ, zero, suc, ◌<◌, true, false, List, [], ◌∷◌, get_or, pos, refl, subst, arith}
use Rattle.std.proofs.lemmas.Int.{ints}
use Rattle.std.specs.Prelude.{Contains}
use Rattle.grid_exact.specs.declared.frame.Frame.TheVariants.{Plain}
use Rattle.grid_exact.specs.Geometry.{Place, IsOnSegment}
use Rattle.grid_exact.specs.Geometry.IsBefore.{Left}
use Rattle.grid_exact.specs.Walks.{EachEdge}
use Rattle.grid_exact.proofs.Segments.{area_of-on}
use Rattle.arc_map.specs.Vertices.{Vertex, places}
use Rattle.grid_exact.specs.Runs.{IsEdgeOf, IsMonotone}
use Rattle.arc_map.specs.Clear.{IsWithinChain, EachButLast}
use Rattle.arc_map.specs.Allowed.{IsConsistent}
use Rattle.grid_exact.specs.Runs.IsMonotone.{Increasing}
use Rattle.arc_map.specs.Allowed.IsConsistent.{SameSide}
use Rattle.arc_map.specs.Allowed.IsAllowed.{Shortcut}
use Rattle.arc_map.specs.Chains.{Chain, chain_at, IsOtherEdge, AreChains, IsClearIn, IsWithinBound, IsPathIn}
use Rattle.monotone_split.specs.Laws.{KeepsMap}
use Rattle.monotone_split.proofs.Paths.{own_lawful}
use Rattle.monotone_split.proofs.Maps.{keeps_map}

abbrev v0 : Vertex
v0 = record { arc = 0; at = 0; is_end = true; place = record { x = pos 0; y = pos 0 } }

abbrev v1 : Vertex
v1 = record { arc = 0; at = 1; is_end = false; place = record { x = pos 1; y = pos 1 } }

abbrev v2 : Vertex
v2 = record { arc = 0; at = 2; is_end = true; place = record { x = pos 2; y = pos 0 } }

abbrev bump : List Chain
bump = record { frame = Plain; first = v0; rest = v1 ∷ v2 ∷ [] } ∷ []

-- a town above the bump
abbrev town : Place
town = record { x = pos 1; y = pos 2 }

alone : (k : ℕ) (c d : Vertex) → IsOtherEdge bump zero c d → ⊥
alone k c d o = none o.chain o.other o.edge
  where
    none : (n : ℕ) → n ≢ zero → IsEdgeOf (chain_at bump n).first (chain_at bump n).rest c d → ⊥
    none zero other e = other refl
    none (suc n) other e = e

are : AreChains bump
are = record { monotone = monotone; one_arc = one_arc; within = within }
  where
    monotone : (k : ℕ) → IsMonotone (chain_at bump k).frame (chain_at bump k).first.place (places (chain_at bump k).rest)
    monotone zero = Increasing (Left (omega (arith, ints)), (Left (omega (arith, ints)), tt))
    monotone (suc k) = Increasing tt

    one_arc : (k : ℕ) → EachEdge (λ a b. a.arc ≡ (chain_at bump k).first.arc) (chain_at bump k).first (chain_at bump k).rest
    one_arc zero = (refl, (refl, tt))
    one_arc (suc k) = tt

    within : (k : ℕ) → EachButLast (IsWithinChain (IsOtherEdge bump k)) (chain_at bump k).rest
    within zero = (record { no_end = refl; no_start_of = λ c d o e. alone zero c d o; no_end_of = λ c d o e. alone zero c d o }, tt)
    within (suc k) = tt

one_town : (p : Place) → Contains (town ∷ []) p → town ≡ p
one_town p h = at h.0 h.1 h.2
  where
    at : (k : ℕ) → k < 1 → get_or (town ∷ []) k p ≡ p → town ≡ p
    at zero l e = e
    at (suc k) l e = absurd (omega arith)

off_first : ¬ (IsOnSegment v0.place v1.place town)
off_first on = let flat = area_of-on v0.place v1.place town on in omega (arith, ints)

off_second : ¬ (IsOnSegment v1.place v2.place town)
off_second on = let flat = area_of-on v1.place v2.place town on in omega (arith, ints)

off_shortcut : ¬ (IsOnSegment v0.place v2.place town)
off_shortcut on = let flat = area_of-on v0.place v2.place town on in omega (arith, ints)

clear : IsClearIn bump (town ∷ []) zero
clear =
    record {
      others = λ c d o. absurd (alone zero c d o);
      own = own_lawful Plain v0 (v1 ∷ v2 ∷ []) (are.monotone zero);
      points = λ p h. subst (λ (q : Place). EachEdge (λ a b. ¬ (IsOnSegment a.place b.place q)) v0 (v1 ∷ v2 ∷ [])) (one_town p h)
          (off_first, (off_second, tt));
    }

near : (k : ℕ) (d : Vertex) → k < 1 → IsWithinBound (pos 1) (pos 1) (pos 1) v0.place v2.place (get_or (v1 ∷ []) k d).place
near zero d h = record {
  denominator = pos 2;
  numerator = pos 1;
  whole = omega (arith, ints);
  from_start = omega (arith, ints);
  to_end =
      omega (arith, ints);
  near = omega (arith, ints);
}
near (suc k) d h = absurd (omega arith)

path : IsPathIn (IsWithinBound (pos 1) (pos 1) (pos 1)) bump (town ∷ []) zero (v2 ∷ [])
path = (
  v1 ∷ [],
  [],
  refl,
  Shortcut record {
    near = near;
    points = λ p h. subst (λ (q : Place). IsConsistent v0.place v2.place (v1.place ∷ []) q) (one_town p h) (SameSide off_shortcut refl);
    starts = λ c d o. absurd (alone zero c d o);
    ends = λ c d o. absurd (alone zero c d o);
    single = λ c d o. absurd (alone zero c d o);
  },
  refl,
)

pub bump_goes : KeepsMap bump (town ∷ []) zero (v2 ∷ [])
bump_goes = keeps_map (pos 1) (pos 1) (pos 1) bump (town ∷ []) zero (v2 ∷ []) (omega arith) are clear path

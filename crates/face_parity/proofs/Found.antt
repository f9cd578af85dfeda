-- The odd polygons of a tally are those in which the point lies.
use Rattle.std.proofs.Common.{◌≡◌, ℕ, ◌+◌, ◌<◌, false, AllPairs, length, arith, ◌∙◌}
use Rattle.std.specs.Prelude.{filter, nat_le}
use Rattle.std.proofs.lemmas.List.Elements.{All-weaker}
use Rattle.grid_exact.specs.Geometry.{Place}
use Rattle.arc_map.specs.Map.{Map}
use Rattle.arc_map.specs.Arcs.{is_inside}
use Rattle.face_parity.specs.Lines.{faces_of}
use Rattle.face_parity.specs.Tally.{IsTally, is_odd_at}
use Rattle.face_parity.specs.declared.tally.Tally.{Tally}
use Rattle.face_parity.proofs.Holding.{filter-range}
use Rattle.face_parity.proofs.Turning.{marks-within}

pub nat-le-no : (a b : ℕ) → b < a → nat_le a b ≡ false
nat-le-no a b less = grind arith

pub odd-faces : (m : Map) (p : Place) (t : Tally) → IsTally t → AllPairs (λ j k. j < k) t.turned.items
    → length t.odd.items ≡ length m.polygons → ((k : ℕ) → k < length m.polygons → is_odd_at t k ≡ is_inside p m k)
    → filter (is_odd_at t) t.turned.items ≡ faces_of m p
odd-faces m p t is rising count odd =
    filter-range (is_odd_at t) (is_inside p m) 0 (length m.polygons) t.turned.items rising
    (λ k d within. omega arith)
    (All-weaker (λ k. k < length t.listed.items) (λ k. k < 0 + length m.polygons) (λ k low. omega (arith, low, count, is.count))
    t.turned.items (marks-within t.listed.items t.turned.items is.marked))
    (λ k least most inside. is.listed k (is.odd k (odd k (omega (arith, most)) ∙ inside)))
    (λ k least most. odd k (omega (arith, most)))

-- A map that fits in the place of one that was read can be written, and its arcs are named as before.
use Rattle.std.proofs.Common.{◌≡◌, ℕ, zero, suc, ◌<◌, ◌≤◌, Some, List, [], ◌∷◌, length, get_or, sum_by, refl, arith}
use Rattle.std.specs.Prelude.{slice_get, option_map}
use Rattle.std.specs.List.{AllByRecursion}
use Rattle.std.proofs.lemmas.List.Elements.{All-contains, All-from_recursion, recursion_from_All}
use Rattle.std.proofs.lemmas.List.Sums.{sum_by-cons}
use Rattle.grid_exact.specs.Geometry.{Place}
use Rattle.arc_map.specs.Map.{Map, IsArc}
use Rattle.topo_reader.specs.Geometries.{forwards, backwards}
use Rattle.topo_writer.specs.Fits.{StandsFor, FitsIn}
use Rattle.topo_writer.proofs.TreeArcs.{IsGridPlace, IsGridArc, written_length}
use Rattle.topo_writer.proofs.ReadArcs.{CanBeWritten}
use Rattle.topo_writer.proofs.WalkAlike.{SameSteps}

-- each arc stands for that with its number
abbrev EachStands : List (List Place) → List (List Place) → Type 0
EachStands [] [] = Unit {0}
EachStands [] (b ∷ bs) = ⊥
EachStands (a ∷ rest) [] = ⊥
EachStands (a ∷ rest) (b ∷ bs) = StandsFor a b × EachStands rest bs

each-stands : (arcs others : List (List Place)) → length others ≡ length arcs
    → ((k : ℕ) → k < length arcs → StandsFor (get_or arcs k []) (get_or others k [])) → EachStands arcs others
each-stands [] [] count stands = tt
each-stands [] (b ∷ bs) count stands = absurd (omega (arith, count))
each-stands (a ∷ rest) [] count stands = absurd (omega (arith, count))
each-stands (a ∷ rest) (b ∷ bs) count stands =
    let fewer : length bs ≡ length rest = omega (arith, count) in
    let some : 0 < length (a ∷ rest) = omega arith in
    (stands 0 some, each-stands rest bs fewer (λ k below. let further : suc k < length (a ∷ rest) = omega arith in stands (suc k) further))

-- ---- what can be written

stands-grid : (a b : List Place) → IsGridArc a → StandsFor a b → IsGridArc b
stands-grid a b is stands = record {
  is_arc = stands.is_arc;
  grid = recursion_from_All IsGridPlace b (λ k d below. All-contains IsGridPlace a (get_or b k d) (All-from_recursion IsGridPlace a is.grid)
      (stands.places k d below));
}

all-grid : (arcs others : List (List Place)) → AllByRecursion IsGridArc arcs → EachStands arcs others → AllByRecursion IsGridArc others
all-grid [] [] each stands = tt
all-grid [] (b ∷ bs) each stands = absurd stands
all-grid (a ∷ rest) [] each stands = absurd stands
all-grid (a ∷ rest) (b ∷ bs) each stands = (stands-grid a b each.0 stands.0, all-grid rest bs each.1 stands.1)

no-longer : (a b : List Place) → IsArc a → IsArc b → length b ≤ length a → written_length b ≤ written_length a
no-longer [] b is are short = absurd is
no-longer a [] is are short = absurd are
no-longer (p ∷ []) (q ∷ []) is are short = omega arith
no-longer (p ∷ []) (q ∷ r ∷ rs) is are short = absurd (omega (arith, short))
no-longer (p ∷ v ∷ vs) (q ∷ []) is are short = omega arith
no-longer (p ∷ v ∷ vs) (q ∷ r ∷ rs) is are short = omega (arith, short)

fewer-written : (arcs others : List (List Place)) → AllByRecursion IsGridArc arcs → EachStands arcs others
    → sum_by written_length others ≤ sum_by written_length arcs
fewer-written [] [] each stands = omega arith
fewer-written [] (b ∷ bs) each stands = absurd stands
fewer-written (a ∷ rest) [] each stands = absurd stands
fewer-written (a ∷ rest) (b ∷ bs) each stands =
    let here : written_length b ≤ written_length a = no-longer a b each.0.is_arc stands.0.is_arc stands.0.short in
    let more : sum_by written_length bs ≤ sum_by written_length rest = fewer-written rest bs each.1 stands.1 in
    omega (arith, here, more, sum_by-cons written_length a rest, sum_by-cons written_length b bs)

-- ---- named as before

same-ends : (k : ℕ) (a b : List Place) → StandsFor a b → (Some (forwards k a) ≡ Some (forwards k b))
    × (Some (backwards k a) ≡ Some (backwards k b))
same-ends k a b stands = rw (stands.first, stands.last) (refl, refl)

same-named : (k j : ℕ) (arcs others : List (List Place)) → EachStands arcs others
    → (option_map (forwards j) (slice_get arcs k) ≡ option_map (forwards j) (slice_get others k))
    × (option_map (backwards j) (slice_get arcs k) ≡ option_map (backwards j) (slice_get others k))
same-named k j [] [] stands = (refl, refl)
same-named k j [] (b ∷ bs) stands = absurd stands
same-named k j (a ∷ rest) [] stands = absurd stands
same-named zero j (a ∷ rest) (b ∷ bs) stands = same-ends j a b stands.0
same-named (suc k) j (a ∷ rest) (b ∷ bs) stands = same-named k j rest bs stands.1

-- what holds of a map that fits in the place of one that was read
pub record IsFitting (m new : Map) : Type 0 where
  pub steps : SameSteps m.arcs new.arcs
  pub written : CanBeWritten new.arcs

pub fitting : (m new : Map) → CanBeWritten m.arcs → FitsIn m new → IsFitting m new
fitting m new can fits =
    let stands = each-stands m.arcs new.arcs fits.count fits.arcs in
    record {
      steps = record {
        forward = λ k. (same-named k k m.arcs new.arcs stands).0;
        backward = λ k.
            (same-named k k m.arcs new.arcs stands).1;
      };
      written = record {
        each = all-grid m.arcs new.arcs can.each stands;
        few = omega (arith, fits.count, can.few);
        few_positions = omega (arith, fewer-written m.arcs new.arcs can.each stands, can.few_positions);
      };
    }

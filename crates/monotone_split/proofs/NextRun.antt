-- The next chain of an arc by the furthest runs of the two frames.
use Rattle.std.proofs.Common.{◌≡◌, ℕ, zero, suc, ◌+◌, ◌-◌, ◌<◌, ◌≤◌, List, [], ◌∷◌, length, take, drop, refl, sym, ap, subst, arith}
use Rattle.std.proofs.Common.{length-drop}
use Rattle.std.proofs.lemmas.List.{take_all}
use Rattle.grid_exact.specs.Geometry.{Place}
use Rattle.grid_exact.specs.declared.frame.Frame.{Frame}
use Rattle.grid_exact.specs.declared.frame.Frame.TheVariants.{Plain, Turned}
use Rattle.arc_map.specs.Map.{IsArc}
use Rattle.monotone_split.specs.Cut.{IsFurthestRun, IsNextRun, IsNextChainRef}
use Rattle.monotone_split.specs.Cut.IsNextRun.{PlainReaches, TurnedReaches}

-- the list from a position on, as a slice takes it
whole_rest : (ps : List Place) (start : ℕ) → take (length ps - start) (drop start ps) ≡ drop start ps
whole_rest ps start = let size = length-drop start ps in take_all (length ps - start) (drop start ps) (omega arith)

arc_from_drop : (ps : List Place) (start : ℕ) → start < length ps → IsArc ps → IsArc (drop start ps)
arc_from_drop ps zero inside arc = arc
arc_from_drop [] (suc start) inside arc = absurd (omega arith)
arc_from_drop (p ∷ []) (suc start) inside arc = absurd (omega arith)
arc_from_drop (p ∷ q ∷ ps) (suc start) inside arc = arc_from_drop (q ∷ ps) start (omega arith) arc.1

pub arc_from : (ps : List Place) (start : ℕ) → start + 1 < length ps → IsArc ps → IsArc (take (length ps - start) (drop start ps))
arc_from ps start inside arc = subst IsArc (sym (whole_rest ps start)) (arc_from_drop ps start (omega arith) arc)

in_rest : (frame : Frame) (ps : List Place) (start n : ℕ) → IsFurthestRun frame (take (length ps - start) (drop start ps)) n
    → IsFurthestRun frame (drop start ps) n
in_rest frame ps start n far = subst (λ (qs : List Place). IsFurthestRun frame qs n) (whole_rest ps start) far

made_next : (arc : ℕ) (ps : List Place) (start n : ℕ) (frame : Frame) → IsNextRun (drop start ps) frame n
    → IsNextChainRef arc ps start (record { arc = arc; «from» = start; to = start + n; frame = frame })
made_next arc ps start n frame run =
    let count : start + n - start ≡ n = omega arith in
    record {
      arc_number = refl;
      starts = refl;
      ends = ap (λ (k : ℕ). start + k) (sym count);
      run = subst (λ (k : ℕ). IsNextRun (drop start ps) frame k) (sym count) run;
    }

pub plain_next : (arc : ℕ) (ps : List Place) (start plain turned : ℕ) → IsFurthestRun Plain (take (length ps - start) (drop start ps)) plain
    → IsFurthestRun Turned (take (length ps - start) (drop start ps)) turned → turned ≤ plain
    → IsNextChainRef arc ps start (record { arc = arc; «from» = start; to = start + plain; frame = Plain })
plain_next arc ps start plain turned by_x by_y further = made_next arc ps start plain Plain
    (PlainReaches turned refl (in_rest Plain ps start plain by_x) (in_rest Turned ps start turned by_y) further)

pub turned_next : (arc : ℕ) (ps : List Place) (start plain turned : ℕ)
    → IsFurthestRun Plain (take (length ps - start) (drop start ps)) plain
    → IsFurthestRun Turned (take (length ps - start) (drop start ps)) turned → plain < turned
    → IsNextChainRef arc ps start (record { arc = arc; «from» = start; to = start + turned; frame = Turned })
turned_next arc ps start plain turned by_x by_y further = made_next arc ps start turned Turned
    (TurnedReaches plain refl (in_rest Plain ps start plain by_x) (in_rest Turned ps start turned by_y) further)

-- The chains are those of the map, and it is arranged beside its held arcs.
use Rattle.std.proofs.Common.{◌∙◌, sym, subst, arith}
use Rattle.arc_map.specs.Arranged.{IsMapArranged}
use Rattle.arc_map.specs.Work.{AreChainsIn}
use Rattle.cert_checker.specs.Judging.{IsKnown}
use Rattle.cert_checker.proofs.Knowing.{known_new}
use Rattle.cert_checker.proofs.state.JudgeState.new.Goals as goal

pub invariant_of-result : goal.invariant_of-result
invariant_of-result c =
    let refs = c.in_ok-chains.chains.items in
    let parts = c.into_parts-map.result in
    let known = known_new parts.1 parts.0 refs c.in_ok-chains.ensures.chains c.into_parts-map.ensures.arranged in
    record {
      known = subst (IsKnown parts.1) (sym c.in_ok-map.ensures) known;
      room = omega (arith, c.in_ok-weighted.ensures.exact);
    }

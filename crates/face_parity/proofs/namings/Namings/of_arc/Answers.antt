use Rattle.std.proofs.Common.{◌≡◌, ◌==◌, ◌+◌, ◌-◌, take, drop, subst, sym, arith}
use Rattle.face_parity.specs.Parities.{pass_oddly}
use Rattle.std.specs.Prelude.{◌&&◌}
use Rattle.face_parity.proofs.Parts.{part-odd, starts-rise}
use Rattle.face_parity.proofs.namings.Namings.of_arc.Goals as goal

pub slice_bounds-result-count : goal.slice_bounds-result-count
slice_bounds-result-count c = starts-rise c.args.self.now.namings.items c.args.arc (c.args.arc + 1) c.start_of-start.result
    c.start_of-end.result (omega arith) c.start_of-start.ensures c.start_of-end.ensures

pub slice_bounds-result-start : goal.slice_bounds-result-start
slice_bounds-result-start c = starts-rise c.args.self.now.namings.items c.args.arc (c.args.arc + 1) c.start_of-start.result
    c.start_of-end.result (omega arith) c.start_of-start.ensures c.start_of-end.ensures

pub returns-clause-odd : goal.returns-clause-odd
returns-clause-odd c test =
    let ns = c.args.self.now.namings.items in
    let start = c.start_of-start.result in
    let end = c.start_of-end.result in
    subst (λ xs. pass_oddly test (take (end - start) (drop start xs)) ≡ pass_oddly (λ n. (n.arc == c.args.arc) && test n) ns)
    (sym c.deref.ensures.value) (part-odd ns c.args.arc start end c.start_of-start.ensures c.start_of-end.ensures test)

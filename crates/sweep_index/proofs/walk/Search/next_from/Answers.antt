use Rattle.std.proofs.Common.{◌≡◌, max, ap, subst, sym, get_or, arith, rules}
use Rattle.sweep_index.specs.Area.{lowest, highest}
use Rattle.sweep_index.specs.Cells.{row_of}
use Rattle.sweep_index.proofs.Walking.{NoneFound, next_found, nothing_left, onward}
use Rattle.sweep_index.proofs.walk.Search.next_from.Goals as goal

pub returns-in-Some-clause-steps : goal.returns-in-Some-clause-steps
returns-in-Some-clause-steps c =
    let s = c.args.self.now in
    let es = s.entries.now in
    let k = c.in-Some.k in
    let found = c.in-Some.ensures.found in
    let valid = c.loop-k.invariant.valid in
    next_found es s.live.now (lowest s.area) (highest s.area) c.args.cursor.at c.loop-k.at k (get_or es k c.index-self-k.result)
    c.loop-k.invariant.onward found.0 (omega (arith, valid.within, found.1)) (ap (get_or es k) c.index-self-k.is) found.2
    c.loop-k.invariant.none c.in-Some.ensures.none_before

pub returns-then-row-last_row-clause-none : goal.returns-then-row-last_row-clause-none
returns-then-row-last_row-clause-none c =
    let s = c.args.self.now in
    let last : c.row-last_row.result ≡ row_of s.grid s.area.north = search rules in
    nothing_left s.grid s.entries.now s.live.now (lowest s.area) (highest s.area) c.loop-k.row c.args.cursor.at c.loop-k.at c.loop-k.end
    c.loop-k.invariant.valid c.loop-k.invariant.none c.in_default.ensures.none (omega (arith, last, c.if-row-last_row.true))

pub loop-k-preserved : goal.loop-k-preserved
loop-k-preserved c =
    let s = c.args.self.now in
    let begin = c.places_in-begin.result.0 in
    let greater : c.max-at.result ≡ max c.loop-k.at begin = search rules in
    record {
      valid = record {
        in_grid = omega (arith, c.if-row-last_row.false, c.row-last_row.ensures.within);
        within =
            c.places_in-begin.ensures.end;
        passed = c.places_in-begin.ensures.passed;
      };
      onward = omega (arith, greater, c.loop-k.invariant.onward);
      none = subst (NoneFound s.entries.now s.live.now (lowest s.area) (highest s.area) c.args.cursor.at) (sym greater)
          (onward s.grid s.entries.now s.live.now (lowest s.area) (highest s.area) c.loop-k.row c.args.cursor.at c.loop-k.at c.loop-k.end
          begin
          c.loop-k.invariant.valid c.loop-k.invariant.none c.in_default.ensures.none c.places_in-begin.ensures.ahead
          c.places_in-begin.ensures.begin);
    }

use Rattle.std.proofs.Common.{◌≡◌, ◌+◌, ◌∷◌, ◌++◌, [], length, vec_len, sym, refl, rules, arith}
use Rattle.map_gen.specs.Shifts.{number, shift}
use Rattle.map_gen.proofs.Drawn.{number-start, number-more, none-drawn, one-more}
use Rattle.map_gen.proofs.shifts.shifts.Goals as goal

pub loop-number-init : goal.loop-number-init
loop-number-init c =
    let none : vec_len c.in_ok-shifts.shifts ≡ 0 = c.in_ok-shifts.ensures.len in
    let empty : c.in_ok-shifts.shifts.items ≡ [] = c.in_ok-shifts.ensures.items in
    record {
      within = omega (arith, none);
      drawn = rw (none, number-start c.args.seed) refl;
      small = omega (arith, c.requires);
      made = rw empty (none-drawn c.args.seed);
    }

pub loop-number-preserved : goal.loop-number-preserved
loop-number-preserved c =
    let xs = c.loop-number.shifts.items in
    let count : length xs ≡ vec_len c.loop-number.shifts = sym c.loop-number.shifts.ok.0 in
    let longer : vec_len c.push.new.self ≡ vec_len c.loop-number.shifts + 1 = c.in_ok-push.ensures.len in
    let drawn : c.next-number.result ≡ number c.args.seed (vec_len c.loop-number.shifts + 1) =
    rw (number-more, ← c.loop-number.invariant.drawn) c.next-number.ensures.value in
    let pushed : c.push.new.self.items ≡ xs ++ c.shift.result ∷ [] = search rules in
    let value : c.shift.result ≡ shift c.args.seed (length xs + 1) = rw (count, ← drawn) c.shift.ensures in
    record {
      within = omega (arith, longer);
      drawn = rw longer drawn;
      small = c.next-number.ensures.small;
      made = rw pushed (one-more c.args.seed xs c.shift.result c.loop-number.invariant.made value);
    }

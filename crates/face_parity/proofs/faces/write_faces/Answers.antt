use Rattle.std.proofs.Common.{◌≤◌, length, refl, ap, arith}
use Rattle.face_parity.proofs.Turning.{few-below, marks-within}
use Rattle.face_parity.proofs.faces.write_faces.Goals as goal

pub loop-k-init : goal.loop-k-init
loop-k-init c =
    let t = c.args.tally.now in
    let is = c.requires.tally in
    let few : length t.turned.items ≤ length t.listed.items = few-below (length t.listed.items) t.turned.items is.once
    (marks-within t.listed.items t.turned.items is.marked) in
    let long = ap length c.turned-turned.ensures in
    record {
      room = omega (arith, few, long, is.count, c.requires.room);
      capacity = omega arith;
      value = refl;
    }

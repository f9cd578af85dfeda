use Rattle.std.proofs.Common.{arith}
use Rattle.json_scan.specs.Shown.{tree}
use Rattle.geo_reader.proofs.RingLaws.{ring-read}
use Rattle.geo_reader.proofs.ring.add_ring.Goals as goal

pub push-requires : goal.push-requires
push-requires c =
    let read = ring-read c.position_count.result (tree c.args.value) c.read_ring.new.ring.items c.position_count.ensures.few
    c.in_ok-read_ring.ensures in
    rw c.deref.ensures.value (record { is_ring = read.0; few = omega (arith, read.1, c.position_count.ensures.value) })

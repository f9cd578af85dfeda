use Rattle.std.proofs.Common.{◌≡◌, ◌-◌, ◌==◌, ◌≤◌, true, false, nat_lt, length, take, drop, rules, subst, ap, sym, ◌∙◌}
use Rattle.std.specs.List.Sorted.{IsPartitionPoint, IsPartitionedBy}
use Rattle.std.proofs.lemmas.List.{take_rest}
use Rattle.std.proofs.lemmas.List.Sorted.{IsPartitionPoint-from_clause, IsPartitionedBy-ltb}
use Rattle.sweep_index.proofs.Slabbing.{slab_first, slab_is}
use Rattle.sweep_index.proofs.slabs.in_slab.Goals as goal

pub returns : goal.returns
returns c =
    let edges = c.args.edges.now in
    let slab = c.args.slab in
    let start = c.partition_point-start.result in
    let count = c.partition_point-count.result in
    let rest = take_rest edges start in
    let first = IsPartitionPoint-from_clause (λ s. nat_lt s.slab slab) edges start c.partition_point-start.ensures.partitioned
    (IsPartitionedBy-ltb (λ s. s.slab) edges slab c.requires) (λ a r q k. search rules) in
    let ordered = subst (IsPartitionedBy (λ s. s.slab == slab)) (sym rest)
    (slab_first edges slab start c.requires c.partition_point-start.ensures.bound first.1) in
    let second = IsPartitionPoint-from_clause (λ s. s.slab == slab) (take (length edges - start) (drop start edges)) count
    c.partition_point-count.ensures.partitioned ordered (λ a r q k. search rules) in
    let run = subst (λ s. IsPartitionPoint (λ y. (y.slab == slab) ≡ true) (λ y. (y.slab == slab) ≡ false) s count) rest second in
    let bound = subst (λ s. count ≤ length s) rest c.partition_point-count.ensures.bound in
    ap (take count) rest ∙ slab_is edges slab start count c.partition_point-start.ensures.bound bound first.0 run.0 run.1

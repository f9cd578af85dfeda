use Rattle.std.proofs.Common.{◌≡◌, ◌-◌, ◌==◌, ◌≤◌, true, false, nat_lt, length, take, drop, rules, subst, ap, sym, ◌∙◌}
use Rattle.std.specs.List.Sorted.{IsPartitionPoint, IsPartitionedBy}
use Rattle.std.proofs.lemmas.List.{take_rest}
use Rattle.std.proofs.lemmas.List.Sorted.{IsPartitionPoint-from_clause, IsPartitionedBy-ltb}
use Rattle.arc_map.proofs.Keyed.{key_first, key_is}
use Rattle.face_parity.specs.declared.cells.Celled.{Celled}
use Rattle.face_parity.proofs.cells.in_one.Goals as goal

pub returns : goal.returns
returns c =
    let celled = c.args.celled.now in
    let cell = c.args.cell in
    let start = c.partition_point-start.result in
    let count = c.partition_point-count.result in
    let rest = take_rest celled start in
    let first = IsPartitionPoint-from_clause (λ s. nat_lt s.cell cell) celled start c.partition_point-start.ensures.partitioned
    (IsPartitionedBy-ltb (λ s. s.cell) celled cell c.requires) (λ a r q k. search rules) in
    let ordered = subst (IsPartitionedBy (λ s. s.cell == cell)) (sym rest)
    (key_first (λ (s : Celled). s.cell) celled cell start c.requires c.partition_point-start.ensures.bound first.1) in
    let second = IsPartitionPoint-from_clause (λ s. s.cell == cell) (take (length celled - start) (drop start celled)) count
    c.partition_point-count.ensures.partitioned ordered (λ a r q k. search rules) in
    let run = subst (λ s. IsPartitionPoint (λ y. (y.cell == cell) ≡ true) (λ y. (y.cell == cell) ≡ false) s count) rest second in
    let bound = subst (λ s. count ≤ length s) rest c.partition_point-count.ensures.bound in
    ap (take count) rest ∙ key_is (λ (s : Celled). s.cell) celled cell start count c.partition_point-start.ensures.bound bound first.0 run.0
    run.1

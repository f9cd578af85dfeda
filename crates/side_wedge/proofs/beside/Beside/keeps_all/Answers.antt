-- One edge more, and the edges that have nothing beside them.
use Rattle.std.proofs.Common.{◌≡◌, ◌∙◌, inl, inr, ℕ, ◌*◌, ◌<◌, ◌≤◌, length, get_or, ap, sym, subst, refl, arith}
use Rattle.std.proofs.lemmas.Bool.{cases_lt}
use Rattle.std.proofs.lemmas.List.{get_or_read}
use Rattle.std.specs.Prelude.{slice_index}
use Rattle.side_wedge.specs.Flanks.{Flanks}
use Rattle.side_wedge.specs.Layout.{flanks_of}
use Rattle.side_wedge.specs.declared.beside.Beside.TheInside.{Inside}
use Rattle.side_wedge.proofs.Pairs.{AreOrdered, keeps_more, keeps_joined, keeps_none}
use Rattle.side_wedge.proofs.beside.Beside.keeps_all.Goals as goal

read_start : (s : Inside) (b : Flanks) (row x : ℕ) → flanks_of s ≡ b → row < length b.starts → x ≡ get_or s.starts.items row x
    → x ≡ slice_index b.starts row
read_start s b row x view within read = get_or_read s.starts.items row x (subst (λ (f : Flanks). row < length f.starts) (sym view) within)
    read 0 ∙ ap (λ (f : Flanks). slice_index f.starts row) view

-- where the places of the edge start before the end, it is before the last
is_before : (b : Flanks) (edge j x end : ℕ) → edge ≤ j → x ≡ slice_index b.starts (2 * edge) → end ≡ slice_index b.starts (2 * j) → x < end
    → edge < j
is_before b edge j x end high first last less = elim (cases_lt edge j) [
  | inl before ↦ before
  | inr not_before ↦
      let same : edge ≡ j = omega arith in
      let value : slice_index b.starts (2 * edge) ≡ slice_index b.starts (2 * j) = ap (λ (n : ℕ). slice_index b.starts (2 * n)) same in
      absurd (omega arith)
]

pub keeps_edge-requires-clause-few : goal.keeps_edge-requires-clause-few
keeps_edge-requires-clause-few c = let h = c.loop-self.invariant.high in omega arith

pub keeps_edge-requires-clause-rows : goal.keeps_edge-requires-clause-rows
keeps_edge-requires-clause-rows c =
    let b = c.args.self.now in
    let h = c.loop-self.invariant in
    let high = h.high in
    let rows = c.requires.rows in
    let first = read_start c.self.inside b (2 * c.loop-self.edge) c.index.result.now c.self.view_is (omega arith) c.index.ensures in
    let last = read_start c.self.inside b (2 * c.args.j) c.index-end.result.now c.self.view_is (omega arith) c.index-end.ensures in
    let before = is_before b c.loop-self.edge c.args.j c.index.result.now c.index-end.result.now high first last c.loop-self-test.true in
    omega arith

pub loop-self-preserved : goal.loop-self-preserved
loop-self-preserved c =
    let b = c.args.self.now in
    let h = c.loop-self.invariant in
    let high = h.high in
    let low = h.low in
    let rows = c.requires.rows in
    let first = read_start c.self.inside b (2 * c.loop-self.edge) c.index.result.now c.self.view_is (omega arith) c.index.ensures in
    let last = read_start c.self.inside b (2 * c.args.j) c.index-end.result.now c.self.view_is (omega arith) c.index-end.ensures in
    let before = is_before b c.loop-self.edge c.args.j c.index.result.now c.index-end.result.now high first last c.loop-self-test.true in
    record {
      low = omega arith;
      high = omega arith;
      so_far = keeps_more b c.args.i c.loop-self.edge c.args.a c.args.v h.so_far (c.keeps_edge.ensures.0 c.if-not-keeps_edge.false);
    }

pub returns : goal.returns
returns c =
    let b = c.args.self.now in
    let h = c.loop-self.invariant in
    let high = h.high in
    let rows = c.requires.rows in
    let ordered = subst (λ (x : Flanks). AreOrdered x.starts) c.self.view_is c.self.invariant.ordered in
    let first = read_start c.self.inside b (2 * c.loop-self.edge) c.index.result.now c.self.view_is (omega arith) c.index.ensures in
    let last = read_start c.self.inside b (2 * c.args.j) c.index-end.result.now c.self.view_is (omega arith) c.index-end.ensures in
    let test = c.loop-self-test.false in (
      λ t. keeps_joined b c.args.i c.loop-self.edge c.args.j c.args.a c.args.v h.so_far
          (keeps_none b c.loop-self.edge c.args.j c.args.a c.args.v ordered (omega arith) (omega (arith, first, last, test))),
      λ keeps. refl,
    )

pub returns-then-not-keeps_edge : goal.returns-then-not-keeps_edge
returns-then-not-keeps_edge c =
    let b = c.args.self.now in
    let h = c.loop-self.invariant in
    let high = h.high in
    let rows = c.requires.rows in
    let first = read_start c.self.inside b (2 * c.loop-self.edge) c.index.result.now c.self.view_is (omega arith) c.index.ensures in
    let last = read_start c.self.inside b (2 * c.args.j) c.index-end.result.now c.self.view_is (omega arith) c.index-end.ensures in
    let before = is_before b c.loop-self.edge c.args.j c.index.result.now c.index-end.result.now high first last c.loop-self-test.true in (
      λ t. absurd (cc),
      λ keeps. let no = c.if-not-keeps_edge.true in let yes =
          c.keeps_edge.ensures.1 (keeps c.loop-self.edge h.low before) in absurd (cc),
    )

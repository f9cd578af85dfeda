use Rattle.std.proofs.Common.{◌≡◌, ◌+◌, ◌<◌, arith, ap, sym, ◌∙◌, length}
use Rattle.arc_map.specs.Arranged.{is_arc_end}
use Rattle.arrangement_check.specs.Ends.{is_end_of}
use Rattle.arrangement_check.proofs.Positions.{arc_is, edge_within, ends_differ, position_is, same_clash, same_flags}
use Rattle.arrangement_check.proofs.clashes.edges_clash.Goals as goal

pub clash-requires-clause-first_edge : goal.clash-requires-clause-first_edge
clash-requires-clause-first_edge c =
    let ps = c.arc-first.result.now in
    ends_differ ps c.args.e.at c.index-first-at.result c.index-first-at-2.result c.arc-first.ensures.is_arc
    (edge_within c.args.map.now c.args.e ps c.arc-first.ensures.value c.requires.first) c.index-first-at.is c.index-first-at-2.is

pub clash-requires-clause-second_edge : goal.clash-requires-clause-second_edge
clash-requires-clause-second_edge c =
    let ps = c.arc-second.result.now in
    ends_differ ps c.args.f.at c.index-second-to.result c.index-second-to-2.result c.arc-second.ensures.is_arc
    (edge_within c.args.map.now c.args.f ps c.arc-second.ensures.value c.requires.second) c.index-second-to.is c.index-second-to-2.is

pub returns : goal.returns
returns c =
    let m = c.args.map.now in
    let e = c.args.e in
    let f = c.args.f in
    let ps = c.arc-first.result.now in
    let qs = c.arc-second.result.now in
    let p_is = c.arc-first.ensures.value in
    let q_is = c.arc-second.ensures.value in
    let p_in : e.at + 1 < length ps = edge_within m e ps p_is c.requires.first in
    let q_in : f.at + 1 < length qs = edge_within m f qs q_is c.requires.second in
    let a = position_is m e.arc e.at ps c.index-first-at.result p_is (omega (arith, p_in)) c.index-first-at.is in
    let b = position_is m e.arc (e.at + 1) ps c.index-first-at-2.result p_is p_in c.index-first-at-2.is in
    let s = position_is m f.arc f.at qs c.index-second-to.result q_is (omega (arith, q_in)) c.index-second-to.is in
    let t = position_is m f.arc (f.at + 1) qs c.index-second-to-2.result q_is q_in c.index-second-to-2.is in
    let a_end : is_arc_end m e.arc e.at ≡ c.is_end.result = ap (λ rs. is_end_of e.at (length rs)) (arc_is m e.arc ps p_is)
    ∙ sym c.is_end.ensures in
    let b_end : is_arc_end m e.arc (e.at + 1) ≡ c.is_end-2.result = ap (λ rs. is_end_of (e.at + 1) (length rs)) (arc_is m e.arc ps p_is)
    ∙ sym c.is_end-2.ensures in
    let c_end : is_arc_end m f.arc f.at ≡ c.is_end-3.result = ap (λ rs. is_end_of f.at (length rs)) (arc_is m f.arc qs q_is)
    ∙ sym c.is_end-3.ensures in
    let d_end : is_arc_end m f.arc (f.at + 1) ≡ c.is_end-4.result = ap (λ rs. is_end_of (f.at + 1) (length rs)) (arc_is m f.arc qs q_is)
    ∙ sym c.is_end-4.ensures in
    let flags = same_flags _ _ _ _ _ _ _ _ _ _ _ _ a_end b_end c_end d_end (sym c.neighbours.ensures.joined)
    (sym c.neighbours.ensures.joined_back) in
    same_clash _ _ _ _ _ _ _ _ _ _ _ a b s t flags c.clash.ensures

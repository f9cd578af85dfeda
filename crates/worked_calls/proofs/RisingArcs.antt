-- Maps of two arcs that rise to the right, each of which is one chain.
use Rattle.std.proofs.Common.{◌≡◌, ◌∙◌, ◌<◌, ◌≤◌, ◌<ℤ◌, true, false, List, [], ◌∷◌, length, refl, ap, sym, subst, arith, length-append}
use Rattle.std.proofs.lemmas.List.{append-nil}
use Rattle.std.proofs.lemmas.List.Elements.{All-from_recursion}
use Rattle.grid_exact.specs.Geometry.{Place}
use Rattle.grid_exact.specs.Geometry.IsBefore.{Left}
use Rattle.grid_exact.specs.Runs.{IsMonotone}
use Rattle.grid_exact.specs.Runs.IsMonotone.{Increasing}
use Rattle.grid_exact.specs.declared.frame.Frame.{Frame}
use Rattle.grid_exact.specs.declared.frame.Frame.TheVariants.{Plain, Turned}
use Rattle.arc_map.specs.Map.{Map}
use Rattle.arc_map.specs.Vertices.{Vertex, places}
use Rattle.arc_map.specs.Chains.{Chain, chain_at}
use Rattle.arc_map.specs.Arcs.{most_edges, vertex, IsFurthest, IsCutInto}
use Rattle.arc_map.specs.Arcs.IsNextChain.{PlainReaches}
use Rattle.arc_map.specs.Work.{Work, chain_in, work_of, LiesInArc, AreChainsIn, AreKeptIn}
use Rattle.arc_map.specs.declared.refs.ChainRef.{ChainRef}

-- q is to the right of p, and above it
pub record IsRising (p q : Place) : Type 0 where
  pub across : p.x <ℤ q.x
  pub up : p.y <ℤ q.y

-- a walk that is monotone in both frames, and short enough, is one chain
whole_run : (frame : Frame) (v : Vertex) (ws : List Vertex) → length ws ≤ most_edges → IsMonotone frame v.place (places ws)
    → IsFurthest frame v ws ws
whole_run frame v ws short one_way = record {
  rest = [];
  starts = sym (append-nil ws);
  within = short;
  one_way = one_way;
  furthest = λ longer more parts below run. let count = ap length parts in omega (arith, count, length-append longer more);
}

one_chain : (v : Vertex) (ws : List Vertex) → 0 < length ws → length ws ≤ most_edges → IsMonotone Plain v.place (places ws)
    → IsMonotone Turned v.place (places ws) → IsCutInto v ws (record { frame = Plain; first = v; rest = ws } ∷ [])
one_chain v ws edge short plain turned = (
  refl,
  PlainReaches ws refl (whole_run Plain v ws short plain) (whole_run Turned v ws short turned)
      (omega arith),
  [],
  sym (append-nil ws),
  refl,
  edge,
)

abbrev pub first_ref : ChainRef
first_ref = record { arc = 0; «from» = 0; to = 2; frame = Plain }

abbrev pub second_ref : ChainRef
second_ref = record { arc = 1; «from» = 0; to = 1; frame = Plain }

abbrev pub two_refs : List ChainRef
two_refs = first_ref ∷ second_ref ∷ []

abbrev pub two_arcs : Place → Place → Place → Place → Place → List (List Place)
two_arcs a b c d e = (a ∷ b ∷ c ∷ []) ∷ (d ∷ e ∷ []) ∷ []

-- the map with these arcs
abbrev with_arcs : Map → List (List Place) → Map
with_arcs m arcs = record { arcs = arcs; points = m.points; polygons = m.polygons; coded = m.coded }

are_chains : (m : Map) (a b c d e : Place) → IsRising a b → IsRising b c → IsRising d e
    → AreChainsIn (with_arcs m (two_arcs a b c d e)) two_refs
are_chains m a b c d e first second third =
    let worked = with_arcs m (two_arcs a b c d e) in
    let long : LiesInArc worked first_ref = record { arc = omega arith; edge = omega arith; within = omega arith } in
    let short : LiesInArc worked second_ref = record { arc = omega arith; edge = omega arith; within = omega arith } in
    record {
      lie = All-from_recursion (LiesInArc worked) two_refs (long, (short, tt));
      cut = (
        chain_in worked first_ref ∷ [],
        chain_in worked second_ref ∷ [],
        refl,
        one_chain (vertex 0 0 true a) (vertex 0 1 false b ∷ vertex 0 2 true c ∷ []) (omega arith) (omega arith)
            (Increasing (Left first.across, (Left second.across, tt))) (Increasing (Left first.up, (Left second.up, tt))),
        (
          chain_in worked second_ref ∷ [],
          [],
          refl,
          one_chain (vertex 1 0 true d) (vertex 1 1 true e ∷ []) (omega arith) (omega arith) (Increasing (Left third.across, tt))
              (Increasing (Left third.up, tt)),
          refl,
        ),
      );
    }

pub chains_of_map : (m : Map) (refs : List ChainRef) (a b c d e : Place) → m.arcs ≡ two_arcs a b c d e → refs ≡ two_refs → IsRising a b
    → IsRising b c → IsRising d e → AreChainsIn m refs
chains_of_map m refs a b c d e arcs are first second third =
    subst (λ xs. AreChainsIn (with_arcs m xs) refs) (sym arcs)
    (subst (λ rs. AreChainsIn (with_arcs m (two_arcs a b c d e)) rs) (sym are) (are_chains m a b c d e first second third))

-- the first chain has two edges
pub first_is_long : (m : Map) (refs : List ChainRef) (w : Work) → refs ≡ two_refs → w ≡ work_of m refs
    → length (chain_at w.chains 0).rest ≡ 2
first_is_long m refs w are is =
    ap (λ (v : Work). length (chain_at v.chains 0).rest) is ∙ ap (λ (rs : List ChainRef). length (chain_at (work_of m rs).chains 0).rest)
    are

-- its ends may be kept alone
pub ends_are_kept : (c : Chain) → length c.rest ≡ 2 → AreKeptIn c (0 ∷ 2 ∷ [])
ends_are_kept c long = record {
  rising = λ k below. let first : k ≡ 0 = omega arith in rw first (omega arith);
  some = omega arith;
  first = refl;
  last = sym long;
}

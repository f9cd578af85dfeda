-- A map is cut into one list of chains, and the chains tell where they lie.
use Rattle.std.proofs.Common.{◌≡◌, ◌∙◌, ℕ, suc, ◌+◌, ◌-◌, List, [], ◌∷◌, ◌++◌, All, map, length, refl, sym, ap, subst, arith, length-append}
use Rattle.std.proofs.lemmas.List.FromFn.{length-map-range_with_len}
use Rattle.grid_exact.specs.Geometry.{Place}
use Rattle.grid_exact.specs.Walks.{end_of}
use Rattle.grid_exact.specs.declared.frame.Frame.{Frame}
use Rattle.grid_exact.specs.declared.frame.Frame.TheVariants.{Plain, Turned}
use Rattle.arc_map.specs.Map.{Map}
use Rattle.arc_map.specs.Vertices.{Vertex}
use Rattle.arc_map.specs.Chains.{Chain}
use Rattle.arc_map.specs.Arcs.{IsFurthest, IsNextChain, IsCutInto, IsListCutInto, AreChainsOf, vertices_from}
use Rattle.arc_map.specs.Arcs.IsNextChain.{PlainReaches, TurnedReaches}
use Rattle.arc_map.specs.Work.{vertex_in, chain_in, LiesInArc, AreChainsIn}
use Rattle.arc_map.specs.declared.refs.ChainRef.{ChainRef}

-- ---- lists joined

-- two cuts of one list at one place
record SameCut (xs ys rest more : List Vertex) : Type 0 where
  front : xs ≡ ys
  back : rest ≡ more

same_cut : (xs ys rest more : List Vertex) → xs ++ rest ≡ ys ++ more → length xs ≡ length ys → SameCut xs ys rest more
same_cut [] [] rest more whole count = record { front = refl; back = whole }
same_cut [] (y ∷ ys) rest more whole count = absurd (omega arith)
same_cut (x ∷ xs) [] rest more whole count = absurd (omega arith)
same_cut (x ∷ xs) (y ∷ ys) rest more whole count =
    let head : x ≡ y = cc in
    let tail : xs ++ rest ≡ ys ++ more = cc in
    let later = same_cut xs ys rest more tail (omega arith) in
    let front = later.front in
    record { front = cc; back = later.back }

-- ---- the chain that is cut off a walk

furthest_is_one : (frame : Frame) (v : Vertex) (ws run other : List Vertex) → IsFurthest frame v ws run → IsFurthest frame v ws other
    → run ≡ other
furthest_is_one frame v ws run other first second =
    let same : length run ≡ length other =
    omega (
      arith,
      first.furthest other second.rest second.starts second.within second.one_way,
      second.furthest run first.rest first.starts
          first.within first.one_way,
    ) in
    (same_cut run other first.rest second.rest (sym first.starts ∙ second.starts) same).front

record SameWay (k l : Chain) : Type 0 where
  frame : k.frame ≡ l.frame
  rest : k.rest ≡ l.rest

next_is_one : (v : Vertex) (ws : List Vertex) (k l : Chain) → IsNextChain v ws k → IsNextChain v ws l → SameWay k l
next_is_one v ws k l (PlainReaches other is plain turned longer) (PlainReaches other' is' plain' turned' longer') =
    record { frame = is ∙ sym is'; rest = furthest_is_one Plain v ws k.rest l.rest plain plain' }
next_is_one v ws k l (PlainReaches other is plain turned longer) (TurnedReaches other' is' plain' turned' less) =
    let first = ap length (furthest_is_one Plain v ws k.rest other' plain plain') in
    let second = ap length (furthest_is_one Turned v ws other l.rest turned turned') in
    absurd (omega arith)
next_is_one v ws k l (TurnedReaches other is plain turned less) (PlainReaches other' is' plain' turned' longer') =
    let first = ap length (furthest_is_one Plain v ws other l.rest plain plain') in
    let second = ap length (furthest_is_one Turned v ws k.rest other' turned turned') in
    absurd (omega arith)
next_is_one v ws k l (TurnedReaches other is plain turned less) (TurnedReaches other' is' plain' turned' less') =
    record { frame = is ∙ sym is'; rest = furthest_is_one Turned v ws k.rest l.rest turned turned' }

same_chain : (k l : Chain) → k.first ≡ l.first → SameWay k l → k ≡ l
same_chain k l first way =
    ap (λ (f : Frame). record { frame = f; first = k.first; rest = k.rest }) way.frame
    ∙ ap (λ (v : Vertex). record { frame = l.frame; first = v; rest = k.rest }) first
    ∙ ap (λ (vs : List Vertex). record { frame = l.frame; first = l.first; rest = vs }) way.rest

-- ---- the chains of a walk, of an arc and of a map

none_left : (v : Vertex) (ws : List Vertex) (k : Chain) (ks : List Chain) → ws ≡ [] → IsCutInto v ws (k ∷ ks) → ⊥
none_left v ws k ks none cut =
    let some = cut.5 in
    omega (arith, ap length (sym none ∙ cut.3), length-append k.rest cut.2)

walk_is_cut_once : (v : Vertex) (ws : List Vertex) (ks ls : List Chain) → IsCutInto v ws ks → IsCutInto v ws ls → ks ≡ ls
walk_is_cut_once v ws [] [] first second = refl
walk_is_cut_once v ws [] (l ∷ ls) first second = absurd (none_left v ws l ls first second)
walk_is_cut_once v ws (k ∷ ks) [] first second = absurd (none_left v ws k ks second first)
walk_is_cut_once v ws (k ∷ ks) (l ∷ ls) first second =
    let way = next_is_one v ws k l first.1 second.1 in
    let head = same_chain k l (first.0 ∙ sym second.0) way in
    let parts = same_cut k.rest l.rest first.2 second.2 (sym first.3 ∙ second.3) (ap length way.rest) in
    let at_end = subst (λ (us : List Vertex). IsCutInto (end_of v us) second.2 ls) (sym way.rest) second.4 in
    let later = walk_is_cut_once (end_of v k.rest) first.2 ks ls first.4
    (subst (λ (us : List Vertex). IsCutInto (end_of v k.rest) us ls) (sym parts.back) at_end) in
    cc

list_is_cut_once : (vs : List Vertex) (ks ls : List Chain) → IsListCutInto vs ks → IsListCutInto vs ls → ks ≡ ls
list_is_cut_once [] ks ls first second = first ∙ sym second
list_is_cut_once (v ∷ vs) ks ls first second = walk_is_cut_once v vs ks ls first second

pub arcs_are_cut_once : (arc : ℕ) (pss : List (List Place)) (ks ls : List Chain) → AreChainsOf arc pss ks → AreChainsOf arc pss ls → ks ≡ ls
arcs_are_cut_once arc [] ks ls first second = first ∙ sym second
arcs_are_cut_once arc (ps ∷ pss) ks ls first second =
    let here = list_is_cut_once (vertices_from arc 0 ps) first.0 second.0 first.3 second.3 in
    let later = arcs_are_cut_once (suc arc) pss first.1 second.1 first.4 second.4 in
    first.2 ∙ ap (λ (xs : List Chain). xs ++ first.1) here ∙ ap (λ (xs : List Chain). second.0 ++ xs) later ∙ sym second.2

-- ---- where the chains lie

same_fields : (r s : ChainRef) → r.arc ≡ s.arc → r.«from» ≡ s.«from» → r.to ≡ s.to → r.frame ≡ s.frame → r ≡ s
same_fields r s arc start last frame =
    ap (λ (n : ℕ). record { arc = n; «from» = r.«from»; to = r.to; frame = r.frame }) arc
    ∙ ap (λ (n : ℕ). record { arc = s.arc; «from» = n; to = r.to; frame = r.frame }) start
    ∙ ap (λ (n : ℕ). record { arc = s.arc; «from» = s.«from»; to = n; frame = r.frame }) last
    ∙ ap (λ (f : Frame). record { arc = s.arc; «from» = s.«from»; to = s.to; frame = f }) frame

same_ref : (m : Map) (r s : ChainRef) → LiesInArc m r → LiesInArc m s → chain_in m r ≡ chain_in m s → r ≡ s
same_ref m r s first second same =
    let arc : r.arc ≡ s.arc = ap (λ (k : Chain). k.first.arc) same in
    let start : r.«from» ≡ s.«from» = ap (λ (k : Chain). k.first.at) same in
    let frame : r.frame ≡ s.frame = ap (λ (k : Chain). k.frame) same in
    let count : length (chain_in m r).rest ≡ length (chain_in m s).rest = ap (λ (k : Chain). length k.rest) same in
    let own = length-map-range_with_len (vertex_in m r.arc) (r.«from» + 1) (r.to - r.«from») in
    let other = length-map-range_with_len (vertex_in m s.arc) (s.«from» + 1) (s.to - s.«from») in
    let some = first.edge in
    let some' = second.edge in
    let last : r.to ≡ s.to = omega arith in
    same_fields r s arc start last frame

same_refs : (m : Map) (refs others : List ChainRef) → All (LiesInArc m) refs → All (LiesInArc m) others
    → map (chain_in m) refs ≡ map (chain_in m) others → refs ≡ others
same_refs m [] [] first second same = refl
same_refs m [] (s ∷ ss) first second same = cc
same_refs m (r ∷ rs) [] first second same = cc
same_refs m (r ∷ rs) (s ∷ ss) first second same =
    let head : chain_in m r ≡ chain_in m s = cc in
    let tail : map (chain_in m) rs ≡ map (chain_in m) ss = cc in
    let one = same_ref m r s (first 0 r (omega arith)) (second 0 s (omega arith)) head in
    let later = same_refs m rs ss (λ k d below. first (suc k) d (omega arith)) (λ k d below. second (suc k) d (omega arith)) tail in
    cc

-- the chains of a map lie in one list of places
pub chains_lie_once : (m : Map) (refs others : List ChainRef) → AreChainsIn m refs → AreChainsIn m others → refs ≡ others
chains_lie_once m refs others first second =
    same_refs m refs others first.lie second.lie (arcs_are_cut_once 0 m.arcs (map (chain_in m) refs) (map (chain_in m) others) first.cut
    second.cut)

-- The chains into which arcs are cut.
use Rattle.std.proofs.Common.{◌≡◌, ◌≢◌, inl, inr, ℕ, zero, suc, ◌+◌, ◌<◌, ◌≤◌, Bool, true, false, List, [], ◌∷◌, ◌++◌, length, refl, sym}
use Rattle.std.proofs.Common.{ap, subst, ◌∙◌, arith, append_assoc}
use Rattle.grid_exact.specs.declared.frame.Frame.{Frame}
use Rattle.grid_exact.specs.Geometry.{Place}
use Rattle.grid_exact.specs.Walks.{EachEdge, end_of}
use Rattle.arc_map.specs.Vertices.{Vertex, places}
use Rattle.grid_exact.specs.Runs.{IsEdgeOf, IsMonotone}
use Rattle.arc_map.specs.Clear.{IsWithinChain, EachButLast}
use Rattle.arc_map.specs.Chains.{Chain, no_chain, chain_at, IsOtherEdge, AreChains}
use Rattle.arc_map.specs.Edges.{Edge, edges_of, edges_of_all, EachOf, EachTwo, EdgesAreArranged}
use Rattle.arc_map.specs.Arcs.{vertices_from, edges_of_list, edges_of_arcs, IsNextChain, IsCutInto, IsListCutInto, AreChainsOf}
use Rattle.arc_map.specs.Arcs.IsNextChain.{PlainReaches, TurnedReaches}
use Rattle.grid_exact.specs.Runs.IsMonotone.{Increasing}
use Rattle.monotone_split.specs.Laws.{ChainsCutMap}
use Rattle.monotone_split.proofs.Arranged.{arranged_by_chains, of_both, two_joined}
use Rattle.monotone_split.proofs.Maps.{but_last_mapped}

-- ---- the edges are the same

pub edges_of-append : (v : Vertex) (run rest : List Vertex) → edges_of v (run ++ rest) ≡ edges_of v run ++ edges_of (end_of v run) rest
edges_of-append v [] rest = refl
edges_of-append v (w ∷ ws) rest = ap (λ (es : List Edge). record { start = v; end = w } ∷ es) (edges_of-append w ws rest)

edges_of-cut : (v : Vertex) (ws : List Vertex) (ks : List Chain) → IsCutInto v ws ks → edges_of_all ks ≡ edges_of v ws
edges_of-cut v ws [] cut = ap (edges_of v) (sym cut)
edges_of-cut v ws (k ∷ ks) cut =
    ap (λ (x : Vertex). edges_of x k.rest ++ edges_of_all ks) cut.0
    ∙ ap (λ (es : List Edge). edges_of v k.rest ++ es) (edges_of-cut (end_of v k.rest) cut.2 ks cut.4)
    ∙ sym (edges_of-append v k.rest cut.2)
    ∙ ap (edges_of v) (sym cut.3)

pub edges_of_list-cut : (vs : List Vertex) (ks : List Chain) → IsListCutInto vs ks → edges_of_all ks ≡ edges_of_list vs
edges_of_list-cut [] ks cut = ap edges_of_all cut
edges_of_list-cut (v ∷ vs) ks cut = edges_of-cut v vs ks cut

pub edges_of_all-append : (ks ls : List Chain) → edges_of_all (ks ++ ls) ≡ edges_of_all ks ++ edges_of_all ls
edges_of_all-append [] ls = refl
edges_of_all-append (k ∷ ks) ls = ap (λ (es : List Edge). edges_of k.first k.rest ++ es) (edges_of_all-append ks ls)
    ∙ sym (append_assoc (edges_of k.first k.rest) (edges_of_all ks) (edges_of_all ls))

pub edges_of_arcs-cut : (arc : ℕ) (pss : List (List Place)) (ks : List Chain) → AreChainsOf arc pss ks
    → edges_of_all ks ≡ edges_of_arcs arc pss
edges_of_arcs-cut arc [] ks cut = ap edges_of_all cut
edges_of_arcs-cut arc (ps ∷ pss) ks cut =
    ap edges_of_all cut.2
    ∙ edges_of_all-append cut.0 cut.1
    ∙ ap (λ (es : List Edge). es ++ edges_of_all cut.1) (edges_of_list-cut (vertices_from arc 0 ps) cut.0 cut.3)
    ∙ ap (λ (es : List Edge). edges_of_list (vertices_from arc 0 ps) ++ es) (edges_of_arcs-cut (suc arc) pss cut.1 cut.4)

-- ---- each chain by itself

-- a chain within an arc: it is monotone, of one arc, its vertices are numbered on from its first, and none but its ends may end the arc
pub record IsPart (k : Chain) : Type 0 where
  pub monotone : IsMonotone k.frame k.first.place (places k.rest)
  pub one_arc : EachEdge (λ a b. (a.arc ≡ b.arc) × (b.at ≡ suc a.at)) k.first k.rest
  pub no_end : EachButLast (λ v. v.is_end ≡ false) k.rest

pub next_monotone : (v : Vertex) (ws : List Vertex) (k : Chain) → k.first ≡ v → IsNextChain v ws k
    → IsMonotone k.frame k.first.place (places k.rest)
next_monotone v ws k e (PlainReaches other f plain turned longer) =
    subst (λ (x : Vertex). IsMonotone k.frame x.place (places k.rest)) (sym e)
    (subst (λ (x : Frame). IsMonotone x v.place (places k.rest)) (sym f) plain.one_way)
next_monotone v ws k e (TurnedReaches other f plain turned longer) =
    subst (λ (x : Vertex). IsMonotone k.frame x.place (places k.rest)) (sym e)
    (subst (λ (x : Frame). IsMonotone x v.place (places k.rest)) (sym f) turned.one_way)

each_first : (P : Vertex → Vertex → Type 0) (v : Vertex) (run rest : List Vertex) → EachEdge P v (run ++ rest) → EachEdge P v run
each_first P v [] rest h = tt
each_first P v (w ∷ ws) rest h = (h.0, each_first P w ws rest h.1)

each_later : (P : Vertex → Vertex → Type 0) (v : Vertex) (run rest : List Vertex) → EachEdge P v (run ++ rest)
    → EachEdge P (end_of v run) rest
each_later P v [] rest h = h
each_later P v (w ∷ ws) rest h = each_later P w ws rest h.1

but_last_first : (P : Vertex → Type 0) (run rest : List Vertex) → EachButLast P (run ++ rest) → EachButLast P run
but_last_first P [] rest h = tt
but_last_first P (v ∷ []) rest h = tt
but_last_first P (v ∷ w ∷ ws) rest h = (h.0, but_last_first P (w ∷ ws) rest h.1)

but_last_later : (P : Vertex → Type 0) (run rest : List Vertex) → EachButLast P (run ++ rest) → EachButLast P rest
but_last_later P [] rest h = h
but_last_later P (v ∷ []) [] h = tt
but_last_later P (v ∷ []) (w ∷ ws) h = h.1
but_last_later P (v ∷ w ∷ ws) rest h = but_last_later P (w ∷ ws) rest h.1

abbrev pub IsNumberedOn : Vertex → Vertex → Type 0
IsNumberedOn a b = (a.arc ≡ b.arc) × (b.at ≡ suc a.at)

parts_of_walk : (v : Vertex) (ws : List Vertex) (ks : List Chain) → EachEdge IsNumberedOn v ws → EachButLast (λ x. x.is_end ≡ false) ws
    → IsCutInto v ws ks → EachOf IsPart ks
parts_of_walk v ws [] numbered no_end cut = tt
parts_of_walk v ws (k ∷ ks) numbered no_end cut =
    let numbered' = subst (λ (us : List Vertex). EachEdge IsNumberedOn v us) cut.3 numbered in
    let no_end' = subst (λ (us : List Vertex). EachButLast (λ x. x.is_end ≡ false) us) cut.3 no_end in (
      record {
        monotone = next_monotone v ws k cut.0 cut.1;
        one_arc = subst (λ (x : Vertex). EachEdge IsNumberedOn x k.rest) (sym cut.0) (each_first IsNumberedOn v k.rest cut.2 numbered');
        no_end = but_last_first (λ x. x.is_end ≡ false) k.rest cut.2 no_end';
      },
      parts_of_walk (end_of v k.rest) cut.2 ks (each_later IsNumberedOn v k.rest cut.2 numbered')
          (but_last_later (λ x. x.is_end ≡ false) k.rest cut.2 no_end') cut.4,
    )

-- the vertices of an arc

pub numbered_from : (arc at : ℕ) (is_end : Bool) (p : Place) (ps : List Place)
    → EachEdge IsNumberedOn (record { arc = arc; at = at; is_end = is_end; place = p }) (vertices_from arc (suc at) ps)
numbered_from arc at is_end p [] = tt
numbered_from arc at is_end p (q ∷ []) = ((refl, refl), tt)
numbered_from arc at is_end p (q ∷ r ∷ rs) = ((refl, refl), numbered_from arc (suc at) false q (r ∷ rs))

no_end_from : (arc at : ℕ) (ps : List Place) → EachButLast (λ x. x.is_end ≡ false) (vertices_from arc (suc at) ps)
no_end_from arc at [] = tt
no_end_from arc at (p ∷ []) = tt
no_end_from arc at (p ∷ q ∷ []) = (refl, tt)
no_end_from arc at (p ∷ q ∷ r ∷ rs) = (refl, no_end_from arc (suc at) (q ∷ r ∷ rs))

-- ---- the chains have no vertex in common but their ends

-- an edge of a numbered walk
record IsInRange (v : Vertex) (size : ℕ) (c d : Vertex) : Type 0 where
  start_arc : c.arc ≡ v.arc
  end_arc : d.arc ≡ v.arc
  low : v.at ≤ c.at
  next : d.at ≡ suc c.at
  high : d.at ≤ v.at + size

edge_in_range : (v : Vertex) (ws : List Vertex) (c d : Vertex) → EachEdge IsNumberedOn v ws → IsEdgeOf v ws c d
    → IsInRange v (length ws) c d
edge_in_range v [] c d numbered e = absurd e
edge_in_range v (w ∷ ws) c d numbered (inl e) =
    let vc : v.at ≡ c.at = ap (λ (x : Vertex). x.at) e.0 in
    let wd : w.at ≡ d.at = ap (λ (x : Vertex). x.at) e.1 in
    let step = numbered.0.1 in
    record {
      start_arc = sym (ap (λ (x : Vertex). x.arc) e.0);
      end_arc = sym (numbered.0.0 ∙ ap (λ (x : Vertex). x.arc) e.1);
      low = omega arith;
      next = sym wd ∙ step ∙ ap suc vc;
      high = omega arith;
    }
edge_in_range v (w ∷ ws) c d numbered (inr e) =
    let later = edge_in_range w ws c d numbered.1 e in
    let step = numbered.0.1 in
    let low = later.low in let high = later.high in
    record {
      start_arc = later.start_arc ∙ sym numbered.0.0;
      end_arc = later.end_arc ∙ sym numbered.0.0;
      low = omega arith;
      next =
          later.next;
      high = omega arith;
    }

-- a vertex of a numbered walk that is neither its first nor its last
record IsInner (v : Vertex) (size : ℕ) (x : Vertex) : Type 0 where
  arc : x.arc ≡ v.arc
  low : v.at < x.at
  high : x.at < v.at + size

inner_in_range : (v : Vertex) (ws : List Vertex) → EachEdge IsNumberedOn v ws → EachButLast (IsInner v (length ws)) ws
inner_in_range v [] numbered = tt
inner_in_range v (w ∷ []) numbered = tt
inner_in_range v (w ∷ x ∷ xs) numbered =
    let step = numbered.0.1 in (
      record { arc = sym numbered.0.0; low = omega arith; high = omega arith },
      but_last_mapped (IsInner w (length (x ∷ xs))) (IsInner v (length (w ∷ x ∷ xs))) (λ y h. wider v w y (length (x ∷ xs)) numbered.0 h)
          (x ∷ xs) (inner_in_range w (x ∷ xs) numbered.1),
    )
  where
    wider : (v w y : Vertex) (n : ℕ) → IsNumberedOn v w → IsInner w n y → IsInner v (suc n) y
    wider v w y n step h = let s = step.1 in let low = h.low in let high = h.high in
        record { arc = h.arc ∙ sym step.0; low = omega arith; high = omega arith }

-- two chains of different arcs, or one after the other
pub data AreApart (k l : Chain) : Type 0 where
  OtherArcs : k.first.arc ≢ l.first.arc → AreApart k l
  Earlier : k.first.at + length k.rest ≤ l.first.at → AreApart k l
  Later : l.first.at + length l.rest ≤ k.first.at → AreApart k l

apart_swapped : (k l : Chain) → AreApart k l → AreApart l k
apart_swapped k l (OtherArcs h) = OtherArcs (λ e. h (sym e))
apart_swapped k l (Earlier h) = Later h
apart_swapped k l (Later h) = Earlier h

inner_apart : (k l : Chain) (x c d : Vertex) → AreApart k l → IsInner k.first (length k.rest) x → IsInRange l.first (length l.rest) c d
    → (¬ (x ≡ c)) × (¬ (x ≡ d))
inner_apart k l x c d (OtherArcs h) inner edge = (
  (λ e. h (sym inner.arc ∙ ap (λ (y : Vertex). y.arc) e ∙ edge.start_arc)),
  (λ e.
      h (sym inner.arc ∙ ap (λ (y : Vertex). y.arc) e ∙ edge.end_arc)),
)
inner_apart k l x c d (Earlier h) inner edge =
    let high = inner.high in let low = edge.low in let next = edge.next in (
      (λ e. let f : x.at ≡ c.at = ap (λ (y : Vertex). y.at) e in omega arith),
      (λ e. let f : x.at ≡ d.at = ap (λ (y : Vertex). y.at) e in
          omega arith),
    )
inner_apart k l x c d (Later h) inner edge =
    let low = inner.low in let high = edge.high in let next = edge.next in (
      (λ e. let f : x.at ≡ c.at = ap (λ (y : Vertex). y.at) e in omega arith),
      (λ e. let f : x.at ≡ d.at = ap (λ (y : Vertex). y.at) e in
          omega arith),
    )

last_number : (v : Vertex) (run : List Vertex) → EachEdge IsNumberedOn v run
    → ((end_of v run).at ≡ v.at + length run) × ((end_of v run).arc ≡ v.arc)
last_number v [] numbered = (omega arith, refl)
last_number v (w ∷ ws) numbered =
    let later = last_number w ws numbered.1 in
    let e = later.0 in let step = numbered.0.1 in
    (omega arith, later.1 ∙ sym numbered.0.0)

-- the chains of a walk begin in its arc, at its first vertex or later
record BeginsFrom (v : Vertex) (k : Chain) : Type 0 where
  arc : k.first.arc ≡ v.arc
  low : v.at ≤ k.first.at

pub of_mapped : {A : Type 0} (P Q : A → Type 0) → ((x : A) → P x → Q x) → (xs : List A) → EachOf P xs → EachOf Q xs
of_mapped P Q f [] h = tt
of_mapped P Q f (x ∷ xs) h = (f x h.0, of_mapped P Q f xs h.1)

begin_from : (v : Vertex) (ws : List Vertex) (ks : List Chain) → EachEdge IsNumberedOn v ws → IsCutInto v ws ks → EachOf (BeginsFrom v) ks
begin_from v ws [] numbered cut = tt
begin_from v ws (k ∷ ks) numbered cut =
    let numbered' = subst (λ (us : List Vertex). EachEdge IsNumberedOn v us) cut.3 numbered in
    let last = last_number v k.rest (each_first IsNumberedOn v k.rest cut.2 numbered') in
    let same : k.first.at ≡ v.at = ap (λ (x : Vertex). x.at) cut.0 in (
      record { arc = ap (λ (x : Vertex). x.arc) cut.0; low = omega arith },
      of_mapped (BeginsFrom (end_of v k.rest)) (BeginsFrom v) (λ l h. let e = last.0 in let low = h.low in
          record { arc = h.arc ∙ last.1; low = omega arith }) ks
          (begin_from (end_of v k.rest) cut.2 ks (each_later IsNumberedOn v k.rest cut.2 numbered') cut.4),
    )

apart_of_walk : (v : Vertex) (ws : List Vertex) (ks : List Chain) → EachEdge IsNumberedOn v ws → IsCutInto v ws ks → EachTwo AreApart ks
apart_of_walk v ws [] numbered cut = tt
apart_of_walk v ws (k ∷ ks) numbered cut =
    let numbered' = subst (λ (us : List Vertex). EachEdge IsNumberedOn v us) cut.3 numbered in
    let rest = each_later IsNumberedOn v k.rest cut.2 numbered' in
    let last = last_number v k.rest (each_first IsNumberedOn v k.rest cut.2 numbered') in
    let same : k.first.at ≡ v.at = ap (λ (x : Vertex). x.at) cut.0 in (
      of_mapped (BeginsFrom (end_of v k.rest)) (AreApart k) (λ l h. let e = last.0 in let low = h.low in Earlier (omega arith)) ks
          (begin_from (end_of v k.rest) cut.2 ks rest cut.4),
      apart_of_walk (end_of v k.rest) cut.2 ks rest cut.4,
    )

pub record ArePartsFrom (arc : ℕ) (ks : List Chain) : Type 0 where
  pub parts : EachOf IsPart ks
  pub arcs : EachOf (λ k. arc ≤ k.first.arc) ks
  pub apart : EachTwo AreApart ks

-- the chains of one arc
pub record ArePartsOf (arc : ℕ) (ks : List Chain) : Type 0 where
  pub parts : EachOf IsPart ks
  pub arcs : EachOf (λ k. k.first.arc ≡ arc) ks
  pub apart : EachTwo AreApart ks

none_of : (P : Chain → Type 0) (ks : List Chain) → ks ≡ [] → EachOf P ks
none_of P ks e = subst (λ (ls : List Chain). EachOf P ls) (sym e) tt

pub parts_of_arc : (arc : ℕ) (ps : List Place) (ks : List Chain) → IsListCutInto (vertices_from arc 0 ps) ks → ArePartsOf arc ks
parts_of_arc arc [] ks cut = record {
  parts = none_of IsPart ks cut;
  arcs = none_of (λ k. k.first.arc ≡ arc) ks cut;
  apart =
      subst (λ (ls : List Chain). EachTwo AreApart ls) (sym cut) tt;
}
parts_of_arc arc (p ∷ []) ks cut =
    let v : Vertex = record { arc = arc; at = 0; is_end = true; place = p } in
    record {
      parts = parts_of_walk v [] ks tt tt cut;
      arcs = of_mapped (BeginsFrom v) (λ k. k.first.arc ≡ arc) (λ k h. h.arc) ks
          (begin_from v [] ks tt cut);
      apart = apart_of_walk v [] ks tt cut;
    }
parts_of_arc arc (p ∷ q ∷ qs) ks cut =
    let v : Vertex = record { arc = arc; at = 0; is_end = true; place = p } in
    let ws = vertices_from arc 1 (q ∷ qs) in
    let numbered : EachEdge IsNumberedOn v ws = numbered_from arc 0 true p (q ∷ qs) in
    record {
      parts = parts_of_walk v ws ks numbered (no_end_from arc 0 (q ∷ qs)) cut;
      arcs =
          of_mapped (BeginsFrom v) (λ k. k.first.arc ≡ arc) (λ k h. h.arc) ks (begin_from v ws ks numbered cut);
      apart =
          apart_of_walk v ws ks numbered cut;
    }

across_arcs : (arc : ℕ) (here later : List Chain) → EachOf (λ k. k.first.arc ≡ arc) here → EachOf (λ k. suc arc ≤ k.first.arc) later
    → EachOf (λ k. EachOf (AreApart k) later) here
across_arcs arc [] later h k = tt
across_arcs arc (x ∷ xs) later h k = (
  of_mapped (λ l. suc arc ≤ l.first.arc) (AreApart x) (λ l low. let e = h.0 in
      OtherArcs (λ f. omega arith)) later k,
  across_arcs arc xs later h.1 k,
)

pub parts_of_arcs : (arc : ℕ) (pss : List (List Place)) (ks : List Chain) → AreChainsOf arc pss ks → ArePartsFrom arc ks
parts_of_arcs arc [] ks cut = record {
  parts = none_of IsPart ks cut;
  arcs = none_of (λ k. arc ≤ k.first.arc) ks cut;
  apart =
      subst (λ (ls : List Chain). EachTwo AreApart ls) (sym cut) tt;
}
parts_of_arcs arc (ps ∷ pss) ks cut =
    let here = parts_of_arc arc ps cut.0 cut.3 in
    let later = parts_of_arcs (suc arc) pss cut.1 cut.4 in
    subst (λ (ls : List Chain). ArePartsFrom arc ls) (sym cut.2)
    (record {
      parts = of_both IsPart cut.0 cut.1 here.parts later.parts;
      arcs = of_both (λ k. arc ≤ k.first.arc) cut.0 cut.1 (of_mapped (λ k. k.first.arc ≡ arc) (λ k. arc ≤ k.first.arc) (λ k e. omega arith)
          cut.0 here.arcs) (of_mapped (λ k. suc arc ≤ k.first.arc) (λ k. arc ≤ k.first.arc) (λ k h. omega arith) cut.1 later.arcs);
      apart = two_joined AreApart cut.0 cut.1 here.apart later.apart (across_arcs arc cut.0 cut.1 here.arcs later.arcs);
    })

-- ---- by number

no_part : IsPart no_chain
no_part = record { monotone = Increasing tt; one_arc = tt; no_end = tt }

part_at : (ks : List Chain) (k : ℕ) → EachOf IsPart ks → IsPart (chain_at ks k)
part_at [] k h = no_part
part_at (x ∷ xs) zero h = h.0
part_at (x ∷ xs) (suc k) h = part_at xs k h.1

-- chain number k against an edge of chain number l
apart_of : (k : Chain) (ls : List Chain) (l : ℕ) (c d : Vertex) → EachOf (AreApart k) ls
    → IsEdgeOf (chain_at ls l).first (chain_at ls l).rest c d → AreApart k (chain_at ls l)
apart_of k [] l c d h e = absurd e
apart_of k (x ∷ xs) zero c d h e = h.0
apart_of k (x ∷ xs) (suc l) c d h e = apart_of k xs l c d h.1 e

-- what chain number k is apart from, unless it is past the end
data ApartAt (ks : List Chain) (k l : ℕ) : Type 0 where
  Apart : AreApart (chain_at ks k) (chain_at ks l) → ApartAt ks k l
  Past : (chain_at ks k).rest ≡ [] → ApartAt ks k l

apart_at : (ks : List Chain) (k l : ℕ) (c d : Vertex) → k ≢ l → EachTwo AreApart ks
    → IsEdgeOf (chain_at ks l).first (chain_at ks l).rest c d → ApartAt ks k l
apart_at [] k l c d other h e = absurd e
apart_at (x ∷ xs) zero zero c d other h e = absurd (other refl)
apart_at (x ∷ xs) zero (suc l) c d other h e = Apart (apart_of x xs l c d h.0 e)
apart_at (x ∷ xs) (suc k) zero c d other h e = behind xs k h.0
  where
    behind : (ys : List Chain) (k : ℕ) → EachOf (AreApart x) ys → ApartAt (x ∷ ys) (suc k) zero
    behind [] k h = Past refl
    behind (y ∷ ys) zero h = Apart (apart_swapped x y h.0)
    behind (y ∷ ys) (suc k) h = again (behind ys k h.1)
      where
        again : ApartAt (x ∷ ys) (suc k) zero → ApartAt (x ∷ y ∷ ys) (suc (suc k)) zero
        again (Apart g) = Apart g
        again (Past g) = Past g
apart_at (x ∷ xs) (suc k) (suc l) c d other h e = again (apart_at xs k l c d (λ f. other (ap suc f)) h.1 e)
  where
    again : ApartAt xs k l → ApartAt (x ∷ xs) (suc k) (suc l)
    again (Apart g) = Apart g
    again (Past g) = Past g

-- an inner vertex of chain number k is on no edge of another
inner_alone : (ks : List Chain) (k : ℕ) (x : Vertex) → EachOf IsPart ks → EachTwo AreApart ks → ¬ ((chain_at ks k).rest ≡ [])
    → x.is_end ≡ false → IsInner (chain_at ks k).first (length (chain_at ks k).rest) x → IsWithinChain (IsOtherEdge ks k) x
inner_alone ks k x parts apart some no_end inner =
    record { no_end = no_end; no_start_of = λ c d o. (alone c d o).0; no_end_of = λ c d o. (alone c d o).1 }
  where
    alone : (c d : Vertex) → IsOtherEdge ks k c d → (¬ (x ≡ c)) × (¬ (x ≡ d))
    alone c d o =
        elim (apart_at ks k o.chain c d (λ e. o.other (sym e)) apart o.edge) [
          | Apart h ↦ inner_apart (chain_at ks k) (chain_at ks o.chain) x c d h inner
              (edge_in_range (chain_at ks o.chain).first (chain_at ks o.chain).rest c d (part_at ks o.chain parts).one_arc o.edge)
          | Past e ↦ absurd (some e)
        ]

within_from : (ks : List Chain) (k : ℕ) → EachOf IsPart ks → EachTwo AreApart ks → (v : Vertex) (ws : List Vertex)
    → (¬ (ws ≡ []) → (x : Vertex) → x.is_end ≡ false → IsInner v (length ws) x → IsWithinChain (IsOtherEdge ks k) x)
    → EachEdge IsNumberedOn v ws → EachButLast (λ x. x.is_end ≡ false) ws → EachButLast (IsWithinChain (IsOtherEdge ks k)) ws
within_from ks k parts apart v [] f numbered no_end = tt
within_from ks k parts apart v (w ∷ ws) f numbered no_end = but_last_two (λ x. x.is_end ≡ false) (IsInner v (length (w ∷ ws)))
    (IsWithinChain (IsOtherEdge ks k)) (f (λ e. cc)) (w ∷ ws) no_end (inner_in_range v (w ∷ ws) numbered)
  where
    but_last_two : (P Q R : Vertex → Type 0) → ((x : Vertex) → P x → Q x → R x) → (ws : List Vertex) → EachButLast P ws → EachButLast Q ws
        → EachButLast R ws
    but_last_two P Q R f [] h k = tt
    but_last_two P Q R f (v ∷ []) h k = tt
    but_last_two P Q R f (v ∷ w ∷ ws) h k = (f v h.0 k.0, but_last_two P Q R f (w ∷ ws) h.1 k.1)

arcs_of_edges : (arc : ℕ) (v : Vertex) (ws : List Vertex) → v.arc ≡ arc → EachEdge IsNumberedOn v ws → EachEdge (λ a b. a.arc ≡ arc) v ws
arcs_of_edges arc v [] e h = tt
arcs_of_edges arc v (w ∷ ws) e h = (e, arcs_of_edges arc w ws (sym h.0.0 ∙ e) h.1)

pub chains_cut_map : ChainsCutMap
chains_cut_map m ks cut =
    let all = parts_of_arcs 0 m.arcs ks cut in
    let are : AreChains ks =
    record {
      monotone = λ k. (part_at ks k all.parts).monotone;
      one_arc = λ k. arcs_of_edges (chain_at ks k).first.arc (chain_at ks k).first (chain_at ks k).rest refl
          (part_at ks k all.parts).one_arc;
      within = λ k. within_from ks k all.parts all.apart (chain_at ks k).first (chain_at ks k).rest (λ some x no_end inner.
          inner_alone ks k x all.parts all.apart some no_end inner) (part_at ks k all.parts).one_arc (part_at ks k all.parts).no_end;
    } in
    let same : edges_of_all ks ≡ edges_of_arcs 0 m.arcs = edges_of_arcs-cut 0 m.arcs ks cut in
    record {
      are_chains = are;
      arranged = λ held.
          let both = arranged_by_chains held ks m.points are in (
            (λ h. both.0 (subst (λ (es : List Edge). EdgesAreArranged held es m.points) (sym same) h)),
            (λ h.
                subst (λ (es : List Edge). EdgesAreArranged held es m.points) same (both.1 h)),
          );
    }

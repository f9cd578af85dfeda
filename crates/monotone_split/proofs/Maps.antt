-- The law of one replacement, for a map as the list of its chains.
use Rattle.std.proofs.Common.{◌≡◌, ◌≢◌, inl, inr, ℕ, zero, suc, ◌<◌, nat_eq, Bool, true, false, List, [], ◌∷◌, ◌++◌, length, refl, sym, ap}
use Rattle.std.proofs.Common.{subst, ◌∙◌, set, get_or-set_same, get_or-set_other}
use Rattle.std.proofs.lemmas.Bool.{cases_eq}
use Rattle.std.specs.Prelude.{Contains}
use Rattle.grid_exact.specs.declared.frame.Frame.{Frame}
use Rattle.grid_exact.specs.Geometry.{Place, IsBefore}
use Rattle.grid_exact.specs.Walks.{EachEdge, differ}
use Rattle.grid_exact.proofs.Commons.{common_swapped}
use Rattle.grid_exact.proofs.Orders.{not_before_itself}
use Rattle.grid_exact.proofs.Walks.{each_edge_mapped}
use Rattle.arc_map.specs.Vertices.{Vertex, places, MayJoin, MeetLawfully}
use Rattle.arc_map.specs.Vertices.MayJoin.{One, BothEnd}
use Rattle.arc_map.specs.Vertices.IsJunction.{Starts, StartAndEnd, EndAndStart, Ends}
use Rattle.grid_exact.specs.Runs.{IsEdgeOf, IsMonotone}
use Rattle.arc_map.specs.Allowed.{IsAllowed, IsPath}
use Rattle.arc_map.specs.Clear.{IsClear, IsWithinChain, EachButLast}
use Rattle.arc_map.specs.Chains.{Chain, no_chain, chain_at, IsOtherEdge, AreChains, IsClearIn, IsWithinBound, IsPathIn, thinned}
use Rattle.arc_map.specs.Chains.{is_crossed_oddly}
use Rattle.arc_map.specs.Edges.{is_arc_crossed_oddly}
use Rattle.monotone_split.specs.Laws.{ReplacementKeepsMap}
use Rattle.monotone_split.proofs.RisingViews.{increases}
use Rattle.monotone_split.proofs.WalkParts.{edge_has, from_places, later_but_last}
use Rattle.monotone_split.proofs.Paths.{kept_others, kept_off, kept_crossed, kept_monotone, own_lawful}

join_swapped : (v w : Vertex) → MayJoin v w → MayJoin w v
join_swapped v w (One e) = One (sym e)
join_swapped v w (BothEnd e f) = BothEnd f e

pub lawful_swapped : (a b c d : Vertex) → MeetLawfully a b c d → MeetLawfully c d a b
lawful_swapped a b c d lawful h =
    elim (lawful (common_swapped a.place b.place c.place d.place h)) [
      | Starts e f m ↦ Starts f e (join_swapped a c m)
      | StartAndEnd e f m ↦ EndAndStart f e (join_swapped a d m)
      | EndAndStart e f m ↦ StartAndEnd f e (join_swapped b c m)
      | Ends e f m ↦ Ends f e (join_swapped b d m)
    ]

pub each_edge_from : (P : Vertex → Vertex → Type 0) (v : Vertex) (ws : List Vertex) → ((a b : Vertex) → IsEdgeOf v ws a b → P a b)
    → EachEdge P v ws
each_edge_from P v [] f = tt
each_edge_from P v (w ∷ ws) f = (f v w (inl (refl, refl)), each_edge_from P w ws (λ a b e. f a b (inr e)))

abbrev with_rest : Chain → List Vertex → Chain
with_rest k kept = record { frame = k.frame; first = k.first; rest = kept }

pub chain_thinned : (chains : List Chain) (k : ℕ) (kept : List Vertex) → k < length chains
    → chain_at (thinned chains k kept) k ≡ with_rest (chain_at chains k) kept
chain_thinned chains k kept within = get_or-set_same chains k (with_rest (chain_at chains k) kept) no_chain within

pub chain_same : (chains : List Chain) (k l : ℕ) (kept : List Vertex) → l ≢ k → chain_at (thinned chains k kept) l ≡ chain_at chains l
chain_same chains k l kept other = get_or-set_other chains k l (with_rest (chain_at chains k) kept) no_chain other

-- ---- edges of kept vertices and of the chain

record EdgeFrom (v : Vertex) (ws : List Vertex) (c : Vertex) : Type 0 where
  to : Vertex
  edge : IsEdgeOf v ws c to

record EdgeTo (v : Vertex) (ws : List Vertex) (d : Vertex) : Type 0 where
  from : Vertex
  edge : IsEdgeOf v ws from d

later_edge : (v : Vertex) (skipped : List Vertex) (w : Vertex) (rest : List Vertex) (c d : Vertex) → IsEdgeOf w rest c d
    → IsEdgeOf v (skipped ++ w ∷ rest) c d
later_edge v [] w rest c d e = inr e
later_edge v (k ∷ ks) w rest c d e = inr (later_edge k ks w rest c d e)

edge_from_first : (v : Vertex) (skipped : List Vertex) (w : Vertex) (rest : List Vertex) → EdgeFrom v (skipped ++ w ∷ rest) v
edge_from_first v [] w rest = record { to = w; edge = inl (refl, refl) }
edge_from_first v (k ∷ ks) w rest = record { to = k; edge = inl (refl, refl) }

edge_to_kept : (v : Vertex) (skipped : List Vertex) (w : Vertex) (rest : List Vertex) → EdgeTo v (skipped ++ w ∷ rest) w
edge_to_kept v [] w rest = record { from = v; edge = inl (refl, refl) }
edge_to_kept v (k ∷ ks) w rest = let later = edge_to_kept k ks w rest in record { from = later.from; edge = inr later.edge }

kept_starts : (Allowed : Vertex → List Vertex → Vertex → Type 0) (v : Vertex) (ws kept : List Vertex) (c d : Vertex)
    → IsPath Allowed v ws kept → IsEdgeOf v kept c d → EdgeFrom v ws c
kept_starts Allowed v ws [] c d path e = absurd e
kept_starts Allowed v ws (w ∷ kept) c d path (inl e) =
    subst (λ (us : List Vertex). EdgeFrom v us c) (sym path.2) (subst (λ (x : Vertex). EdgeFrom v (path.0 ++ w ∷ path.1) x) e.0
    (edge_from_first v path.0 w path.1))
kept_starts Allowed v ws (w ∷ kept) c d path (inr e) =
    let later = kept_starts Allowed w path.1 kept c d path.4 e in
    subst (λ (us : List Vertex). EdgeFrom v us c) (sym path.2) (record {
      to = later.to;
      edge =
          later_edge v path.0 w path.1 c later.to later.edge;
    })

kept_ends : (Allowed : Vertex → List Vertex → Vertex → Type 0) (v : Vertex) (ws kept : List Vertex) (c d : Vertex)
    → IsPath Allowed v ws kept → IsEdgeOf v kept c d → EdgeTo v ws d
kept_ends Allowed v ws [] c d path e = absurd e
kept_ends Allowed v ws (w ∷ kept) c d path (inl e) =
    subst (λ (us : List Vertex). EdgeTo v us d) (sym path.2) (subst (λ (x : Vertex). EdgeTo v (path.0 ++ w ∷ path.1) x) e.1
    (edge_to_kept v path.0 w path.1))
kept_ends Allowed v ws (w ∷ kept) c d path (inr e) =
    let later = kept_ends Allowed w path.1 kept c d path.4 e in
    subst (λ (us : List Vertex). EdgeTo v us d) (sym path.2) (record {
      from = later.from;
      edge =
          later_edge v path.0 w path.1 later.from d later.edge;
    })

-- ---- vertices within a chain

pub but_last_mapped : (P Q : Vertex → Type 0) → ((v : Vertex) → P v → Q v) → (ws : List Vertex) → EachButLast P ws → EachButLast Q ws
but_last_mapped P Q f [] h = tt
but_last_mapped P Q f (v ∷ []) h = tt
but_last_mapped P Q f (v ∷ w ∷ ws) h = (f v h.0, but_last_mapped P Q f (w ∷ ws) h.1)

before_more : (P : Vertex → Type 0) (skipped : List Vertex) (w : Vertex) (more : List Vertex) (x : Vertex) (rest : List Vertex)
    → EachButLast P (skipped ++ w ∷ (more ++ x ∷ rest)) → P w
before_more P [] w [] x rest h = h.0
before_more P [] w (m ∷ ms) x rest h = h.0
before_more P (k ∷ []) w more x rest h = before_more P [] w more x rest h.1
before_more P (k ∷ l ∷ ls) w more x rest h = before_more P (l ∷ ls) w more x rest h.1

kept_but_last : (Allowed : Vertex → List Vertex → Vertex → Type 0) (P : Vertex → Type 0) (v : Vertex) (ws kept : List Vertex)
    → EachButLast P ws → IsPath Allowed v ws kept → EachButLast P kept
kept_but_last Allowed P v ws [] h path = tt
kept_but_last Allowed P v ws (w ∷ []) h path = tt
kept_but_last Allowed P v ws (w ∷ x ∷ xs) h path =
    let h' = subst (λ (us : List Vertex). EachButLast P us) path.2 h in
    let onward = path.4 in (
      before_more P path.0 w onward.0 x onward.1 (subst (λ (us : List Vertex). EachButLast P (path.0 ++ w ∷ us)) onward.2 h'),
      kept_but_last Allowed P w path.1 (x ∷ xs) (later_but_last P path.0 w path.1 h') path.4,
    )

-- ---- the other edges before and after

other_before : (chains : List Chain) (k : ℕ) (kept : List Vertex) (c d : Vertex) → IsOtherEdge (thinned chains k kept) k c d
    → IsOtherEdge chains k c d
other_before chains k kept c d o = record {
  chain = o.chain;
  other = o.other;
  edge =
      subst (λ (x : Chain). IsEdgeOf x.first x.rest c d) (chain_same chains k o.chain kept o.other) o.edge;
}

-- an edge of another chain than l, after: it is an edge of the new chain, or was there before
data After (chains : List Chain) (k l : ℕ) (kept : List Vertex) (c d : Vertex) : Type 0 where
  New : IsEdgeOf (chain_at chains k).first kept c d → After chains k l kept c d
  Old : IsOtherEdge chains l c d → After chains k l kept c d

after : (chains : List Chain) (k l : ℕ) (kept : List Vertex) (c d : Vertex) → k < length chains → IsOtherEdge (thinned chains k kept) l c d
    → After chains k l kept c d
after chains k l kept c d within o =
    elim (cases_eq o.chain k) [
      | inl e ↦ New (subst (λ (x : Chain). IsEdgeOf x.first x.rest c d) (ap (λ (m : ℕ). chain_at (thinned chains k kept) m) e
          ∙ chain_thinned chains k kept within) o.edge)
      | inr other ↦ Old (record {
        chain = o.chain;
        other = o.other;
        edge =
            subst (λ (x : Chain). IsEdgeOf x.first x.rest c d) (chain_same chains k o.chain kept other) o.edge;
      })
    ]

-- the ends of an edge are two places
steps_apart : (frame : Frame) (v : Vertex) (ws : List Vertex) → IsMonotone frame v.place (places ws)
    → EachEdge (λ a b. ¬ (a.place ≡ b.place)) v ws
steps_apart frame v ws h = let way = increases frame v.place (places ws) h in
    from_places (λ a b. ¬ (a ≡ b)) v ws (each_edge_mapped (λ a b. IsBefore (way.view a) (way.view b)) (λ a b. ¬ (a ≡ b)) (λ a b k e.
    not_before_itself (way.view a) (way.view b) (ap way.view e) k) v.place (places ws) way.rising)

pub other_apart : (chains : List Chain) (k : ℕ) (c d : Vertex) → AreChains chains → IsOtherEdge chains k c d → ¬ (c.place ≡ d.place)
other_apart chains k c d are o = edge_has (λ a b. ¬ (a.place ≡ b.place)) (chain_at chains o.chain).first (chain_at chains o.chain).rest c d
    (steps_apart (chain_at chains o.chain).frame (chain_at chains o.chain).first (chain_at chains o.chain).rest (are.monotone o.chain))
    o.edge

-- ---- the law

-- the new chain, beside the map before
new_clear : (Near : Place → Place → Place → Type 0) (chains : List Chain) (points : List Place) (k : ℕ) (kept : List Vertex)
    → AreChains chains → IsClearIn chains points k → IsPathIn Near chains points k kept
    → IsClear (IsOtherEdge chains k) (Contains points) (chain_at chains k).first kept
new_clear Near chains points k kept are clear path =
    record {
      others = λ c d edge.
          kept_others Near (IsOtherEdge chains k) (Contains points) c d edge (other_apart chains k c d are edge) (chain_at chains k).first
          (chain_at chains k).rest kept
          (increases (chain_at chains k).frame (chain_at chains k).first.place (places (chain_at chains k).rest) (are.monotone k))
          (are.within k) (clear.others c d edge) path;
      own = own_lawful (chain_at chains k).frame (chain_at chains k).first kept
          (kept_monotone (IsAllowed Near (IsOtherEdge chains k) (Contains points)) (chain_at chains k).frame (chain_at chains k).first
          (chain_at chains k).rest kept (are.monotone k) path);
      points = λ p point. kept_off Near (IsOtherEdge chains k) (Contains points) p point (chain_at chains k).first (chain_at chains k).rest
          kept (clear.points p point) path;
    }

clear_after : (Near : Place → Place → Place → Type 0) (chains : List Chain) (points : List Place) (k : ℕ) (kept : List Vertex)
    → k < length chains → AreChains chains → IsClearIn chains points k → IsPathIn Near chains points k kept
    → IsClearIn (thinned chains k kept) points k
clear_after Near chains points k kept within are clear path =
    let new = new_clear Near chains points k kept are clear path in
    subst (λ (x : Chain). IsClear (IsOtherEdge (thinned chains k kept) k) (Contains points) x.first x.rest)
    (sym (chain_thinned chains k kept within))
    (record { others = λ c d o. new.others c d (other_before chains k kept c d o); own = new.own; points = new.points })

other_clear_after : (Near : Place → Place → Place → Type 0) (chains : List Chain) (points : List Place) (k : ℕ) (kept : List Vertex)
    → k < length chains → AreChains chains → IsClearIn chains points k → IsPathIn Near chains points k kept → (l : ℕ) → l ≢ k
    → IsClearIn chains points l → IsClearIn (thinned chains k kept) points l
other_clear_after Near chains points k kept within are clear path l other was =
    let new = new_clear Near chains points k kept are clear path in
    subst (λ (x : Chain). IsClear (IsOtherEdge (thinned chains k kept) l) (Contains points) x.first x.rest)
    (sym (chain_same chains k l kept other))
    (record {
      others = λ c d o.
          elim (after chains k l kept c d within o) [
            | New e ↦
                each_edge_from (λ a b. MeetLawfully a b c d) (chain_at chains l).first (chain_at chains l).rest
                (λ a b edge.
                lawful_swapped c d a b
                (edge_has (λ x y. MeetLawfully x y a b) (chain_at chains k).first kept c d
                (new.others a b (record { chain = l; other = other; edge = edge })) e))
            | Old e ↦ was.others c d e
          ];
      own = was.own;
      points = was.points;
    })

within_after : (Near : Place → Place → Place → Type 0) (chains : List Chain) (points : List Place) (k : ℕ) (kept : List Vertex)
    → k < length chains → IsPathIn Near chains points k kept → (l : ℕ) → l ≢ k → (v : Vertex) → IsWithinChain (IsOtherEdge chains l) v
    → IsWithinChain (IsOtherEdge (thinned chains k kept) l) v
within_after Near chains points k kept within path l other v h =
    record {
      no_end = h.no_end;
      no_start_of = λ c d o.
          elim (after chains k l kept c d within o) [
            | New e ↦
                let old = kept_starts (IsAllowed Near (IsOtherEdge chains k) (Contains points)) (chain_at chains k).first
                (chain_at chains k).rest kept c d path e in
                h.no_start_of c old.to (record { chain = k; other = λ f. other (sym f); edge = old.edge })
            | Old e ↦ h.no_start_of c d e
          ];
      no_end_of = λ c d o.
          elim (after chains k l kept c d within o) [
            | New e ↦
                let old = kept_ends (IsAllowed Near (IsOtherEdge chains k) (Contains points)) (chain_at chains k).first
                (chain_at chains k).rest kept c d path e in
                h.no_end_of old.from d (record { chain = k; other = λ f. other (sym f); edge = old.edge })
            | Old e ↦ h.no_end_of c d e
          ];
    }

still_within : (chains : List Chain) (k : ℕ) (kept : List Vertex) (v : Vertex) → IsWithinChain (IsOtherEdge chains k) v
    → IsWithinChain (IsOtherEdge (thinned chains k kept) k) v
still_within chains k kept v h = record {
  no_end = h.no_end;
  no_start_of = λ c d o.
      h.no_start_of c d (other_before chains k kept c d o);
  no_end_of = λ c d o. h.no_end_of c d (other_before chains k kept c d o);
}

chains_after : (Near : Place → Place → Place → Type 0) (chains : List Chain) (points : List Place) (k : ℕ) (kept : List Vertex)
    → k < length chains → AreChains chains → IsPathIn Near chains points k kept → AreChains (thinned chains k kept)
chains_after Near chains points k kept within are path =
    let Allowed = IsAllowed Near (IsOtherEdge chains k) (Contains points) in
    record {
      monotone = λ l.
          elim (cases_eq l k) [
            | inl e ↦
                subst (λ (x : Chain). IsMonotone x.frame x.first.place (places x.rest))
                (sym (ap (λ (m : ℕ). chain_at (thinned chains k kept) m) e ∙ chain_thinned chains k kept within))
                (kept_monotone Allowed (chain_at chains k).frame (chain_at chains k).first (chain_at chains k).rest kept (are.monotone k)
                path)
            | inr other ↦ subst (λ (x : Chain). IsMonotone x.frame x.first.place (places x.rest)) (sym (chain_same chains k l kept other))
                (are.monotone l)
          ];
      one_arc = λ l.
          elim (cases_eq l k) [
            | inl e ↦
                subst (λ (x : Chain). EachEdge (λ a b. a.arc ≡ x.first.arc) x.first x.rest)
                (sym (ap (λ (m : ℕ). chain_at (thinned chains k kept) m) e ∙ chain_thinned chains k kept within))
                (each_edge_from (λ a b. a.arc ≡ (chain_at chains k).first.arc) (chain_at chains k).first kept
                (λ a b edge.
                let old = kept_starts Allowed (chain_at chains k).first (chain_at chains k).rest kept a b path edge in
                edge_has (λ x y. x.arc ≡ (chain_at chains k).first.arc) (chain_at chains k).first (chain_at chains k).rest a old.to
                (are.one_arc k) old.edge))
            | inr other ↦ subst (λ (x : Chain). EachEdge (λ a b. a.arc ≡ x.first.arc) x.first x.rest)
                (sym (chain_same chains k l kept other)) (are.one_arc l)
          ];
      within = λ l.
          elim (cases_eq l k) [
            | inl e ↦
                subst (λ (m : ℕ). EachButLast (IsWithinChain (IsOtherEdge (thinned chains k kept) m))
                (chain_at (thinned chains k kept) m).rest) (sym e)
                (subst (λ (x : Chain). EachButLast (IsWithinChain (IsOtherEdge (thinned chains k kept) k)) x.rest)
                (sym (chain_thinned chains k kept within))
                (kept_but_last Allowed (IsWithinChain (IsOtherEdge (thinned chains k kept) k)) (chain_at chains k).first
                (chain_at chains k).rest kept
                (but_last_mapped (IsWithinChain (IsOtherEdge chains k)) (IsWithinChain (IsOtherEdge (thinned chains k kept) k))
                (still_within chains k kept) (chain_at chains k).rest (are.within k)) path))
            | inr other ↦
                subst (λ (x : Chain). EachButLast (IsWithinChain (IsOtherEdge (thinned chains k kept) l)) x.rest)
                (sym (chain_same chains k l kept other))
                (but_last_mapped (IsWithinChain (IsOtherEdge chains l)) (IsWithinChain (IsOtherEdge (thinned chains k kept) l))
                (within_after Near chains points k kept within path l other) (chain_at chains l).rest (are.within l))
          ];
    }

arc_alike : (p : Place) (arc : ℕ) (chains : List Chain) (k : ℕ) (x : Chain) → x.first.arc ≡ (chain_at chains k).first.arc
    → is_crossed_oddly p x ≡ is_crossed_oddly p (chain_at chains k)
    → is_arc_crossed_oddly p arc (set chains k x) ≡ is_arc_crossed_oddly p arc chains
arc_alike p arc [] k x e f = refl
arc_alike p arc (y ∷ ys) zero x e f =
    ap (λ (n : ℕ). elim (nat_eq n arc) [
      | true ↦ differ (is_crossed_oddly p x) (is_arc_crossed_oddly p arc ys)
      | false ↦ is_arc_crossed_oddly p arc ys
    ]) e
    ∙ ap (λ (t : Bool). elim (nat_eq y.first.arc arc) [
      | true ↦ differ t (is_arc_crossed_oddly p arc ys)
      | false ↦ is_arc_crossed_oddly p arc ys
    ]) f
arc_alike p arc (y ∷ ys) (suc k) x e f = ap (λ (t : Bool). elim (nat_eq y.first.arc arc) [
  | true ↦ differ (is_crossed_oddly p y) t
  | false ↦ t
]) (arc_alike p arc ys k x e f)

pub keeps_map : ReplacementKeepsMap
keeps_map wx wy bound chains points k kept within are clear path =
    let Near = IsWithinBound wx wy bound in
    record {
      chains_stay = chains_after Near chains points k kept within are path;
      clear = clear_after Near chains points k kept within are clear path;
      others_clear = other_clear_after Near chains points k kept within are clear path;
      arranged = λ held was l free.
          elim (cases_eq l k) [
            | inl e ↦ subst (λ (m : ℕ). IsClearIn (thinned chains k kept) points m) (sym e)
                (clear_after Near chains points k kept within are clear path)
            | inr other ↦ other_clear_after Near chains points k kept within are clear path l other
                (was l (subst (λ (x : Chain). ¬ (Contains held x.first.arc)) (chain_same chains k l kept other) free))
          ];
      parity = λ p point.
          ap (is_crossed_oddly p) (chain_thinned chains k kept within)
          ∙ kept_crossed Near (IsOtherEdge chains k) (Contains points) p point (chain_at chains k).first (chain_at chains k).rest kept
          (clear.points p point) path;
      arc_parity = λ p arc point. arc_alike p arc chains k (with_rest (chain_at chains k) kept) refl
          (kept_crossed Near (IsOtherEdge chains k) (Contains points) p point (chain_at chains k).first (chain_at chains k).rest kept
          (clear.points p point) path);
    }

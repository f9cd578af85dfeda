-- The rows of the strays beside a chain.
use Rattle.std.proofs.Common.{◌≡◌, ◌⊎◌, inl, inr, ℕ, ◌+◌, ◌-◌, ◌*◌, ◌<◌, ◌≤◌, Bool, true, false, List, length, get_or, map, ℤ, pos, ◌≤ℤ◌}
use Rattle.std.proofs.Common.{refl, sym, ap, ◌∙◌, subst, arith}
use Rattle.std.specs.Prelude.{Contains, All, slice_index}
use Rattle.std.proofs.lemmas.Bool.{cases_lt}
use Rattle.std.proofs.lemmas.List.{length-map, get_or-map, get_or_default}
use Rattle.std.proofs.lemmas.List.Elements.{Contains-get_or}
use Rattle.grid_exact.specs.Geometry.{Place}
use Rattle.grid_exact.specs.declared.frame.Frame.{Frame}
use Rattle.grid_exact.proofs.Commons.{same_place}
use Rattle.chain_side.specs.Sides.{IsSpanned}
use Rattle.chain_side.specs.Sides.IsSpanned.{Upwards, Downwards}
use Rattle.chain_side.specs.Along.{IsAlong, vertex_at}
use Rattle.chain_side.proofs.AlongOrder.{then_along, one_way}
use Rattle.lane_kernels.specs.declared.side.Hand.{Hand}
use Rattle.lane_kernels.specs.declared.side.Hand.TheVariants.{Left, Right}
use Rattle.lane_kernels.specs.Places.{place_at}
use Rattle.arc_map.specs.Chains.{Chain, chain_at, chain_places}
use Rattle.sweep_index.specs.declared.index.Owner.{Owner}
use Rattle.sweep_index.specs.declared.index.Owner.TheVariants.{Town as OfTown, Chain as OfChain}
use Rattle.arc_map.specs.Work.{Work}
use Rattle.arc_map.proofs.Chained.{length-chain_places}
use Rattle.map_index.specs.Items.{IsOther, Owns}
use Rattle.side_wedge.specs.Obstacles.{IsObstacle}
use Rattle.side_wedge.specs.Obstacles.IsObstacle.{Town, Vertex}
use Rattle.grid_exact.specs.Weights.{Scales}
use Rattle.arc_map.specs.Vertices.{places}
use Rattle.chain_reach.specs.Steps.{AreStepsOf, IsNearSomeEdge}
use Rattle.chain_reach.specs.declared.steps.Steps.{Steps}
use Rattle.chain_reach.proofs.Numbered.{near_some_edge}
use Rattle.side_wedge.specs.Flanks.{Flanks, IsInRow, StandsInRow, IsBesideEdge, IsBeyond, IsBeside, HoldsReach, row_of}
use Rattle.side_wedge.specs.Strays.{RunsAlong, IsStartOf, stray}
use Rattle.side_wedge.specs.Gathered.{AreMapStrays}
use Rattle.side_wedge.specs.declared.strays.Stray.{Stray}

-- ---- rows of strays

abbrev pub some_stray : Stray
some_stray = stray 0 Left (record { x = pos 0; y = pos 0 })

-- the starts of the rows up to this one
pub record AreStarts (strays : List Stray) (starts : List ℕ) (rows : ℕ) : Type 0 where
  pub count : length starts ≡ rows + 1
  pub right : (row : ℕ) → row ≤ rows → IsStartOf strays row (slice_index starts row)

pub starts_rise : (strays : List Stray) (starts : List ℕ) (rows row : ℕ) → AreStarts strays starts rows → row + 1 ≤ rows
    → slice_index starts row ≤ slice_index starts (row + 1)
starts_rise strays starts rows row h within =
    let this = h.right row (omega arith) in
    let next = h.right (row + 1) within in
    elim (cases_lt (slice_index starts (row + 1)) (slice_index starts row)) [
      | inr up ↦ up
      | inl down ↦
          let early = this.before (slice_index starts (row + 1)) some_stray down in
          let late = next.after (slice_index starts (row + 1)) some_stray (omega arith) (omega (arith, down, this.within)) in
          absurd (omega (arith, early, late))
    ]

pub row_of_stray : (strays : List Stray) (starts : List ℕ) (rows row n : ℕ) → AreStarts strays starts rows → row + 1 ≤ rows
    → IsInRow starts row n → (n < length strays) × ((get_or strays n some_stray).row ≡ row)
row_of_stray strays starts rows row n h within r =
    let this = h.right row (omega arith) in
    let next = h.right (row + 1) within in
    let low = r.low in let high = r.high in
    let inside : n < length strays = omega (arith, high, next.within) in
    let late = this.after n some_stray low inside in
    let early = next.before n some_stray high in
    (inside, omega (arith, late, early))

pub in_row_of : (strays : List Stray) (starts : List ℕ) (rows row n : ℕ) → AreStarts strays starts rows → row + 1 ≤ rows → n < length strays
    → (get_or strays n some_stray).row ≡ row → IsInRow starts row n
in_row_of strays starts rows row n h within inside is =
    let this = h.right row (omega arith) in
    let next = h.right (row + 1) within in
    record {
      low = elim (cases_lt n (slice_index starts row)) [
        | inr low ↦ low
        | inl before ↦ let early = this.before n some_stray before in absurd (omega (arith, early))
      ];
      high = elim (cases_lt n (slice_index starts (row + 1))) [
        | inl high ↦ high
        | inr behind ↦ let late = next.after n some_stray behind inside in absurd (omega (arith, late))
      ];
    }

-- ---- places of strays

-- the coordinates are those of the strays
pub record AreOfStrays (strays : List Stray) (xs ys : List ℤ) : Type 0 where
  pub across : xs ≡ map (λ x. x.at.x) strays
  pub up : ys ≡ map (λ x. x.at.y) strays

stray_at : (strays : List Stray) (xs ys : List ℤ) (n : ℕ) → AreOfStrays strays xs ys → n < length strays
    → place_at xs ys n ≡ (get_or strays n some_stray).at
stray_at strays xs ys n h inside =
    same_place (place_at xs ys n) (get_or strays n some_stray).at
    (ap (λ (zs : List ℤ). get_or zs n (pos 0)) h.across ∙ get_or-map (λ x. x.at.x) strays n some_stray (pos 0) inside)
    (ap (λ (zs : List ℤ). get_or zs n (pos 0)) h.up ∙ get_or-map (λ x. x.at.y) strays n some_stray (pos 0) inside)

-- the stray that stands in a row
pub record StrayInRow (strays : List Stray) (row : ℕ) (p : Place) : Type 0 where
  pub stray : Stray
  pub has : Contains strays stray
  pub in_row : stray.row ≡ row
  pub place : stray.at ≡ p

stray_in_row : (strays : List Stray) (b : Flanks) (rows row : ℕ) (p : Place) → AreStarts strays b.starts rows → AreOfStrays strays b.xs b.ys
    → row + 1 ≤ rows → StandsInRow b row p → StrayInRow strays row p
stray_in_row strays b rows row p starts of within h =
    let r = row_of_stray strays b.starts rows row h.number starts within h.in_row in
    record {
      stray = get_or strays h.number some_stray;
      has = Contains-get_or strays h.number some_stray r.0;
      in_row = r.1;
      place = sym (stray_at strays b.xs b.ys h.number of r.0) ∙ h.place;
    }

stands_by_stray : (strays : List Stray) (b : Flanks) (rows : ℕ) (x : Stray) → AreStarts strays b.starts rows → AreOfStrays strays b.xs b.ys
    → x.row + 1 ≤ rows → Contains strays x → StandsInRow b x.row x.at
stands_by_stray strays b rows x starts of within has =
    let here : get_or strays has.0 some_stray ≡ x = get_or_default strays has.0 some_stray x has.1 ∙ has.2 in
    record {
      number = has.0;
      in_row = in_row_of strays b.starts rows x.row has.0 starts within has.1 (ap (λ (y : Stray). y.row) here);
      place = stray_at strays b.xs b.ys has.0 of has.1 ∙ ap (λ (y : Stray). y.at) here;
    }

-- ---- rows of edges

row_within : (s m : ℕ) (hand : Hand) → s < m → row_of s hand + 1 ≤ 2 * m
row_within s m Left h = omega arith
row_within s m Right h = omega arith

same_edge : (s e : ℕ) (hand other : Hand) → row_of s hand ≡ row_of e other → (s ≡ e) × (hand ≡ other)
same_edge s e Left Left h = (omega arith, refl)
same_edge s e Left Right h = absurd (omega arith)
same_edge s e Right Left h = absurd (omega arith)
same_edge s e Right Right h = (omega arith, refl)

-- ---- over an edge

pub over_spanned : (frame : Frame) (rising : Bool) (a b p : Place) → IsAlong frame rising a p → IsAlong frame rising p b
    → IsSpanned frame a b p
over_spanned frame true a b p h k = Upwards h k
over_spanned frame false a b p h k = Downwards k h

pub spanned_over : (frame : Frame) (rising : Bool) (a b p : Place) → IsAlong frame rising a b → IsSpanned frame a b p
    → IsAlong frame rising a p × IsAlong frame rising p b
spanned_over frame true a b p ab (Upwards h k) = (h, k)
spanned_over frame true a b p ab (Downwards h k) = absurd (one_way frame true a b ab (then_along frame true b p a h k))
spanned_over frame false a b p ab (Upwards h k) = absurd (one_way frame true a b (then_along frame true a p b h k) ab)
spanned_over frame false a b p ab (Downwards h k) = (k, h)

-- ---- obstacles

obstacle_of : (chains : List Chain) (points : List Place) (k : ℕ) (owner : Owner) (p : Place) → IsOther k owner → Owns chains points owner p
    → IsObstacle chains points k p
obstacle_of chains points k OfTown p other owns = Town owns
obstacle_of chains points k (OfChain l) p other owns = Vertex l owns.0 other owns.1

-- who owns an obstacle
record OwnedBy (chains : List Chain) (points : List Place) (k : ℕ) (p : Place) : Type 0 where
  owner : Owner
  other : IsOther k owner
  owns : Owns chains points owner p

owner_of : (chains : List Chain) (points : List Place) (k : ℕ) (p : Place) → IsObstacle chains points k p → OwnedBy chains points k p
owner_of chains points k p (Town has) = record { owner = OfTown; other = tt; owns = has }
owner_of chains points k p (Vertex l within other has) = record { owner = OfChain l; other = other; owns = (within, has) }

-- ---- what is laid out

-- the strays of a chain of a map, by their rows
pub record IsLaidOut (w : Work) (k : ℕ) (rising : Bool) (steps : Steps) (strays : List Stray) (b : Flanks) : Type 0 where
  pub frame : b.frame ≡ (chain_at w.chains k).frame
  pub runs : RunsAlong (chain_at w.chains k).frame rising (chain_places (chain_at w.chains k))
  pub are_strays : AreMapStrays (chain_at w.chains k).frame rising (chain_places (chain_at w.chains k)) k steps w strays
  pub starts : AreStarts strays b.starts (2 * length (chain_at w.chains k).rest)
  pub of_strays : AreOfStrays strays b.xs b.ys
  pub edges : All (λ chain. 0 < length chain.rest) w.chains

-- what is known of a place in a row
record IsItemInRow (chains : List Chain) (points : List Place) (k : ℕ) (rising : Bool) (s : ℕ) (hand : Hand) (p : Place) : Type 0 where
  obstacle : IsObstacle chains points k p
  beside : IsBesideEdge (chain_at chains k).frame (chain_places (chain_at chains k)) s hand p

item_in_row : (w : Work) (k : ℕ) (rising : Bool) (steps : Steps) (strays : List Stray) (b : Flanks) (s : ℕ) (hand : Hand) (p : Place)
    → IsLaidOut w k rising steps strays b → s < length (chain_at w.chains k).rest → StandsInRow b (row_of s hand) p
    → IsItemInRow w.chains w.read.points k rising s hand p
item_in_row w k rising steps strays b s hand p laid within stands =
    let chains = w.chains in
    let points = w.read.points in
    let frame = (chain_at chains k).frame in
    let chain = chain_places (chain_at chains k) in
    let x = stray_in_row strays b (2 * length (chain_at chains k).rest) (row_of s hand) p laid.starts laid.of_strays
    (row_within s (length (chain_at chains k).rest) hand within) stands in
    let live = laid.are_strays.only x.stray x.has in
    let e = live.is.edge in
    let same = same_edge s live.is.edge hand live.is.hand (sym x.in_row ∙ ap (λ (y : Stray). y.row) live.is.place) in
    let here : live.item.at ≡ p = sym (ap (λ (y : Stray). y.at) live.is.place) ∙ x.place in
    let is = live.is.is in
    let beside : IsBesideEdge frame chain live.is.edge live.is.hand live.item.at =
    record {
      spanned = over_spanned frame rising (vertex_at chain e) (vertex_at chain (e + 1)) live.item.at is.over.start is.over.end;
      aside = is.aside;
    } in
    record {
      obstacle = subst (IsObstacle chains points k) here (obstacle_of chains points k live.item.owner live.item.at is.other live.owned);
      beside = subst (IsBesideEdge frame chain s hand) here (subst (λ (h : Hand). IsBesideEdge frame chain s h live.item.at) (sym same.1)
          (subst (λ (i : ℕ). IsBesideEdge frame chain i live.is.hand live.item.at) (sym same.0) beside));
    }

obstacle_in_row : (w : Work) (k : ℕ) (rising : Bool) (steps : Steps) (strays : List Stray) (b : Flanks) (s : ℕ) (hand : Hand) (p : Place)
    → IsLaidOut w k rising steps strays b → s < length (chain_at w.chains k).rest → IsObstacle w.chains w.read.points k p
    → IsBesideEdge (chain_at w.chains k).frame (chain_places (chain_at w.chains k)) s hand p
    → IsNearSomeEdge steps (chain_places (chain_at w.chains k)) p
    → StandsInRow b (row_of s hand) p ⊎ IsBeyond (chain_places (chain_at w.chains k)) p
obstacle_in_row w k rising steps strays b s hand p laid within obstacle beside near =
    let chains = w.chains in
    let points = w.read.points in
    let frame = (chain_at chains k).frame in
    let chain = chain_places (chain_at chains k) in
    let inside : s + 1 < length chain = omega (arith, within, length-chain_places (chain_at chains k)) in
    let over = spanned_over frame rising (vertex_at chain s) (vertex_at chain (s + 1)) p (laid.runs s (s + 1) (omega arith) inside)
    beside.spanned in
    let owned = owner_of chains points k p obstacle in
    elim (laid.are_strays.all (record { at = p; owner = owned.owner }) s hand owned.owns laid.runs
    (record { other = owned.other; over = record { in_chain = inside; start = over.0; end = over.1 }; aside = beside.aside }) near) [
      | inl has ↦ inl (stands_by_stray strays b (2 * length (chain_at chains k).rest) (stray s hand p) laid.starts laid.of_strays
          (row_within s (length (chain_at chains k).rest) hand within) has)
      | inr beyond ↦ inr beyond
    ]

pub laid_beside : (w : Work) (k : ℕ) (rising : Bool) (steps : Steps) (strays : List Stray) (b : Flanks)
    → IsLaidOut w k rising steps strays b → IsBeside w.chains w.read.points k b
laid_beside w k rising steps strays b laid = record {
  frame = laid.frame;
  rows = laid.starts.count;
  obstacles = λ s hand p within stands. (item_in_row w k rising steps strays b s hand p laid within stands).obstacle;
  beside = λ s hand p within stands. (item_in_row w k rising steps strays b s hand p laid within stands).beside;
  edges = laid.edges;
}

-- the steps are those of the weights and the bound, which are in their ranges
pub record AreLoaded (weights : Scales) (bound : ℤ) (steps : Steps) : Type 0 where
  pub across : AreStepsOf weights.x bound steps.across
  pub up : AreStepsOf weights.y bound steps.up
  pub weight_across : pos 1 ≤ℤ weights.x
  pub weight_up : pos 1 ≤ℤ weights.y
  pub bound_low : pos 0 ≤ℤ bound

pub laid_reach : (w : Work) (k : ℕ) (rising : Bool) (steps : Steps) (strays : List Stray) (b : Flanks) (weights : Scales) (bound : ℤ)
    → AreLoaded weights bound steps → IsLaidOut w k rising steps strays b → HoldsReach w.chains w.read.points k weights bound b
laid_reach w k rising steps strays b weights bound loaded laid = record {
  weight_across = loaded.weight_across;
  weight_up = loaded.weight_up;
  bound_low = loaded.bound_low;
  all = λ s hand p within obstacle beside reach.
      obstacle_in_row w k rising steps strays b s hand p laid within obstacle beside
      (near_some_edge weights.x weights.y bound steps p (chain_at w.chains k).first.place (places (chain_at w.chains k).rest)
      loaded.weight_across loaded.weight_up loaded.across loaded.up reach);
}

-- ---- as the code finds it

pub starts_by : (strays xs : List Stray) (starts : List ℕ) (rows : ℕ) → xs ≡ strays → length starts ≡ rows + 1
    → ((row : ℕ) → row ≤ rows → IsStartOf xs row (slice_index starts row)) → AreStarts strays starts rows
starts_by strays xs starts rows same count right = record {
  count = count;
  right = λ row within.
      subst (λ (ys : List Stray). IsStartOf ys row (slice_index starts row)) same (right row within);
}

pub of_strays_by : (strays us : List Stray) (xs ys : List ℤ) → us ≡ strays → xs ≡ map (λ x. x.at.x) us → ys ≡ map (λ x. x.at.y) us
    → AreOfStrays strays xs ys
of_strays_by strays us xs ys same e f = record { across = e ∙ ap (map (λ x. x.at.x)) same; up = f ∙ ap (map (λ x. x.at.y)) same }

pub laid_by : (w : Work) (k : ℕ) (rising : Bool) (steps : Steps) (strays : List Stray) (b : Flanks) (chain : List Place) (rows : ℕ)
    → b.frame ≡ (chain_at w.chains k).frame → chain ≡ chain_places (chain_at w.chains k) → rows ≡ 2 * (length chain - 1)
    → RunsAlong b.frame rising chain → AreMapStrays b.frame rising chain k steps w strays → AreStarts strays b.starts rows
    → AreOfStrays strays b.xs b.ys → All (λ chain. 0 < length chain.rest) w.chains → IsLaidOut w k rising steps strays b
laid_by w k rising steps strays b chain rows is_frame is_chain is_rows runs are starts of edges =
    let count : rows ≡ 2 * length (chain_at w.chains k).rest = let size = ap length is_chain in
    omega (arith, size, length-chain_places (chain_at w.chains k)) in
    record {
      frame = is_frame;
      runs = subst (λ (f : Frame). RunsAlong f rising (chain_places (chain_at w.chains k))) is_frame
          (subst (λ (ps : List Place). RunsAlong b.frame rising ps) is_chain runs);
      are_strays = subst (λ (f : Frame). AreMapStrays f rising (chain_places (chain_at w.chains k)) k steps w strays) is_frame
          (subst (λ (ps : List Place). AreMapStrays b.frame rising ps k steps w strays) is_chain are);
      starts = subst (AreStarts strays b.starts) count starts;
      of_strays = of;
      edges = edges;
    }

-- the starts are in the lists of coordinates
pub starts_within : (strays : List Stray) (starts : List ℕ) (rows row : ℕ) (xs ys : List ℤ) → AreStarts strays starts rows
    → AreOfStrays strays xs ys → row < length starts → slice_index starts row ≤ length xs
starts_within strays starts rows row xs ys h of within =
    let count = h.count in
    let this = h.right row (omega arith) in
    let same = ap length of.across in
    omega (arith, this.within, same, length-map strays (λ x. x.at.x))

-- The runs in the cell of a place, arc by arc.
use Rattle.std.proofs.Common.{◌≡◌, ◌≢◌, ◌∙◌, ℕ, zero, suc, ◌+◌, ◌*◌, ◌/◌, ◌^◌, ◌<◌, ◌≤◌, ◌==◌, Bool, true, false, List, [], ◌∷◌, All}
use Rattle.std.proofs.Common.{AllPairs, Contains, drop, length, get_or, map, refl, sym, ap, subst, arith, inl, inr, ◌++◌}
use Rattle.std.specs.Prelude.{◌&&◌}
use Rattle.std.proofs.Math.ListN.{get_or-eq_default}
use Rattle.std.proofs.lemmas.Bool.{and_parts, and_right, cases_Bool, cases_eq, cases_lt, eq-eqb, eqb-true, ne_eqb, true≢false}
use Rattle.std.proofs.lemmas.List.{get_or-map, length-map}
use Rattle.std.proofs.lemmas.List.Elements.{All-cons, All-contains, All-filter, All-get_or, All-map, All-nil, All-weaker, Contains-get_or}
use Rattle.std.proofs.lemmas.List.Elements.{at_from_Contains, filter_passes, All-append, Contains-append_left, Contains-append_right}
use Rattle.std.proofs.lemmas.List.Kept.{AllPairs-cons, AllPairs-filter}
use Rattle.grid_exact.specs.Geometry.{Place}
use Rattle.grid_exact.specs.Walks.{differ}
use Rattle.arc_map.specs.Map.{Map}
use Rattle.arc_map.specs.Arcs.{is_inside_of, is_list_crossed_oddly}
use Rattle.arc_map.specs.Arranged.{arc_at}
use Rattle.sweep_index.proofs.Distinct.{pairs_from_map, pairs_map, pairs_nil, pairs_append}
use Rattle.sweep_index.proofs.Holding.{filter_holds, map_holds, some_of}
use Rattle.sweep_index.proofs.Orders.{div_rises}
use Rattle.face_parity.specs.Bounds.{IsOffsetOf}
use Rattle.face_parity.specs.Celled.{AreCelled, DoesReach, InRow, IsOfRow, cell_at, in_cell, run_at, spot_of, AreWideTo, is_wide}
use Rattle.face_parity.specs.Faces.{IsFloored, turns}
use Rattle.face_parity.specs.Parities.{pass_oddly}
use Rattle.face_parity.specs.Runs.{AreRunsOf, IsRunOf, is_part_crossed, is_run_crossed, run_part}
use Rattle.face_parity.specs.declared.bounds.Offset.{Offset}
use Rattle.face_parity.specs.declared.cells.Celled.{Celled}
use Rattle.face_parity.specs.declared.cells.Limits.{Limits}
use Rattle.face_parity.specs.declared.floors.Floors.{Floors}
use Rattle.face_parity.specs.declared.runs.Run.{Run}
use Rattle.grid_exact.proofs.Crossings.{differ_false}
use Rattle.face_parity.proofs.Lowest.{inside-sum}
use Rattle.face_parity.proofs.Same.{in-later, pass-same}
use Rattle.face_parity.proofs.Seen.{odd-reaches}
use Rattle.face_parity.proofs.Sums.{pass-agree, pass-and, pass-at, pass-map, pass-swap, pass-append}

-- ---- the numbers of runs

-- the numbers of the runs from one on
abbrev numbered : ℕ → List Run → List ℕ
numbered at [] = []
numbered at (r ∷ rs) = at ∷ numbered (suc at) rs

record IsFromTo (low high n : ℕ) : Type 0 where
  from_low : low ≤ n
  to_high : n < high

numbered-within : (at high : ℕ) (rs : List Run) → high ≡ at + length rs → All (IsFromTo at high) (numbered at rs)
numbered-within at high [] is = All-nil (IsFromTo at high)
numbered-within at high (r ∷ rs) is =
    All-cons (IsFromTo at high) at (numbered (suc at) rs)
    (record { from_low = omega arith; to_high = omega (arith, is) })
    (All-weaker (IsFromTo (suc at) high) (IsFromTo at high) (λ n has.
    record { from_low = omega (arith, has.from_low); to_high = has.to_high }) (numbered (suc at) rs)
    (numbered-within (suc at) high rs (omega (arith, is))))

numbered-has : (at n i : ℕ) (rs : List Run) → n ≡ at + i → i < length rs → Contains (numbered at rs) n
numbered-has at n i [] is within = absurd (omega (arith, within))
numbered-has at n zero (r ∷ rs) is within = let here : at ≡ n = omega (arith, is) in (0, omega arith, here)
numbered-has at n (suc i) (r ∷ rs) is within = in-later at n (numbered (suc at) rs)
    (numbered-has (suc at) n i rs (omega (arith, is)) (omega (arith, within)))

numbered-once : (at : ℕ) (rs : List Run) → AllPairs (λ i j. i ≢ j) (numbered at rs)
numbered-once at [] = pairs_nil (λ i j. i ≢ j)
numbered-once at (r ∷ rs) = AllPairs-cons (λ i j. i ≢ j) at (numbered (suc at) rs)
    (All-weaker (IsFromTo (suc at) (suc at + length rs)) (λ n. at ≢ n) (λ n has same. omega (arith, same, has.from_low))
    (numbered (suc at) rs) (numbered-within (suc at) (suc at + length rs) rs refl))
    (numbered-once (suc at) rs)

-- runs that pass are as odd as their numbers
numbered-pass : (test : Run → Bool) (all : List Run) (at : ℕ) (rs : List Run) → ((i : ℕ) → run_at rs i ≡ run_at all (at + i))
    → pass_oddly test rs ≡ pass_oddly (λ n. test (run_at all n)) (numbered at rs)
numbered-pass test all at [] same = refl
numbered-pass test all at (r ∷ rs) same =
    let none : at + 0 ≡ at = omega arith in
    let first : r ≡ run_at all at = same 0 ∙ ap (run_at all) none in
    ap (λ s. differ (test s) (pass_oddly test rs)) first
    ∙ ap (differ (test (run_at all at))) (numbered-pass test all (suc at) rs (λ i. let step : at + suc i ≡ suc at + i = omega arith in
    same (suc i) ∙ ap (run_at all) step))

-- what is named oddly is named
pub named-held : (a : ℕ) (refs : List ℕ) → pass_oddly (λ arc. arc == a) refs ≡ true → Contains refs a
named-held a [] odd = absurd (true≢false (sym odd))
named-held a (arc ∷ refs) odd = elim (cases_eq arc a) [
  | inl same ↦ (0, omega arith, same)
  | inr apart ↦ in-later arc a refs (named-held a refs (sym (ap (λ b. differ b (pass_oddly (λ k. k == a) refs)) (ne_eqb arc a apart))
      ∙ odd))
]

spot-read : (celled : List Celled) (k : ℕ) (d : Celled) (spot : InRow × ℕ) → k < length celled
    → get_or (map spot_of celled) k (spot_of d) ≡ spot → spot_of (get_or celled k d) ≡ spot
spot-read celled k d spot inside same = sym (get_or-map spot_of celled k d (spot_of d) inside) ∙ same

same-row : (i j cell : ℕ) → i * 2 ^ 32 ≤ cell → cell < i * 2 ^ 32 + 2 ^ 32 → j * 2 ^ 32 ≤ cell → cell < j * 2 ^ 32 + 2 ^ 32 → i ≡ j
same-row i j cell a b c d = omega (arith, a, b, c, d)

module _ (m : Map) (floors : Floors) (runs : List Run) (limits : Limits) (width height : ℕ) (wides : List ℕ) (celled : List Celled) (wide :
    0 < width) (high : 0 < height) (are : AreRunsOf m floors runs) (broad : AreWideTo runs limits (length runs) wides) (spread :
    AreCelled runs limits width height celled) (p : Place) (at : Offset) (here : IsOffsetOf p at) where
  abbrev cell : ℕ
  cell = cell_at width height at

  abbrev found : List Celled
  found = in_cell cell celled

  abbrev numbers : List ℕ
  numbers = map (λ (c : Celled). c.run) found

  known : All (λ c. IsOfRow c × DoesReach runs limits height (spot_of c).0) found
  known = All-filter (λ c. c.cell == cell) (λ c. IsOfRow c × DoesReach runs limits height (spot_of c).0) celled spread.only

  pub found-within : All (λ c. c.run < length runs) found
  found-within = All-weaker (λ c. IsOfRow c × DoesReach runs limits height (spot_of c).0) (λ c. c.run < length runs) (λ c has. has.1.run)
      found known

  numbers-once : AllPairs (λ i j. i ≢ j) numbers
  numbers-once = pairs_map (λ i j. i ≢ j) (λ (c : Celled). c.run) found (λ i j d lt within same.
      let before : i < length found = omega (arith, lt, within) in
      let apart = AllPairs-filter (λ s t. spot_of s ≢ spot_of t) (λ c. c.cell == cell) celled
      (pairs_from_map (λ s t. s ≢ t) spot_of celled spread.once) i j d lt within in
      let first : (get_or found i d).cell ≡ cell = eqb-true (get_or found i d).cell cell
      (filter_passes (λ c. c.cell == cell) celled i d before) in
      let second : (get_or found j d).cell ≡ cell = eqb-true (get_or found j d).cell cell
      (filter_passes (λ c. c.cell == cell) celled j d within) in
      let of-first = (known i d before).0 in
      let of-second = (known j d within).0 in
      let row : (get_or found i d).row ≡ (get_or found j d).row = same-row (get_or found i d).row (get_or found j d).row cell
      (subst (λ n. (get_or found i d).row * 2 ^ 32 ≤ n) first of-first.low)
      (subst (λ n. n < (get_or found i d).row * 2 ^ 32 + 2 ^ 32) first of-first.high)
      (subst (λ n. (get_or found j d).row * 2 ^ 32 ≤ n) second of-second.low)
      (subst (λ n. n < (get_or found j d).row * 2 ^ 32 + 2 ^ 32) second of-second.high) in
      let key = λ (run : ℕ) (row : ℕ) (cell : ℕ). let s : InRow × ℕ = (record { run = run; row = row }, cell) in s in
      apart (ap (λ n. key n (get_or found i d).row (get_or found i d).cell) same
      ∙ ap (λ n. key (get_or found j d).run n (get_or found i d).cell) row
      ∙ ap (key (get_or found j d).run (get_or found j d).row) (first ∙ sym second)))

  -- a run that reaches the place is in its cell
  in-found : (n : ℕ) → n < length runs → is_wide limits (run_at runs n) ≡ false → (run_at runs n).floor ≤ at.y
      → at.y ≤ (run_at runs n).bounds.north → (run_at runs n).bounds.west ≤ at.x → at.x ≤ (run_at runs n).bounds.east → Contains numbers n
  in-found n within narrow floor north west east =
      let r = run_at runs n in
      let key : InRow = record { run = n; row = at.y / height } in
      let from : r.bounds.west / width ≤ at.x / width = div_rises r.bounds.west at.x width wide west in
      let to : at.x / width ≤ r.bounds.east / width = div_rises at.x r.bounds.east width wide east in
      let held = spread.all key cell (record {
        run = within;
        narrow = narrow;
        low = div_rises r.floor at.y height high floor;
        high =
            div_rises at.y r.bounds.north height high north;
      }) (omega (arith, from)) (omega (arith, to)) in
      let place = at_from_Contains (map spot_of celled) (key, cell) held in
      let long = length-map celled spot_of in
      let inside : place.0 < length celled = omega (arith, long, place.1) in
      let d = some_of celled place.0 inside in
      let s = get_or celled place.0 d in
      let same : spot_of s ≡ (key, cell) = spot-read celled place.0 d (key, cell) inside (place.2 (spot_of d)) in
      let run : s.run ≡ n = ap (λ q. q.0.run) same in
      let its-cell : s.cell ≡ cell = ap (λ q. q.1) same in
      let held-here = filter_holds (λ c. c.cell == cell) celled s (Contains-get_or celled place.0 d inside) (eq-eqb s.cell cell its-cell) in
      subst (Contains numbers) run (map_holds (λ (c : Celled). c.run) found s held-here)

  narrow-numbers : All (λ n. is_wide limits (run_at runs n) ≡ false) numbers
  narrow-numbers = All-map (λ n. is_wide limits (run_at runs n) ≡ false) (λ (c : Celled). c.run) found
      (All-weaker (λ c. IsOfRow c × DoesReach runs limits height (spot_of c).0) (λ c. is_wide limits (run_at runs c.run) ≡ false) (λ c has.
      has.1.narrow) found known)

  -- the runs in the cell and the wide ones differ
  both-once : AllPairs (λ i j. i ≢ j) (numbers ++ wides)
  both-once = pairs_append (λ i j. i ≢ j) numbers wides numbers-once broad.once
      (All-weaker (λ n. is_wide limits (run_at runs n) ≡ false) (λ n. All (λ k. n ≢ k) wides)
      (λ n narrow. All-weaker (λ k. (k < length runs) × (is_wide limits (run_at runs k) ≡ true)) (λ k. n ≢ k) (λ k is same.
      true≢false (sym is.1 ∙ ap (λ i. is_wide limits (run_at runs i)) (sym same) ∙ narrow)) wides broad.only)
      numbers narrow-numbers)

  both-within : All (λ k. k < length runs) (numbers ++ wides)
  both-within = All-append (λ k. k < length runs) numbers wides
      (All-map (λ k. k < length runs) (λ (c : Celled). c.run) found found-within)
      (All-weaker (λ k. (k < length runs) × (is_wide limits (run_at runs k) ≡ true)) (λ k. k < length runs) (λ k is. is.0) wides broad.only)

  -- a run that reaches the place is in its cell or wide
  in-both : (n : ℕ) → n < length runs → (run_at runs n).floor ≤ at.y → at.y ≤ (run_at runs n).bounds.north
      → (run_at runs n).bounds.west ≤ at.x → at.x ≤ (run_at runs n).bounds.east → Contains (numbers ++ wides) n
  in-both n within floor north west east = elim (cases_Bool (is_wide limits (run_at runs n))) [
    | inl is ↦ Contains-append_right numbers wides n (broad.all n within is)
    | inr narrow ↦ Contains-append_left numbers wides n (in-found n within narrow floor north west east)
  ]

  -- the runs of the map, each as often as its arc is named
  over-runs : (refs : List ℕ) → pass_oddly (λ r. is_run_crossed m p r && pass_oddly (λ arc. arc == r.arc) refs) runs
      ≡ is_inside_of p m.arcs refs
  over-runs refs =
      pass-agree (λ r. is_run_crossed m p r && pass_oddly (λ arc. arc == r.arc) refs) (λ r.
      pass_oddly (λ arc. is_run_crossed m p r && (arc == r.arc)) refs) runs (λ k d within.
      sym (pass-and (is_run_crossed m p (get_or runs k d)) (λ arc. arc == (get_or runs k d).arc) refs))
      ∙ pass-swap (λ r arc. is_run_crossed m p r && (arc == r.arc)) runs refs
      ∙ pass-agree (λ arc. pass_oddly (is_part_crossed m p arc) runs) (λ arc. is_list_crossed_oddly p (arc_at m arc)) refs (λ k d within.
      are.crossed p (get_or refs k d))
      ∙ sym (inside-sum p m.arcs refs)

  abbrev turned : List ℕ → ℕ → Bool
  turned refs n = is_run_crossed m p (run_at runs n) && pass_oddly (λ arc. arc == (run_at runs n).arc) refs

  -- the crossed ones of the runs in the cell and of the wide ones, each as often as its arc is named, tell whether p is in the rings
  pub pass-inside : (refs : List ℕ) → ((n : ℕ) → n < length runs → Contains refs (run_at runs n).arc → (run_at runs n).floor ≤ at.y)
      → differ (pass_oddly (λ c. turned refs c.run) found) (pass_oddly (turned refs) wides) ≡ is_inside_of p m.arcs refs
  pass-inside refs floored =
      ap (λ b. differ b (pass_oddly (turned refs) wides)) (sym (pass-map (turned refs) (λ (c : Celled). c.run) found))
      ∙ sym (pass-append (turned refs) numbers wides)
      ∙ pass-same (turned refs) (numbers ++ wides) (numbered 0 runs) both-once (numbered-once 0 runs)
      (λ n ok held. numbered-has 0 n n runs (omega arith) (All-contains (λ k. k < length runs) (numbers ++ wides) n both-within held))
      (λ n ok held.
      let has = All-contains (IsFromTo 0 (0 + length runs)) (numbered 0 runs) n (numbered-within 0 (0 + length runs) runs refl) held in
      let within : n < length runs = omega (arith, has.to_high) in
      let r = run_at runs n in
      let both = and_parts (is_run_crossed m p r) (pass_oddly (λ arc. arc == r.arc) refs) ok in
      let run = (All-get_or (IsRunOf m floors) runs n (run_at [] 0) within are.only).run in
      let reach = odd-reaches p at here (run_part (arc_at m r.arc) r) r.bounds run.round both.0 in
      in-both n within (floored n within (named-held r.arc refs both.1)) reach.2 reach.0 reach.1)
      ∙ sym (numbered-pass (λ r. is_run_crossed m p r && pass_oddly (λ arc. arc == r.arc) refs) runs 0 runs (λ i. let none : i ≡ 0 + i =
      omega arith in ap (run_at runs) none))
      ∙ over-runs refs

-- ---- one run after another

-- where the floor of a run is above y, nothing is turned
pub not-floored : (m : Map) (p : Place) (y : ℕ) (refs : List ℕ) (r : Run) (odd : Bool) → y < r.floor → IsFloored refs y r
    → odd ≡ differ odd (turns m p refs r)
not-floored m p y refs r odd above floored = elim (cases_Bool (pass_oddly (λ arc. arc == r.arc) refs)) [
  | inl named ↦ let low = floored (named-held r.arc refs named) in absurd (omega (arith, low, above))
  | inr unnamed ↦ sym (ap (differ odd) (and_right (is_run_crossed m p r) (pass_oddly (λ arc. arc == r.arc) refs) unnamed)
      ∙ differ_false odd)
]

-- the arc of a run is an arc of the map
pub arc-in : (m : Map) (arc at : ℕ) → at < length (arc_at m arc) → arc < length m.arcs
arc-in m arc at inside = elim (cases_lt arc (length m.arcs)) [
  | inl within ↦ within
  | inr past ↦ let none = ap length (get_or-eq_default m.arcs [] past) in absurd (omega (arith, inside, none))
]

-- the parity so far and that of what is left make up the whole
pub turned-next : {X : Type 0} (number : X → ℕ) (m : Map) (p : Place) (refs : List ℕ) (runs : List Run) (odd new whole : Bool) (xs : List X)
    (i : ℕ) (d : X) (r : Run) → i < length xs → r ≡ run_at runs (number (get_or xs i d)) → new ≡ differ odd (turns m p refs r)
    → differ odd (pass_oddly (λ c. turns m p refs (run_at runs (number c))) (drop i xs)) ≡ whole
    → differ new (pass_oddly (λ c. turns m p refs (run_at runs (number c))) (drop (i + 1) xs)) ≡ whole
turned-next {X = X} number m p refs runs odd new whole xs i d r within is turned before =
    let test : X → Bool = λ c. turns m p refs (run_at runs (number c)) in
    ap (λ b. differ b (pass_oddly test (drop (i + 1) xs))) (turned ∙ ap (λ s. differ odd (turns m p refs s)) is)
    ∙ pass-at test odd xs i d within
    ∙ before

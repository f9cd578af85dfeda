-- A wedge that takes what stands beside one edge more.
use Rattle.std.proofs.Common.{◌≡◌, ◌↔◌, inl, inr, ℕ, ◌+◌, ◌-◌, ◌<◌, ◌≤◌, Bool, false, IsTrue, List, length, get_or, set, ℤ, sym, ap, ◌∙◌}
use Rattle.std.proofs.Common.{subst, arith}
use Rattle.std.proofs.lemmas.Bool.{cases_lt}
use Rattle.std.proofs.lemmas.List.{get_or-set_same, get_or-set_other}
use Rattle.std.specs.Prelude.{slice_index}
use Rattle.grid_exact.specs.Geometry.{Place}
use Rattle.grid_exact.specs.declared.frame.Frame.{Frame}
use Rattle.chain_side.specs.Along.{IsAlong, vertex_at}
use Rattle.lane_kernels.specs.declared.side.Hand.TheVariants.{Left, Right}
use Rattle.lane_kernels.specs.Hands.{IsOnSide}
use Rattle.lane_kernels.specs.Places.{place_at, EachPlace}
use Rattle.side_wedge.specs.Flanks.{Flanks, StandsInRow, KeepsSides, row_of}
use Rattle.side_wedge.specs.Rows.{IsRow, KeepsAll}
use Rattle.side_wedge.specs.Strays.{RunsAlong}
use Rattle.side_wedge.specs.Wedge.{Lets, StartsAt, IsPast}
use Rattle.side_wedge.specs.declared.wedge.Wedge.{Wedge}

-- ---- the places of a row

pub stands_in_row : (b : Flanks) (row : ℕ) (xs ys : List ℤ) (n : ℕ) → IsRow b row xs ys → n < length xs
    → StandsInRow b row (place_at xs ys n)
stands_in_row b row xs ys n is within =
    let whole = is.whole in
    record {
      number = slice_index b.starts row + n;
      in_row = record { low = omega arith; high = omega arith };
      place =
          sym (is.places n within);
    }

pub each_in_row : (P : Place → Type 0) (b : Flanks) (row : ℕ) (xs ys : List ℤ) → IsRow b row xs ys → EachPlace P xs ys → (p : Place)
    → StandsInRow b row p → P p
each_in_row P b row xs ys is each p h =
    let start = slice_index b.starts row in
    let whole = is.whole in let low = h.in_row.low in let high = h.in_row.high in
    let n = h.number - start in
    let here : start + (h.number - start) ≡ h.number = omega arith in
    let within : h.number - start < length xs = omega arith in
    let same : place_at xs ys (h.number - start) ≡ p = is.places (h.number - start) within ∙ ap (place_at b.xs b.ys) here ∙ h.place in
    subst P same (each (h.number - start) (omega arith) within)

pub row_has_each : (P : Place → Type 0) (b : Flanks) (row : ℕ) (xs ys : List ℤ) → IsRow b row xs ys
    → ((p : Place) → StandsInRow b row p → P p) → EachPlace P xs ys
row_has_each P b row xs ys is h n low within = h (place_at xs ys n) (stands_in_row b row xs ys n is within)

-- ---- past the start

pub past_of : (w : Wedge) (frame : Frame) (rising : Bool) (start v : Place) → StartsAt w frame rising start → IsAlong frame rising start v
    → IsPast w v
past_of w frame rising start v s h = rw (s.in_frame, s.direction, s.place) h

pub past_from : (w : Wedge) (frame : Frame) (rising : Bool) (start v : Place) → StartsAt w frame rising start → IsPast w v
    → IsAlong frame rising start v
past_from w frame rising start v s h = rw (s.in_frame, s.direction, s.place) at h

pub starts_still : (w new : Wedge) (frame : Frame) (rising : Bool) (start : Place) → StartsAt w frame rising start
    → StartsAt new w.direction.frame w.direction.rising w.origin → StartsAt new frame rising start
starts_still w new frame rising start s t = record {
  in_frame = t.in_frame ∙ s.in_frame;
  direction = t.direction ∙ s.direction;
  place =
      t.place ∙ s.place;
}

-- ---- both rows of an edge

pub narrowed : (b : Flanks) (s : ℕ) (xs ys xs' ys' : List ℤ) (w w1 w2 : Wedge) (v : Place) → IsRow b (row_of s Left) xs ys
    → IsRow b (row_of s Right) xs' ys' → w1.origin ≡ w.origin
    → (Lets w1 v ↔ (Lets w v × EachPlace (IsOnSide Left w.origin v) xs ys))
    → (Lets w2 v ↔ (Lets w1 v × EachPlace (IsOnSide Right w1.origin v) xs' ys'))
    → Lets w2 v ↔ (Lets w v × KeepsSides b s w.origin v)
narrowed b s xs ys xs' ys' w w1 w2 v left right same one two = (
  λ h.
      let second = two.0 h in
      let first = one.0 second.0 in
      (first.0, keeps first.1 (subst (λ (o : Place). EachPlace (IsOnSide Right o v) xs' ys') same second.1)),
  λ both. two.1 (
    one.1 (both.0, row_has_each (IsOnSide Left w.origin v) b (row_of s Left) xs ys left (both.1 Left)),
    subst (λ (o : Place).
        EachPlace (IsOnSide Right o v) xs' ys') (sym same) (row_has_each (IsOnSide Right w.origin v) b (row_of s Right) xs' ys' right
        (both.1 Right)),
  ),
)
  where
    keeps : EachPlace (IsOnSide Left w.origin v) xs ys → EachPlace (IsOnSide Right w.origin v) xs' ys' → KeepsSides b s w.origin v
    keeps f g Left p h = each_in_row (IsOnSide Left w.origin v) b (row_of s Left) xs ys left f p h
    keeps f g Right p h = each_in_row (IsOnSide Right w.origin v) b (row_of s Right) xs' ys' right g p h

-- ---- edge after edge

-- what the wedge lets keeps the sides of what stands beside the edges so far
abbrev pub LetsSoFar : Flanks → Frame → Bool → Place → ℕ → ℕ → Wedge → Type 0
LetsSoFar b frame rising start i edge w = (v : Place) → IsAlong frame rising start v → Lets w v
    ↔ ((s : ℕ) → i ≤ s → s < edge → KeepsSides b s start v)

pub lets_more : (b : Flanks) (frame : Frame) (rising : Bool) (start : Place) (i edge : ℕ) (w new : Wedge) → i ≤ edge
    → StartsAt w frame rising start → StartsAt new frame rising start → LetsSoFar b frame rising start i edge w
    → ((v : Place) → IsPast new v → Lets new v ↔ (Lets w v × KeepsSides b edge w.origin v))
    → LetsSoFar b frame rising start i (edge + 1) new
lets_more b frame rising start i edge w new low at now before step v past =
    let here = step v (past_of new frame rising start v now past) in
    let so_far = before v past in (
      λ h s above below.
          let both = here.0 h in
          elim (cases_lt s edge) [
            | inl less ↦ so_far.0 both.0 s above less
            | inr more ↦ let same : edge ≡ s = omega arith in subst (λ (t : ℕ). KeepsSides b t start v) same
                (subst (λ (o : Place). KeepsSides b edge o v) at.place both.1)
          ],
      λ h. here.1 (
        so_far.1 (λ s above below. h s above (omega arith)),
        subst (λ (o : Place). KeepsSides b edge o v) (sym at.place)
            (h edge low (omega arith)),
      ),
    )

-- the row of answers so far
abbrev pub ToldSoFar : Flanks → List Place → ℕ → ℕ → List Bool → Type 0
ToldSoFar b chain i edge row = (j : ℕ) → i < j → j ≤ edge → IsTrue (get_or row j false) ↔ KeepsAll b chain i j

pub told_more : (b : Flanks) (chain : List Place) (i edge : ℕ) (row : List Bool) (t : Bool) → edge + 1 < length row
    → ToldSoFar b chain i edge row → (IsTrue t ↔ KeepsAll b chain i (edge + 1)) → ToldSoFar b chain i (edge + 1) (set row (edge + 1) t)
told_more b chain i edge row t within told here j low high =
    elim (cases_lt j (edge + 1)) [
      | inl less ↦
          let other : get_or (set row (edge + 1) t) j false ≡ get_or row j false =
          get_or-set_other row (edge + 1) j t false (λ e. absurd (omega arith)) in
          subst (λ (u : Bool). IsTrue u ↔ KeepsAll b chain i j) (sym other) (told j low (omega arith))
      | inr more ↦
          let same : edge + 1 ≡ j = omega arith in
          let written : get_or (set row (edge + 1) t) (edge + 1) false ≡ t = get_or-set_same row (edge + 1) t false within in
          subst (λ (n : ℕ). IsTrue (get_or (set row (edge + 1) t) n false)
          ↔ KeepsAll b chain i n) same (subst (λ (u : Bool). IsTrue u ↔ KeepsAll b chain i (edge + 1)) (sym written) here)
    ]

-- ---- a closed wedge

-- where the wedge lets nothing more, nothing keeps its side to a later vertex, and the row is clear from there on
pub told_closed : (b : Flanks) (frame : Frame) (rising : Bool) (chain : List Place) (i edge j : ℕ) (w : Wedge) (row new : List Bool)
    → RunsAlong frame rising chain → StartsAt w frame rising (vertex_at chain i)
    → LetsSoFar b frame rising (vertex_at chain i) i (edge + 1) w → ((v : Place) → IsPast w v → ¬ (Lets w v)) → ToldSoFar b chain i edge row
    → ((n : ℕ) → n < edge + 1 → get_or new n false ≡ get_or row n false)
    → ((n : ℕ) → edge + 1 ≤ n → n < length new → get_or new n false ≡ false) → i < j → j < length chain → j < length new
    → IsTrue (get_or new j false) ↔ KeepsAll b chain i j
told_closed b frame rising chain i edge j w row new runs at lets closed told before clear low within high =
    elim (cases_lt j (edge + 1)) [
      | inl less ↦ subst (λ (u : Bool). IsTrue u ↔ KeepsAll b chain i j) (sym (before j less)) (told j low (omega arith))
      | inr more ↦
          let none : get_or new j false ≡ false = clear j more high in
          let along = runs i j low within in (
            λ t. absurd (no_true (get_or new j false) none t),
            λ keeps. absurd (closed (vertex_at chain j) (past_of w frame rising (vertex_at chain i) (vertex_at chain j) at along)
                ((lets (vertex_at chain j) along).1 (λ s above below. keeps s above (omega arith)))),
          )
    ]
  where
    no_true : (t : Bool) → t ≡ false → IsTrue t → ⊥
    no_true t e h = cc

-- What holds of the active spans goes on to hold where the sweep passes a place.
use Rattle.std.proofs.Common.{◌≡◌, ◌⊎◌, ◌∙◌, inl, inr, pos, ◌<ℤ◌, List, [], ◌∷◌, ◌++◌, sym, ap, subst, arith}
use Rattle.std.specs.Prelude.{Contains}
use Rattle.std.proofs.lemmas.List.Elements.{Contains-append_cases, Contains-append_left, Contains-append_right}
use Rattle.grid_exact.specs.Geometry.{Place, area_of, IsBefore}
use Rattle.grid_exact.specs.Spans.{IsUpTo}
use Rattle.grid_exact.proofs.WholeLaws.{sums}
use Rattle.grid_exact.proofs.Orders.{up_to, up_to_same}
use Rattle.arc_map.specs.Edges.{EachOf, EachTwo}
use Rattle.plane_sweep.specs.declared.spans.Corner.{Corner}
use Rattle.plane_sweep.specs.declared.spans.Span.{Span}
use Rattle.plane_sweep.specs.Meeting.{MayJoin, MeetLawfully, side_of, BeginsUnder, EndsUnder}
use Rattle.plane_sweep.specs.Meeting.BeginsUnder.{LaterAbove, LaterBelow, Together}
use Rattle.plane_sweep.specs.Passage.{FirstHas, LastHas, Chained, TurnsUp, EndsAt, BeginsAt, MayPass, IsPassage}
use Rattle.plane_sweep.proofs.Gaps.{fan, zero_at_end}
use Rattle.plane_sweep.proofs.Under.{join_both, Spanned, under_at, Ended, under_is_lawful, lawful_turned, next_is_lawful, later_is_lawful}
use Rattle.plane_sweep.proofs.Under.Ended.{EndedAbove, EndedBelow, EndedTogether}
use Rattle.plane_sweep.proofs.Lists.{contains_cases, contains_none, contains_first, contains_later, of_each, each_by, two_first, two_second}
use Rattle.plane_sweep.proofs.Lists.{two_across, two_joined, two_either, chained_first, chained_second}

-- ---- the sides of all spans, from those of the nearest

abbrev IsRising : Span → Type 0
IsRising s = IsBefore s.low.place s.high.place

all_below : (q : Place) (xs : List Span) → ((x : Span) → Contains xs x → Spanned x q) → EachTwo BeginsUnder xs → Chained EndsUnder xs
    → LastHas (λ s. pos 0 <ℤ side_of s q) xs → EachOf (λ s. pos 0 <ℤ side_of s q) xs
all_below q [] over two chain last = tt
all_below q (x ∷ []) over two chain last = (last, tt)
all_below q (x ∷ y ∷ zs) over two chain last =
    let rest = all_below q (y ∷ zs) (λ s member. over s (contains_later x (y ∷ zs) s member)) two.1 chain.1 last in
    let under = under_at x y q (over x (contains_first x (y ∷ zs))) (over y (contains_later x (y ∷ zs) y (contains_first y zs))) two.0.0
    chain.0 in
    (under.above rest.0, rest)

all_above : (q : Place) (xs : List Span) → ((x : Span) → Contains xs x → Spanned x q) → EachTwo BeginsUnder xs → Chained EndsUnder xs
    → FirstHas (λ s. side_of s q <ℤ pos 0) xs → EachOf (λ s. side_of s q <ℤ pos 0) xs
all_above q [] over two chain first = tt
all_above q (x ∷ []) over two chain first = (first, tt)
all_above q (x ∷ y ∷ zs) over two chain first =
    let under = under_at x y q (over x (contains_first x (y ∷ zs))) (over y (contains_later x (y ∷ zs) y (contains_first y zs))) two.0.0
    chain.0 in
    (first, all_above q (y ∷ zs) (λ s member. over s (contains_later x (y ∷ zs) s member)) two.1 chain.1 (under.below first))

-- ---- spans that begin at one place

record BeginsRising (q : Place) (hub : Corner) (s : Span) : Type 0 where
  rising : IsRising s
  at : s.low.place ≡ q
  join : MayJoin hub s.low

turns_on : (q : Place) (hub : Corner) (x y z : Span) → BeginsRising q hub x → BeginsRising q hub y → BeginsRising q hub z → TurnsUp x y
    → TurnsUp y z → TurnsUp x z
turns_on q hub x y z bx by bz first second =
    let o = x.low.place in
    let y_at : y.low.place ≡ o = by.at ∙ sym bx.at in
    let z_at : z.low.place ≡ o = bz.at ∙ sym bx.at in
    fan o x.high.place y.high.place z.high.place bx.rising
    (subst (λ v. IsBefore v y.high.place) y_at by.rising)
    (subst (λ v. IsBefore v z.high.place) z_at bz.rising)
    first
    (subst (λ v. pos 0 <ℤ area_of v y.high.place z.high.place) y_at second)

together : (q : Place) (hub : Corner) (x y : Span) → BeginsRising q hub x → BeginsRising q hub y → TurnsUp x y → BeginsUnder x y
together q hub x y bx by turn = Together (bx.at ∙ sym by.at) (join_both hub x.low y.low bx.join by.join) turn

fan_from : (q : Place) (hub : Corner) (x : Span) (ys : List Span) → BeginsRising q hub x → EachOf (BeginsRising q hub) ys
    → FirstHas (TurnsUp x) ys → Chained TurnsUp ys → EachOf (BeginsUnder x) ys
fan_from q hub x [] bx all first chain = tt
fan_from q hub x (y ∷ []) bx all first chain = (together q hub x y bx all.0 first, tt)
fan_from q hub x (y ∷ z ∷ zs) bx all first chain = (
  together q hub x y bx all.0 first,
  fan_from q hub x (z ∷ zs) bx all.1 (turns_on q hub x y z bx all.0 all.1.0 first chain.0) chain.1,
)

fan_two : (q : Place) (hub : Corner) (xs : List Span) → EachOf (BeginsRising q hub) xs → Chained TurnsUp xs → EachTwo BeginsUnder xs
fan_two q hub [] all chain = tt
fan_two q hub (x ∷ xs) all chain = (fan_from q hub x xs all.0 all.1 chain.0 chain.1, fan_two q hub xs all.1 chain.1)

-- ---- what holds between two places

-- the place is before each of these
abbrev pub IsAhead : Place → List Place → Type 0
IsAhead p rest = (v : Place) → Contains rest v → IsBefore p v

-- where the spans `done` have begun and the places `rest` are to come, the active spans are those that have not ended, each under
-- the later ones; two spans of which one has ended meet lawfully
pub record Holds (done : List Span) (rest : List Place) (active : List Span) : Type 0 where
  pub rising : (s : Span) → Contains active s → IsBefore s.low.place s.high.place
  pub begun : (s : Span) → Contains active s → IsAhead s.low.place rest
  pub ends : (s : Span) → Contains active s → Contains rest s.high.place
  pub ordered : EachTwo BeginsUnder active
  pub linked : Chained EndsUnder active
  pub done_rising : (s : Span) → Contains done s → IsBefore s.low.place s.high.place
  pub gone : (s : Span) → Contains done s → Contains active s ⊎ IsAhead s.high.place rest
  pub pairs : (e f : Span) → Contains done e → Contains done f → ¬ (e.edge ≡ f.edge)
      → MeetLawfully e f ⊎ (Contains active e × Contains active f)

pub holds_first : (rest : List Place) → Holds [] rest []
holds_first rest = record {
  rising = λ s member. absurd (contains_none s member);
  begun = λ s member. absurd (contains_none s member);
  ends = λ s member. absurd (contains_none s member);
  ordered = tt;
  linked = tt;
  done_rising = λ s member. absurd (contains_none s member);
  gone = λ s member. absurd (contains_none s member);
  pairs = λ e f first second apart. absurd (contains_none e first);
}

-- past the last place all pairs are lawful
pub holds_last : (done active : List Span) → Holds done [] active → (e f : Span) → Contains done e → Contains done f → ¬ (e.edge ≡ f.edge)
    → MeetLawfully e f
holds_last done active holds e f first second apart = elim (holds.pairs e f first second apart) [
  | inl law ↦ law
  | inr both ↦ absurd (contains_none e.high.place (holds.ends e both.0))
]

-- ---- one place

-- the new spans begin at the place, and end later
pub record AreNew (rest : List Place) (new : List Span) : Type 0 where
  pub rising : (s : Span) → Contains new s → IsBefore s.low.place s.high.place
  pub ends : (s : Span) → Contains new s → Contains rest s.high.place

-- where an active span stands to the place
data Stands (below block above : List Span) (s : Span) : Type 0 where
  Below : Contains below s → Stands below block above s
  Within : Contains block s → Stands below block above s
  Above : Contains above s → Stands below block above s

stands : (below block above : List Span) (s : Span) → Contains (below ++ (block ++ above)) s → Stands below block above s
stands below block above s member = elim (Contains-append_cases below (block ++ above) s member) [
  | inl h ↦ Below h
  | inr later ↦ elim (Contains-append_cases block above s later) [ inl h ↦ Within h | inr h ↦ Above h ]
]

module _ (q : Place) (done : List Span) (rest : List Place) (below block above new : List Span) (ahead : IsAhead q rest) (fresh :
    AreNew rest new) (passes : MayPass q below block above new) (holds : Holds done (q ∷ rest) (below ++ (block ++ above))) where
  abbrev Old : List Span
  Old = below ++ (block ++ above)

  abbrev Now : List Span
  Now = below ++ (new ++ above)

  old_below : (s : Span) → Contains below s → Contains Old s
  old_below s h = Contains-append_left below (block ++ above) s h

  old_block : (s : Span) → Contains block s → Contains Old s
  old_block s h = Contains-append_right below (block ++ above) s (Contains-append_left block above s h)

  old_above : (s : Span) → Contains above s → Contains Old s
  old_above s h = Contains-append_right below (block ++ above) s (Contains-append_right block above s h)

  now_below : (s : Span) → Contains below s → Contains Now s
  now_below s h = Contains-append_left below (new ++ above) s h

  now_new : (s : Span) → Contains new s → Contains Now s
  now_new s h = Contains-append_right below (new ++ above) s (Contains-append_left new above s h)

  now_above : (s : Span) → Contains above s → Contains Now s
  now_above s h = Contains-append_right below (new ++ above) s (Contains-append_right new above s h)

  -- an active span reaches over the place
  low_before : (s : Span) → Contains Old s → IsBefore s.low.place q
  low_before s member = holds.begun s member q (contains_first q rest)

  high_after : (s : Span) → Contains Old s → IsUpTo q s.high.place
  high_after s member = elim (contains_cases q rest s.high.place (holds.ends s member)) [
    | inl same ↦ up_to_same q s.high.place same
    | inr later ↦ up_to q s.high.place (ahead s.high.place later)
  ]

  spanned : (s : Span) → Contains Old s → Spanned s q
  spanned s member = record { rising = holds.rising s member; from = up_to s.low.place q (low_before s member); to = high_after s member }

  ordered_block_above : EachTwo BeginsUnder (block ++ above)
  ordered_block_above = two_second BeginsUnder below (block ++ above) holds.ordered

  ordered_below : EachTwo BeginsUnder below
  ordered_below = two_first BeginsUnder below (block ++ above) holds.ordered

  ordered_above : EachTwo BeginsUnder above
  ordered_above = two_second BeginsUnder block above ordered_block_above

  linked_below : Chained EndsUnder below
  linked_below = chained_first EndsUnder below (block ++ above) holds.linked

  linked_above : Chained EndsUnder above
  linked_above = chained_second EndsUnder block above (chained_second EndsUnder below (block ++ above) holds.linked)

  side_below : (s : Span) → Contains below s → pos 0 <ℤ side_of s q
  side_below = of_each (λ s. pos 0 <ℤ side_of s q) below (all_below q below (λ s member. spanned s (old_below s member)) ordered_below
      linked_below passes.lower)

  side_above : (s : Span) → Contains above s → side_of s q <ℤ pos 0
  side_above = of_each (λ s. side_of s q <ℤ pos 0) above (all_above q above (λ s member. spanned s (old_above s member)) ordered_above
      linked_above passes.upper)

  ends_here : (s : Span) → Contains block s → EndsAt q passes.hub s
  ends_here = of_each (EndsAt q passes.hub) block passes.ends

  begins_here : (s : Span) → Contains new s → BeginsAt q passes.hub s
  begins_here = of_each (BeginsAt q passes.hub) new passes.begins

  -- ---- the spans that go on

  ends_later : (s : Span) → Contains Old s → ¬ (side_of s q ≡ pos 0) → Contains rest s.high.place
  ends_later s member off = elim (contains_cases q rest s.high.place (holds.ends s member)) [
    | inl same ↦ absurd (off (ap (side_of s) same ∙ zero_at_end s.low.place s.high.place))
    | inr later ↦ later
  ]

  below_later : (s : Span) → Contains below s → Contains rest s.high.place
  below_later s h = let p = side_below s h in ends_later s (old_below s h) (λ e. omega (arith, sums, p, e))

  above_later : (s : Span) → Contains above s → Contains rest s.high.place
  above_later s h = let p = side_above s h in ends_later s (old_above s h) (λ e. omega (arith, sums, p, e))

  begun_old : (s : Span) → Contains Old s → IsAhead s.low.place rest
  begun_old s member v later = holds.begun s member v (contains_later q rest v later)

  begun_new : (s : Span) → Contains new s → IsAhead s.low.place rest
  begun_new s h v later = subst (λ p. IsBefore p v) (sym (begins_here s h).0) (ahead v later)

  -- ---- the new order

  below_new : (x y : Span) → Contains below x → Contains new y → BeginsUnder x y
  below_new x y first second =
      let at = sym (begins_here y second).0 in
      LaterAbove (subst (λ v. IsUpTo x.low.place v) at (up_to x.low.place q (low_before x (old_below x first))))
      (subst (λ v. pos 0 <ℤ side_of x v) at (side_below x first))

  new_above : (x y : Span) → Contains new x → Contains above y → BeginsUnder x y
  new_above x y first second =
      let at = sym (begins_here x first).0 in
      LaterBelow (subst (λ v. IsUpTo y.low.place v) at (up_to y.low.place q (low_before y (old_above y second))))
      (subst (λ v. side_of y v <ℤ pos 0) at (side_above y second))

  below_above : (x y : Span) → Contains below x → Contains above y → BeginsUnder x y
  below_above x y first second = two_across BeginsUnder below (block ++ above) holds.ordered x y first
      (Contains-append_right block above y second)

  ordered_new : EachTwo BeginsUnder new
  ordered_new = fan_two q passes.hub new (each_by (BeginsRising q passes.hub) new (λ s member. let b = begins_here s member in
      record { rising = fresh.rising s member; at = b.0; join = b.1 })) passes.fan

  ordered_now : EachTwo BeginsUnder Now
  ordered_now =
      two_joined BeginsUnder below (new ++ above) ordered_below
      (two_joined BeginsUnder new above ordered_new ordered_above new_above)
      (λ x y first member. elim (Contains-append_cases new above y member) [
        | inl h ↦ below_new x y first h
        | inr h ↦ below_above x y first h
      ])

  -- ---- pairs of which one ends

  below_block : (x y : Span) → Contains below x → Contains block y → MeetLawfully x y
  below_block x y first second =
      under_is_lawful x y
      (two_across BeginsUnder below (block ++ above) holds.ordered x y first (Contains-append_left block above y second))
      (EndedAbove (subst (λ v. pos 0 <ℤ side_of x v) (sym (ends_here y second).0) (side_below x first)))

  block_above : (x y : Span) → Contains block x → Contains above y → MeetLawfully x y
  block_above x y first second =
      under_is_lawful x y
      (two_across BeginsUnder block above ordered_block_above x y first second)
      (EndedBelow (subst (λ v. side_of y v <ℤ pos 0) (sym (ends_here x first).0) (side_above y second)))

  ended_together : (x y : Span) → Contains block x → Contains block y → Ended x y
  ended_together x y first second =
      let a = ends_here x first in let b = ends_here y second in
      EndedTogether (a.0 ∙ sym b.0) (join_both passes.hub x.high y.high a.1 b.1)

  in_block : (x y : Span) → Contains block x → Contains block y → ¬ (x ≡ y) → MeetLawfully x y
  in_block x y first second apart = elim (two_either BeginsUnder block (two_first BeginsUnder block above ordered_block_above) x y first
      second apart) [
        | inl under ↦ under_is_lawful x y under (ended_together x y first second)
        | inr over ↦ lawful_turned y x (under_is_lawful y x over (ended_together y x second first))
      ]

  abbrev Settled : Span → Span → Type 0
  Settled e f = MeetLawfully e f ⊎ (Contains Now e × Contains Now f)

  both_active : (e f : Span) → ¬ (e.edge ≡ f.edge) → Stands below block above e → Stands below block above f → Settled e f
  both_active e f apart (Below h) (Below k) = inr (now_below e h, now_below f k)
  both_active e f apart (Below h) (Within k) = inl (below_block e f h k)
  both_active e f apart (Below h) (Above k) = inr (now_below e h, now_above f k)
  both_active e f apart (Within h) (Below k) = inl (lawful_turned f e (below_block f e k h))
  both_active e f apart (Within h) (Within k) = inl (in_block e f h k (λ same. apart (ap (λ s. s.edge) same)))
  both_active e f apart (Within h) (Above k) = inl (block_above e f h k)
  both_active e f apart (Above h) (Below k) = inr (now_above e h, now_below f k)
  both_active e f apart (Above h) (Within k) = inl (lawful_turned f e (block_above f e k h))
  both_active e f apart (Above h) (Above k) = inr (now_above e h, now_above f k)

  old_pair : (e f : Span) → Contains done e → Contains done f → ¬ (e.edge ≡ f.edge) → Settled e f
  old_pair e f first second apart = elim (holds.pairs e f first second apart) [
    | inl law ↦ inl law
    | inr both ↦ both_active e f apart (stands below block above e both.0) (stands below block above f both.1)
  ]

  next_pair : (e f : Span) → Contains done e → Contains new f → Contains block e → MeetLawfully e f
  next_pair e f first second ends =
      let a = ends_here e ends in let b = begins_here f second in
      next_is_lawful e f (holds.done_rising e first) (fresh.rising f second) (a.0 ∙ sym b.0) (join_both passes.hub e.high f.low a.1 b.1)

  active_new : (e f : Span) → Contains done e → Contains new f → Stands below block above e → Settled e f
  active_new e f first second (Below h) = inr (now_below e h, now_new f second)
  active_new e f first second (Within h) = inl (next_pair e f first second h)
  active_new e f first second (Above h) = inr (now_above e h, now_new f second)

  old_new : (e f : Span) → Contains done e → Contains new f → Settled e f
  old_new e f first second = elim (holds.gone e first) [
    | inl active ↦ active_new e f first second (stands below block above e active)
    | inr past ↦ inl (later_is_lawful e f (holds.done_rising e first) (fresh.rising f second)
        (subst (λ v. IsBefore e.high.place v) (sym (begins_here f second).0) (past q (contains_first q rest))))
  ]

  settled_turned : (e f : Span) → Settled e f → Settled f e
  settled_turned e f (inl law) = inl (lawful_turned e f law)
  settled_turned e f (inr both) = inr (both.1, both.0)

  pairs_now : (e f : Span) → Contains (done ++ new) e → Contains (done ++ new) f → ¬ (e.edge ≡ f.edge) → Settled e f
  pairs_now e f first second apart = elim (Contains-append_cases done new e first) [
    | inl a ↦ elim (Contains-append_cases done new f second) [
      | inl b ↦ old_pair e f a b apart
      | inr b ↦ old_new e f a b
    ]
    | inr a ↦ elim (Contains-append_cases done new f second) [
      | inl b ↦ settled_turned f e (old_new f e b a)
      | inr b ↦ inr (now_new e a, now_new f b)
    ]
  ]

  gone_from : (s : Span) → Stands below block above s → Contains Now s ⊎ IsAhead s.high.place rest
  gone_from s (Below h) = inl (now_below s h)
  gone_from s (Within h) = inr (λ v later. subst (λ p. IsBefore p v) (sym (ends_here s h).0) (ahead v later))
  gone_from s (Above h) = inl (now_above s h)

  gone_old : (s : Span) → Contains done s → Contains Now s ⊎ IsAhead s.high.place rest
  gone_old s member = elim (holds.gone s member) [
    | inl active ↦ gone_from s (stands below block above s active)
    | inr past ↦ inr (λ v later. past v (contains_later q rest v later))
  ]

  -- what holds of those below, of the new ones and of those above holds of each active span
  of_now : (P : Span → Type 0) → ((s : Span) → Contains below s → P s) → ((s : Span) → Contains new s → P s)
      → ((s : Span) → Contains above s → P s) → (s : Span) → Contains Now s → P s
  of_now P first second third s member = elim (stands below new above s member) [
    | Below h ↦ first s h
    | Within h ↦ second s h
    | Above h ↦ third s h
  ]

  of_done : (P : Span → Type 0) → ((s : Span) → Contains done s → P s) → ((s : Span) → Contains new s → P s) → (s : Span)
      → Contains (done ++ new) s → P s
  of_done P first second s member = elim (Contains-append_cases done new s member) [ inl h ↦ first s h | inr h ↦ second s h ]

  pub holds_past : Holds (done ++ new) rest Now
  holds_past = record {
    rising = of_now (λ s. IsBefore s.low.place s.high.place) (λ s h. holds.rising s (old_below s h)) fresh.rising (λ s h.
        holds.rising s (old_above s h));
    begun = of_now (λ s. IsAhead s.low.place rest) (λ s h. begun_old s (old_below s h)) begun_new (λ s h. begun_old s (old_above s h));
    ends = of_now (λ s. Contains rest s.high.place) below_later fresh.ends above_later;
    ordered = ordered_now;
    linked = passes.linked linked_below linked_above;
    done_rising = of_done (λ s. IsBefore s.low.place s.high.place) holds.done_rising fresh.rising;
    gone = of_done (λ s. Contains Now s ⊎ IsAhead s.high.place rest) gone_old (λ s h. inl (now_new s h));
    pairs = pairs_now;
  }

-- the active spans past a place
pub holds_passed : (q : Place) (done : List Span) (rest : List Place) (new old now : List Span) → IsAhead q rest → AreNew rest new
    → IsPassage q new old now → Holds done (q ∷ rest) old → Holds (done ++ new) rest now
holds_passed q done rest new old now ahead fresh passage holds =
    subst (Holds (done ++ new) rest) (sym passage.after)
    (holds_past q done rest passage.below passage.block passage.above new ahead fresh passage.passes
    (subst (Holds done (q ∷ rest)) passage.before holds))

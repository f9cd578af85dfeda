-- Which way weighted places run, and which of them a cone lets.
use Rattle.std.proofs.Common.{◌≡◌, ◌∙◌, ◌↔◌, ℕ, zero, suc, ℤ, pos, ◌+◌, ◌-◌, ◌<◌, ◌≤◌, ◌-ℤ◌, ◌*ℤ◌, ◌<ℤ◌, Bool, true, false, IsTrue, List}
use Rattle.std.proofs.Common.{[], ◌∷◌, length, get_or, sym, ap, subst, refl, arith}
use Rattle.grid_exact.specs.Geometry.{Place, IsBefore, IsWithin, turned}
use Rattle.grid_exact.specs.Geometry.IsBefore.{Left, Below}
use Rattle.grid_exact.specs.Frame.{IsBeforeIn}
use Rattle.grid_exact.specs.Near.{weighted}
use Rattle.grid_exact.specs.Runs.{IsMonotone}
use Rattle.grid_exact.specs.Walks.{EachEdge}
use Rattle.grid_exact.specs.declared.frame.Frame.{Frame}
use Rattle.grid_exact.specs.declared.frame.Frame.TheVariants.{Plain, Turned}
use Rattle.grid_exact.proofs.WholeLaws.{sums}
use Rattle.grid_exact.proofs.Signs.{times_positive}
use Rattle.grid_exact.proofs.Polynomial.{◌⊖◌, ◌⊗◌, ◌≈◌, identity_3}
use Rattle.chain_side.specs.Along.{IsAlong}
use Rattle.chain_side.proofs.AlongOrder.{one_way, then_along}
use Rattle.chain_side.proofs.Told.{way_of}
use Rattle.error_cone.specs.Cone.{IsPast, Lets, StartsAt}
use Rattle.error_cone.specs.Courses.{IsConeFrom, IsNearBetween, LetsNear, RunsAlong}
use Rattle.error_cone.specs.declared.cone.Cone.{Cone}

-- ---- weighted places run as the places do

times_below : (w a b : ℤ) → pos 0 <ℤ w → a <ℤ b → (w *ℤ a) <ℤ (w *ℤ b)
times_below w a b some h =
    let e = identity_3 w a b (λ w a b. w ⊗ (b ⊖ a) ≈ w ⊗ b ⊖ w ⊗ a) refl in
    let p : pos 0 <ℤ (w *ℤ (b -ℤ a)) = times_positive w (b -ℤ a) some (omega (arith, sums)) in
    omega (arith, sums, e)

weighted_before : (wx wy : ℤ) → pos 0 <ℤ wx → pos 0 <ℤ wy → (a b : Place) → IsBefore a b → IsBefore (weighted wx wy a) (weighted wx wy b)
weighted_before wx wy wide high a b (Left h) = Left (times_below wx a.x b.x wide h)
weighted_before wx wy wide high a b (Below e h) = Below (ap (λ z. wx *ℤ z) e) (times_below wy a.y b.y high h)

weighted_along : (wx wy : ℤ) → pos 0 <ℤ wx → pos 0 <ℤ wy → (frame : Frame) (rising : Bool) (a b : Place) → IsAlong frame rising a b
    → IsAlong frame rising (weighted wx wy a) (weighted wx wy b)
weighted_along wx wy wide high Plain true a b h = weighted_before wx wy wide high a b h
weighted_along wx wy wide high Plain false a b h = weighted_before wx wy wide high b a h
weighted_along wx wy wide high Turned true a b h = weighted_before wy wx high wide (turned a) (turned b) h
weighted_along wx wy wide high Turned false a b h = weighted_before wy wx high wide (turned b) (turned a) h

-- ---- which way places run

along_numbers : (frame : Frame) (rising : Bool) (v : Place) (ws : List Place) (d : Place) → EachEdge (IsAlong frame rising) v ws → (b : ℕ)
    → b < length ws → IsAlong frame rising v (get_or ws b d)
along_numbers frame rising v [] d way b h = absurd (omega arith)
along_numbers frame rising v (w ∷ ws) d way zero h = way.0
along_numbers frame rising v (w ∷ ws) d way (suc b) h = then_along frame rising v w (get_or ws b d) way.0
    (along_numbers frame rising w ws d way.1 b (omega arith))

runs_by_number : (frame : Frame) (rising : Bool) (v : Place) (ws : List Place) (d : Place) → EachEdge (IsAlong frame rising) v ws
    → RunsAlong frame rising (λ k. get_or (v ∷ ws) k d) (length (v ∷ ws))
runs_by_number frame rising v ws d way a zero ab h = absurd (omega arith)
runs_by_number frame rising v ws d way zero (suc b) ab h = along_numbers frame rising v ws d way b (omega arith)
runs_by_number frame rising v [] d way (suc a) (suc b) ab h = absurd (omega arith)
runs_by_number frame rising v (w ∷ ws) d way (suc a) (suc b) ab h = runs_by_number frame rising w ws d way.1 a b (omega arith) (omega arith)

-- the first place and the last tell the direction
by_ends : (frame : Frame) (way rising : Bool) (first last : Place) → IsAlong frame way first last
    → (IsTrue rising ↔ IsBeforeIn frame first last) → way ≡ rising
by_ends frame true true first last h test = refl
by_ends frame true false first last h test = let yes = test.1 h in absurd (cc)
by_ends frame false true first last h test = absurd (one_way frame false first last h (test.0 refl))
by_ends frame false false first last h test = refl

runs_by_ends : (frame : Frame) (way rising : Bool) (place : ℕ → Place) (count : ℕ) → RunsAlong frame way place count
    → (IsTrue rising ↔ IsBeforeIn frame (place 0) (place (count - 1))) → RunsAlong frame rising place count
runs_by_ends frame way rising place count runs test a b ab h =
    let e : way ≡ rising = by_ends frame way rising (place 0) (place (count - 1)) (runs 0 (count - 1) (omega arith) (omega arith)) test in
    subst (λ (r : Bool). IsAlong frame r (place a) (place b)) e (runs a b ab h)

-- the weighted places of a walk that runs strictly one way run along as their ends tell
pub weighted_runs : (wx wy : ℤ) (frame : Frame) (rising : Bool) (v : Place) (ws : List Place) (d : Place) (place : ℕ → Place) (count : ℕ)
    → pos 0 <ℤ wx → pos 0 <ℤ wy → IsMonotone frame v ws → count ≡ length (v ∷ ws)
    → ((k : ℕ) → k < count → place k ≡ weighted wx wy (get_or (v ∷ ws) k d))
    → (IsTrue rising ↔ IsBeforeIn frame (place 0) (place (count - 1))) → RunsAlong frame rising place count
weighted_runs wx wy frame rising v ws d place count wide high monotone size same test =
    let way = way_of frame v ws monotone in
    let at : ℕ → Place = λ k. get_or (v ∷ ws) k d in
    runs_by_ends frame way.rising rising place count
    (λ a b ab h.
    subst (λ (p : Place). IsAlong frame way.rising p (place b)) (sym (same a (omega arith)))
    (subst (λ (q : Place). IsAlong frame way.rising (weighted wx wy (at a)) q) (sym (same b h))
    (weighted_along wx wy wide high frame way.rising (at a) (at b)
    (runs_by_number frame way.rising v ws d way.runs a b ab (omega (arith, size, h)))))) test

-- ---- the cone and the places ahead of it

past_by : (c : Cone) (frame : Frame) (rising : Bool) (o v : Place) (bound : ℤ) → StartsAt c frame rising o bound → IsAlong frame rising o v
    → IsPast c v
past_by c frame rising o v bound at h =
    subst (λ (f : Frame). IsAlong f c.direction.rising c.origin v) (sym at.in_frame)
    (subst (λ (r : Bool). IsAlong frame r c.origin v) (sym at.direction)
    (subst (λ (x : Place). IsAlong frame rising x v) (sym at.place) h))

pub cone_starts : (c : Cone) (frame : Frame) (rising : Bool) (place : ℕ → Place) (count : ℕ) (bound : ℤ) (i : ℕ) (p : Place)
    → StartsAt c frame rising p bound → p ≡ place i → RunsAlong frame rising place count → IsConeFrom c place count bound i
cone_starts c frame rising place count bound i p at is runs =
    record {
      origin = at.place ∙ is;
      reach = at.reach;
      later = λ j after within. past_by c frame rising p (place j) bound at
          (subst (λ (x : Place). IsAlong frame rising x (place j)) (sym is) (runs i j after within));
    }

pub cone_stays : (c new : Cone) (place : ℕ → Place) (count : ℕ) (bound : ℤ) (i : ℕ) → IsConeFrom c place count bound i
    → StartsAt new c.direction.frame c.direction.rising c.origin c.bound → IsConeFrom new place count bound i
cone_stays c new place count bound i cone at =
    record {
      origin = at.place ∙ cone.origin;
      reach = at.reach ∙ cone.reach;
      later = λ j after within. past_by new c.direction.frame c.direction.rising c.origin (place j) c.bound at (cone.later j after within);
    }

pub lets_all : (c : Cone) (place : ℕ → Place) (count : ℕ) (bound : ℤ) (i : ℕ) → IsConeFrom c place count bound i
    → ((v : Place) → IsPast c v → Lets c v) → LetsNear c place count bound i (i + 1)
lets_all c place count bound i cone all j low within near = all (place j) (cone.later j (omega arith) within)

pub lets_later : (c : Cone) (place : ℕ → Place) (count : ℕ) (bound : ℤ) (i j : ℕ) → LetsNear c place count bound i j
    → LetsNear c place count bound i (j + 1)
lets_later c place count bound i j lets m low within near = lets m (omega arith) within near

-- the place number j is taken
pub lets_taken : (c new : Cone) (place : ℕ → Place) (count : ℕ) (bound : ℤ) (i j : ℕ) (p : Place) → IsConeFrom c place count bound i → i < j
    → p ≡ place j → ((v : Place) → IsPast c v → IsWithin c.origin v p c.bound → Lets c v → Lets new v) → LetsNear c place count bound i j
    → LetsNear new place count bound i (j + 1)
lets_taken c new place count bound i j p cone order is stays lets m low within near =
    let there = subst (λ (q : Place). IsWithin (place i) (place m) q bound) (sym is) (near j order (omega arith)) in
    let from = subst (λ (o : Place). IsWithin o (place m) p bound) (sym cone.origin) there in
    let reach = subst (λ (e : ℤ). IsWithin c.origin (place m) p e) (sym cone.reach) from in
    stays (place m) (cone.later m (omega arith) within) reach (lets m (omega arith) within near)

-- once nothing past the start is let, no later place is near
pub none_near : (c : Cone) (place : ℕ → Place) (count : ℕ) (bound : ℤ) (i next : ℕ) → i < next → IsConeFrom c place count bound i
    → LetsNear c place count bound i next → ((v : Place) → IsPast c v → ¬ (Lets c v)) → (j : ℕ) → next ≤ j → j < count
    → ¬ (IsNearBetween place bound i j)
none_near c place count bound i next order cone lets none j low within near =
    none (place j) (cone.later j (omega arith) within) (lets j low within near)

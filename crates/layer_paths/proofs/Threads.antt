-- One vertex more in front, and what comes before what.
use Rattle.std.proofs.Common.{◌≡◌, ◌≢◌, max, inl, inr, ℕ, zero, suc, ◌+◌, ◌-◌, ◌<◌, ◌≤◌, List, length, replicate, slice_index, slice_set}
use Rattle.std.proofs.Common.{get_or-set_same, get_or-set_other, arith, ◌∙◌, ap, sym, subst, refl}
use Rattle.std.proofs.lemmas.Bool.{cases_order, cases_lt}
use Rattle.std.proofs.lemmas.List.{get_or-replicate}
use Rattle.layer_paths.specs.Order.{ComesBefore, IsFirstIn, IsForemost, IsFollowing}
use Rattle.layer_paths.specs.Threads.{AreThreads}

-- ---- lists with one number written

pub here : (xs : List ℕ) (i v : ℕ) → i < length xs → slice_index (slice_set xs i v) i ≡ v
here xs i v within = get_or-set_same xs i v 0 within

pub there : (xs : List ℕ) (i k v : ℕ) → k ≢ i → slice_index (slice_set xs i v) k ≡ slice_index xs k
there xs i k v other = get_or-set_other xs i k v 0 other

-- ---- the least vertex of a layer

-- a vertex before these is written
first_kept : (layers : List ℕ) (m from layer at vertex n : ℕ) → vertex < from → IsFirstIn layers m from layer at
    → IsFirstIn (slice_set layers vertex n) m from layer at
first_kept layers m from layer at vertex n before is =
    let low = is.after in
    record {
      after = is.after;
      on = λ within. let ne : at ≢ vertex = (λ e. absurd (omega arith)) in there layers vertex at n ne ∙ is.on within;
      none = λ k up down less e. let ne : k ≢ vertex = (λ f. absurd (omega arith)) in
          is.none k up down less (sym (there layers vertex k n ne) ∙ e);
    }

-- of another layer than the vertex that is put in front
first_passed : (layers : List ℕ) (m front layer at vertex n : ℕ) → vertex + 1 ≡ front → vertex < length layers → n ≢ layer
    → IsFirstIn layers m front layer at → IsFirstIn (slice_set layers vertex n) m vertex layer at
first_passed layers m front layer at vertex n up room other is =
    let kept = first_kept layers m front layer at vertex n (omega arith) is in
    let low = is.after in
    record {
      after = omega arith;
      on = kept.on;
      none = λ k above down less e. elim (cases_lt vertex k) [
        | inl past ↦ kept.none k (omega arith) down less e
        | inr not_past ↦
            let same : k ≡ vertex = omega arith in
            other (sym (here layers vertex n room) ∙ ap (λ (x : ℕ). slice_index (slice_set layers vertex n) x) (sym same) ∙ e)
      ];
    }

-- ---- the threads

pub threads_start : (m : ℕ) (layers nexts heads links : List ℕ) → slice_index layers m ≡ 0 → slice_index heads 0 ≡ m
    → ((k : ℕ) → 0 < k → k ≤ m → m < slice_index heads k) → m < slice_index links m → AreThreads m m layers nexts heads links
threads_start m layers nexts heads links zero_there first others past =
    record {
      head = head;
      link = λ k up down. let same : k ≡ m = omega arith in subst (λ (x : ℕ).
          IsFirstIn layers m (x + 1) (slice_index layers x) (slice_index links x)) (sym same)
          (record { after = omega arith; on = λ within. absurd (omega arith); none = λ j above below less e. omega arith });
      small = λ k up down. let same : k ≡ m = omega arith in let none : slice_index layers k ≡ 0 = ap (slice_index layers) same
          ∙ zero_there in omega arith;
      falls = λ k up down. absurd (omega arith);
      next = λ k up down. absurd (omega arith);
    }
  where
    head : (layer : ℕ) → layer ≤ m → IsFirstIn layers m m layer (slice_index heads layer)
    head layer within = elim (cases_lt 0 layer) [
      | inl more ↦
          let far = others layer more within in
          record {
            after = omega arith;
            on = λ near. absurd (omega arith);
            none = λ k up down less e. let same : k ≡ m = omega arith in let none : slice_index layers k ≡ 0 = ap (slice_index layers) same
                ∙ zero_there in omega arith;
          }
      | inr none ↦
          let bottom : layer ≡ 0 = omega arith in
          subst (λ (x : ℕ). IsFirstIn layers m m x (slice_index heads x)) (sym bottom) (record {
            after = omega (arith, first);
            on = λ near. ap (slice_index layers) first ∙ zero_there;
            none = λ k up down less e. omega (arith, first);
          })
    ]

-- one vertex, in lists as they are made
pub threads_first : (layers nexts heads links : List ℕ) → layers ≡ replicate 1024 0 → heads ≡ replicate 1024 0 → links ≡ replicate 1024 1024
    → AreThreads 0 0 layers nexts heads links
threads_first layers nexts heads links is_layers is_heads is_links =
    threads_start 0 layers nexts heads links
    (ap (λ (xs : List ℕ). slice_index xs 0) is_layers ∙ read 1024 0 (omega arith))
    (ap (λ (xs : List ℕ). slice_index xs 0) is_heads ∙ read 1024 0 (omega arith))
    (λ k more within. absurd (omega arith))
    (omega (arith, ap (λ (xs : List ℕ). slice_index xs 0) is_links ∙ read 1024 1024 (omega arith)))
  where
    read : (n v : ℕ) → 0 < n → slice_index (replicate n v) 0 ≡ v
    read n v some = get_or-replicate n 0 v 0 some

pub threads_more : (m front vertex j n : ℕ) (layers nexts heads links : List ℕ) → vertex + 1 ≡ front → front ≤ m → m < 1024 → front ≤ j
    → j ≤ m → length layers ≡ 1024 → length nexts ≡ 1024 → length heads ≡ 1024 → length links ≡ 1024 → n ≡ slice_index layers j + 1
    → slice_index layers j ≤ slice_index layers front → AreThreads m front layers nexts heads links
    → AreThreads m vertex (slice_set layers vertex n) (slice_set nexts vertex j) (slice_set heads n vertex)
    (slice_set links vertex (slice_index heads n))
threads_more m front vertex j n layers nexts heads links up within size after to_m rl rn rh rk is_n near t =
    record { head = head; link = link; small = small; falls = falls; next = next }
  where
    now : List ℕ
    now = slice_set layers vertex n

    low : n ≤ m
    low = let s = t.small j after to_m in omega arith

    written : slice_index now vertex ≡ n
    written = here layers vertex n (omega arith)

    stays : (k : ℕ) → front ≤ k → slice_index now k ≡ slice_index layers k
    stays k above = let ne : k ≢ vertex = (λ e. absurd (omega arith)) in there layers vertex k n ne

    head : (layer : ℕ) → layer ≤ m → IsFirstIn now m vertex layer (slice_index (slice_set heads n vertex) layer)
    head layer fits = elim (cases_order layer n) [
      | inl same ↦
          let value : slice_index (slice_set heads n vertex) layer ≡ vertex = ap (slice_index (slice_set heads n vertex)) same
          ∙ here heads n vertex (omega (arith, low)) in
          subst (λ (x : ℕ). IsFirstIn now m vertex layer x) (sym value) (record {
            after = omega arith;
            on = λ near. written ∙ sym same;
            none = λ k above below less e. omega arith;
          })
      | inr other ↦
          let ne : layer ≢ n = grind arith in
          let differs : n ≢ layer = (λ e. ne (sym e)) in
          let value : slice_index (slice_set heads n vertex) layer ≡ slice_index heads layer = there heads n layer vertex ne in
          subst (λ (x : ℕ). IsFirstIn now m vertex layer x) (sym value)
          (first_passed layers m front layer (slice_index heads layer) vertex n up (omega arith) differs (t.head layer fits))
    ]

    link : (k : ℕ) → vertex ≤ k → k ≤ m → IsFirstIn now m (k + 1) (slice_index now k)
        (slice_index (slice_set links vertex (slice_index heads n)) k)
    link k above below = elim (cases_lt vertex k) [
      | inl past ↦
          let ne : k ≢ vertex = (λ e. absurd (omega arith)) in
          let value : slice_index (slice_set links vertex (slice_index heads n)) k ≡ slice_index links k =
          there links vertex k (slice_index heads n) ne in
          subst (λ (x : ℕ). IsFirstIn now m (k + 1) (slice_index now k) x) (sym value)
          (subst (λ (x : ℕ). IsFirstIn now m (k + 1) x (slice_index links k)) (sym (stays k (omega arith)))
          (first_kept layers m (k + 1) (slice_index layers k) (slice_index links k) vertex n (omega arith) (t.link k (omega arith) below)))
      | inr not_past ↦
          let same : k ≡ vertex = omega arith in
          let value : slice_index (slice_set links vertex (slice_index heads n)) vertex ≡ slice_index heads n =
          here links vertex (slice_index heads n) (omega arith) in
          let first : IsFirstIn now m front n (slice_index heads n) =
          first_kept layers m front n (slice_index heads n) vertex n (omega arith) (t.head n low) in
          subst (λ (x : ℕ). IsFirstIn now m (x + 1) (slice_index now x) (slice_index (slice_set links vertex (slice_index heads n)) x))
          (sym same)
          (subst (λ (x : ℕ). IsFirstIn now m (vertex + 1) (slice_index now vertex) x) (sym value)
          (subst (λ (x : ℕ). IsFirstIn now m (vertex + 1) x (slice_index heads n)) (sym written)
          (subst (λ (x : ℕ). IsFirstIn now m x n (slice_index heads n)) (sym up) first)))
    ]

    small : (k : ℕ) → vertex ≤ k → k ≤ m → slice_index now k + k ≤ m
    small k above below = elim (cases_lt vertex k) [
      | inl past ↦ let s = t.small k (omega arith) below in omega (arith, stays k (omega arith))
      | inr not_past ↦
          let same : k ≡ vertex = omega arith in
          let value : slice_index now k ≡ n = ap (slice_index now) same ∙ written in
          let s = t.small j after to_m in
          omega arith
    ]

    falls : (k : ℕ) → vertex ≤ k → k < m → slice_index now k ≤ slice_index now (k + 1) + 1
    falls k above below = elim (cases_lt vertex k) [
      | inl past ↦ let s = t.falls k (omega arith) below in omega (arith, stays k (omega arith), stays (k + 1) (omega arith))
      | inr not_past ↦
          let same : k ≡ vertex = omega arith in
          let value : slice_index now k ≡ n = ap (slice_index now) same ∙ written in
          let after_it : k + 1 ≡ front = omega arith in
          let behind : slice_index now (k + 1) ≡ slice_index layers front = stays (k + 1) (omega arith)
          ∙ ap (slice_index layers) after_it in
          omega arith
    ]

    next : (k : ℕ) → vertex ≤ k → k < m → (k < slice_index (slice_set nexts vertex j) k) × (slice_index (slice_set nexts vertex j) k ≤ m)
    next k above below = elim (cases_lt vertex k) [
      | inl past ↦
          let ne : k ≢ vertex = (λ e. absurd (omega arith)) in
          let s = t.next k (omega arith) below in
          let value = there nexts vertex k j ne in
          (omega (arith, s.0, value), omega (arith, s.1, value))
      | inr not_past ↦
          let same : k ≡ vertex = omega arith in
          let value : slice_index (slice_set nexts vertex j) k ≡ j = ap (slice_index (slice_set nexts vertex j)) same
          ∙ here nexts vertex j (omega arith) in
          (omega arith, omega arith)
    ]

-- the same as the code writes it
pub threads_put : (m front vertex j n : ℕ) (layers nexts heads links new_layers new_heads new_links : List ℕ)
    → new_layers ≡ slice_set layers vertex n → new_heads ≡ slice_set heads n vertex
    → new_links ≡ slice_set links vertex (slice_index heads n) → vertex + 1 ≡ front → front ≤ m → m < 1024 → front ≤ j → j ≤ m
    → length layers ≡ 1024 → length nexts ≡ 1024 → length heads ≡ 1024 → length links ≡ 1024 → n ≡ slice_index layers j + 1
    → slice_index layers j ≤ slice_index layers front → AreThreads m front layers nexts heads links
    → AreThreads m vertex new_layers (slice_set nexts vertex j) new_heads new_links
threads_put m front vertex j n layers nexts heads links new_layers new_heads new_links is_layers is_heads is_links up within size after to_m
    rl rn rh rk is_n near t =
    subst (λ (xs : List ℕ). AreThreads m vertex xs (slice_set nexts vertex j) new_heads new_links) (sym is_layers)
    (subst (λ (xs : List ℕ). AreThreads m vertex (slice_set layers vertex n) (slice_set nexts vertex j) xs new_links) (sym is_heads)
    (subst (λ (xs : List ℕ). AreThreads m vertex (slice_set layers vertex n) (slice_set nexts vertex j) (slice_set heads n vertex) xs)
    (sym is_links)
    (threads_more m front vertex j n layers nexts heads links up within size after to_m rl rn rh rk is_n near t)))

-- ---- layers between

-- a layer that is passed on the way down is some vertex's
record IsPassed (layers : List ℕ) (a b layer : ℕ) : Type 0 where
  at : ℕ
  low : a ≤ at
  high : at ≤ b
  on : slice_index layers at ≡ layer

passed : (n a b layer : ℕ) (layers : List ℕ) → a + n ≡ b → ((k : ℕ) → a ≤ k → k < b → slice_index layers k ≤ slice_index layers (k + 1) + 1)
    → layer ≤ slice_index layers a → slice_index layers b ≤ layer → IsPassed layers a b layer
passed zero a b layer layers size falls above below =
    let same : a ≡ b = omega arith in
    let value : slice_index layers a ≡ slice_index layers b = ap (slice_index layers) same in
    record { at = a; low = omega arith; high = omega arith; on = omega arith }
passed (suc n) a b layer layers size falls above below = elim (cases_lt layer (slice_index layers a)) [
  | inl more ↦
      let step = falls a (omega arith) (omega arith) in
      let rest = passed n (a + 1) b layer layers (omega arith) (λ k up down. falls k (omega arith) down) (omega arith) below in
      let low = rest.low in
      record { at = rest.at; low = omega arith; high = rest.high; on = rest.on }
  | inr here_it_is ↦ record { at = a; low = omega arith; high = omega arith; on = omega arith }
]

-- below a layer whose neighbour below has its head past `reach` there is none up to there
pub lowest : (m front reach layer : ℕ) (layers nexts heads links : List ℕ) → AreThreads m front layers nexts heads links → front ≤ reach
    → reach ≤ m → layer ≤ slice_index layers front → (0 < layer → reach < slice_index heads (layer - 1)) → (k : ℕ) → front ≤ k → k ≤ reach
    → layer ≤ slice_index layers k
lowest m front reach layer layers nexts heads links t some within high below k up down = elim (cases_lt (slice_index layers k) layer) [
  | inl less ↦
      let size = t.small front (omega arith) (omega arith) in
      let far = below (omega arith) in
      let first = t.head (layer - 1) (omega arith) in
      let on_way = passed (k - front) front k (layer - 1) layers (omega arith) (λ j above under. t.falls j above (omega arith))
      (omega arith) (omega arith) in
      let a = on_way.low in let b = on_way.high in
      absurd (first.none on_way.at on_way.low (omega arith) (omega arith) on_way.on)
  | inr as_much ↦ as_much
]

-- the front vertex is the head of its layer
pub front_is_head : (m front : ℕ) (layers nexts heads links : List ℕ) → AreThreads m front layers nexts heads links → front ≤ m
    → slice_index heads (slice_index layers front) ≤ front
front_is_head m front layers nexts heads links t within =
    let size = t.small front (omega arith) within in
    let first = t.head (slice_index layers front) (omega arith) in
    elim (cases_lt front (slice_index heads (slice_index layers front))) [
      | inl past ↦ absurd (first.none front (omega arith) within past refl)
      | inr here_or_before ↦ here_or_before
    ]

-- the head of the first layer that has one up to `reach` comes first
pub foremost : (m front reach least layer : ℕ) (layers nexts heads links : List ℕ) → AreThreads m front layers nexts heads links → front ≤ m
    → reach ≤ m → least ≤ layer → layer ≤ slice_index layers front → slice_index heads layer ≤ reach
    → ((k : ℕ) → least ≤ k → k < layer → reach < slice_index heads k) → IsForemost layers front reach least (slice_index heads layer)
foremost m front reach least layer layers nexts heads links t some within low high reached none_less =
    let size = t.small front (omega arith) some in
    let first = t.head layer (omega arith) in
    let on = first.on (omega arith) in
    record {
      after = first.after;
      within = reached;
      low = omega arith;
      high = omega arith;
      none = λ k up down enough before. elim before [
        | inl less ↦
            let far = none_less (slice_index layers k) enough (omega arith) in
            let head_there = t.head (slice_index layers k) (omega arith) in
            head_there.none k up (omega arith) (omega arith) refl
        | inr same ↦ let e = same.0 in let l = same.1 in first.none k up (omega arith) l (e ∙ on)
      ];
    }

-- the next vertex of the same layer
pub linked : (m front reach vertex : ℕ) (layers nexts heads links : List ℕ) → AreThreads m front layers nexts heads links → front ≤ vertex
    → vertex ≤ m → reach ≤ m → slice_index layers vertex < slice_index layers front → slice_index links vertex ≤ reach
    → IsFollowing layers front reach vertex (slice_index links vertex)
linked m front reach vertex layers nexts heads links t up down within before reached =
    let next = t.link vertex up down in
    let on = next.on (omega arith) in
    let past = next.after in
    record {
      after = omega arith;
      within = reached;
      high = omega arith;
      rises = inr (sym on, omega arith);
      between = λ k above below comes. elim comes [
        | inl less ↦ inl (inl (omega arith))
        | inr same ↦
            let e : slice_index layers k ≡ slice_index layers vertex = same.0 ∙ on in
            elim (cases_order k vertex) [
              | inl there_it_is ↦ inr there_it_is
              | inr (inl less) ↦ inl (inr (e, less))
              | inr (inr more) ↦ absurd (next.none k (omega arith) (omega arith) same.1 e)
            ]
      ];
    }

-- or the first of the greater layers
pub risen : (m front reach vertex lowest_there least at : ℕ) (layers nexts heads links : List ℕ)
    → AreThreads m front layers nexts heads links → front ≤ vertex → vertex ≤ m → reach ≤ m → reach < slice_index links vertex
    → ((k : ℕ) → front ≤ k → k ≤ reach → lowest_there ≤ slice_index layers k) → least ≡ max lowest_there (slice_index layers vertex + 1)
    → IsForemost layers front reach least at → IsFollowing layers front reach vertex at
risen m front reach vertex lowest_there least at layers nexts heads links t up down within past lows is_least most =
    let low = most.low in
    record {
      after = most.after;
      within = most.within;
      high = most.high;
      rises = inl (omega arith);
      between = λ k above below comes. elim (cases_order (slice_index layers k) (slice_index layers vertex)) [
        | inl same ↦
            elim (cases_order k vertex) [
              | inl there_it_is ↦ inr there_it_is
              | inr (inl less) ↦ inl (inr (same, less))
              | inr (inr over) ↦ absurd ((t.link vertex up down).none k (omega arith) (omega arith) (omega arith) same)
            ]
        | inr (inl less) ↦ inl (inl less)
        | inr (inr over) ↦
            let enough : least ≤ slice_index layers k = omega (arith, lows k above below) in
            absurd (most.none k above below enough comes)
      ];
    }

-- What the turns of all rings say of each ring.
use Rattle.std.proofs.Common.{◌≡◌, ◌≢◌, ◌∙◌, ◌+◌, ◌-◌, ◌<◌, ◌≤◌, ℕ, zero, suc, List, [], ◌∷◌, ◌++◌, All, AllPairs, Contains, get_or, length}
use Rattle.std.proofs.Common.{take, append_assoc, ap, refl, subst, sym, arith, length-append, length-take, get_or-append-add, get_or-take}
use Rattle.std.proofs.lemmas.List.{get_or_append_left}
use Rattle.std.proofs.lemmas.List.Elements.{All-cons, All-contains_itself, All-get_or, All-head, All-nil, All-tail, All-weaker}
use Rattle.std.proofs.lemmas.List.Elements.{Contains-append_left, Contains-append_right}
use Rattle.grid_exact.specs.Geometry.{Place}
use Rattle.topo_build.specs.Cyclic.{closed_from}
use Rattle.topo_build.specs.Found.{AreNext}
use Rattle.topo_build.specs.Junctions.{IsJunction, IsPlain, Turn, turns_along, turns_round}
use Rattle.topo_build.proofs.Around.{nowhere}
use Rattle.topo_build.proofs.Passing.{IsPassed}
use Rattle.topo_build.proofs.Passing.IsPassed.{Ahead}
use Rattle.topo_build.proofs.Rounds.{next-cons, to-start}
use Rattle.topo_build.proofs.Triples.{EachTriple}

-- a ring goes from a to b
pub record IsRingEdge (turns : List Turn) (a b : Place) : Type 0 where
  pub turn : Turn
  pub has : Contains turns turn
  pub before : turn.before ≡ a
  pub at : turn.at ≡ b

abbrev pub HasRingEdges : List Turn → List Place → Type 0
HasRingEdges turns ps = (a b : Place) → AreNext a b ps → IsRingEdge turns a b

-- a cyclic list whose turns are among these
pub record IsRingOf (turns : List Turn) (c : List Place) : Type 0 where
  pub passed : EachTriple (IsPassed turns) (c ++ take 2 c)
  pub distinct : All (λ p. ¬ (IsJunction turns p)) c → AllPairs (λ p q. p ≢ q) c
  pub edges : (at : ℕ) → 1 < length c → at < length c → HasRingEdges turns (closed_from c at)

-- ---- what is passed

passed-along : (turns : List Turn) (k : ℕ) (ps : List Place) → All (Contains turns) (turns_along k ps) → EachTriple (IsPassed turns) ps
passed-along turns k [] all = tt
passed-along turns k (a ∷ []) all = tt
passed-along turns k (a ∷ p ∷ []) all = tt
passed-along turns k (a ∷ p ∷ b ∷ ps) all =
    let t : Turn = record { ring = k; before = a; at = p; after = b } in (
      Ahead t (All-head (Contains turns) t (turns_along k (p ∷ b ∷ ps)) all) refl refl refl,
      passed-along turns k (p ∷ b ∷ ps) (All-tail (Contains turns) t (turns_along k (p ∷ b ∷ ps)) all),
    )

-- ---- turns by number

pub length-turns : (k : ℕ) (ps : List Place) → length (turns_along k ps) ≡ length ps - 2
length-turns k [] = refl
length-turns k (a ∷ []) = refl
length-turns k (a ∷ p ∷ []) = refl
length-turns k (a ∷ p ∷ b ∷ ps) = let rest = length-turns k (p ∷ b ∷ ps) in omega (arith, rest)

pub record IsTurnAt (k : ℕ) (p : Place) (t : Turn) : Type 0 where
  pub at : t.at ≡ p
  pub ring : t.ring ≡ k

turn-at : (k : ℕ) (ps : List Place) (m : ℕ) (d : Turn) (e : Place) → m + 2 < length ps
    → IsTurnAt k (get_or ps (m + 1) e) (get_or (turns_along k ps) m d)
turn-at k [] m d e inside = absurd (omega arith)
turn-at k (a ∷ []) m d e inside = absurd (omega arith)
turn-at k (a ∷ p ∷ []) m d e inside = absurd (omega arith)
turn-at k (a ∷ p ∷ b ∷ ps) zero d e inside = record { at = refl; ring = refl }
turn-at k (a ∷ p ∷ b ∷ ps) (suc m) d e inside =
    let next : suc m + 1 ≡ suc (m + 1) = omega arith in
    let rest = turn-at k (p ∷ b ∷ ps) m d e (omega arith) in
    rw next rest

-- the turn of a cyclic list at an inner place, and at its first
turn-inner : (k : ℕ) (c : List Place) (m : ℕ) (d : Turn) (e : Place) → m + 1 < length c
    → IsTurnAt k (get_or c (m + 1) e) (get_or (turns_round k c) m d)
turn-inner k c m d e inside =
    let count = length-append c (take 2 c) in
    let two = length-take 2 c in
    let same = get_or_append_left c (take 2 c) e (m + 1) inside in
    subst (λ p. IsTurnAt k p (get_or (turns_round k c) m d)) same (turn-at k (c ++ take 2 c) m d e (omega (arith, count, two)))

turn-first : (k : ℕ) (c : List Place) (d : Turn) (e : Place) → 2 ≤ length c
    → IsTurnAt k (get_or c 0 e) (get_or (turns_round k c) (length c - 1) d)
turn-first k c d e long =
    let count = length-append c (take 2 c) in
    let two = length-take 2 c in
    let next : length c - 1 + 1 ≡ length c + 0 = omega arith in
    let same : get_or (c ++ take 2 c) (length c - 1 + 1) e ≡ get_or c 0 e =
    rw next (get_or-append-add c (take 2 c) 0 e ∙ get_or-take 2 c 0 e (omega arith)) in
    subst (λ p. IsTurnAt k p (get_or (turns_round k c) (length c - 1) d)) same
    (turn-at k (c ++ take 2 c) (length c - 1) d e (omega (arith, count, two)))

-- the same among all turns
among-all : (us tr vs turns : List Turn) (k m : ℕ) (p : Place) (d : Turn) → turns ≡ us ++ (tr ++ vs) → m < length tr
    → IsTurnAt k p (get_or tr m d) → IsTurnAt k p (get_or turns (length us + m) d)
among-all us tr vs turns k m p d is inside at =
    let here = get_or-append-add us (tr ++ vs) m d ∙ get_or_append_left tr vs d m inside in
    subst (λ ts. IsTurnAt k p (get_or ts (length us + m) d)) (sym is) (subst (IsTurnAt k p) (sym here) at)

-- two turns of one position in one ring
not-twice : (turns : List Turn) (k x y : ℕ) (p : Place) (d : Turn) → x < y → y < length turns → IsTurnAt k p (get_or turns x d)
    → IsTurnAt k p (get_or turns y d) → IsPlain turns p → ⊥
not-twice turns k x y p d ordered inside first second plain =
    (plain.one_way x y d ordered inside first.at second.at).0 (first.ring ∙ sym second.ring)

no-double : (us vs turns : List Turn) (k : ℕ) (c : List Place) (i j : ℕ) (e : Place) (d : Turn) → turns ≡ us ++ (turns_round k c ++ vs)
    → i < j → j < length c → get_or c i e ≡ get_or c j e → IsPlain turns (get_or c j e) → ⊥
no-double us vs turns k c zero zero e d is ordered inside same plain = absurd (omega arith)
no-double us vs turns k c (suc i) zero e d is ordered inside same plain = absurd (omega arith)
no-double us vs turns k c zero (suc j) e d is ordered inside same plain =
    let tr = turns_round k c in
    let count = length-turns k (c ++ take 2 c) in
    let parts = length-append c (take 2 c) in
    let two = length-take 2 c in
    let all = ap length is ∙ length-append us (tr ++ vs) in
    let some = length-append tr vs in
    let next : j + 1 ≡ suc j = omega arith in
    let at_j : IsTurnAt k (get_or c (suc j) e) (get_or tr j d) =
    subst (λ n. IsTurnAt k (get_or c n e) (get_or tr j d)) next (turn-inner k c j d e (omega arith)) in
    let at_0 : IsTurnAt k (get_or c (suc j) e) (get_or tr (length c - 1) d) =
    subst (λ p. IsTurnAt k p (get_or tr (length c - 1) d)) same (turn-first k c d e (omega arith)) in
    not-twice turns k (length us + j) (length us + (length c - 1)) (get_or c (suc j) e) d (omega arith)
    (omega (arith, count, parts, two, all, some))
    (among-all us tr vs turns k j (get_or c (suc j) e) d is (omega (arith, count, parts, two)) at_j)
    (among-all us tr vs turns k (length c - 1) (get_or c (suc j) e) d is (omega (arith, count, parts, two)) at_0) plain
no-double us vs turns k c (suc i) (suc j) e d is ordered inside same plain =
    let tr = turns_round k c in
    let count = length-turns k (c ++ take 2 c) in
    let parts = length-append c (take 2 c) in
    let two = length-take 2 c in
    let all = ap length is ∙ length-append us (tr ++ vs) in
    let some = length-append tr vs in
    let next : j + 1 ≡ suc j = omega arith in
    let prior : i + 1 ≡ suc i = omega arith in
    let at_j : IsTurnAt k (get_or c (suc j) e) (get_or tr j d) =
    subst (λ n. IsTurnAt k (get_or c n e) (get_or tr j d)) next (turn-inner k c j d e (omega arith)) in
    let at_i : IsTurnAt k (get_or c (suc j) e) (get_or tr i d) =
    subst (λ p. IsTurnAt k p (get_or tr i d)) (ap (λ n. get_or c n e) prior ∙ same) (turn-inner k c i d e (omega arith)) in
    not-twice turns k (length us + i) (length us + j) (get_or c (suc j) e) d (omega arith) (omega (arith, count, parts, two, all, some))
    (among-all us tr vs turns k i (get_or c (suc j) e) d is (omega (arith, count, parts, two)) at_i)
    (among-all us tr vs turns k j (get_or c (suc j) e) d is (omega (arith, count, parts, two)) at_j) plain

-- ---- the edges of a ring

has-later : {X : Type 0} (y : X) (xs : List X) (x : X) → Contains xs x → Contains (y ∷ xs) x
has-later y xs x (k, inside, there) = (suc k, omega arith, there)

later-edge : (t : Turn) (turns : List Turn) (a b : Place) → IsRingEdge turns a b → IsRingEdge (t ∷ turns) a b
later-edge t turns a b e = record { turn = e.turn; has = has-later t turns e.turn e.has; before = e.before; at = e.at }

first-edge : (t : Turn) (turns : List Turn) → IsRingEdge (t ∷ turns) t.before t.at
first-edge t turns = record { turn = t; has = (0, omega arith, refl); before = refl; at = refl }

turn-has : (k : ℕ) (us : List Place) (a b : Place) (qs : List Place) (z : Place)
    → IsRingEdge (turns_along k ((us ++ a ∷ b ∷ qs) ++ z ∷ [])) a b
turn-has k [] a b [] z = first-edge (record { ring = k; before = a; at = b; after = z }) []
turn-has k [] a b (q ∷ qs) z = first-edge (record { ring = k; before = a; at = b; after = q }) (turns_along k (b ∷ q ∷ (qs ++ z ∷ [])))
turn-has k (u ∷ []) a b qs z = later-edge (record { ring = k; before = u; at = a; after = b }) (turns_along k (a ∷ b ∷ (qs ++ z ∷ []))) a b
    (turn-has k [] a b qs z)
turn-has k (u ∷ w ∷ []) a b qs z = later-edge (record { ring = k; before = u; at = w; after = a })
    (turns_along k (w ∷ a ∷ b ∷ (qs ++ z ∷ []))) a b (turn-has k (w ∷ []) a b qs z)
turn-has k (u ∷ w ∷ y ∷ us) a b qs z = later-edge (record { ring = k; before = u; at = w; after = y })
    (turns_along k (w ∷ y ∷ ((us ++ a ∷ b ∷ qs) ++ z ∷ []))) a b (turn-has k (w ∷ y ∷ us) a b qs z)

round-edges : (k : ℕ) (c : List Place) → 1 < length c → HasRingEdges (turns_round k c) (c ++ take 1 c)
round-edges k [] long a b next = absurd (omega arith)
round-edges k (x ∷ []) long a b next = absurd (omega arith)
round-edges k (x ∷ y ∷ c) long a b next =
    let split : (x ∷ y ∷ c) ++ x ∷ y ∷ [] ≡ ((x ∷ y ∷ c) ++ x ∷ []) ++ y ∷ [] = sym (append_assoc (x ∷ y ∷ c) (x ∷ []) (y ∷ [])) in
    subst (λ ps. IsRingEdge (turns_along k ps) a b) (ap (λ ps. ps ++ y ∷ []) (sym next.is) ∙ sym split)
    (turn-has k next.before a b next.behind y)

-- each turn is one of neighbours
along-next : (k : ℕ) (ps : List Place) (z : Place) → All (λ t. AreNext t.before t.at ps) (turns_along k (ps ++ z ∷ []))
along-next k [] z = All-nil (λ t. AreNext t.before t.at [])
along-next k (x ∷ []) z = All-nil (λ t. AreNext t.before t.at (x ∷ []))
along-next k (x ∷ y ∷ []) z =
    All-cons (λ t. AreNext t.before t.at (x ∷ y ∷ [])) (record { ring = k; before = x; at = y; after = z }) []
    (record { before = []; behind = []; is = refl })
    (All-nil (λ t. AreNext t.before t.at (x ∷ y ∷ [])))
along-next k (x ∷ y ∷ w ∷ ps) z =
    All-cons (λ t. AreNext t.before t.at (x ∷ y ∷ w ∷ ps)) (record { ring = k; before = x; at = y; after = w })
    (turns_along k (y ∷ w ∷ (ps ++ z ∷ []))) (record { before = []; behind = w ∷ ps; is = refl })
    (All-weaker (λ t. AreNext t.before t.at (y ∷ w ∷ ps)) (λ t. AreNext t.before t.at (x ∷ y ∷ w ∷ ps)) (λ t next.
    next-cons t.before t.at x (y ∷ w ∷ ps) next) (turns_along k (y ∷ w ∷ (ps ++ z ∷ []))) (along-next k (y ∷ w ∷ ps) z))

pub round-next : (k : ℕ) (c : List Place) → All (λ t. AreNext t.before t.at (c ++ take 1 c)) (turns_round k c)
round-next k [] = All-nil (λ t. AreNext t.before t.at [])
round-next k (x ∷ []) = All-nil (λ t. AreNext t.before t.at (x ∷ x ∷ []))
round-next k (x ∷ y ∷ c) =
    let split : (x ∷ y ∷ c) ++ x ∷ y ∷ [] ≡ ((x ∷ y ∷ c) ++ x ∷ []) ++ y ∷ [] = sym (append_assoc (x ∷ y ∷ c) (x ∷ []) (y ∷ [])) in
    subst (λ ps. All (λ t. AreNext t.before t.at ((x ∷ y ∷ c) ++ x ∷ [])) (turns_along k ps)) (sym split)
    (along-next k ((x ∷ y ∷ c) ++ x ∷ []) y)

-- ---- each ring

pub ring_of : (us vs turns : List Turn) (k : ℕ) (c : List Place) → turns ≡ us ++ (turns_round k c ++ vs) → IsRingOf turns c
ring_of us vs turns k c is =
    let tr = turns_round k c in
    record {
      passed = passed-along turns k (c ++ take 2 c) (All-weaker (Contains tr) (Contains turns) (λ t has.
          subst (λ ts. Contains ts t) (sym is) (Contains-append_right us (tr ++ vs) t (Contains-append_left tr vs t has))) tr
          (All-contains_itself tr));
      distinct = λ smooth i j e before inside same.
          All-get_or (λ p. ¬ (IsJunction turns p)) c j e inside smooth
          (λ plain. no-double us vs turns k c i j e (record { ring = 0; before = e; at = e; after = e }) is before inside same plain);
      edges = λ at long inside a b next.
          let e = round-edges k c long a b (to-start c a b at inside next) in
          record {
            turn = e.turn;
            has = subst (λ ts. Contains ts e.turn) (sym is)
                (Contains-append_right us (tr ++ vs) e.turn (Contains-append_left tr vs e.turn e.has));
            before = e.before;
            at = e.at;
          };
    }

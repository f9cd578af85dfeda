-- Walks that have an edge in common are one.
use Rattle.std.proofs.Common.{◌≡◌, ◌∙◌, ◌+◌, ◌<◌, ℕ, zero, pos, negsuc, ℤ, List, [], ◌∷◌, ◌++◌, All, get_or, length, reverse, append_assoc}
use Rattle.std.proofs.Common.{ap, refl, subst, sym, arith, length-append}
use Rattle.std.proofs.lemmas.List.{get_or_at, reverse-append, reverse-reverse}
use Rattle.std.proofs.lemmas.List.Elements.{All-get_or}
use Rattle.grid_exact.specs.Geometry.{Place}
use Rattle.topo_build.specs.Built.{IsRound}
use Rattle.topo_build.specs.Cyclic.{closed_from}
use Rattle.topo_build.specs.Found.{AreNext, IsAlong, StartsWith}
use Rattle.topo_build.specs.Junctions.{IsJunction, Turn}
use Rattle.topo_build.specs.References.{arc_of, walk_of}
use Rattle.topo_build.proofs.Around.{GoesTo, IsFree, closed-smooth, goes_back, nowhere}
use Rattle.topo_build.proofs.Passing.{IsPassed, one_way_back}
use Rattle.topo_build.proofs.Stretches.{HasFirst, IsStretch, Runs, RunsAlong, StandsBefore, runs-at, runs-one, stands_before}
use Rattle.topo_build.proofs.Stretches.{stretch-turned, to_front}
use Rattle.topo_build.proofs.Stretches.StandsBefore.{Front, Behind}

-- ---- neighbours

reverse-next : (us : List Place) (a b : Place) (ps : List Place) → reverse (us ++ a ∷ b ∷ ps) ≡ reverse ps ++ b ∷ a ∷ reverse us
reverse-next us a b ps =
    reverse-append us (a ∷ b ∷ ps) ∙ ap (λ xs. xs ++ reverse us) (reverse-append (a ∷ b ∷ []) ps)
    ∙ append_assoc (reverse ps) (b ∷ a ∷ []) (reverse us)

-- neighbours in a list are neighbours in the list backwards
pub next-turned : (a b : Place) (ps : List Place) → AreNext a b (reverse ps) → AreNext b a ps
next-turned a b ps next = record {
  before = reverse next.behind;
  behind = reverse next.before;
  is = sym (reverse-reverse ps) ∙ ap reverse next.is ∙ reverse-next next.before a b next.behind;
}

pub next-none : (a b p : Place) → AreNext a b (p ∷ []) → ⊥
next-none a b p next =
    let count = ap length next.is in
    let parts = length-append next.before (a ∷ b ∷ next.behind) in
    absurd (omega (arith, count, parts))

pub next-nil : (a b : Place) → AreNext a b [] → ⊥
next-nil a b next =
    let count = ap length next.is in
    let parts = length-append next.before (a ∷ b ∷ next.behind) in
    absurd (omega (arith, count, parts))

-- what holds of all positions holds of both neighbours
all-at : (P : Place → Type 0) (us : List Place) (a : Place) (ps : List Place) → All P (us ++ a ∷ ps) → P a
all-at P us a ps all =
    let parts = length-append us (a ∷ ps) in
    subst P (get_or_at us a ps a (length us) refl) (All-get_or P (us ++ a ∷ ps) (length us) a (omega (arith, parts)) all)

pub next-first : (P : Place → Type 0) (a b : Place) (ps : List Place) → All P ps → AreNext a b ps → P a
next-first P a b ps all next = all-at P next.before a (b ∷ next.behind) (subst (All P) next.is all)

pub next-second : (P : Place → Type 0) (a b : Place) (ps : List Place) → All P ps → AreNext a b ps → P b
next-second P a b ps all next =
    let split : ps ≡ (next.before ++ a ∷ []) ++ b ∷ next.behind = next.is ∙ sym (append_assoc next.before (a ∷ []) (b ∷ next.behind)) in
    all-at P (next.before ++ a ∷ []) b next.behind (subst (All P) split all)

-- ---- two pieces

pub stretch-along : (turns : List Turn) (Stop : Place → Type 0) (ps : List Place) → IsStretch turns Stop ps → RunsAlong turns Stop ps
stretch-along turns Stop [] h = h
stretch-along turns Stop (v ∷ ps) h = h.1

-- a stretch that has an edge from a stop begins with it
at_front : (turns : List Turn) (Stop : Place → Type 0) (a b : Place) (us ps : List Place) → Stop a → RunsAlong turns Stop (us ++ a ∷ b ∷ ps)
    → StandsBefore turns a b us → us ≡ []
at_front turns Stop a b us ps stop along (Front e) = e
at_front turns Stop a b us ps stop along (Behind before u e passed smooth) =
    let split : us ++ a ∷ b ∷ ps ≡ before ++ u ∷ a ∷ (b ∷ ps) = ap (λ xs. xs ++ a ∷ b ∷ ps) e ∙ append_assoc before (u ∷ []) (a ∷ b ∷ ps) in
    let on = runs-at turns Stop before u a (b ∷ ps) (subst (RunsAlong turns Stop) split along) in
    absurd (on.0 stop)

-- neighbours of a piece go back as the rings do
piece_back : (turns : List Turn) (y : List Place) → IsStretch turns (IsJunction turns) y → (a p b : Place) → AreNext p b y
    → ¬ (IsJunction turns p) → IsPassed turns a p b → AreNext a p y
piece_back turns y stretch a p b next smooth passed =
    at next.before (stands_before turns (IsJunction turns) next.before p b next.behind
    (stretch-along turns (IsJunction turns) (next.before ++ p ∷ b ∷ next.behind)
    (subst (IsStretch turns (IsJunction turns)) next.is stretch))) next.is
  where
    at : (us : List Place) → StandsBefore turns p b us → y ≡ us ++ p ∷ b ∷ next.behind → AreNext a p y
    at us (Front e) is =
        let first : IsStretch turns (IsJunction turns) (p ∷ b ∷ next.behind) =
        subst (IsStretch turns (IsJunction turns)) (is ∙ ap (λ xs. xs ++ p ∷ b ∷ next.behind) e) stretch in
        absurd (smooth first.0)
    at us (Behind before u e other q) is =
        let same : u ≡ a = one_way_back turns u a p b smooth other passed in
        record {
          before = before;
          behind = b ∷ next.behind;
          is = is ∙ ap (λ xs. xs ++ p ∷ b ∷ next.behind) e ∙ append_assoc before (u ∷ []) (p ∷ b ∷ next.behind)
              ∙ ap (λ q. before ++ q ∷ p ∷ b ∷ next.behind) same;
        }

-- two stretches that have the first two positions in common are one
one_stretch : (turns : List Turn) (Stop : Place → Type 0) (v w : Place) (ws ps : List Place) → Runs turns Stop v w ws
    → RunsAlong turns Stop (v ∷ w ∷ ps) → v ∷ w ∷ ps ≡ v ∷ w ∷ ws
one_stretch turns Stop v w ws ps h k = ap (λ xs. v ∷ w ∷ xs) (runs-one turns Stop v w ps ws k h)

piece-first : (turns : List Turn) (x y : List Place) → IsStretch turns (IsJunction turns) x → IsStretch turns (IsJunction turns) y
    → HasFirst (λ a b. AreNext a b y) x → y ≡ x
piece-first turns [] y h k has = absurd has
piece-first turns (v ∷ []) y h k has = absurd has
piece-first turns (v ∷ w ∷ ws) y h k next =
    let along : RunsAlong turns (IsJunction turns) (next.before ++ v ∷ w ∷ next.behind) =
    stretch-along turns (IsJunction turns) (next.before ++ v ∷ w ∷ next.behind) (subst (IsStretch turns (IsJunction turns)) next.is k)
    in
    let front = at_front turns (IsJunction turns) v w next.before next.behind h.0 along
    (stands_before turns (IsJunction turns) next.before v w next.behind along) in
    let is : y ≡ v ∷ w ∷ next.behind = next.is ∙ ap (λ xs. xs ++ v ∷ w ∷ next.behind) front in
    is ∙ one_stretch turns (IsJunction turns) v w ws next.behind h.1
    (stretch-along turns (IsJunction turns) (v ∷ w ∷ next.behind) (subst (IsStretch turns (IsJunction turns)) is k))

has-first : (turns : List Turn) (Stop : Place → Type 0) (Has : Place → Place → Type 0)
    → ((a p b : Place) → Has p b → ¬ (IsJunction turns p) → IsPassed turns a p b → Has a p) → (x : List Place) (a b : Place)
    → IsStretch turns Stop x → AreNext a b x → Has a b → HasFirst Has x
has-first turns Stop Has back x a b stretch next has =
    subst (HasFirst Has) (sym next.is) (to_front turns Stop Has back next.before a b next.behind
    (stretch-along turns Stop (next.before ++ a ∷ b ∷ next.behind) (subst (IsStretch turns Stop) next.is stretch)) has)

pub pieces-one : (turns : List Turn) (x y : List Place) (a b : Place) → IsStretch turns (IsJunction turns) x
    → IsStretch turns (IsJunction turns) y → AreNext a b x → AreNext a b y → y ≡ x
pieces-one turns x y a b h k in_x in_y = piece-first turns x y h k
    (has-first turns (IsJunction turns) (λ p q. AreNext p q y) (piece_back turns y k) x a b h in_x in_y)

-- ---- a piece and a ring without junctions

goes-smooth : (turns : List Turn) (c : List Place) (a b : Place) → IsFree turns c → GoesTo c a b → ¬ (IsJunction turns a)
goes-smooth turns c a b free goes =
    next-first (λ p. ¬ (IsJunction turns p)) a b (closed_from c goes.at) (closed-smooth (λ p. ¬ (IsJunction turns p)) c goes.at free.smooth)
    (record { before = []; behind = goes.rest; is = goes.is })

apart-first : (turns : List Turn) (x c : List Place) → IsStretch turns (IsJunction turns) x → IsFree turns c → HasFirst (GoesTo c) x → ⊥
apart-first turns [] c h free has = has
apart-first turns (v ∷ []) c h free has = has
apart-first turns (v ∷ w ∷ ws) c h free goes = goes-smooth turns c v w free goes h.0

pub piece-apart : (turns : List Turn) (x c : List Place) (a b : Place) → IsStretch turns (IsJunction turns) x → IsFree turns c
    → AreNext a b x → GoesTo c a b → ⊥
piece-apart turns x c a b h free next goes = apart-first turns x c h free
    (has-first turns (IsJunction turns) (GoesTo c) (goes_back turns c free) x a b h next goes)

-- ---- two rings without junctions

ring-first : (turns : List Turn) (x c : List Place) (v : Place) → IsStretch turns (λ p. p ≡ v) x → IsFree turns c → HasFirst (GoesTo c) x
    → IsRound c x
ring-first turns [] c v h free has = absurd has
ring-first turns (u ∷ []) c v h free has = absurd has
ring-first turns (u ∷ w ∷ ws) c v h free goes =
    let d = get_or c goes.at nowhere in
    let round : IsStretch turns (λ p. p ≡ d) (u ∷ w ∷ goes.rest) =
    subst (IsStretch turns (λ p. p ≡ d)) goes.is (free.stretch goes.at goes.inside) in
    let same : d ≡ v = sym round.0 ∙ h.0 in
    let other : Runs turns (λ p. p ≡ v) u w goes.rest = subst (λ z. Runs turns (λ p. p ≡ z) u w goes.rest) same round.1 in
    (goes.at, goes.inside, one_stretch turns (λ p. p ≡ v) u w goes.rest ws other h.1 ∙ sym goes.is)

pub rings-one : (turns : List Turn) (x c : List Place) (v a b : Place) → IsStretch turns (λ p. p ≡ v) x → IsFree turns c → AreNext a b x
    → GoesTo c a b → IsRound c x
rings-one turns x c v a b h free next goes = ring-first turns x c v h free
    (has-first turns (λ p. p ≡ v) (GoesTo c) (goes_back turns c free) x a b h next goes)

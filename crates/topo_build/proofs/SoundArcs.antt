-- What the arcs that are made are, and the walks along them.
use Rattle.std.proofs.Common.{◌≡◌, ◌<◌, ℕ, pos, negsuc, ℤ, List, [], ◌∷◌, All, get_or, length, reverse, ap, subst, sym, arith}
use Rattle.std.proofs.lemmas.List.Elements.{All-get_or}
use Rattle.grid_exact.specs.Geometry.{Place}
use Rattle.topo_build.specs.Cyclic.{closed_from}
use Rattle.topo_build.specs.Found.{AreNext}
use Rattle.topo_build.specs.Junctions.{IsJunction, Turn}
use Rattle.topo_build.specs.References.{arc_of, walk_of}
use Rattle.topo_build.proofs.Around.{IsFree, closed-smooth, nowhere}
use Rattle.topo_build.proofs.Sharing.{next-first, next-second, next-turned}
use Rattle.topo_build.proofs.Stretches.{IsStretch, stretch-turned}

-- an arc is one position, or a stretch between junctions, or a ring without junctions
pub data IsSound (turns : List Turn) (ps : List Place) : Type 0 where
  One : (p : Place) → ps ≡ p ∷ [] → IsSound turns ps
  Piece : IsStretch turns (IsJunction turns) ps → IsSound turns ps
  Loop : (c : List Place) → IsFree turns c → ps ≡ closed_from c 0 → IsSound turns ps

-- the same of a walk along an arc, in one of its directions
pub data IsSoundWalk (turns : List Turn) (ps : List Place) : Type 0 where
  OneWalk : (p : Place) → ps ≡ p ∷ [] → IsSoundWalk turns ps
  PieceWalk : IsStretch turns (IsJunction turns) ps → IsSoundWalk turns ps
  LoopWalk : (v : Place) → IsStretch turns (λ p. p ≡ v) ps → ((a b : Place) → AreNext a b ps → ¬ (IsJunction turns a))
      → IsSoundWalk turns ps

forwards : (turns : List Turn) (ps : List Place) → IsSound turns ps → IsSoundWalk turns ps
forwards turns ps (One p e) = OneWalk p e
forwards turns ps (Piece h) = PieceWalk h
forwards turns ps (Loop c free e) =
    LoopWalk (get_or c 0 nowhere) (subst (IsStretch turns (λ p. p ≡ get_or c 0 nowhere)) (sym e) (let long = free.long in
    free.stretch 0 (omega arith)))
    (λ a b next. next-first (λ p. ¬ (IsJunction turns p)) a b ps
    (subst (All (λ p. ¬ (IsJunction turns p))) (sym e) (closed-smooth (λ p. ¬ (IsJunction turns p)) c 0 free.smooth)) next)

backwards : (turns : List Turn) (ps : List Place) → IsSound turns ps → IsSoundWalk turns (reverse ps)
backwards turns ps (One p e) = OneWalk p (ap reverse e)
backwards turns ps (Piece h) = PieceWalk (stretch-turned turns (IsJunction turns) ps h)
backwards turns ps (Loop c free e) =
    LoopWalk (get_or c 0 nowhere) (stretch-turned turns (λ p. p ≡ get_or c 0 nowhere) ps
    (subst (IsStretch turns (λ p. p ≡ get_or c 0 nowhere)) (sym e) (let long = free.long in free.stretch 0 (omega arith))))
    (λ a b next. next-second (λ p. ¬ (IsJunction turns p)) b a ps
    (subst (All (λ p. ¬ (IsJunction turns p))) (sym e) (closed-smooth (λ p. ¬ (IsJunction turns p)) c 0 free.smooth))
    (next-turned a b ps next))

pub sound-walk : (turns : List Turn) (arcs : List (List Place)) (r : ℤ) → All (IsSound turns) arcs → arc_of r < length arcs
    → IsSoundWalk turns (walk_of arcs r)
sound-walk turns arcs (pos k) all inside = forwards turns (get_or arcs k []) (All-get_or (IsSound turns) arcs k [] inside all)
sound-walk turns arcs (negsuc k) all inside = backwards turns (get_or arcs k []) (All-get_or (IsSound turns) arcs k [] inside all)

-- The arcs that are made are stretches, so a piece that is found by its first edge is the arc.
use Rattle.std.proofs.Common.{◌≡◌, ◌∙◌, ◌+◌, ◌<◌, ◌↔◌, ℕ, zero, suc, pos, negsuc, ℤ, List, [], ◌∷◌, ◌++◌, All, AllPairs, get_or, length}
use Rattle.std.proofs.Common.{reverse, take, append_assoc, ap, refl, subst, sym, arith}
use Rattle.std.proofs.lemmas.List.{get_or_default}
use Rattle.std.proofs.lemmas.List.Quantifiers.{all_pairs_push}
use Rattle.std.proofs.lemmas.List.Elements.{All-get_or, All-nil, All-push, All-weaker}
use Rattle.grid_exact.specs.Geometry.{Place}
use Rattle.topo_build.specs.Built.{AreRingsBuilt, AreTaken, BeginsWith, IsEarlier, IsPieceTaken, IsRingBuilt, IsRingTaken, IsRound, IsTaken}
use Rattle.topo_build.specs.Built.IsRingBuilt.{Single, Free, Cut}
use Rattle.topo_build.specs.Built.IsTaken.{Earlier, Next}
use Rattle.topo_build.specs.Cyclic.{closed_from}
use Rattle.topo_build.specs.Found.{AreNext, IsAlong, IsFound, IsRingFound, StartsWith}
use Rattle.topo_build.specs.Found.IsFound.{Found, New}
use Rattle.topo_build.specs.Junctions.{IsJunction, Turn, turns_of, turns_round}
use Rattle.topo_build.specs.References.{arc_of, walk_of}
use Rattle.topo_build.proofs.Around.{GoesTo, IsFree, closed-smooth, first-next, free-made, nowhere}
use Rattle.topo_build.proofs.Facts.{HasRingEdges, IsRingOf, ring_of}
use Rattle.topo_build.proofs.Separate.{AreApart, piece-new, ring-new}
use Rattle.topo_build.proofs.Passing.{IsPassed}
use Rattle.topo_build.proofs.Sharing.{next-none, piece-apart, pieces-one, rings-one}
use Rattle.topo_build.proofs.SoundArcs.{IsSound, IsSoundWalk, sound-walk}
use Rattle.topo_build.proofs.SoundArcs.IsSound.{One, Piece, Loop}
use Rattle.topo_build.proofs.SoundArcs.IsSoundWalk.{OneWalk, PieceWalk, LoopWalk}
use Rattle.topo_build.proofs.Stretches.{IsStretch, stretch-made}
use Rattle.topo_build.proofs.Triples.{EachTriple, triples-closed, triples-prefix, triples-suffix}

-- ---- a piece of a ring with junctions

-- the arcs are sound, no two of them have an edge in common, and each of their edges is one of a ring
pub record AreSound (turns : List Turn) (arcs : List (List Place)) : Type 0 where
  pub each : All (IsSound turns) arcs
  pub away : AllPairs AreApart arcs
  pub edges : All (HasRingEdges turns) arcs

next-same : (a b : Place) (ps qs : List Place) → ps ≡ qs → AreNext a b ps → AreNext a b qs
next-same a b ps qs e next = subst (AreNext a b) e next

next-front : (a b : Place) (ps more : List Place) → AreNext a b ps → AreNext a b (ps ++ more)
next-front a b ps more next = record {
  before = next.before;
  behind = next.behind ++ more;
  is = ap (λ qs. qs ++ more) next.is
      ∙ append_assoc next.before (a ∷ b ∷ next.behind) more;
}

next-behind : (a b : Place) (us ps : List Place) → AreNext a b ps → AreNext a b (us ++ ps)
next-behind a b us ps next = record {
  before = us ++ next.before;
  behind = next.behind;
  is = ap (λ qs. us ++ qs) next.is
      ∙ sym (append_assoc us next.before (a ∷ b ∷ next.behind));
}

starts-next : (a b : Place) (ps : List Place) → StartsWith a b ps → AreNext a b ps
starts-next a b ps starts = record { before = []; behind = starts.behind; is = starts.is }

piece-same : (turns : List Turn) (w x : List Place) (a b : Place) → IsStretch turns (IsJunction turns) w → StartsWith a b w
    → IsSoundWalk turns x → AreNext a b x → x ≡ w
piece-same turns w x a b h starts (OneWalk p e) next = absurd (next-none a b p (subst (AreNext a b) e next))
piece-same turns w x a b h starts (PieceWalk k) next = pieces-one turns w x a b h k (starts-next a b w starts) next
piece-same turns w x a b h starts (LoopWalk v k smooth) next =
    let stop : IsStretch turns (IsJunction turns) (a ∷ b ∷ starts.behind) = subst (IsStretch turns (IsJunction turns)) starts.is h in
    absurd (smooth a b next stop.0)

-- what is known after a piece is taken
pub record IsTakenSoundly (Take : List Place → List (List Place) → ℤ → List (List Place)
    → Type 0) (turns : List Turn) (piece : List Place) (arcs : List (List Place)) (r : ℤ) (after : List (List Place)) : Type 0 where
  pub taken : Take piece arcs r after
  pub sound : AreSound turns after

sound-added : (turns : List Turn) (arcs after : List (List Place)) (ps : List Place) → AreSound turns arcs → IsSound turns ps
    → ((k : ℕ) → k < length arcs → AreApart (get_or arcs k []) ps) → HasRingEdges turns ps → after ≡ arcs ++ ps ∷ [] → AreSound turns after
sound-added turns arcs after ps all one away edges is = subst (AreSound turns) (sym is) (record {
  each = All-push (IsSound turns) arcs ps all.each one;
  away = all_pairs_push AreApart arcs ps all.away (λ k d inside.
      subst (λ qs. AreApart qs ps) (get_or_default arcs k [] d inside) (away k inside));
  edges = All-push (HasRingEdges turns) arcs ps all.edges edges;
})

pub piece-taken : (turns : List Turn) (w : List Place) (arcs : List (List Place)) (r : ℤ) (after : List (List Place))
    → IsStretch turns (IsJunction turns) w → HasRingEdges turns w → AreSound turns arcs → IsFound w arcs r after
    → IsTakenSoundly IsPieceTaken turns w arcs r after
piece-taken turns w arcs r after h edges all (Found a b starts along e) = record {
  taken = Earlier (record {
    known = along.known;
    is = piece-same turns w (walk_of arcs r) a b h starts
        (sound-walk turns arcs r all.each along.known) along.has;
  }) e;
  sound = subst (AreSound turns) (sym e) all;
}
piece-taken turns w arcs r after h edges all (New a b starts none is e) = record {
  taken = Next (λ s earlier. none s (first-along s earlier)) is e;
  sound = sound-added turns arcs after w all (Piece h) (λ k inside.
      piece-new turns w arcs k h (λ s earlier. none s (first-along s earlier)) inside
      (All-get_or (IsSound turns) arcs k [] inside all.each)) edges e;
}
  where
    first-along : (s : ℤ) → IsEarlier (λ ps. ps ≡ w) arcs s → IsAlong arcs a b s
    first-along s earlier = record { known = earlier.known; has = subst (AreNext a b) (sym earlier.is) (starts-next a b w starts) }

-- ---- a ring without junctions

ring-same : (turns : List Turn) (c x : List Place) (a b : Place) → IsFree turns c → GoesTo c a b → IsSoundWalk turns x → AreNext a b x
    → IsRound c x
ring-same turns c x a b free goes (OneWalk p e) next = absurd (next-none a b p (subst (AreNext a b) e next))
ring-same turns c x a b free goes (PieceWalk k) next = absurd (piece-apart turns x c a b k free next goes)
ring-same turns c x a b free goes (LoopWalk v k smooth) next = rings-one turns x c v a b k free next goes

pub ring-taken : (turns : List Turn) (c : List Place) (arcs : List (List Place)) (r : ℤ) (after : List (List Place)) → IsFree turns c
    → HasRingEdges turns (closed_from c 0) → AreSound turns arcs → IsRingFound c arcs r after
    → IsTakenSoundly IsRingTaken turns c arcs r after
ring-taken turns c arcs r after free edges all (Found a b starts along e) =
    let long = free.long in
    let goes : GoesTo c a b = record { at = 0; inside = omega arith; rest = starts.behind; is = starts.is } in
    record {
      taken = Earlier (record {
        known = along.known;
        is = ring-same turns c (walk_of arcs r) a b free goes
            (sound-walk turns arcs r all.each along.known) along.has;
      }) e;
      sound = subst (AreSound turns) (sym e) all;
    }
ring-taken turns c arcs r after free edges all (New a b starts none is e) = record {
  taken = Next (λ s earlier. none s (first-along s earlier)) is e;
  sound = sound-added turns arcs after (closed_from c 0) all (Loop c free refl) (λ k inside.
      ring-new turns c arcs k free (λ s earlier. none s (first-along s earlier)) inside
      (All-get_or (IsSound turns) arcs k [] inside all.each)) edges e;
}
  where
    first-along : (s : ℤ) → IsEarlier (IsRound c) arcs s → IsAlong arcs a b s
    first-along s earlier = record {
      known = earlier.known;
      has =
          subst (AreNext a b) (sym earlier.is.2) (first-next c earlier.is.0 a b starts.behind free.long starts.is earlier.is.1);
    }

-- ---- a walk that is cut

pub record AreTakenSoundly (turns : List Turn) (v : Place) (ws : List Place) (arcs : List (List Place)) (refs : List ℤ) (after :
    List (List Place)) : Type 0 where
  pub taken : AreTaken IsPieceTaken (IsJunction turns) v ws arcs refs after
  pub sound : AreSound turns after

pub pieces-taken : (turns : List Turn) (Marked : Place → Type 0) → ((p : Place) → Marked p ↔ IsJunction turns p)
    → (v : Place) (ws : List Place) (arcs : List (List Place)) (refs : List ℤ) (after : List (List Place)) → IsJunction turns v
    → EachTriple (IsPassed turns) (v ∷ ws) → HasRingEdges turns (v ∷ ws) → AreSound turns arcs
    → AreTaken IsFound Marked v ws arcs refs after → AreTakenSoundly turns v ws arcs refs after
pieces-taken turns Marked same v ws arcs [] after junction passed edges all h =
    record { taken = h; sound = subst (AreSound turns) (sym h.1) all }
pieces-taken turns Marked same v ws arcs (r ∷ rs) after junction passed edges all h =
    let b = h.0 in
    let last : IsJunction turns b.last = (same b.last).0 b.junction in
    let smooth : All (λ p. ¬ (IsJunction turns p)) b.inner = All-weaker (λ p. ¬ (Marked p)) (λ p. ¬ (IsJunction turns p)) (λ p off on.
    off ((same p).1 on)) b.inner b.plain in
    let along : EachTriple (IsPassed turns) (v ∷ (b.inner ++ b.last ∷ b.rest)) =
    subst (λ ps. EachTriple (IsPassed turns) (v ∷ ps)) b.along passed in
    let split : b.inner ++ b.last ∷ b.rest ≡ (b.inner ++ b.last ∷ []) ++ b.rest = sym (append_assoc b.inner (b.last ∷ []) b.rest) in
    let here = triples-prefix (IsPassed turns) (v ∷ (b.inner ++ b.last ∷ [])) b.rest
    (subst (λ ps. EachTriple (IsPassed turns) (v ∷ ps)) split along) in
    let behind = triples-suffix (IsPassed turns) (v ∷ b.inner) (b.last ∷ b.rest) along in
    let here_edges : HasRingEdges turns (v ∷ (b.inner ++ b.last ∷ [])) = λ p q next.
    edges p q (next-same p q ((v ∷ (b.inner ++ b.last ∷ [])) ++ b.rest) (v ∷ ws) (sym (ap (λ ps. v ∷ ps) (b.along ∙ split)))
    (next-front p q (v ∷ (b.inner ++ b.last ∷ [])) b.rest next)) in
    let behind_edges : HasRingEdges turns (b.last ∷ b.rest) = λ p q next.
    edges p q (next-same p q ((v ∷ b.inner) ++ b.last ∷ b.rest) (v ∷ ws) (sym (ap (λ ps. v ∷ ps) b.along))
    (next-behind p q (v ∷ b.inner) (b.last ∷ b.rest) next)) in
    let stretch = stretch-made turns (IsJunction turns) v b.inner b.last junction last smooth smooth here in
    let one = piece-taken turns (v ∷ (b.inner ++ b.last ∷ [])) arcs r b.after stretch here_edges all b.taken in
    let rest = pieces-taken turns Marked same b.last b.rest b.after rs after last behind behind_edges one.sound h.1 in
    record {
      taken = (
        record {
          inner = b.inner;
          last = b.last;
          rest = b.rest;
          after = b.after;
          along = b.along;
          plain = smooth;
          junction =
              last;
          taken = one.taken;
        },
        rest.taken,
      );
      sound = rest.sound;
    }

-- ---- rings

pub record IsRingBuiltSoundly (turns : List Turn) (c : List Place) (arcs : List (List Place)) (refs : List ℤ) (after : List (List Place)) :
    Type 0 where
  pub built : IsRingBuilt IsPieceTaken IsRingTaken (IsJunction turns) c arcs refs after
  pub sound : AreSound turns after

pub ring-built : (turns : List Turn) (Marked : Place → Type 0) → ((p : Place) → Marked p ↔ IsJunction turns p)
    → (c : List Place) (arcs : List (List Place)) (refs : List ℤ) (after : List (List Place)) → IsRingOf turns c → AreSound turns arcs
    → IsRingBuilt IsFound IsRingFound Marked c arcs refs after → IsRingBuiltSoundly turns c arcs refs after
ring-built turns Marked same c arcs refs after ring all (Single p is e f) =
    record {
      built = Single p is e f;
      sound = sound-added turns arcs after (p ∷ []) all (One p refl) (λ k inside.
          record { ahead = λ a b in_x in_y. next-none a b p in_y; back = λ a b in_x in_y. next-none b a p in_y }) (λ a b next.
          absurd (next-none a b p next)) f;
    }
ring-built turns Marked same c arcs refs after ring all (Free r long off e taken) =
    let smooth : All (λ p. ¬ (IsJunction turns p)) c = All-weaker (λ p. ¬ (Marked p)) (λ p. ¬ (IsJunction turns p)) (λ p not on.
    not ((same p).1 on)) c off in
    let free = free-made turns c long smooth (ring.distinct smooth) ring.passed in
    let one = ring-taken turns c arcs r after free (ring.edges 0 long (omega arith)) all taken in
    record { built = Free r long smooth e one.taken; sound = one.sound }
ring-built turns Marked same c arcs refs after ring all (Cut at v ws long inside off is marked taken) =
    let smooth : All (λ p. ¬ (IsJunction turns p)) (take at c) =
    All-weaker (λ p. ¬ (Marked p)) (λ p. ¬ (IsJunction turns p)) (λ p not on. not ((same p).1 on)) (take at c) off in
    let junction = (same v).0 marked in
    let passed : EachTriple (IsPassed turns) (v ∷ ws) = subst (EachTriple (IsPassed turns)) is
    (triples-closed (IsPassed turns) c at inside ring.passed) in
    let all_taken = pieces-taken turns Marked same v ws arcs refs after junction passed
    (subst (HasRingEdges turns) is (ring.edges at long inside)) all taken in
    record { built = Cut at v ws long inside smooth is junction all_taken.taken; sound = all_taken.sound }

pub record AreRingsBuiltSoundly (turns : List Turn) (cs : List (List Place)) (arcs : List (List Place)) (refs : List (List ℤ)) (after :
    List (List Place)) : Type 0 where
  pub built : AreRingsBuilt IsPieceTaken IsRingTaken (IsJunction turns) cs arcs refs after
  pub sound : AreSound turns after

rings-from : (turns us : List Turn) (k : ℕ) (Marked : Place → Type 0) → ((p : Place) → Marked p ↔ IsJunction turns p)
    → (cs arcs : List (List Place)) (refs : List (List ℤ)) (after : List (List Place)) → turns ≡ us ++ turns_of k cs → AreSound turns arcs
    → AreRingsBuilt IsFound IsRingFound Marked cs arcs refs after → AreRingsBuiltSoundly turns cs arcs refs after
rings-from turns us k Marked same [] arcs [] after is all h = record { built = h; sound = subst (AreSound turns) (sym h) all }
rings-from turns us k Marked same [] arcs (rs ∷ refs) after is all h = absurd h
rings-from turns us k Marked same (c ∷ cs) arcs [] after is all h = absurd h
rings-from turns us k Marked same (c ∷ cs) arcs (rs ∷ refs) after is all h =
    let one = ring-built turns Marked same c arcs rs h.0 (ring_of us (turns_of (suc k) cs) turns k c is) all h.1 in
    let rest = rings-from turns (us ++ turns_round k c) (suc k) Marked same cs h.0 refs after (is
    ∙ sym (append_assoc us (turns_round k c) (turns_of (suc k) cs))) one.sound h.2 in
    record { built = (h.0, one.built, rest.built); sound = rest.sound }

pub rings-built : (Marked : Place → Type 0) (cs : List (List Place)) (refs : List (List ℤ)) (after : List (List Place))
    → ((p : Place) → Marked p ↔ IsJunction (turns_of 0 cs) p) → AreRingsBuilt IsFound IsRingFound Marked cs [] refs after
    → AreRingsBuiltSoundly (turns_of 0 cs) cs [] refs after
rings-built Marked cs refs after same h = rings-from (turns_of 0 cs) [] 0 Marked same cs [] refs after refl none h
  where
    none : AreSound (turns_of 0 cs) []
    none = record {
      each = All-nil (IsSound (turns_of 0 cs));
      away = λ i j d ordered inside. absurd (omega arith);
      edges =
          All-nil (HasRingEdges (turns_of 0 cs));
    }

-- The walk over a topology answers the same where the members are the same but for their places, and but for the value of `arcs`.
use Rattle.std.specs.Prelude.{codes, if◌then◌else◌}
use Rattle.std.proofs.Common.{◌≡◌, ℕ, Bool, ◌&&◌, bytes_eq, List, Result, refl, sym, subst}
use Rattle.grid_exact.specs.Geometry.{Place}
use Rattle.json_scan.specs.Tree.{Extent, Tree, NullAt, FalseAt, TrueAt, NumberAt, TextAt, ListAt, ObjectAt, Trees, NoTrees, NextTree}
use Rattle.json_scan.specs.Tree.{Entries, Lookup, NowhereIn, OnceIn, TwiceIn, lookup}
use Rattle.topo_reader.specs.declared.fault.ReadFault.{ReadFault}
use Rattle.topo_reader.specs.Sequence.{and_then, required}
use Rattle.topo_reader.specs.Geometries.{Seen, nothing_seen, objects_of}
use Rattle.topo_reader.specs.Reads.{is_topology, is_number, are_two_numbers, is_pair, is_one_pair, has_both_pairs, transform_of, coded_by}
use Rattle.topo_reader.specs.Reads.{header_of}
use Rattle.topo_writer.proofs.Alike.{Alike, AreAlike, EntriesAlike, FoundAlike, lookup-alike}
use Rattle.topo_writer.proofs.Follows.{SameOk, then-follows, then-same, if-same, required-found}
use Rattle.topo_writer.proofs.WalkAlike.{SameSteps, objects-same}

-- ---- type

text-topology : (e f : Extent) (a b : List ℕ) → b ≡ a → SameOk (is_topology (TextAt e a)) (is_topology (TextAt f b))
text-topology e f a b same =
    subst (λ (w : List ℕ). SameOk (is_topology (TextAt e a)) (is_topology (TextAt f w))) (sym same)
    (if-same (bytes_eq a (codes "Topology")) _ _ _ _ refl tt)

topology-same : (t u : Tree) → Alike t u → SameOk (is_topology t) (is_topology u)
topology-same (TextAt e a) (TextAt f b) is = text-topology e f a b is
topology-same (TextAt e a) u is = absurd is
topology-same t u is = tt

-- ---- transform

number-alike : (t u : Tree) → Alike t u → is_number t ≡ is_number u
number-alike (NullAt e) (NullAt f) is = refl
number-alike (NullAt e) u is = absurd is
number-alike (FalseAt e) (FalseAt f) is = refl
number-alike (FalseAt e) u is = absurd is
number-alike (TrueAt e) (TrueAt f) is = refl
number-alike (TrueAt e) u is = absurd is
number-alike (NumberAt e a) (NumberAt f b) is = refl
number-alike (NumberAt e a) u is = absurd is
number-alike (TextAt e a) (TextAt f b) is = refl
number-alike (TextAt e a) u is = absurd is
number-alike (ListAt e ts) (ListAt f us) is = refl
number-alike (ListAt e ts) u is = absurd is
number-alike (ObjectAt e es) (ObjectAt f fs) is = refl
number-alike (ObjectAt e es) u is = absurd is

both-alike : (a b c d : Bool) → a ≡ c → b ≡ d → (a && b) ≡ (c && d)
both-alike a b c d p q = rw (p, q) refl

two-alike : (ts us : Trees) → AreAlike ts us → are_two_numbers ts ≡ are_two_numbers us
two-alike NoTrees NoTrees are = refl
two-alike NoTrees (NextTree u us) are = absurd are
two-alike (NextTree a NoTrees) NoTrees are = absurd are
two-alike (NextTree a NoTrees) (NextTree c NoTrees) are = refl
two-alike (NextTree a NoTrees) (NextTree c (NextTree d us)) are = absurd are.1
two-alike (NextTree a (NextTree b NoTrees)) NoTrees are = absurd are
two-alike (NextTree a (NextTree b NoTrees)) (NextTree c NoTrees) are = absurd are.1
two-alike (NextTree a (NextTree b NoTrees)) (NextTree c (NextTree d NoTrees)) are =
    both-alike (is_number a) (is_number b) (is_number c) (is_number d) (number-alike a c are.0) (number-alike b d are.1.0)
two-alike (NextTree a (NextTree b NoTrees)) (NextTree c (NextTree d (NextTree third more))) are = absurd are.1.1
two-alike (NextTree a (NextTree b (NextTree t ts))) NoTrees are = absurd are
two-alike (NextTree a (NextTree b (NextTree t ts))) (NextTree c NoTrees) are = absurd are.1
two-alike (NextTree a (NextTree b (NextTree t ts))) (NextTree c (NextTree d NoTrees)) are = absurd are.1.1
two-alike (NextTree a (NextTree b (NextTree t ts))) (NextTree c (NextTree d (NextTree third more))) are = refl

pair-alike : (t u : Tree) → Alike t u → is_pair t ≡ is_pair u
pair-alike (NullAt e) (NullAt f) is = refl
pair-alike (NullAt e) u is = absurd is
pair-alike (FalseAt e) (FalseAt f) is = refl
pair-alike (FalseAt e) u is = absurd is
pair-alike (TrueAt e) (TrueAt f) is = refl
pair-alike (TrueAt e) u is = absurd is
pair-alike (NumberAt e a) (NumberAt f b) is = refl
pair-alike (NumberAt e a) u is = absurd is
pair-alike (TextAt e a) (TextAt f b) is = refl
pair-alike (TextAt e a) u is = absurd is
pair-alike (ListAt e ts) (ListAt f us) is = two-alike ts us is
pair-alike (ListAt e ts) u is = absurd is
pair-alike (ObjectAt e es) (ObjectAt f fs) is = refl
pair-alike (ObjectAt e es) u is = absurd is

one_pair-alike : (l m : Lookup) → FoundAlike l m → is_one_pair l ≡ is_one_pair m
one_pair-alike NowhereIn NowhereIn is = refl
one_pair-alike NowhereIn m is = absurd is
one_pair-alike (OnceIn t) (OnceIn u) is = pair-alike t u is
one_pair-alike (OnceIn t) m is = absurd is
one_pair-alike (TwiceIn e) (TwiceIn f) is = refl
one_pair-alike (TwiceIn e) m is = absurd is

pairs-alike : (es fs : Entries) → EntriesAlike es fs → has_both_pairs es ≡ has_both_pairs fs
pairs-alike es fs are =
    both-alike (is_one_pair (lookup (codes "scale") es)) (is_one_pair (lookup (codes "translate") es))
    (is_one_pair (lookup (codes "scale") fs)) (is_one_pair (lookup (codes "translate") fs))
    (one_pair-alike (lookup (codes "scale") es) (lookup (codes "scale") fs) (lookup-alike (codes "scale") es fs are))
    (one_pair-alike (lookup (codes "translate") es) (lookup (codes "translate") fs) (lookup-alike (codes "translate") es fs are))

choice-same : (a b : Bool) (x y more others : Result Bool ReadFault) → a ≡ b → SameOk x y → SameOk more others
    → SameOk (if a then x else more) (if b then y else others)
choice-same a b x y more others e h k = subst (λ (c : Bool). SameOk (if a then x else more) (if c then y else others)) e
    (if-same a x y more others h k)

transform-same : (t u : Tree) → Alike t u → SameOk (transform_of t) (transform_of u)
transform-same (NullAt e) (NullAt f) is = refl
transform-same (NullAt e) u is = absurd is
transform-same (ObjectAt e es) (ObjectAt f fs) are = choice-same (has_both_pairs es) (has_both_pairs fs) _ _ _ _ (pairs-alike es fs are)
    refl tt
transform-same (ObjectAt e es) u is = absurd is
transform-same t u is = tt

coded-same : (l m : Lookup) → FoundAlike l m → SameOk (coded_by l) (coded_by m)
coded-same NowhereIn NowhereIn is = refl
coded-same NowhereIn m is = absurd is
coded-same (OnceIn t) (OnceIn u) is = transform-same t u is
coded-same (OnceIn t) m is = absurd is
coded-same (TwiceIn e) m is = tt

-- ---- the walk

pub header-same : (h g : Tree) (es fs : Entries) → FoundAlike (lookup (codes "type") es) (lookup (codes "type") fs)
    → FoundAlike (lookup (codes "transform") es) (lookup (codes "transform") fs) → SameOk (header_of h es) (header_of g fs)
header-same h g es fs type transform =
    let coded = coded_by (lookup (codes "transform") es) in
    let also = coded_by (lookup (codes "transform") fs) in
    then-follows Alike (required (codes "type") h es) (required (codes "type") g fs) (λ t. and_then (is_topology t) (λ named. coded)) (λ t.
    and_then (is_topology t) (λ named. also)) (required-found (codes "type") h g es fs type)
    (λ t u is. then-same (is_topology t) (is_topology u) (λ named. coded) (λ named. also) (topology-same t u is) (λ named.
    coded-same (lookup (codes "transform") es) (lookup (codes "transform") fs) transform))

-- what is seen in the objects
abbrev pub objects_seen : List (List Place) → Tree → Entries → Result Seen ReadFault
objects_seen arcs t members = and_then (required (codes "objects") t members) (λ objects. objects_of arcs objects nothing_seen)

pub seen-same : (arcs others : List (List Place)) (h g : Tree) (es fs : Entries) → SameSteps arcs others
    → FoundAlike (lookup (codes "objects") es) (lookup (codes "objects") fs) → SameOk (objects_seen arcs h es) (objects_seen others g fs)
seen-same arcs others h g es fs same found =
    then-follows Alike (required (codes "objects") h es) (required (codes "objects") g fs) (λ objects. objects_of arcs objects nothing_seen)
    (λ objects. objects_of others objects nothing_seen) (required-found (codes "objects") h g es fs found)
    (λ t u is. objects-same arcs others same t u nothing_seen is)

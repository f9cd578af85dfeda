-- Walks that answer alike: where the one ends well, so does the other.
use Rattle.std.proofs.Common.{◌≡◌, ℕ, Bool, true, false, nat_lt, List, Result, Ok, Err, refl, sym, subst}
use Rattle.std.specs.Prelude.{if◌then◌else◌}
use Rattle.json_scan.specs.Tree.{Tree, ListAt, Trees, NoTrees, NextTree, Entries, Lookup, NowhereIn, OnceIn, TwiceIn, lookup}
use Rattle.topo_reader.specs.declared.fault.ReadFault.{ReadFault}
use Rattle.topo_reader.specs.declared.fault.What.{What}
use Rattle.topo_reader.specs.Sequence.{and_then, counted, list_of, at_found, required, each}
use Rattle.topo_writer.proofs.Alike.{Alike, AreAlike, EntriesAlike, FoundAlike, lookup-alike}

abbrev pub Follows : {A B : Type 0} → (A → B → Type 0) → Result A ReadFault → Result B ReadFault → Type 0
Follows R (Ok a) (Ok b) = R a b
Follows R (Ok a) (Err f) = ⊥
Follows R (Err f) other = Unit {0}

-- where the first ends well, the second does with the same
abbrev pub SameOk : {A : Type 0} → Result A ReadFault → Result A ReadFault → Type 0
SameOk {A} x y = Follows (λ (a b : A). a ≡ b) x y

pub same-ends : {A : Type 0} (x y : Result A ReadFault) (a : A) → SameOk x y → x ≡ Ok a → y ≡ Ok a
same-ends (Ok b) (Ok c) a same h = rw (sym same) h
same-ends (Ok b) (Err f) a same h = absurd same
same-ends (Err f) y a same h = absurd cc

-- ---- one step after another

pub then-follows : {A B C : Type 0} (R : A → B → Type 0) (x : Result A ReadFault) (y : Result B ReadFault) (f : A
    → Result C ReadFault) (g : B → Result C ReadFault) → Follows R x y → ((a : A) (b : B) → R a b → SameOk (f a) (g b))
    → SameOk (and_then x f) (and_then y g)
then-follows R (Ok a) (Ok b) f g h k = k a b h
then-follows R (Ok a) (Err e) f g h k = absurd h
then-follows R (Err e) y f g h k = tt

pub then-same : {A C : Type 0} (x y : Result A ReadFault) (f g : A → Result C ReadFault) → SameOk x y → ((a : A) → SameOk (f a) (g a))
    → SameOk (and_then x f) (and_then y g)
then-same {A = A} (Ok a) (Ok b) f g h k = subst (λ (c : A). SameOk (f a) (g c)) h (k a)
then-same (Ok a) (Err e) f g h k = absurd h
then-same (Err e) y f g h k = tt

pub if-same : {A : Type 0} (b : Bool) (x y more others : Result A ReadFault) → SameOk x y → SameOk more others
    → SameOk (if b then x else more) (if b then y else others)
if-same true x y more others h k = h
if-same false x y more others h k = k

pub counted-same : {A : Type 0} (what : What) (limit seen : ℕ) (t u : Tree) (x y : Result A ReadFault) → SameOk x y
    → SameOk (counted what limit seen t x) (counted what limit seen u y)
counted-same what limit seen t u x y h = if-same (nat_lt seen limit) x y _ _ h tt

pub each-same : {S : Type 0} (one other : Tree → S → Result S ReadFault) → ((t u : Tree) (s : S) → Alike t u → SameOk (one t s) (other u s))
    → (ts us : Trees) (s : S) → AreAlike ts us → SameOk (each one ts s) (each other us s)
each-same one other step NoTrees NoTrees s are = refl
each-same one other step NoTrees (NextTree u us) s are = absurd are
each-same one other step (NextTree t ts) NoTrees s are = absurd are
each-same one other step (NextTree t ts) (NextTree u us) s are =
    then-same (one t s) (other u s) (each one ts) (each other us) (step t u s are.0) (λ now. each-same one other step ts us now are.1)

-- ---- parts of trees

pub list-alike : (t u : Tree) → Alike t u → Follows AreAlike (list_of t) (list_of u)
list-alike (ListAt e ts) (ListAt f us) are = are
list-alike (ListAt e ts) u are = absurd are
list-alike t u are = tt

found-alike : (h g : Tree) (l m : Lookup) → FoundAlike l m → Follows Alike (at_found h l) (at_found g m)
found-alike h g NowhereIn m are = tt
found-alike h g (OnceIn t) (OnceIn u) are = are
found-alike h g (OnceIn t) NowhereIn are = absurd are
found-alike h g (OnceIn t) (TwiceIn e) are = absurd are
found-alike h g (TwiceIn e) m are = tt

pub required-found : (name : List ℕ) (h g : Tree) (es fs : Entries) → FoundAlike (lookup name es) (lookup name fs)
    → Follows Alike (required name h es) (required name g fs)
required-found name h g es fs found = found-alike h g (lookup name es) (lookup name fs) found

pub required-alike : (name : List ℕ) (h g : Tree) (es fs : Entries) → EntriesAlike es fs
    → Follows Alike (required name h es) (required name g fs)
required-alike name h g es fs are = required-found name h g es fs (lookup-alike name es fs are)

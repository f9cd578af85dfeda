-- A text loads as one map with one list of held arcs.
use Rattle.std.proofs.Common.{◌≡◌, ◌∙◌, ℕ, zero, suc, ◌+◌, ◌<◌, ◌≤◌, Bool, true, false, List, [], ◌∷◌, length, get_or, sym, subst, refl}
use Rattle.std.proofs.Common.{arith}
use Rattle.std.specs.Prelude.{Contains}
use Rattle.std.specs.List.Sorted.{IsStrictlyIncreasing}
use Rattle.std.proofs.lemmas.List.{get_or_default}
use Rattle.std.proofs.lemmas.List.Kept.{AllPairs-from_increasing}
use Rattle.arc_map.specs.Map.{Map}
use Rattle.arc_map.proofs.Rising.{rising_order, rising_is_one, later_is_greater}
use Rattle.topo_reader.specs.Reads.{TopologyRead}
use Rattle.top_call.specs.declared.forms.Options.{Options}
use Rattle.top_call.specs.Maps.{AreHeldBeside, IsLoaded}
use Rattle.top_call.proofs.OneTree.{text_has_one_topology}

-- ---- what is loaded

held_is_one : (hold : Bool) (m : Map) (held other : List ℕ) → AreHeldBeside hold m held → AreHeldBeside hold m other → held ≡ other
held_is_one false m held other first second = first.1 ∙ sym second.1
held_is_one true m held other first second =
    rising_is_one held other first.rising second.rising (λ n has. (second.all n).1 ((first.all n).0 has))
    (λ n has. (first.all n).1 ((second.all n).0 has))

-- two loadings of a text
pub record SameLoading (t u : TopologyRead) (held other : List ℕ) : Type 0 where
  pub topology : t ≡ u
  pub held_arcs : held ≡ other

pub loaded_is_one : (options : Options) (text : List ℕ) (t u : TopologyRead) (held other : List ℕ) → IsLoaded options text t held
    → IsLoaded options text u other → SameLoading t u held other
loaded_is_one options text t u held other first second =
    let same = text_has_one_topology text t u first.topology second.topology in
    let beside = subst (λ (v : TopologyRead). AreHeldBeside options.hold v.map other) (sym same) second.beside in
    record { topology = same; held_arcs = held_is_one options.hold t.map held other first.beside beside }

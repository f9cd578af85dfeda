-- How far the entries are judged.
use Rattle.std.proofs.Common.{◌≡◌, ◌∙◌, ◌+◌, ◌<◌, ◌≤◌, ℕ, ℤ, true, false, not, Some, List, [], ◌∷◌, length, drop, map, sym, ap, subst, refl}
use Rattle.std.proofs.Common.{arith, inl, inr, length-set}
use Rattle.std.specs.Prelude.{Contains, slice_get}
use Rattle.std.proofs.lemmas.Bool.{both_ways, not_from_true}
use Rattle.std.proofs.lemmas.List.{drop_all, drop_more, length-drop, length-map}
use Rattle.std.proofs.lemmas.Option.{get_or_from_slice_get, slice_get_within}
use Rattle.grid_exact.specs.Weights.{Scales}
use Rattle.arc_map.specs.Chains.{Chain, chain_at}
use Rattle.arc_map.specs.Paths.{vertices_at}
use Rattle.arc_map.specs.Records.{Record}
use Rattle.arc_map.specs.Work.{thinned_work}
use Rattle.arc_map.specs.declared.refs.ChainRef.{ChainRef}
use Rattle.map_index.specs.MapIndex.{IsAsRead, no_ref}
use Rattle.monotone_split.proofs.Maps.{chain_same}
use Rattle.cert_checker.specs.Judged.{AreJudged, IsAccepted, IsFault, chain_spot, demand, free_chains, free_numbers, is_free, record_spot}
use Rattle.cert_checker.specs.Judging.{Judging, KeepsBase}
use Rattle.cert_checker.specs.Subject.{pairs_of}
use Rattle.cert_checker.specs.declared.verdicts.Reason.{Reason}
use Rattle.cert_checker.specs.declared.verdicts.Verdict.{Verdict}
use Rattle.cert_checker.specs.declared.verdicts.Verdict.TheVariants.{Yes, No}
use Rattle.cert_checker.proofs.Holding.{held_from_contains, is_held}
use Rattle.cert_checker.proofs.Listed.{first_left, free_from, free_here, free_later, free_none}

-- the numbers of the chains from number k on that are not held
abbrev pub numbers_from : List ℕ → List ChainRef → ℕ → List ℕ
numbers_from held refs k = map (λ chain. chain.0) (free_from held refs k)

-- the state before, and the state now: the entries before number e are judged, and the chains before number k are passed; what comes of
-- the rest from here is what comes of all
pub record IsUnderWay (before now : Judging) (entries : List Record) (bound : ℤ) (weights : Scales) (e k : ℕ) : Type 0 where
  pub base : KeepsBase before now
  pub count : length now.work.chains ≡ length before.work.chains
  pub behind : e ≤ k
  pub read : (n : ℕ) → k ≤ n → n < length now.work.refs → IsAsRead now.work n
  pub rest : drop e (free_chains now.held now.work.refs) ≡ free_from now.held now.work.refs k
  pub onward : (version : ℕ) (verdict : Verdict) (after : List Chain)
      → AreJudged (demand version bound weights) now.work.read.points now.work.chains (numbers_from now.held now.work.refs k) e
      (drop e entries) verdict after
      → AreJudged (demand version bound weights) before.work.read.points before.work.chains (free_numbers before.held before.work.refs) 0
      entries verdict after

pub under_way_start : (before : Judging) (entries : List Record) (bound : ℤ) (weights : Scales)
    → ((n : ℕ) → n < length before.work.refs → IsAsRead before.work n) → IsUnderWay before before entries bound weights 0 0
under_way_start before entries bound weights read = record {
  base = record { map_read = refl; refs = refl; held_arcs = refl; verdict_same = refl };
  count = refl;
  behind = omega arith;
  read = λ n from within. read n within;
  rest = refl;
  onward = λ version verdict after judged. judged;
}

-- there is an entry for each chain that is not held
pub entry_there : (before now : Judging) (entries : List Record) (bound : ℤ) (weights : Scales) (e k : ℕ) (place : ChainRef)
    → IsUnderWay before now entries bound weights e k → map record_spot entries ≡ map chain_spot (free_chains before.held before.work.refs)
    → slice_get now.work.refs k ≡ Some place → is_free now.held (k, place) ≡ true → e < length entries
entry_there before now entries bound weights e k place way agree got free =
    let left = first_left (free_chains now.held now.work.refs) e (k, place) (free_from now.held now.work.refs (k + 1)) (way.rest
    ∙ free_here now.held now.work.refs k place got free) in
    let same : free_chains now.held now.work.refs ≡ free_chains before.held before.work.refs =
    ap (λ h. free_chains h now.work.refs) way.base.held_arcs ∙ ap (free_chains before.held) way.base.refs in
    omega (
      arith,
      left.within,
      ap length same,
      ap length agree,
      length-map entries record_spot,
      length-map
          (free_chains before.held before.work.refs) chain_spot,
    )

-- the chain's arc is not held
pub arc_is_free : (now : Judging) (k : ℕ) (place : ChainRef) → IsAsRead now.work k → slice_get now.work.refs k ≡ Some place
    → is_free now.held (k, place) ≡ true → ¬ (Contains now.held (chain_at now.work.chains k).first.arc)
arc_is_free now k place read got free has =
    let arc : (chain_at now.work.chains k).first.arc ≡ place.arc = ap (λ (c : Chain). c.first.arc) read
    ∙ ap (λ (r : ChainRef). r.arc) (get_or_from_slice_get now.work.refs k place no_ref got) in
    let there : Contains now.held place.arc = subst (Contains now.held) arc has in
    both_ways (not (is_held now.held place.arc)) (not_from_true (is_held now.held place.arc) (held_from_contains now.held place.arc there))
    free

entries_left : (entries : List Record) (e : ℕ) (r : Record) → slice_get entries e ≡ Some r → drop e entries ≡ r ∷ drop (e + 1) entries
entries_left entries e r said = drop_more entries e r (slice_get_within entries e r said)
    ∙ ap (λ x. x ∷ drop (e + 1) entries) (get_or_from_slice_get entries e r r said)

-- what comes of the entry and those after it
judged_here : (before now : Judging) (entries : List Record) (bound : ℤ) (weights : Scales) (e k : ℕ) (place : ChainRef) (r : Record)
    → IsUnderWay before now entries bound weights e k → slice_get now.work.refs k ≡ Some place → is_free now.held (k, place) ≡ true
    → slice_get entries e ≡ Some r → (version : ℕ) (verdict : Verdict) (after : List Chain)
    → AreJudged (demand version bound weights) now.work.read.points now.work.chains (k ∷ numbers_from now.held now.work.refs (k + 1)) e
    (r ∷ drop (e + 1) entries) verdict after
    → AreJudged (demand version bound weights) before.work.read.points before.work.chains (free_numbers before.held before.work.refs) 0
    entries verdict after
judged_here before now entries bound weights e k place r way got free said version verdict after judged =
    let numbers : numbers_from now.held now.work.refs k ≡ k ∷ numbers_from now.held now.work.refs (k + 1) =
    ap (map (λ chain. chain.0)) (free_here now.held now.work.refs k place got free) in
    way.onward version verdict after
    (subst (λ ks. AreJudged (demand version bound weights) now.work.read.points now.work.chains ks e (drop e entries) verdict after)
    (sym numbers)
    (subst (λ rs. AreJudged (demand version bound weights) now.work.read.points now.work.chains
    (k ∷ numbers_from now.held now.work.refs (k + 1)) e rs verdict after) (sym (entries_left entries e r said)) judged))

-- the entry is refused
pub judged_refused : (before now : Judging) (entries : List Record) (bound : ℤ) (weights : Scales) (e k : ℕ) (place : ChainRef) (r : Record)
    (reason : Reason) → IsUnderWay before now entries bound weights e k → slice_get now.work.refs k ≡ Some place
    → is_free now.held (k, place) ≡ true → slice_get entries e ≡ Some r
    → IsFault (pairs_of now.work k weights bound) (chain_at now.work.chains k) e r (No reason) → (version : ℕ)
    → AreJudged (demand version bound weights) before.work.read.points before.work.chains (free_numbers before.held before.work.refs) 0
    entries (No reason) now.work.chains
judged_refused before now entries bound weights e k place r reason way got free said fault version =
    judged_here before now entries bound weights e k place r way got free said version (No reason) now.work.chains (inl (fault, refl))

-- the entry is accepted, and its chain is thinned
pub under_way_more : (before now after : Judging) (entries : List Record) (bound : ℤ) (weights : Scales) (e k : ℕ) (place : ChainRef) (r :
    Record) → IsUnderWay before now entries bound weights e k → slice_get now.work.refs k ≡ Some place → is_free now.held (k, place) ≡ true
    → slice_get entries e ≡ Some r → IsAccepted (pairs_of now.work k weights bound) (chain_at now.work.chains k) r
    → after ≡ record now { work = thinned_work now.work k r.kept } → IsUnderWay before after entries bound weights (e + 1) (k + 1)
under_way_more before now after entries bound weights e k place r way got free said accepted thinned =
    subst (λ s. IsUnderWay before s entries bound weights (e + 1) (k + 1)) (sym thinned) more
  where
    more : IsUnderWay before (record now { work = thinned_work now.work k r.kept }) entries bound weights (e + 1) (k + 1)
    more =
        let left = first_left (free_chains now.held now.work.refs) e (k, place) (free_from now.held now.work.refs (k + 1)) (way.rest
        ∙ free_here now.held now.work.refs k place got free) in
        record {
          base = record {
            map_read = way.base.map_read;
            refs = way.base.refs;
            held_arcs = way.base.held_arcs;
            verdict_same =
                way.base.verdict_same;
          };
          count = length-set now.work.chains k _ ∙ way.count;
          behind = omega (arith, way.behind);
          read = λ n from within.
              let other : n ≡ k → ⊥ = omega (arith, from) in
              chain_same now.work.chains k n (vertices_at (chain_at now.work.chains k) (drop 1 r.kept)) other
              ∙ way.read n (omega (arith, from)) within;
          rest = left.later;
          onward = λ version verdict end judged. judged_here before now entries bound weights e k place r way got free said version verdict
              end (inr (accepted, judged));
        }

-- the chain's arc is held
pub under_way_past : (before now : Judging) (entries : List Record) (bound : ℤ) (weights : Scales) (e k : ℕ) (place : ChainRef)
    → IsUnderWay before now entries bound weights e k → slice_get now.work.refs k ≡ Some place → is_free now.held (k, place) ≡ false
    → IsUnderWay before now entries bound weights e (k + 1)
under_way_past before now entries bound weights e k place way got held =
    let same = free_later now.held now.work.refs k place got held in
    record {
      base = way.base;
      count = way.count;
      behind = omega (arith, way.behind);
      read = λ n from within. way.read n (omega (arith, from)) within;
      rest = way.rest ∙ same;
      onward = λ version verdict after judged. way.onward version verdict after
          (subst (λ cs. AreJudged (demand version bound weights) now.work.read.points now.work.chains (map (λ chain. chain.0) cs) e
          (drop e entries) verdict after) (sym same) judged);
    }

-- all entries are accepted
pub judged_all : (before now : Judging) (entries : List Record) (bound : ℤ) (weights : Scales) (e k : ℕ)
    → IsUnderWay before now entries bound weights e k → map record_spot entries ≡ map chain_spot (free_chains before.held before.work.refs)
    → length now.work.refs ≤ k → (version : ℕ)
    → AreJudged (demand version bound weights) before.work.read.points before.work.chains (free_numbers before.held before.work.refs) 0
    entries Yes now.work.chains
judged_all before now entries bound weights e k way agree past version =
    let none = free_none now.held now.work.refs k past in
    let same : free_chains now.held now.work.refs ≡ free_chains before.held before.work.refs =
    ap (λ h. free_chains h now.work.refs) way.base.held_arcs ∙ ap (free_chains before.held) way.base.refs in
    let ended : length entries ≤ e = omega (
      arith,
      length-drop e (free_chains now.held now.work.refs),
      ap length (way.rest ∙ none),
      ap
          length same,
      ap length agree,
      length-map entries record_spot,
      length-map (free_chains before.held before.work.refs) chain_spot,
    ) in
    way.onward version Yes now.work.chains
    (subst (λ cs. AreJudged (demand version bound weights) now.work.read.points now.work.chains (map (λ chain. chain.0) cs) e
    (drop e entries) Yes now.work.chains) (sym none)
    (subst (λ rs. AreJudged (demand version bound weights) now.work.read.points now.work.chains [] e rs Yes now.work.chains)
    (sym (drop_all e entries ended)) (refl, refl)))

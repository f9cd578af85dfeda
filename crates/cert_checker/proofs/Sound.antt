-- What a Yes says of the map.
use Rattle.std.proofs.Common.{◌≡◌, ◌∙◌, ◌+◌, ◌<◌, ℕ, Bool, true, false, not, cond, List, [], ◌∷◌, length, get_or, map, drop, filter, sym}
use Rattle.std.proofs.Common.{ap, subst, arith, refl, inl, inr, length-set}
use Rattle.std.specs.Prelude.{◌==◌, Contains}
use Rattle.std.specs.List.{AllByRecursion, enumerate_from, list_any}
use Rattle.std.proofs.lemmas.Bool.{both_ways, cases_eq, not_from_true}
use Rattle.std.proofs.lemmas.List.{drop-drop, get_or-drop, get_or-map, get_or-set_other, get_or-set_same, length-drop, length-map}
use Rattle.grid_exact.specs.Geometry.{Place}
use Rattle.arc_map.specs.Chains.{Chain, chain_at, IsWithinBound, no_chain, thinned}
use Rattle.arc_map.specs.Map.{Map}
use Rattle.arc_map.specs.Paths.{AreSteps as AreReplacements, Step, vertices_at}
use Rattle.arc_map.specs.Records.{Record}
use Rattle.arc_map.specs.Vertices.{Vertex}
use Rattle.arc_map.specs.Work.{chain_in}
use Rattle.arc_map.specs.declared.refs.ChainRef.{ChainRef}
use Rattle.monotone_split.proofs.Named.{arranged_by_names}
use Rattle.monotone_split.proofs.Outcome.{steps_keep_map}
use Rattle.cert_checker.specs.Judged.{AllowedIn, AreJudged, Demand, free_numbers, is_free, replaced}
use Rattle.cert_checker.specs.Laws.{YesIsSound}
use Rattle.cert_checker.specs.declared.verdicts.Verdict.TheVariants.{Yes}
use Rattle.cert_checker.proofs.Holding.{held_from_contains}
use Rattle.cert_checker.proofs.Accepting.{accepted_keep_fewest, leads_from}

-- the number is that of a chain whose arc is not held
pub record IsFreeNumber (held : List ℕ) (chains : List Chain) (k : ℕ) : Type 0 where
  pub known : k < length chains
  pub free : ¬ (Contains held (chain_at chains k).first.arc)

-- a thinned chain has its first vertex still
pub first_thinned : (chains : List Chain) (k l : ℕ) (kept : List Vertex) → l < length chains
    → (chain_at (thinned chains k kept) l).first ≡ (chain_at chains l).first
first_thinned chains k l kept known =
    let c : Chain = record { frame = (chain_at chains k).frame; first = (chain_at chains k).first; rest = kept } in
    elim (cases_eq l k) [
      | inl same ↦
          ap (λ n. (chain_at (thinned chains k kept) n).first) same
          ∙ ap (λ (d : Chain). d.first) (get_or-set_same chains k c no_chain (subst (λ n. n < length chains) same known))
          ∙ ap (λ n. (chain_at chains n).first) (sym same)
      | inr other ↦ ap (λ (d : Chain). d.first) (get_or-set_other chains k l c no_chain other)
    ]

pub free_thinned : (held : List ℕ) (chains : List Chain) (k : ℕ) (kept : List Vertex) (ks : List ℕ)
    → AllByRecursion (IsFreeNumber held chains) ks → AllByRecursion (IsFreeNumber held (thinned chains k kept)) ks
free_thinned held chains k kept [] all = tt
free_thinned held chains k kept (l ∷ ls) all = (
  record {
    known = subst (λ n. l < n) (sym (length-set chains k _)) all.0.known;
    free = λ h. all.0.free (subst (λ (v : Vertex). Contains held v.arc) (first_thinned chains k l kept all.0.known) h);
  },
  free_thinned held chains k kept ls all.1,
)

-- entries that are judged Yes are steps that lead to the chains at the end
pub record YesSteps (d : Demand) (held : List ℕ) (points : List Place) (chains after : List Chain) : Type 0 where
  pub steps : List Step
  pub lead : AreReplacements (IsWithinBound d.weights.x d.weights.y d.bound) held points chains steps after

yes_steps : (d : Demand) (held : List ℕ) (points : List Place) (chains : List Chain) (ks : List ℕ) (e : ℕ) (rs : List Record) (after :
    List Chain) → AllByRecursion (IsFreeNumber held chains) ks → AreJudged d points chains ks e rs Yes after
    → YesSteps d held points chains after
yes_steps d held points chains ks e [] after free judged = record { steps = []; lead = judged.1 }
yes_steps d held points chains [] e (r ∷ rs) after free judged = absurd judged
yes_steps d held points chains (k ∷ ks) e (r ∷ rs) after free (inl fault) = absurd fault.0
yes_steps d held points chains (k ∷ ks) e (r ∷ rs) after free (inr judged) =
    let numbers = drop 1 r.kept in
    let path = (accepted_keep_fewest d points chains k r judged.0).path in
    let more = yes_steps d held points (replaced chains k r) ks (e + 1) rs after
    (free_thinned held chains k (vertices_at (chain_at chains k) numbers) ks free.1) judged.1 in
    record {
      steps = record { chain = k; numbers = numbers } ∷ more.steps;
      lead = (free.0.known, free.0.free, leads_from (AllowedIn d points chains k) (length (chain_at chains k).rest) r.kept path, more.lead);
    }

-- ---- the numbers of the chains whose arcs are not held

kept_or_not : {X : Type 0} (P : ℕ → Type 0) (f : X → ℕ) (b : Bool) (x : X) (ys : List X) → (b ≡ true → P (f x))
    → AllByRecursion P (map f ys) → AllByRecursion P (map f (cond b (x ∷ ys) ys))
kept_or_not P f true x ys here all = (here refl, all)
kept_or_not P f false x ys here all = all

pub free_from : (held : List ℕ) (m : Map) (whole : List ChainRef) (refs : List ChainRef) (n : ℕ) → drop n whole ≡ refs
    → AllByRecursion (IsFreeNumber held (map (chain_in m) whole)) (map (λ chain. chain.0) (filter (is_free held) (enumerate_from n refs)))
free_from held m whole [] n rest = tt
free_from held m whole (r ∷ rs) n rest =
    kept_or_not (IsFreeNumber held (map (chain_in m) whole)) (λ chain. chain.0) (is_free held (n, r)) (n, r)
    (filter (is_free held) (enumerate_from (n + 1) rs)) here
    (free_from held m whole rs (n + 1) (sym (drop-drop 1 n whole) ∙ ap (drop 1) rest))
  where
    within : n < length whole
    within = omega (arith, length-drop n whole, ap length rest)

    at_n : get_or whole n r ≡ r
    at_n = let e : n + 0 ≡ n = omega arith in ap (λ k. get_or whole k r) (sym e) ∙ sym (get_or-drop n whole 0 r)
        ∙ ap (λ rs. get_or rs 0 r) rest

    arc_at_n : (chain_at (map (chain_in m) whole) n).first.arc ≡ r.arc
    arc_at_n = ap (λ (c : Chain). c.first.arc) (get_or-map (chain_in m) whole n r no_chain within) ∙ ap (λ (q : ChainRef). q.arc) at_n

    here : is_free held (n, r) ≡ true → IsFreeNumber held (map (chain_in m) whole) n
    here free = record {
      known = omega (arith, within, length-map whole (chain_in m));
      free = λ has.
          let arc : Contains held r.arc = subst (Contains held) arc_at_n has in
          both_ways (not (list_any (λ h. h == r.arc) held)) (not_from_true (list_any (λ h. h == r.arc) held)
          (held_from_contains held r.arc arc)) free;
    }

pub yes_is_sound : YesIsSound
yes_is_sound d held m refs c after chains arranged (inl mismatch) = absurd mismatch.0
yes_is_sound d held m refs c after chains arranged (inr judged) =
    let found = yes_steps d held m.points (map (chain_in m) refs) (free_numbers held refs) 0 c.entries after
    (free_from held m refs refs 0 refl) judged.1 in
    steps_keep_map d.weights.x d.weights.y d.bound held m (map (chain_in m) refs) found.steps after chains.cut
    ((arranged_by_names held m).0 arranged) found.lead

-- The arcs that end at each position, one arc after another, falling.
use Rattle.std.proofs.Common.{◌≡◌, ◌∙◌, ℕ, ◌+◌, ◌<◌, ◌≤◌, Bool, true, false, cond, List, [], ◌∷◌, ◌++◌, All, AllPairs, Contains, length}
use Rattle.std.proofs.Common.{get_or, map, sym, ap, subst, arith, inl, inr}
use Rattle.std.proofs.lemmas.Bool.{cases_Bool, cases_lt, true≢false}
use Rattle.std.proofs.lemmas.List.{get_or_past}
use Rattle.std.proofs.lemmas.List.Elements.{All-nil, All-push, All-weaker, Contains-append_left, Contains-push}
use Rattle.std.proofs.lemmas.List.Quantifiers.{all_pairs_push}
use Rattle.grid_exact.specs.Geometry.{Place}
use Rattle.arc_map.specs.Map.{Map}
use Rattle.arc_map.specs.Ends.{is_same, listed}
use Rattle.arc_map.proofs.Listing.{compared_places}
use Rattle.arc_map.proofs.Listing.Same.{Yes, No}
use Rattle.sweep_index.proofs.Distinct.{pairs_nil}
use Rattle.dissolve.specs.Border.{first_of, last_of, EndsAt}
use Rattle.dissolve.specs.Unused.{AreUnused, IsAddedAt, added_at, arcs_at}
use Rattle.dissolve.specs.declared.unused.Unused.{Unused}

-- arcs from this one on that end at p, falling
pub record AreHeld (m : Map) (from : ℕ) (p : Place) (arcs : List ℕ) : Type 0 where
  pub known : All (λ k. k < length m.arcs) arcs
  pub ends : All (EndsAt m p) arcs
  pub falling : AllPairs (λ j k. k ≤ j) arcs
  pub high : All (λ k. from ≤ k) arcs

held-added : (m : Map) (arc : ℕ) (p q : Place) (arcs : List ℕ) → arc < length m.arcs → (p ≡ q → EndsAt m p arc) → AreHeld m arc p arcs
    → AreHeld m arc p (added_at q arc p arcs)
held-added m arc p q arcs within ends are = elim (compared_places p q) [
  | Yes alike e ↦ subst (λ b. AreHeld m arc p (cond b (arcs ++ arc ∷ []) arcs)) (sym alike) (record {
    known = All-push (λ k. k < length m.arcs) arcs arc are.known within;
    ends = All-push (EndsAt m p) arcs arc are.ends (ends e);
    falling = all_pairs_push (λ j k. k ≤ j) arcs arc are.falling are.high;
    high = All-push (λ k. arc ≤ k) arcs arc are.high (omega arith);
  })
  | No unlike e ↦ subst (λ b. AreHeld m arc p (cond b (arcs ++ arc ∷ []) arcs)) (sym unlike) are
]

added-keeps : (arc k : ℕ) (p q : Place) (arcs : List ℕ) → Contains arcs k → Contains (added_at q arc p arcs) k
added-keeps arc k p q arcs held = elim (cases_Bool (is_same p q)) [
  | inl alike ↦ subst (λ b. Contains (cond b (arcs ++ arc ∷ []) arcs) k) (sym alike) (Contains-append_left arcs (arc ∷ []) k held)
  | inr unlike ↦ subst (λ b. Contains (cond b (arcs ++ arc ∷ []) arcs) k) (sym unlike) held
]

added-has : (arc : ℕ) (p q : Place) (arcs : List ℕ) → q ≡ p → Contains (added_at q arc p arcs) arc
added-has arc p q arcs same = elim (compared_places p q) [
  | Yes alike e ↦ subst (λ b. Contains (cond b (arcs ++ arc ∷ []) arcs) arc) (sym alike) (Contains-push arcs arc)
  | No unlike e ↦ absurd (e (sym same))
]

-- the marked arcs from one on are listed
pub record AreListed (m : Map) (marks : List Bool) (from : ℕ) (u : Unused) : Type 0 where
  pub marks_are : u.marks.items ≡ marks
  pub lists : length u.lists.items ≡ length u.places.keys
  pub held : (p : Place) → AreHeld m from p (arcs_at u p)
  pub all : (p : Place) (k : ℕ) → from ≤ k → get_or marks k false ≡ true → EndsAt m p k → Contains (arcs_at u p) k

none-held : (m : Map) (from : ℕ) (p : Place) → AreHeld m from p []
none-held m from p = record {
  known = All-nil (λ k. k < length m.arcs);
  ends = All-nil (EndsAt m p);
  falling = pairs_nil (λ j k. k ≤ j);
  high = All-nil (λ k. from ≤ k);
}

lower : (m : Map) (arc : ℕ) (p : Place) (arcs : List ℕ) → AreHeld m (arc + 1) p arcs → AreHeld m arc p arcs
lower m arc p arcs are = record {
  known = are.known;
  ends = are.ends;
  falling = are.falling;
  high = All-weaker (λ k. arc + 1 ≤ k) (λ k. arc ≤ k) (λ k more. omega (arith, more)) arcs are.high;
}

pub listed-none : (m : Map) (marks : List Bool) (from : ℕ) (u : Unused) → u.marks.items ≡ marks → length marks ≤ from → u.places.keys ≡ []
    → u.lists.items ≡ [] → AreListed m marks from u
listed-none m marks from u same past places lists =
    let empty = λ (p : Place). ap (λ ps. listed ps (map (λ arcs. arcs.items) u.lists.items) p) places in
    record {
      marks_are = same;
      lists = ap length lists ∙ sym (ap length places);
      held = λ p. subst (AreHeld m from p) (sym (empty p)) (none-held m from p);
      all = λ p k high is. absurd (true≢false (sym is ∙ get_or_past marks k false (omega (arith, past, high))));
    }

pub listed-more : (m : Map) (marks : List Bool) (from arc : ℕ) (before after : Unused) → from ≡ arc + 1 → arc < length m.arcs
    → IsAddedAt m before after arc → AreListed m marks from before → AreListed m marks arc after
listed-more m marks from arc before after next within added are =
    let held_before = λ (p : Place). lower m arc p (arcs_at before p) (subst (λ n. AreHeld m n p (arcs_at before p)) next (are.held p)) in
    elim (cases_Bool (get_or before.marks.items arc false)) [
      | inl is ↦
          let first = first_of m arc in
          let last = last_of m arc in
          let after_at = added.marked is in
          record {
            marks_are = added.marks ∙ are.marks_are;
            lists = added.lists;
            held = λ p. subst (AreHeld m arc p) (sym (after_at p))
                (held-added m arc p last (added_at first arc p (arcs_at before p)) within (λ e. inr (sym e))
                (held-added m arc p first (arcs_at before p) within (λ e. inl (sym e)) (held_before p)));
            all = λ p k high set ends. subst (λ arcs. Contains arcs k) (sym (after_at p)) (elim (cases_lt arc k) [
              | inl above ↦ added-keeps arc k p last (added_at first arc p (arcs_at before p))
                  (added-keeps arc k p first (arcs_at before p) (are.all p k (omega (arith, next, above)) set ends))
              | inr not_above ↦
                  let same : arc ≡ k = omega (arith, high, not_above) in
                  subst (λ j. Contains (added_at last arc p (added_at first arc p (arcs_at before p))) j) same
                  (elim (subst (EndsAt m p) (sym same) ends) [
                    | inl begins ↦ added-keeps arc arc p last (added_at first arc p (arcs_at before p))
                        (added-has arc p first (arcs_at before p) begins)
                    | inr stops ↦ added-has arc p last (added_at first arc p (arcs_at before p)) stops
                  ])
            ]);
          }
      | inr not ↦
          let after_at = added.unmarked not in
          record {
            marks_are = added.marks ∙ are.marks_are;
            lists = added.lists;
            held = λ p. subst (AreHeld m arc p) (sym (after_at p)) (held_before p);
            all = λ p k high set ends. subst (λ arcs. Contains arcs k) (sym (after_at p)) (elim (cases_lt arc k) [
              | inl above ↦ are.all p k (omega (arith, next, above)) set ends
              | inr not_above ↦
                  let same : arc ≡ k = omega (arith, high, not_above) in
                  absurd (true≢false (sym set ∙ ap (λ j. get_or marks j false) (sym same)
                  ∙ ap (λ ms. get_or ms arc false) (sym are.marks_are) ∙ not))
            ]);
          }
    ]

pub listed-all : (m : Map) (marks : List Bool) (from : ℕ) (u : Unused) → from ≡ 0 → length marks ≡ length m.arcs → AreListed m marks from u
    → AreUnused m u
listed-all m marks from u start count are = record {
  count = ap length are.marks_are ∙ count;
  lists = are.lists;
  each = λ p. let held = are.held p in record {
    known = held.known;
    ends = held.ends;
    falling = held.falling;
    all = λ k set ends. are.all p k (omega (arith, start)) (ap (λ ms. get_or ms k false) (sym are.marks_are) ∙ set) ends;
  };
}

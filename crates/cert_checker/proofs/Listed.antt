-- The chains of a map whose arcs are not held, one after the other, beside the entries of a certificate.
use Rattle.std.proofs.Common.{◌≡◌, ◌∙◌, ◌+◌, ◌<◌, ◌≤◌, ℕ, true, false, cond, Some, List, [], ◌∷◌, length, get_or, take, drop, map, filter}
use Rattle.std.proofs.Common.{sym, ap, arith}
use Rattle.std.specs.Prelude.{slice_get}
use Rattle.std.specs.List.{enumerate_from}
use Rattle.std.proofs.lemmas.Bool.{cond-false, cond-true}
use Rattle.std.proofs.lemmas.List.{drop-drop, drop_all, drop_more, get_or-drop, get_or-map, length-drop, length-map, take_more_same}
use Rattle.std.proofs.lemmas.Option.{get_or_from_slice_get, slice_get_within}
use Rattle.arc_map.specs.Records.{Record}
use Rattle.arc_map.specs.declared.refs.ChainRef.{ChainRef}
use Rattle.cert_checker.specs.Difference.{IsFirstDifference}
use Rattle.cert_checker.specs.Judged.{chain_spot, free_chains, is_free, record_spot}
use Rattle.cert_checker.proofs.Differences.{differ_first_ended, differ_second_ended, differ_within, same_whole}

-- the first of what is left of a list
pub record FirstLeft {A : Type 0} (xs : List A) (e : ℕ) (x : A) (rest : List A) : Type 0 where
  pub within : e < length xs
  pub here : get_or xs e x ≡ x
  pub later : drop (e + 1) xs ≡ rest

pub first_left : {A : Type 0} (xs : List A) (e : ℕ) (x : A) (rest : List A) → drop e xs ≡ x ∷ rest → FirstLeft xs e x rest
first_left xs e x rest is = record {
  within = omega (arith, length-drop e xs, ap length is);
  here = let n : e + 0 ≡ e = omega arith in ap (λ k. get_or xs k x) (sym n) ∙ sym (get_or-drop e xs 0 x) ∙ ap (λ ys. get_or ys 0 x) is;
  later = sym (drop-drop 1 e xs) ∙ ap (drop 1) is;
}

-- what is left of the chains from number k on
abbrev pub free_from : List ℕ → List ChainRef → ℕ → List (ℕ × ChainRef)
free_from held refs k = filter (is_free held) (enumerate_from k (drop k refs))

left_refs : (refs : List ChainRef) (k : ℕ) (place : ChainRef) → slice_get refs k ≡ Some place → drop k refs ≡ place ∷ drop (k + 1) refs
left_refs refs k place got = drop_more refs k place (slice_get_within refs k place got)
    ∙ ap (λ r. r ∷ drop (k + 1) refs) (get_or_from_slice_get refs k place place got)

free_step : (held : List ℕ) (refs : List ChainRef) (k : ℕ) (place : ChainRef) → slice_get refs k ≡ Some place
    → free_from held refs k ≡ cond (is_free held (k, place)) ((k, place) ∷ free_from held refs (k + 1)) (free_from held refs (k + 1))
free_step held refs k place got = ap (λ rs. filter (is_free held) (enumerate_from k rs)) (left_refs refs k place got)

pub free_here : (held : List ℕ) (refs : List ChainRef) (k : ℕ) (place : ChainRef) → slice_get refs k ≡ Some place
    → is_free held (k, place) ≡ true → free_from held refs k ≡ (k, place) ∷ free_from held refs (k + 1)
free_here held refs k place got free = free_step held refs k place got
    ∙ cond-true (is_free held (k, place)) ((k, place) ∷ free_from held refs (k + 1)) (free_from held refs (k + 1)) free

pub free_later : (held : List ℕ) (refs : List ChainRef) (k : ℕ) (place : ChainRef) → slice_get refs k ≡ Some place
    → is_free held (k, place) ≡ false → free_from held refs k ≡ free_from held refs (k + 1)
free_later held refs k place got free = free_step held refs k place got
    ∙ cond-false (is_free held (k, place)) ((k, place) ∷ free_from held refs (k + 1)) (free_from held refs (k + 1)) free

pub free_none : (held : List ℕ) (refs : List ChainRef) (k : ℕ) → length refs ≤ k → free_from held refs k ≡ []
free_none held refs k past = ap (λ rs. filter (is_free held) (enumerate_from k rs)) (drop_all k refs past)

-- ---- the two lists

-- how far the two lists agree, before chain number k
pub record AgreeTo (held : List ℕ) (refs : List ChainRef) (entries : List Record) (e k : ℕ) : Type 0 where
  pub within : e ≤ length entries
  pub same : take e (map record_spot entries) ≡ take e (map chain_spot (free_chains held refs))
  pub rest : drop e (free_chains held refs) ≡ free_from held refs k

pub ended_by_entries : (held : List ℕ) (refs : List ChainRef) (entries : List Record) (e k : ℕ) (place : ChainRef)
    → AgreeTo held refs entries e k → slice_get refs k ≡ Some place → is_free held (k, place) ≡ true → length entries ≤ e
    → IsFirstDifference (map record_spot entries) (map chain_spot (free_chains held refs)) e
ended_by_entries held refs entries e k place agree got free ended =
    let left = first_left (free_chains held refs) e (k, place) (free_from held refs (k + 1)) (agree.rest
    ∙ free_here held refs k place got free) in
    differ_first_ended (map record_spot entries) (map chain_spot (free_chains held refs)) e (0, 0)
    (omega (arith, ended, length-map entries record_spot)) (omega (arith, left.within, length-map (free_chains held refs) chain_spot))
    agree.same

spots_here : (held : List ℕ) (refs : List ChainRef) (entries : List Record) (e k : ℕ) (place : ChainRef) (r : Record)
    → AgreeTo held refs entries e k → slice_get refs k ≡ Some place → is_free held (k, place) ≡ true → slice_get entries e ≡ Some r
    → (get_or (map record_spot entries) e (0, 0) ≡ record_spot r)
    × (get_or (map chain_spot (free_chains held refs)) e (0, 0) ≡ chain_spot (k, place))
spots_here held refs entries e k place r agree got free said =
    let left = first_left (free_chains held refs) e (k, place) (free_from held refs (k + 1)) (agree.rest
    ∙ free_here held refs k place got free) in (
      get_or-map record_spot entries e r (0, 0) (slice_get_within entries e r said)
          ∙ ap record_spot (get_or_from_slice_get entries e r r said),
      get_or-map chain_spot (free_chains held refs) e (k, place) (0, 0) left.within ∙ ap chain_spot left.here,
    )

pub differ_here : (held : List ℕ) (refs : List ChainRef) (entries : List Record) (e k : ℕ) (place : ChainRef) (r : Record)
    → AgreeTo held refs entries e k → slice_get refs k ≡ Some place → is_free held (k, place) ≡ true → slice_get entries e ≡ Some r
    → (record_spot r ≡ chain_spot (k, place) → ⊥) → IsFirstDifference (map record_spot entries) (map chain_spot (free_chains held refs)) e
differ_here held refs entries e k place r agree got free said other =
    let left = first_left (free_chains held refs) e (k, place) (free_from held refs (k + 1)) (agree.rest
    ∙ free_here held refs k place got free) in
    let spots = spots_here held refs entries e k place r agree got free said in
    differ_within (map record_spot entries) (map chain_spot (free_chains held refs)) e (0, 0)
    (omega (arith, slice_get_within entries e r said, length-map entries record_spot))
    (omega (arith, left.within, length-map (free_chains held refs) chain_spot)) agree.same
    (λ same. other (sym spots.0 ∙ same ∙ spots.1))

pub agree_more : (held : List ℕ) (refs : List ChainRef) (entries : List Record) (e k : ℕ) (place : ChainRef) (r : Record)
    → AgreeTo held refs entries e k → slice_get refs k ≡ Some place → is_free held (k, place) ≡ true → slice_get entries e ≡ Some r
    → record_spot r ≡ chain_spot (k, place) → AgreeTo held refs entries (e + 1) (k + 1)
agree_more held refs entries e k place r agree got free said same =
    let left = first_left (free_chains held refs) e (k, place) (free_from held refs (k + 1)) (agree.rest
    ∙ free_here held refs k place got free) in
    let spots = spots_here held refs entries e k place r agree got free said in
    let in_entries = slice_get_within entries e r said in
    record {
      within = omega (arith, in_entries);
      same = take_more_same (map record_spot entries) (map chain_spot (free_chains held refs)) e (0, 0)
          (omega (arith, in_entries, length-map entries record_spot))
          (omega (arith, left.within, length-map (free_chains held refs) chain_spot)) agree.same (spots.0 ∙ same ∙ sym spots.1);
      rest = left.later;
    }

pub agree_past : (held : List ℕ) (refs : List ChainRef) (entries : List Record) (e k : ℕ) (place : ChainRef) → AgreeTo held refs entries e k
    → slice_get refs k ≡ Some place → is_free held (k, place) ≡ false → AgreeTo held refs entries e (k + 1)
agree_past held refs entries e k place agree got free = record {
  within = agree.within;
  same = agree.same;
  rest = agree.rest
      ∙ free_later held refs k place got free;
}

-- at the end
chains_ended : (held : List ℕ) (refs : List ChainRef) (entries : List Record) (e k : ℕ) → AgreeTo held refs entries e k → length refs ≤ k
    → length (map chain_spot (free_chains held refs)) ≤ e
chains_ended held refs entries e k agree past =
    let none = agree.rest ∙ free_none held refs k past in
    omega (arith, length-map (free_chains held refs) chain_spot, length-drop e (free_chains held refs), ap length none)

pub ended_by_chains : (held : List ℕ) (refs : List ChainRef) (entries : List Record) (e k : ℕ) → AgreeTo held refs entries e k
    → length refs ≤ k → e < length entries → IsFirstDifference (map record_spot entries) (map chain_spot (free_chains held refs)) e
ended_by_chains held refs entries e k agree past more = differ_second_ended (map record_spot entries)
    (map chain_spot (free_chains held refs)) e (0, 0) (omega (arith, more, length-map entries record_spot))
    (chains_ended held refs entries e k agree past) agree.same

pub agree_whole : (held : List ℕ) (refs : List ChainRef) (entries : List Record) (e k : ℕ) → AgreeTo held refs entries e k → length refs ≤ k
    → length entries ≤ e → map record_spot entries ≡ map chain_spot (free_chains held refs)
agree_whole held refs entries e k agree past ended = same_whole (map record_spot entries) (map chain_spot (free_chains held refs)) e
    (omega (arith, ended, length-map entries record_spot)) (chains_ended held refs entries e k agree past) agree.same

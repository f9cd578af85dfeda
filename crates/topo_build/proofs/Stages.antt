-- A walk is cut, piece after piece.
use Rattle.std.proofs.Common.{◌≡◌, ◌∙◌, ◌+◌, ◌-◌, ◌<◌, ◌≤◌, ℕ, ℤ, zero, suc, List, [], ◌∷◌, ◌++◌, All, drop, get_or, length, slice_range}
use Rattle.std.proofs.Common.{take, append_assoc, append-nil, ap, ap₂, refl, subst, sym, arith, length-append, get_or-drop}
use Rattle.std.proofs.lemmas.List.{drop_all, drop_more, get_or_at, take_at}
use Rattle.std.proofs.lemmas.List.Elements.{All-get_or, All-nil, All-push}
use Rattle.grid_exact.specs.Geometry.{Place}
use Rattle.topo_build.specs.Built.{AreTaken, BeginsWith}
use Rattle.topo_build.specs.Cutting.{IsCut, IsStage}
use Rattle.topo_build.specs.Found.{IsFound}
use Rattle.topo_build.proofs.Around.{nowhere}

pub stage-start : (Junction : Place → Type 0) (walk : List Place) (arcs : List (List Place)) (refs : List ℤ) → 2 ≤ length walk → refs ≡ []
    → IsStage Junction walk 0 1 arcs refs arcs
stage-start Junction [] arcs refs long none = absurd (omega arith)
stage-start Junction (v ∷ ws) arcs refs long none = record {
  first = v;
  inner = [];
  from_start = refl;
  count = refl;
  plain = All-nil (λ p. ¬ (Junction p));
  goes_on = λ more after taken u us is. subst (λ rs. IsCut Junction (v ∷ ws) arcs (rs ++ more) after) (sym none)
      (from-first more after taken) u us is;
}
  where
    from-first : (more : List ℤ) (after : List (List Place)) → AreTaken IsFound Junction v ws arcs more after
        → IsCut Junction (v ∷ ws) arcs more after
    from-first more after taken u us is =
        let first : v ≡ u = ap (λ ps. get_or ps 0 v) is in
        let rest : ws ≡ us = ap (drop 1) is in
        subst (λ ps. AreTaken IsFound Junction u ps arcs more after) rest
        (subst (λ z. AreTaken IsFound Junction z ws arcs more after) first taken)

-- no junction at the place
pub stage-stays : (Junction : Place → Type 0) (walk : List Place) (start end : ℕ) (w : Place) (arcs : List (List Place)) (refs : List ℤ)
    (now : List (List Place)) → end < length walk → w ≡ get_or walk end w → ¬ (Junction w) → IsStage Junction walk start end arcs refs now
    → IsStage Junction walk start (end + 1) arcs refs now
stage-stays Junction walk start end w arcs refs now inside is off stage =
    let next : drop end walk ≡ w ∷ drop (end + 1) walk = drop_more walk end w inside ∙ ap (λ z. z ∷ drop (end + 1) walk) (sym is) in
    let split : stage.inner ++ drop end walk ≡ (stage.inner ++ w ∷ []) ++ drop (end + 1) walk = ap (λ ps. stage.inner ++ ps) next
    ∙ sym (append_assoc stage.inner (w ∷ []) (drop (end + 1) walk)) in
    let longer = length-append stage.inner (w ∷ []) in
    let count = stage.count in
    record {
      first = stage.first;
      inner = stage.inner ++ w ∷ [];
      from_start = stage.from_start ∙ ap (λ ps. stage.first ∷ ps) split;
      count = omega (arith, longer);
      plain = All-push (λ p. ¬ (Junction p)) stage.inner w stage.plain off;
      goes_on = λ more after taken. stage.goes_on more after (subst (λ ps. AreTaken IsFound Junction stage.first ps now more after)
          (sym split) taken);
    }

-- the piece from one place to another
pub piece-is : (Junction : Place → Type 0) (walk : List Place) (start end : ℕ) (w : Place) (arcs : List (List Place)) (refs : List ℤ) (now :
    List (List Place)) → end < length walk → w ≡ get_or walk end w → (stage : IsStage Junction walk start end arcs refs now)
    → slice_range walk start (end + 1) ≡ stage.first ∷ (stage.inner ++ w ∷ [])
piece-is Junction walk start end w arcs refs now inside is stage =
    let next : drop end walk ≡ w ∷ drop (end + 1) walk = drop_more walk end w inside ∙ ap (λ z. z ∷ drop (end + 1) walk) (sym is) in
    let split : drop start walk ≡ (stage.first ∷ (stage.inner ++ w ∷ [])) ++ drop (end + 1) walk = stage.from_start
    ∙ ap (λ ps. stage.first ∷ ps) (ap (λ ps. stage.inner ++ ps) next ∙ sym (append_assoc stage.inner (w ∷ []) (drop (end + 1) walk))) in
    let longer = length-append stage.inner (w ∷ []) in
    let count = stage.count in
    ap (take (end + 1 - start)) split ∙ take_at (stage.first ∷ (stage.inner ++ w ∷ [])) (drop (end + 1) walk) (end + 1 - start)
    (omega (arith, longer))

pub stage-cut : (Junction : Place → Type 0) (walk : List Place) (start end : ℕ) (w : Place) (piece : List Place) (r : ℤ) (arcs :
    List (List Place)) (refs more_refs : List ℤ) (now next : List (List Place)) → end < length walk → w ≡ get_or walk end w → Junction w
    → piece ≡ slice_range walk start (end + 1) → IsFound piece now r next → more_refs ≡ refs ++ r ∷ []
    → IsStage Junction walk start end arcs refs now → IsStage Junction walk end (end + 1) arcs more_refs next
stage-cut Junction walk start end w piece r arcs refs more_refs now next inside is on piece_is found refs_are stage =
    let along : drop end walk ≡ w ∷ drop (end + 1) walk = drop_more walk end w inside ∙ ap (λ z. z ∷ drop (end + 1) walk) (sym is) in
    let whole : piece ≡ stage.first ∷ (stage.inner ++ w ∷ []) = piece_is
    ∙ piece-is Junction walk start end w arcs refs now inside is stage in
    record {
      first = w;
      inner = [];
      from_start = along;
      count = omega arith;
      plain = All-nil (λ p. ¬ (Junction p));
      goes_on = λ more after taken.
          let begins : BeginsWith IsFound Junction stage.first (stage.inner ++ drop end walk) now r = record {
            inner = stage.inner;
            last = w;
            rest = drop (end + 1) walk;
            after = next;
            along = ap (λ ps. stage.inner ++ ps) along;
            plain = stage.plain;
            junction = on;
            taken = subst (λ ps. IsFound ps now r next) whole found;
          } in
          let cut = stage.goes_on (r ∷ more) after (begins, taken) in
          let refs_so : more_refs ++ more ≡ refs ++ r ∷ more = ap (λ rs. rs ++ more) refs_are ∙ append_assoc refs (r ∷ []) more in
          subst (λ rs. IsCut Junction walk arcs rs after) (sym refs_so) cut;
    }

pub stage-done : (Junction : Place → Type 0) (walk : List Place) (start end : ℕ) (arcs : List (List Place)) (refs : List ℤ) (now :
    List (List Place)) → end ≡ length walk → Junction (get_or walk (length walk - 1) nowhere)
    → IsStage Junction walk start end arcs refs now → IsCut Junction walk arcs refs now
stage-done Junction walk start end arcs refs now past last stage =
    at stage.inner stage.from_start stage.count stage.plain stage.goes_on
  where
    behind : drop end walk ≡ []
    behind = drop_all end walk (omega arith)

    at : (inner : List Place) → drop start walk ≡ stage.first ∷ (inner ++ drop end walk) → start + 1 + length inner ≡ end
        → All (λ p. ¬ (Junction p)) inner → ((more : List ℤ) (after : List (List Place))
        → AreTaken IsFound Junction stage.first (inner ++ drop end walk) now more after → IsCut Junction walk arcs (refs ++ more) after)
        → IsCut Junction walk arcs refs now
    at [] from_start count plain goes_on = subst (λ rs. IsCut Junction walk arcs rs now) (append-nil refs) (goes_on [] now (behind, refl))
    at (i ∷ is) from_start count plain goes_on =
        let shape : drop start walk ≡ stage.first ∷ (i ∷ is) = from_start ∙ ap (λ ps. stage.first ∷ ((i ∷ is) ++ ps)) behind
        ∙ ap (λ ps. stage.first ∷ ps) (append-nil (i ∷ is)) in
        let number : length walk - 1 ≡ start + suc (length is) = omega arith in
        let here : get_or walk (length walk - 1) nowhere ≡ get_or (i ∷ is) (length is) nowhere = ap (λ n. get_or walk n nowhere) number
        ∙ sym (get_or-drop start walk (suc (length is)) nowhere) ∙ ap (λ ps. get_or ps (suc (length is)) nowhere) shape in
        absurd (All-get_or (λ p. ¬ (Junction p)) (i ∷ is) (length is) nowhere (omega arith) plain (subst Junction here last))

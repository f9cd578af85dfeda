-- What a walk passes from row to row.
use Rattle.std.proofs.Common.{◌≡◌, ◌+◌, ◌<◌, ◌≤◌, ◌⊎◌, inl, inr, ℕ, List, [], ◌∷◌, Bool, true, length, get_or, max, arith, sym, subst}
use Rattle.std.proofs.lemmas.Bool.{cases_lt}
use Rattle.grid_exact.specs.Geometry.{Place}
use Rattle.sweep_index.specs.Cells.{row_of}
use Rattle.sweep_index.specs.Items.{is_found}
use Rattle.sweep_index.specs.Search.{IsAhead, IsCursor, IsFoundAt, items_from, numbered_of}
use Rattle.sweep_index.specs.declared.entries.Entry.{Entry}
use Rattle.sweep_index.specs.declared.grid.Grid.{Grid}
use Rattle.sweep_index.proofs.Orders.{box_up, row_rises}
use Rattle.sweep_index.proofs.Rows.{found_in_box}
use Rattle.sweep_index.proofs.Skipping.{filter-drop_past, filter-drop_to, filter-drop_none}

-- no entry from one place to another is found
abbrev pub NoneFound : List Entry → List Bool → Place → Place → ℕ → ℕ → Type 0
NoneFound es live low high at to = (k : ℕ) → at ≤ k → k < to → IsFoundAt es live low high k → ⊥

some_entry : (es : List Entry) (k : ℕ) → k < length es → Entry
some_entry [] k within = absurd (omega (arith, within))
some_entry (e ∷ es) k within = e

-- from row to row
past_row : (g : Grid) (es : List Entry) (live : List Bool) (low high : Place) (row at end begin k : ℕ) → IsCursor g es live low high row end
    → NoneFound es live low high at end → IsAhead g es live low high begin (row + 1) → begin ≤ length es → at ≤ k → k < begin
    → IsFoundAt es live low high k → ((k < end) ⊎ (end ≤ k)) → ⊥
past_row g es live low high row at end begin k valid none ahead within from_at below found (inl before) = none k from_at before found
past_row g es live low high row at end begin k valid none ahead within from_at below found (inr behind) =
    let inside : k < length es = omega (arith, within, below) in
    let d = some_entry es k inside in
    let more = valid.passed k d behind inside found in
    let less = ahead k d below found in
    omega (arith, more, less)

onward_by : (g : Grid) (es : List Entry) (live : List Bool) (low high : Place) (row start at end begin k : ℕ)
    → IsCursor g es live low high row end → NoneFound es live low high start at → NoneFound es live low high at end
    → IsAhead g es live low high begin (row + 1) → begin ≤ length es → start ≤ k → k < max at begin → IsFoundAt es live low high k
    → ((k < at) ⊎ (at ≤ k)) → ⊥
onward_by g es live low high row start at end begin k valid before none ahead within from_start below found (inl earlier) =
    before k from_start earlier found
onward_by g es live low high row start at end begin k valid before none ahead within from_start below found (inr later) =
    past_row g es live low high row at end begin k valid none ahead within later (omega (arith, below, later)) found (cases_lt k end)

pub onward : (g : Grid) (es : List Entry) (live : List Bool) (low high : Place) (row start at end begin : ℕ)
    → IsCursor g es live low high row end → NoneFound es live low high start at → NoneFound es live low high at end
    → IsAhead g es live low high begin (row + 1) → begin ≤ length es → NoneFound es live low high start (max at begin)
onward g es live low high row start at end begin valid before none ahead within k from_start below found =
    onward_by g es live low high row start at end begin k valid before none ahead within from_start below found (cases_lt k at)

-- past the last row
past_last : (g : Grid) (es : List Entry) (live : List Bool) (low high : Place) (row at end k : ℕ) → IsCursor g es live low high row end
    → NoneFound es live low high at end → row_of g high.y ≤ row → at ≤ k → k < length es → IsFoundAt es live low high k
    → ((k < end) ⊎ (end ≤ k)) → ⊥
past_last g es live low high row at end k valid none last from_at inside found (inl before) = none k from_at before found
past_last g es live low high row at end k valid none last from_at inside found (inr behind) =
    let d = some_entry es k inside in
    let more = valid.passed k d behind inside found in
    let up = box_up low high (get_or es k d).item.at (found_in_box es live low high k d found) in
    let less = row_rises g (get_or es k d).item.at.y high.y up.1 in
    omega (arith, more, less, last)

nothing_by : (g : Grid) (es : List Entry) (live : List Bool) (low high : Place) (row start at end k : ℕ)
    → IsCursor g es live low high row end → NoneFound es live low high start at → NoneFound es live low high at end → row_of g high.y ≤ row
    → start ≤ k → k < length es → IsFoundAt es live low high k → ((k < at) ⊎ (at ≤ k)) → ⊥
nothing_by g es live low high row start at end k valid before none last from_start inside found (inl earlier) =
    before k from_start earlier found
nothing_by g es live low high row start at end k valid before none last from_start inside found (inr later) =
    past_last g es live low high row at end k valid none last later inside found (cases_lt k end)

pub nothing_left : (g : Grid) (es : List Entry) (live : List Bool) (low high : Place) (row start at end : ℕ)
    → IsCursor g es live low high row end → NoneFound es live low high start at → NoneFound es live low high at end → row_of g high.y ≤ row
    → items_from es live low high start ≡ []
nothing_left g es live low high row start at end valid before none last =
    filter-drop_none (is_found live low high) numbered_of es start (λ k from_start inside again found.
    nothing_by g es live low high row start at end k valid before none last from_start inside found (cases_lt k at))

-- the next entry that is found
one_by : (es : List Entry) (live : List Bool) (low high : Place) (start at to k : ℕ) → NoneFound es live low high start at
    → NoneFound es live low high at to → start ≤ k → k < to → IsFoundAt es live low high k → ((k < at) ⊎ (at ≤ k)) → ⊥
one_by es live low high start at to k before none from_start below found (inl earlier) = before k from_start earlier found
one_by es live low high start at to k before none from_start below found (inr later) = none k later below found

pub next_found : (es : List Entry) (live : List Bool) (low high : Place) (start at k : ℕ) (e : Entry) → start ≤ at → at ≤ k → k < length es
    → e ≡ get_or es k e → IsFoundAt es live low high k → NoneFound es live low high start at → NoneFound es live low high at k
    → items_from es live low high start ≡ numbered_of e ∷ items_from es live low high (k + 1)
next_found es live low high start at k e onward later inside is found before none =
    filter-drop_to (is_found live low high) numbered_of es start k e (omega (arith, onward, later)) inside is
    (subst (λ x. is_found live low high (numbered_of x) ≡ true) (sym is) (found e))
    (λ j from_start below within yes. one_by es live low high start at k j before none from_start below yes (cases_lt j at))

-- before the first row
before_first : (g : Grid) (es : List Entry) (live : List Bool) (low high : Place) (begin : ℕ)
    → IsAhead g es live low high begin (row_of g low.y) → begin ≤ length es → NoneFound es live low high 0 begin
before_first g es live low high begin ahead within k from_start below found =
    let inside : k < length es = omega (arith, within, below) in
    let d = some_entry es k inside in
    let less = ahead k d below found in
    let up = box_up low high (get_or es k d).item.at (found_in_box es live low high k d found) in
    let more = row_rises g low.y (get_or es k d).item.at.y up.0 in
    absurd (omega (arith, less, more))

pub from_first : (g : Grid) (es : List Entry) (live : List Bool) (low high : Place) (begin : ℕ)
    → IsAhead g es live low high begin (row_of g low.y) → begin ≤ length es
    → items_from es live low high begin ≡ items_from es live low high 0
from_first g es live low high begin ahead within =
    sym (filter-drop_past (is_found live low high) numbered_of es 0 begin (omega arith) (λ k from_start below inside found.
    before_first g es live low high begin ahead within k from_start below found))

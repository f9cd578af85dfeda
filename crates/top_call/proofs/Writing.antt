-- A list that is written piece by piece.
use Rattle.std.proofs.Common.{◌≡◌, ℕ, ◌+◌, List, [], ◌∷◌, ◌++◌, length, take, refl, ap, sym, ◌∙◌, arith, append_assoc, length-append}
use Rattle.std.proofs.Common.{suc-add}
use Rattle.std.proofs.lemmas.List.{append-nil, take-append-le}
use Rattle.outside_io.specs.Texts.{AppendsPrefix}
use Rattle.top_call.specs.Endings.{IsPartWritten}

pub nothing_written : (before whole : List ℕ) → IsPartWritten before before whole whole
nothing_written before whole = record { front = []; written = sym (append-nil before); split = refl }

pub piece_written : (before now next whole rest piece left : List ℕ) → IsPartWritten before now whole rest → rest ≡ piece ++ left
    → next ≡ now ++ piece → IsPartWritten before next whole left
piece_written before now next whole rest piece left so_far cut more = record {
  front = so_far.front ++ piece;
  written = more ∙ ap (λ (xs : List ℕ). xs ++ piece) so_far.written ∙ append_assoc before so_far.front piece;
  split = so_far.split ∙ ap (λ (xs : List ℕ). so_far.front ++ xs) cut ∙ sym (append_assoc so_far.front piece left);
}

pub all_written : (before now whole rest : List ℕ) → IsPartWritten before now whole rest → rest ≡ [] → now ≡ before ++ whole
all_written before now whole rest so_far none =
    so_far.written ∙ ap (λ (xs : List ℕ). before ++ xs)
    (sym (so_far.split ∙ ap (λ (xs : List ℕ). so_far.front ++ xs) none ∙ append-nil so_far.front))

take_behind : (xs ys : List ℕ) (n : ℕ) → take (length xs + n) (xs ++ ys) ≡ xs ++ take n ys
take_behind [] ys n = ap (λ (k : ℕ). take k ys) (omega arith)
take_behind (x ∷ xs) ys n = rw suc-add (ap (λ (zs : List ℕ). x ∷ zs) (take_behind xs ys n))

pub piece_failed : (before now next whole rest piece left : List ℕ) → IsPartWritten before now whole rest → rest ≡ piece ++ left
    → AppendsPrefix now next piece → AppendsPrefix before next whole
piece_failed before now next whole rest piece left so_far cut some =
    let front = so_far.front in
    let whole_is : whole ≡ front ++ (piece ++ left) = so_far.split ∙ ap (λ (xs : List ℕ). front ++ xs) cut in
    record {
      count = length front + some.count;
      within = omega (arith, some.within, ap length whole_is, length-append front (piece ++ left), length-append piece left);
      appended = some.appended ∙ ap (λ (xs : List ℕ). xs ++ take some.count piece) so_far.written
          ∙ append_assoc before front (take some.count piece)
          ∙ ap (λ (xs : List ℕ). before ++ (front ++ xs)) (sym (take-append-le some.count piece left some.within))
          ∙ ap (λ (xs : List ℕ). before ++ xs) (sym (take_behind front (piece ++ left) some.count))
          ∙ ap (λ (xs : List ℕ). before ++ take (length front + some.count) xs) (sym whole_is);
    }

-- ---- bytes that are gathered before they are written

-- a line is gathered, or the gathered lines and it are written
pub line_added : (before now next whole lines line kept rest left : List ℕ) → IsPartWritten before now whole (lines ++ rest)
    → rest ≡ line ++ left → IsPartWritten now next (lines ++ line) kept → IsPartWritten before next whole (kept ++ left)
line_added before now next whole lines line kept rest left so_far cut step =
    let front = so_far.front in
    let piece = step.front in
    let grouped : lines ++ rest ≡ (piece ++ kept) ++ left = ap (λ (xs : List ℕ). lines ++ xs) cut ∙ sym (append_assoc lines line left)
    ∙ ap (λ (xs : List ℕ). xs ++ left) step.split in
    record {
      front = front ++ piece;
      written = step.written ∙ ap (λ (xs : List ℕ). xs ++ piece) so_far.written ∙ append_assoc before front piece;
      split = so_far.split
          ∙ ap (λ (xs : List ℕ). front ++ xs) (grouped ∙ append_assoc piece kept left)
          ∙ sym (append_assoc front piece (kept ++ left));
    }

pub line_failed : (before now next whole lines line rest left : List ℕ) → IsPartWritten before now whole (lines ++ rest)
    → rest ≡ line ++ left → AppendsPrefix now next (lines ++ line) → AppendsPrefix before next whole
line_failed before now next whole lines line rest left so_far cut some =
    piece_failed before now next whole (lines ++ rest) (lines ++ line) left so_far
    (ap (λ (xs : List ℕ). lines ++ xs) cut ∙ sym (append_assoc lines line left)) some

-- the gathered lines and it were written
pub lines_written : (now next lines line kept : List ℕ) → next ≡ (now ++ lines) ++ line → kept ≡ []
    → IsPartWritten now next (lines ++ line) kept
lines_written now next lines line kept is none =
    record {
      front = lines ++ line;
      written = is ∙ append_assoc now lines line;
      split = sym (append-nil (lines ++ line))
          ∙ ap (λ (xs : List ℕ). (lines ++ line) ++ xs) (sym none);
    }

-- a prefix of the second bytes stands behind the first
pub prefix_behind : (now middle next first second : List ℕ) → middle ≡ now ++ first → AppendsPrefix middle next second
    → AppendsPrefix now next (first ++ second)
prefix_behind now middle next first second is some = record {
  count = length first + some.count;
  within = omega (arith, some.within, length-append first second);
  appended = some.appended ∙ ap (λ (xs : List ℕ). xs ++ take some.count second) is ∙ append_assoc now first (take some.count second)
      ∙ ap (λ (xs : List ℕ). now ++ xs) (sym (take_behind first second some.count));
}

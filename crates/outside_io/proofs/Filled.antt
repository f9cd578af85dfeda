-- How far a text has been read into the front of a list.
use Rattle.std.proofs.Common.{◌≡◌, ℕ, ◌+◌, ◌≤◌, List, ◌++◌, length, take, drop, append_assoc, ap, sym, ◌∙◌}
use Rattle.std.proofs.lemmas.List.{take-take, take-append-le, take-append-drop, length-take-le}
use Rattle.std.proofs.Math.Seq.{take-append-add}

-- the front after count more bytes were read behind it
front_more : (front next back : List ℕ) (filled count len : ℕ) → length front ≡ filled → filled + count ≤ len → count ≤ length next
    → take (filled + count) (take len (front ++ (next ++ back))) ≡ front ++ take count next
front_more front next back filled count len at fits enough =
    take-take (filled + count) len (front ++ (next ++ back)) fits
    ∙ ap (λ (n : ℕ). take (n + count) (front ++ (next ++ back))) (sym at)
    ∙ take-append-add front (next ++ back) count
    ∙ ap (λ (xs : List ℕ). front ++ xs) (take-append-le count next back enough)

-- What is filled and what is left are the same text before a read and after it. The list is seen as a slice: its
-- front, the bytes that the read wrote, and two ends.
pub read_more : (before slice next end spare rest left : List ℕ) (filled count len : ℕ) → filled ≤ length slice
    → take filled slice ≡ take filled before → filled + count ≤ len → count ≤ length next → take count next ≡ take count rest
    → left ≡ drop count rest → take filled before ++ rest ≡ take (filled + count) (take len (take filled slice ++ (next ++ end) ++ spare))
    ++ left
read_more before slice next end spare rest left filled count len within kept fits enough read shorter =
    let front = take filled slice in
    let filled_there : length front ≡ filled = length-take-le filled slice within in
    sym (
    ap (λ (xs : List ℕ). take (filled + count) (take len xs) ++ left) (append_assoc front (next ++ end) spare
    ∙ ap (λ (xs : List ℕ). front ++ xs) (append_assoc next end spare))
    ∙ ap (λ (xs : List ℕ). xs ++ left) (front_more front next (end ++ spare) filled count len filled_there fits enough)
    ∙ append_assoc front (take count next) left
    ∙ ap (λ (xs : List ℕ). front ++ (xs ++ left)) read
    ∙ ap (λ (xs : List ℕ). front ++ (take count rest ++ xs)) shorter
    ∙ ap (λ (xs : List ℕ). front ++ xs) (take-append-drop count rest)
    ∙ ap (λ (xs : List ℕ). xs ++ rest) kept
    )

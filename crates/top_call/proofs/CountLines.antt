-- The parts of the lines of counts, one after the other.
use Rattle.std.proofs.Common.{◌≡◌, ◌∙◌, ℕ, List, ◌++◌, ap, codes, decimal}
use Rattle.top_call.specs.Answers.{count_lines}
use Rattle.top_call.proofs.Grouping.{thirteen}

-- the parts with these numbers
abbrev pub count_parts : ℕ → ℕ → ℕ → ℕ → ℕ → ℕ → List ℕ
count_parts arcs points polygons chains before after =
    codes "arcs " ++ (decimal arcs ++ (codes "\npoints " ++ (decimal points ++ (codes "\npolygons " ++ (decimal polygons
    ++ (codes "\nchains " ++ (decimal chains ++ (codes "\npositions " ++
    (decimal before ++ (codes " to " ++ (decimal after ++ codes "\n")))))))))))

pub counted_lines : (a b c d e f arcs points polygons after : ℕ) → a ≡ arcs → b ≡ points → c ≡ polygons → f ≡ after
    → count_parts a b c d e f ≡ count_lines arcs points polygons d e after
counted_lines a b c d e f arcs points polygons after a_is b_is c_is f_is =
    thirteen (codes "arcs ") (decimal a) (codes "\npoints ") (decimal b) (codes "\npolygons ") (decimal c) (codes "\nchains ") (decimal d)
    (codes "\npositions ") (decimal e) (codes " to ") (decimal f) (codes "\n")
    ∙ ap (λ (n : ℕ). count_lines n b c d e f) a_is
    ∙ ap (λ (n : ℕ). count_lines arcs n c d e f) b_is
    ∙ ap (λ (n : ℕ). count_lines arcs points n d e f) c_is
    ∙ ap (λ (n : ℕ). count_lines arcs points polygons d e n) f_is

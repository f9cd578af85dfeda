-- Texts of several parts, grouped to the right and to the left.
use Rattle.std.proofs.Common.{◌≡◌, ℕ, List, ◌++◌, append_assoc, refl}

pub seven : (a b c d e f g : List ℕ) → a ++ (b ++ (c ++ (d ++ (e ++ (f ++ g))))) ≡ a ++ b ++ c ++ d ++ e ++ f ++ g
seven a b c d e f g = simp append_assoc refl

pub nine : (a b c d e f g h k : List ℕ) → a ++ (b ++ (c ++ (d ++ (e ++ (f ++ (g ++ (h ++ k))))))) ≡ a ++ b ++ c ++ d ++ e ++ f ++ g ++ h
    ++ k
nine a b c d e f g h k = simp append_assoc refl

pub thirteen : (a b c d e f g h k l m n o : List ℕ) → a ++ (b ++ (c ++ (d ++ (e ++ (f ++ (g ++ (h ++ (k ++ (l ++ (m ++ (n ++ o)))))))))))
    ≡ a ++ b ++ c ++ d ++ e ++ f ++ g ++ h ++ k ++ l ++ m ++ n ++ o
thirteen a b c d e f g h k l m n o = simp append_assoc refl

-- The search for a twin among the chains with an end at one place.
use Rattle.std.proofs.Common.{◌≡◌, inl, inr, ℕ, ◌<◌, ◌≤◌, List, [], ◌∷◌, length, get_or, sym, subst, ◌∙◌, arith}
use Rattle.std.proofs.lemmas.List.{get_or_default}
use Rattle.std.proofs.lemmas.List.Elements.{Contains-get_or}
use Rattle.grid_exact.specs.Geometry.{Place}
use Rattle.grid_exact.specs.Walks.{end_of}
use Rattle.arc_map.specs.Vertices.{Vertex, places}
use Rattle.arc_map.specs.Chains.{Chain, chain_at, chain_places, EndsAt}
use Rattle.arc_map.specs.Ends.{AreChainsEndingAt}
use Rattle.arc_map.specs.Paths.{vertex_at}
use Rattle.shortcut_graph.specs.Doubles.{AreEndsOf, IsTwin, IsDoubled}

pub listed_within : (chains : List Chain) (p : Place) (numbers : List ℕ) (at : ℕ) → AreChainsEndingAt chains p numbers → at < length numbers
    → get_or numbers at 0 < length chains
listed_within chains p numbers at are lt = ((are.all (get_or numbers at 0)).0 (Contains-get_or numbers at 0 lt)).0

ends_second : (v : Vertex) (ws : List Vertex) (a b : Place) → v.place ∷ places ws ≡ b ∷ a ∷ [] → (end_of v ws).place ≡ a
ends_second v [] a b e = absurd (cc)
ends_second v (d ∷ []) a b e = cc
ends_second v (d ∷ x ∷ ws) a b e = absurd (cc)

ends_at : (c : Chain) (a b : Place) → AreEndsOf a b (chain_places c) → EndsAt a c
ends_at c a b (inl e) = inl (cc)
ends_at c a b (inr e) = inr (ends_second c.first c.rest a b e)

-- the ends of the chain number k
pub record AreItsEnds (chains : List Chain) (k : ℕ) (a b : Place) : Type 0 where
  pub first : a ≡ (vertex_at (chain_at chains k) 0).place
  pub last : b ≡ (vertex_at (chain_at chains k) (length (chain_at chains k).rest)).place

pub found : (chains : List Chain) (k l : ℕ) (a b : Place) → AreItsEnds chains k a b → l < length chains → IsTwin chains k l a b
    → IsDoubled chains k
found chains k l a b ends within twin =
    record {
      chain = l;
      within = within;
      twin = subst (λ (p : Place).
          IsTwin chains k l p (vertex_at (chain_at chains k) (length (chain_at chains k).rest)).place) ends.first
          (subst (λ (q : Place). IsTwin chains k l a q) ends.last twin);
    }

pub none_found : (chains : List Chain) (k count : ℕ) (a b : Place) (numbers : List ℕ) → AreItsEnds chains k a b
    → AreChainsEndingAt chains a numbers → ((n : ℕ) → n < count → ¬ (IsTwin chains k (get_or numbers n 0) a b)) → length numbers ≤ count
    → ¬ (IsDoubled chains k)
none_found chains k count a b numbers ends are none all double =
    let l = double.chain in
    let twin = subst (λ (p : Place). IsTwin chains k l p b) (sym ends.first)
    (subst (λ (q : Place). IsTwin chains k l (vertex_at (chain_at chains k) 0).place q) (sym ends.last) double.twin) in
    let at = (are.all l).1 (double.within, ends_at (chain_at chains l) a b twin.edge) in
    let same : get_or numbers at.0 0 ≡ l = get_or_default numbers at.0 0 l at.1 ∙ at.2 in
    none at.0 (omega (arith, at.1)) (subst (λ (n : ℕ). IsTwin chains k n a b) (sym same) twin)

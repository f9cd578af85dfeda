-- The search for a double among the chains that end at a place.
use Rattle.std.proofs.Common.{◌≡◌, ◌∙◌, ◌<◌, ℕ, List, length, get_or, sym, subst}
use Rattle.std.proofs.lemmas.List.{get_or_default}
use Rattle.std.proofs.lemmas.List.Elements.{Contains-get_or}
use Rattle.grid_exact.specs.Geometry.{Place}
use Rattle.arc_map.specs.Chains.{Chain, EndsAt, chain_at, chain_places}
use Rattle.arc_map.specs.Ends.{AreChainsEndingAt}
use Rattle.cert_checker.specs.Indexed.{IsDouble, IsEdgeBetween}
use Rattle.cert_checker.specs.Open.{Joins}

-- each of these chains is in the map, and ends at the place
pub ends_there : (chains : List Chain) (v : Place) (numbers : List ℕ) (n : ℕ) → AreChainsEndingAt chains v numbers → n < length numbers
    → (get_or numbers n 0 < length chains) × EndsAt v (chain_at chains (get_or numbers n 0))
ends_there chains v numbers n are within = (are.all (get_or numbers n 0)).0 (Contains-get_or numbers n 0 within)

pub double_found : (chains : List Chain) (k : ℕ) (v w : Place) (numbers : List ℕ) (n : ℕ) (ps : List Place)
    → AreChainsEndingAt chains v numbers → n < length numbers → (get_or numbers n 0 ≡ k → ⊥)
    → ps ≡ chain_places (chain_at chains (get_or numbers n 0)) → (length ps ≡ 2) × Joins v w ps → IsDouble chains k v w
double_found chains k v w numbers n ps are within other same edge =
    let there = ends_there chains v numbers n are within in
    record {
      number = get_or numbers n 0;
      known = there.0;
      starts = there.1;
      edge = record { other = other; whole = subst (λ qs. length qs ≡ 2) same edge.0; joins = subst (Joins v w) same edge.1 };
    }

pub double_missed : (chains : List Chain) (k : ℕ) (v w : Place) (numbers : List ℕ) → AreChainsEndingAt chains v numbers
    → ((n : ℕ) → n < length numbers → IsEdgeBetween chains k v w (get_or numbers n 0) → ⊥) → IsDouble chains k v w → ⊥
double_missed chains k v w numbers are none d =
    let has = (are.all d.number).1 (d.known, d.starts) in
    let here : get_or numbers has.0 0 ≡ d.number = get_or_default numbers has.0 0 d.number has.1 ∙ has.2 in
    none has.0 has.1 (subst (IsEdgeBetween chains k v w) (sym here) d.edge)

-- Marks that are turned, polygon after polygon.
use Rattle.std.proofs.Common.{◌≡◌, ◌∙◌, ℕ, zero, suc, ◌+◌, ◌<◌, ◌==◌, Bool, false, List, [], ◌++◌, Some, drop, filter, length, get_or}
use Rattle.std.proofs.Common.{replicate, refl, sym, ap}
use Rattle.std.specs.Prelude.{◌&&◌, slice_get}
use Rattle.std.specs.List.{range_with_len}
use Rattle.std.proofs.lemmas.List.{drop_more}
use Rattle.std.proofs.lemmas.List.Elements.{filter_agree}
use Rattle.std.proofs.lemmas.Option.{get_or_from_slice_get}
use Rattle.grid_exact.specs.Walks.{differ}
use Rattle.grid_exact.proofs.Crossings.{differ_false}
use Rattle.grid_exact.proofs.Walks.{differ_assoc}
use Rattle.arc_map.specs.Map.{Map}
use Rattle.face_parity.specs.Parities.{pass_oddly}
use Rattle.face_parity.proofs.Sums.{pass-append}
use Rattle.dissolve.specs.Odd.{named_arcs, has_edge, is_odd_arc, odd_arcs}
use Rattle.dissolve.specs.Unused.{marked}

pub none-turned : (n k : ℕ) → get_or (replicate n false) k false ≡ false
none-turned zero k = refl
none-turned (suc n) zero = refl
none-turned (suc n) (suc k) = none-turned n k

-- the marks so far and the polygons that are left make up the whole
pub record AreTurned (m : Map) (polygons left : List ℕ) (marks : List Bool) : Type 0 where
  pub count : length marks ≡ length m.arcs
  pub odd : (k : ℕ) → differ (get_or marks k false) (pass_oddly (λ arc. arc == k) (named_arcs m left))
      ≡ pass_oddly (λ arc. arc == k) (named_arcs m polygons)

pub turned-more : (m : Map) (polygons : List ℕ) (i : ℕ) (arcs : List ℕ) (marks new : List Bool) → i < length polygons
    → slice_get m.polygons (get_or polygons i 0) ≡ Some arcs → length new ≡ length marks
    → ((k : ℕ) → get_or new k false ≡ differ (get_or marks k false) (pass_oddly (λ arc. arc == k) arcs))
    → AreTurned m polygons (drop i polygons) marks → AreTurned m polygons (drop (i + 1) polygons) new
turned-more m polygons i arcs marks new within named long turned are =
    let rest = named_arcs m (drop (i + 1) polygons) in
    let split : named_arcs m (drop i polygons) ≡ arcs ++ rest = ap (named_arcs m) (drop_more polygons i 0 within)
    ∙ ap (λ xs. xs ++ rest) (get_or_from_slice_get m.polygons (get_or polygons i 0) arcs [] named) in
    record {
      count = long ∙ are.count;
      odd = λ k.
          ap (λ b. differ b (pass_oddly (λ arc. arc == k) rest)) (turned k)
          ∙ sym (differ_assoc (get_or marks k false) (pass_oddly (λ arc. arc == k) arcs) (pass_oddly (λ arc. arc == k) rest))
          ∙ ap (differ (get_or marks k false)) (sym (pass-append (λ arc. arc == k) arcs rest)
          ∙ ap (pass_oddly (λ arc. arc == k)) (sym split))
          ∙ are.odd k;
    }

-- marks of the odd arcs
pub turned-all : (m : Map) (polygons : List ℕ) (marks new : List Bool) → AreTurned m polygons [] marks → length new ≡ length marks
    → ((k : ℕ) → get_or new k false ≡ (has_edge m k && get_or marks k false)) → marked new ≡ odd_arcs m polygons
turned-all m polygons marks new are long left =
    ap (λ n. filter (λ k. get_or new k false) (range_with_len 0 n)) (long ∙ are.count)
    ∙ filter_agree (λ k. get_or new k false) (is_odd_arc m (named_arcs m polygons)) (λ k. left k
    ∙ ap (λ b. has_edge m k && b) (sym (differ_false (get_or marks k false)) ∙ are.odd k)) (range_with_len 0 (length m.arcs))

-- The first and the later part of a walk, and its places.
use Rattle.std.proofs.Common.{◌≡◌, List, [], ◌∷◌, ◌++◌, refl, sym, ap, ◌∙◌}
use Rattle.grid_exact.specs.Geometry.{Place, IsBefore}
use Rattle.grid_exact.specs.Walks.{end_of, EachEdge}
use Rattle.arc_map.specs.Vertices.{Vertex, places}
use Rattle.arc_map.specs.Clear.{EachButLast}
use Rattle.arc_map.specs.Edges.{EachOf}
pub use Rattle.grid_exact.proofs.Walks.{edge_has}
use Rattle.monotone_split.proofs.RisingViews.{Increases, ends_apart}

-- ---- runs of a walk

pub first_part : {A : Type 0} (P : A → A → Type 0) (v : A) (skipped : List A) (w : A) (rest : List A) → EachEdge P v (skipped ++ w ∷ rest)
    → EachEdge P v (skipped ++ w ∷ [])
first_part P v [] w rest h = (h.0, tt)
first_part P v (k ∷ ks) w rest h = (h.0, first_part P k ks w rest h.1)

pub later_part : {A : Type 0} (P : A → A → Type 0) (v : A) (skipped : List A) (w : A) (rest : List A) → EachEdge P v (skipped ++ w ∷ rest)
    → EachEdge P w rest
later_part P v [] w rest h = h.1
later_part P v (k ∷ ks) w rest h = later_part P k ks w rest h.1

-- the last edge of a run
pub record LastEdge {A : Type 0} (P : A → A → Type 0) (w : A) : Type 0 where
  pub from : A
  pub holds : P from w

pub last_edge : {A : Type 0} (P : A → A → Type 0) (v : A) (skipped : List A) (w : A) → EachEdge P v (skipped ++ w ∷ []) → LastEdge P w
last_edge P v [] w h = record { from = v; holds = h.0 }
last_edge P v (k ∷ ks) w h = last_edge P k ks w h.1

-- the first edge of a run
pub record FirstEdge {A : Type 0} (P : A → A → Type 0) (v : A) : Type 0 where
  pub to : A
  pub holds : P v to

pub first_edge : {A : Type 0} (P : A → A → Type 0) (v : A) (skipped : List A) (w : A) → EachEdge P v (skipped ++ w ∷ []) → FirstEdge P v
first_edge P v [] w h = record { to = w; holds = h.0 }
first_edge P v (k ∷ ks) w h = record { to = k; holds = h.0 }

pub first_skipped : (P : Vertex → Type 0) (skipped : List Vertex) (w : Vertex) (rest : List Vertex) → EachButLast P (skipped ++ w ∷ rest)
    → EachOf P skipped
first_skipped P [] w rest h = tt
first_skipped P (k ∷ []) w rest h = (h.0, tt)
first_skipped P (k ∷ l ∷ ls) w rest h = (h.0, first_skipped P (l ∷ ls) w rest h.1)

pub later_but_last : (P : Vertex → Type 0) (skipped : List Vertex) (w : Vertex) (rest : List Vertex) → EachButLast P (skipped ++ w ∷ rest)
    → EachButLast P rest
later_but_last P [] w [] h = tt
later_but_last P [] w (x ∷ xs) h = h.1
later_but_last P (k ∷ []) w rest h = later_but_last P [] w rest h.1
later_but_last P (k ∷ l ∷ ls) w rest h = later_but_last P (l ∷ ls) w rest h.1

pub to_places : (P : Place → Place → Type 0) (v : Vertex) (ws : List Vertex) → EachEdge (λ a b. P a.place b.place) v ws
    → EachEdge P v.place (places ws)
to_places P v [] h = tt
to_places P v (w ∷ ws) h = (h.0, to_places P w ws h.1)

pub from_places : (P : Place → Place → Type 0) (v : Vertex) (ws : List Vertex) → EachEdge P v.place (places ws)
    → EachEdge (λ a b. P a.place b.place) v ws
from_places P v [] h = tt
from_places P v (w ∷ ws) h = (h.0, from_places P w ws h.1)

pub end_of-places : (v : Vertex) (skipped : List Vertex) (w : Vertex) → end_of v.place (places (skipped ++ w ∷ [])) ≡ w.place
end_of-places v [] w = refl
end_of-places v (k ∷ ks) w = end_of-places k ks w

pub closed_walk-places : (skipped : List Vertex) (w : Vertex) (x : Place)
    → places (skipped ++ w ∷ []) ++ x ∷ [] ≡ places skipped ++ w.place ∷ x ∷ []
closed_walk-places [] w x = refl
closed_walk-places (k ∷ ks) w x = ap (λ (us : List Place). k.place ∷ us) (closed_walk-places ks w x)

pub run_ends_apart : (v : Vertex) (skipped : List Vertex) (w : Vertex) → Increases v.place (places (skipped ++ w ∷ []))
    → ¬ (v.place ≡ w.place)
run_ends_apart v [] w way e = ends_apart v.place w.place [] way e
run_ends_apart v (k ∷ ks) w way e = ends_apart v.place k.place (places (ks ++ w ∷ [])) way (e ∙ sym (end_of-places k ks w))

-- a part of a walk that increases in a view increases in it too
pub first_way : (v : Vertex) (skipped : List Vertex) (w : Vertex) (rest : List Vertex) → Increases v.place (places (skipped ++ w ∷ rest))
    → Increases v.place (places (skipped ++ w ∷ []))
first_way v skipped w rest way =
    record {
      view = way.view;
      is_view = way.is_view;
      rising =
          to_places (λ a b. IsBefore (way.view a) (way.view b)) v (skipped ++ w ∷ [])
          (first_part (λ a b. IsBefore (way.view a.place) (way.view b.place)) v skipped w rest
          (from_places (λ a b. IsBefore (way.view a) (way.view b)) v (skipped ++ w ∷ rest) way.rising));
    }

pub later_way : (v : Vertex) (skipped : List Vertex) (w : Vertex) (rest : List Vertex) → Increases v.place (places (skipped ++ w ∷ rest))
    → Increases w.place (places rest)
later_way v skipped w rest way =
    record {
      view = way.view;
      is_view = way.is_view;
      rising =
          to_places (λ a b. IsBefore (way.view a) (way.view b)) w rest
          (later_part (λ a b. IsBefore (way.view a.place) (way.view b.place)) v skipped w rest
          (from_places (λ a b. IsBefore (way.view a) (way.view b)) v (skipped ++ w ∷ rest) way.rising));
    }

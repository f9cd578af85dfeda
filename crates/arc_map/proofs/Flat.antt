-- Records that lie one after the other in flat lists: those that were there stay where one is added.
use Rattle.std.proofs.Common.{◌≡◌, ◌∙◌, ℕ, ◌+◌, ◌-◌, ◌≤◌, List, [], ◌∷◌, ◌++◌, All, map, length, take, drop, slice_range, ap, refl, arith}
use Rattle.std.proofs.Common.{length-drop}
use Rattle.std.proofs.lemmas.List.{take-append-le, drop-append-le, take_all, map-append}
use Rattle.std.proofs.lemmas.List.Elements.{All-head, All-tail}
use Rattle.std.proofs.Math.Seq.{drop-append_seam}
use Rattle.arc_map.specs.declared.records.Entry.{Entry}
use Rattle.arc_map.specs.FlatRecords.{record_at, LiesIn}

-- a part of the list stays where more is added at its end
slice_range-append : (xs more : List ℕ) (a b : ℕ) → a ≤ b → b ≤ length xs → slice_range (xs ++ more) a b ≡ slice_range xs a b
slice_range-append xs more a b ordered within =
    ap (take (b - a)) (drop-append-le a xs more (omega arith)) ∙ take-append-le (b - a) (drop a xs) more (omega (arith, length-drop a xs))

-- what was added is the part behind the list
slice_range-added : (xs more : List ℕ) → slice_range (xs ++ more) (length xs) (length xs + length more) ≡ more
slice_range-added xs more = ap (take (length xs + length more - length xs)) (drop-append_seam xs more) ∙ take_all _ more (omega arith)

record_at-append : (kept layers more_kept more_layers : List ℕ) (e : Entry) → LiesIn kept layers e
    → record_at (kept ++ more_kept) (layers ++ more_layers) e ≡ record_at kept layers e
record_at-append kept layers more_kept more_layers e lies =
    let k = slice_range-append kept more_kept e.kept_start e.kept_end lies.kept_order lies.kept_within in
    let l = slice_range-append layers more_layers e.layers_start e.layers_end lies.layers_order lies.layers_within in
    cc

map_record_at-append : (kept layers more_kept more_layers : List ℕ) (es : List Entry) → All (LiesIn kept layers) es
    → map (record_at (kept ++ more_kept) (layers ++ more_layers)) es ≡ map (record_at kept layers) es
map_record_at-append kept layers more_kept more_layers [] all = refl
map_record_at-append kept layers more_kept more_layers (e ∷ es) all =
    let first = record_at-append kept layers more_kept more_layers e (All-head (LiesIn kept layers) e es all) in
    let rest = map_record_at-append kept layers more_kept more_layers es (All-tail (LiesIn kept layers) e es all) in
    cc

-- the records with one more at the end
pub records-pushed : (kept layers more_kept more_layers : List ℕ) (es : List Entry) (e : Entry) → All (LiesIn kept layers) es
    → e.kept_start ≡ length kept → e.kept_end ≡ length kept + length more_kept → e.layers_start ≡ length layers
    → e.layers_end ≡ length layers + length more_layers → map (record_at (kept ++ more_kept) (layers ++ more_layers)) (es ++ e ∷ [])
    ≡ map (record_at kept layers) es ++ record { arc = e.arc; «from» = e.«from»; kept = more_kept; layers = more_layers } ∷ []
records-pushed kept layers more_kept more_layers es e all ks ke ls le =
    let split = map-append (record_at (kept ++ more_kept) (layers ++ more_layers)) es (e ∷ []) in
    let before = map_record_at-append kept layers more_kept more_layers es all in
    let k = slice_range-added kept more_kept in
    let l = slice_range-added layers more_layers in
    cc

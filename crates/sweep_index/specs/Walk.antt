-- What a walk still gives.
use Rattle.std.specs.Prelude.{ℕ, List}
use Rattle.sweep_index.specs.Area.{lowest, highest}
use Rattle.sweep_index.specs.Search.{items_from}
use Rattle.sweep_index.specs.declared.index.Item.{Item}
use Rattle.sweep_index.specs.declared.walk.Search.{Search}
use Rattle.sweep_index.specs.declared.walk.Walk.{Walk}

-- all that the search finds
abbrev pub all_found : Search → List (ℕ × Item)
all_found s = items_from s.entries.now s.live.now (lowest s.area) (highest s.area) 0

-- the numbered items that the walk still gives
abbrev pub items_left : Walk → List (ℕ × Item)
items_left w = items_from w.search.entries.now w.search.live.now (lowest w.search.area) (highest w.search.area) w.cursor.at

-- What the code has written so far, as a draft.
use Rattle.std.specs.Prelude.{ℕ, zero, suc, List, [], codes, drop}
use Rattle.geo_text.specs.declared.writer.Writer.{Writer}
use Rattle.geo_text.specs.Drafts.{Draft}

abbrev pub draft_of : Writer → Draft
draft_of w = record { text = w.text.items; rings = drop w.next_ring w.rings.now; points = drop w.next_point w.points.now }

-- what stands before the entry of a list with this number
abbrev pub comma : ℕ → List ℕ
comma zero = []
comma (suc k) = codes ","

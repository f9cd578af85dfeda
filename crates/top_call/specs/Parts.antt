-- Lines in parts: words, and numbers in decimal.
use Rattle.std.specs.Prelude.{ℕ, List, decimal}
use Rattle.std.specs.List.{flat_map}
use Rattle.top_call.specs.declared.parts.Part.{Part}
use Rattle.top_call.specs.declared.parts.Part.TheVariants.{Words, Number}

-- the text of a part, and of several
abbrev pub part_text : Part → List ℕ
part_text (Words words) = words.now
part_text (Number n) = decimal n

abbrev pub spelled : List Part → List ℕ
spelled parts = flat_map part_text parts

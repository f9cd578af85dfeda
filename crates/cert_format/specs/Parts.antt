-- The parts that the text of a certificate is read and written in.
use Rattle.std.specs.Prelude.{◌≡◌, ◌≤◌, ℕ, Bool, ◌==◌, not, List, [], ◌∷◌, ◌++◌, Some, count_by, if◌then◌else◌, IsUtf8}
use Rattle.std.specs.List.{list_all}
use Rattle.arc_map.specs.Records.{Record, Records}
use Rattle.cert_format.specs.Certificate.{Content, further}
use Rattle.serde_json.specs.Data.{Data}
use Rattle.serde_json.specs.Read.{read}
use Rattle.cert_format.specs.declared.chains.Entry.{Entry}
use Rattle.cert_format.specs.declared.chains.Room.{Room}

-- texts with commas between them
abbrev pub joined : List (List ℕ) → List ℕ
joined [] = []
joined (t ∷ ts) = t ++ further ts

-- the same without its records
abbrev pub bare : Content → Content
bare c = record { version = c.version; bound = c.bound; wx = c.wx; wy = c.wy; held = c.held; entries = [] }

-- the byte stands nowhere in the text
abbrev pub lacks : ℕ → List ℕ → Bool
lacks byte text = list_all (λ b. not (b == byte)) text

-- how often the byte stands in the text
abbrev pub count : ℕ → List ℕ → ℕ
count byte text = count_by (λ b. b == byte) text

-- the text is that of the value, and it opens one object at most and no more lists than these
pub record IsTextOf (most : ℕ) (d : Data) (text : List ℕ) : Type 0 where
  pub utf8 : IsUtf8 text
  pub reads : read text ≡ Some d
  pub objects : count 123 text ≤ 1
  pub lists : count 91 text ≤ most

-- what follows the comma at the front, where one stands there
abbrev pub behind_comma : List ℕ → List ℕ
behind_comma [] = []
behind_comma (b ∷ bs) = if b == 44 then bs else b ∷ bs

-- the record that was read
abbrev pub record_in : Entry → Record
record_in e = record { arc = e.arc; «from» = e.«from»; kept = e.kept.items; layers = e.layers.items }

-- for how many records, kept places and layers there is room
abbrev pub room_in : Records → Room
room_in records = record { records = records.room; kept = records.kept_room; layers = records.layers_room }

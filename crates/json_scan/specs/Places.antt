-- Where a text stops being JSON, and where it is too deep, in words of the grammar alone.
use Rattle.std.specs.Prelude.{◌≡◌, ℕ, zero, suc, ◌+◌, ◌-◌, ◌<◌, ◌≤◌, List, [], ◌∷◌, ◌++◌, length, take, ◌⊎◌, Result, Ok, Err, if◌then◌else◌}
use Rattle.std.specs.Str.{IsUtf8, IsValidUpTo}
use Rattle.json_scan.specs.declared.walk.ScanError.{ScanError}
use Rattle.json_scan.specs.declared.walk.ScanError.TheVariants.{NotUtf8, NotJson, TooDeep, NoMemory}
use Rattle.json_scan.specs.Grammar.{Value, Null, False, True, Number, Text, EmptyList, FullList, EmptyObject, FullObject, Items, LastItem}
use Rattle.json_scan.specs.Grammar.{NextItem, Members, LastMember, NextMember, value_width, quoted_width, Document, IsDocument}
use Rattle.json_scan.specs.Grammar.{document_text}

-- ---- the longest prefix that some JSON text begins with

-- a JSON text of any depth, and its first bytes are the first n bytes of the text
pub record BeginsWith (text : List ℕ) (n : ℕ) (d : Document) : Type 0 where
  pub is_document : IsDocument d
  pub utf8 : IsUtf8 (document_text d)
  pub rest : List ℕ
  pub spelled : document_text d ≡ take n text ++ rest

-- the first n bytes are whole characters, and some JSON text begins with them
pub record IsViable (text : List ℕ) (n : ℕ) : Type 0 where
  pub within : n ≤ length text
  pub whole : IsUtf8 (take n text)
  pub document : Document
  pub begins : BeginsWith text n document

pub record IsLongestViable (text : List ℕ) (n : ℕ) : Type 0 where
  pub viable : IsViable text n
  pub longest : (m : ℕ) → IsViable text m → m ≤ n

-- ---- Lists and Objects by their depth

-- The places of those Lists and Objects in a value that so many others in it hold, in order. The value begins at a place.
abbrev mutual
  pub value_brackets : Value → ℕ → ℕ → List ℕ
  value_brackets Null holders place = []
  value_brackets False holders place = []
  value_brackets True holders place = []
  value_brackets (Number n) holders place = []
  value_brackets (Text ps) holders place = []
  value_brackets (EmptyList gap) zero place = place ∷ []
  value_brackets (EmptyList gap) (suc holders) place = []
  value_brackets (FullList items) zero place = place ∷ []
  value_brackets (FullList items) (suc holders) place = items_brackets items holders (place + 1)
  value_brackets (EmptyObject gap) zero place = place ∷ []
  value_brackets (EmptyObject gap) (suc holders) place = []
  value_brackets (FullObject members) zero place = place ∷ []
  value_brackets (FullObject members) (suc holders) place = members_brackets members holders (place + 1)

  pub items_brackets : Items → ℕ → ℕ → List ℕ
  items_brackets (LastItem before v after) holders place = value_brackets v holders (place + length before)
  items_brackets (NextItem before v after items) holders place =
      value_brackets v holders (place + length before) ++ items_brackets items holders
      (place + length before + value_width v + length after + 1)

  pub members_brackets : Members → ℕ → ℕ → List ℕ
  members_brackets (LastMember before name behind ahead v after) holders place =
      value_brackets v holders (place + length before + quoted_width name + length behind + 1 + length ahead)
  members_brackets (NextMember before name behind ahead v after members) holders place =
      let value_start = place + length before + quoted_width name + length behind + 1 + length ahead in
      value_brackets v holders value_start ++ members_brackets members holders (value_start + value_width v + length after + 1)

-- The places of the Lists and Objects of a depth, in order. The depth is 1 more than the number of Lists and Objects that hold it.
abbrev pub brackets_of_depth : ℕ → Document → List ℕ
brackets_of_depth depth d = value_brackets d.value (depth - 1) ((if d.mark then 3 else 0) + length d.before)

-- among the first n bytes, at is the first bracket of depth 65 of a JSON text that begins with them
pub record IsDeepBracket (text : List ℕ) (n at : ℕ) : Type 0 where
  pub before : at < n
  pub document : Document
  pub begins : BeginsWith text n document
  pub others : List ℕ
  pub brackets : brackets_of_depth 65 document ≡ at ∷ others

-- ---- the refusals

-- some document, of any depth, is spelled so
abbrev pub IsJsonText : List ℕ → Type 0
IsJsonText text = (d : Document) × IsDocument d × (text ≡ document_text d)

-- Why a text is refused, and where. That memory ran out says nothing of the text.
abbrev pub IsRefusedFor : List ℕ → ScanError → Type 0
IsRefusedFor text (NotUtf8 at) = ¬ (IsUtf8 text) × IsValidUpTo text at
IsRefusedFor text (TooDeep at) = IsUtf8 text × ((n : ℕ) × IsLongestViable text n × IsDeepBracket text n at)
IsRefusedFor text (NotJson at) = IsUtf8 text × IsLongestViable text at × ((deep : ℕ) → ¬ (IsDeepBracket text at deep)) × ¬ (IsJsonText text)
IsRefusedFor text NoMemory = ⊥

-- an answer that is this refusal, or that memory ran out
abbrev pub IsRefusal : {A : Type 0} → Result A ScanError → ScanError → Type 0
IsRefusal (Ok a) e = ⊥
IsRefusal (Err f) e = (f ≡ e) ⊎ (f ≡ NoMemory)

-- The laws of the machine: each JSON text runs through it to its end, and where it stops is the longest prefix that some JSON text begins
-- with.
use Rattle.std.specs.Prelude.{◌≡◌, ℕ, ◌<◌, ◌≤◌, ◌↔◌, ◌⊎◌, List, drop}
use Rattle.std.specs.Str.{IsUtf8}
use Rattle.json_scan.specs.declared.node.Node.{Node}
use Rattle.json_scan.specs.Machine.{Outcome, Whole, Broken, run, before_value, text_start}
use Rattle.json_scan.specs.Grammar.{Document, IsDocument, IsJson, value_depth, document_text, document_nodes}
use Rattle.json_scan.specs.Places.{IsLongestViable, IsDeepBracket, IsRefusedFor}
use Rattle.json_scan.specs.Scans.{HasNodes}
use Rattle.json_scan.specs.declared.walk.ScanError.{ScanError}

-- what comes of a text where no more than a limit may be open
abbrev pub outcome_of : ℕ → List ℕ → Outcome
outcome_of limit text = run limit (before_value (text_start text)) (drop (text_start text) text)

-- each document runs to its end, and leaves its nodes
abbrev pub EachDocumentRuns : Type 0
EachDocumentRuns = (limit : ℕ) (d : Document) → IsDocument d → value_depth d.value ≤ limit
    → outcome_of limit (document_text d) ≡ Whole (document_nodes d)

-- what runs to its end is a document
abbrev pub EachRunIsDocument : Type 0
EachRunIsDocument = (limit : ℕ) (text : List ℕ) (nodes : List Node) → outcome_of limit text ≡ Whole nodes
    → (d : Document) × IsJson limit text nodes d

-- the place where the machine stops, however many may be open, is the length of the longest prefix that some JSON text begins with
abbrev pub StopsBehindLongest : Type 0
StopsBehindLongest = (least : ℕ) (text : List ℕ) (at : ℕ) → IsUtf8 text → ((limit : ℕ) → least ≤ limit → outcome_of limit text ≡ Broken at)
    → IsLongestViable text at

-- each text has such a prefix
abbrev pub HasLongest : Type 0
HasLongest = (text : List ℕ) → IsUtf8 text → (n : ℕ) × IsLongestViable text n

abbrev pub LongestIsUnique : Type 0
LongestIsUnique = (text : List ℕ) (n m : ℕ) → IsLongestViable text n → IsLongestViable text m → n ≡ m

-- the first bracket of depth 65 in that prefix is where the machine stops if no more than 64 may be open
abbrev pub StopsAtDeepBracket : Type 0
StopsAtDeepBracket = (text : List ℕ) (n at : ℕ) → IsLongestViable text n
    → IsDeepBracket text n at ↔ ((at < n) × (outcome_of 64 text ≡ Broken at))

-- each text has nodes or is refused
abbrev pub HasAnswer : Type 0
HasAnswer = (text : List ℕ) → ((nodes : List Node) × HasNodes text nodes) ⊎ ((e : ScanError) × IsRefusedFor text e)

-- a text is refused in one way at most, and in none if it has nodes
abbrev pub RefusalsExclude : Type 0
RefusalsExclude =
    (text : List ℕ) (e : ScanError) → IsRefusedFor text e
    → ((f : ScanError) → IsRefusedFor text f → f ≡ e) × ((nodes : List Node) → ¬ (HasNodes text nodes))

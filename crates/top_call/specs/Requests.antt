-- A request, and the words that make it.
use Rattle.std.specs.Prelude.{◌≡◌, ◌≢◌, ◌≤◌, ◌+◌, ◌^◌, ◌≤ℤ◌, ℤ, pos, unsigned_abs, ℕ, Bool, true, false, List, [], ◌∷◌, ◌++◌, length, map}
use Rattle.std.specs.Prelude.{Option, Some, None, String, string_bytes, codes, decimal, IsTrue}
use Rattle.std.specs.declared.alloc.Global.{Global}
use Rattle.std.specs.List.{join_with_byte}
use Rattle.grid_exact.specs.Weights.{Scales, IsWeight}
use Rattle.top_call.specs.declared.forms.Options.{Options}
use Rattle.top_call.specs.declared.forms.Request.{Request}
use Rattle.top_call.specs.declared.forms.Request.TheVariants as requests
use Rattle.top_call.specs.Words.{Form, Simplify, Layers, Check, Faces, Make, Demo, Dissolve, Build, Pyramid, is_name, are_names}
use Rattle.top_call.specs.Words.{polygons_in, bounds_in}

-- the bytes of each word
abbrev pub bytes_of : List (String Global) → List (List ℕ)
bytes_of words = map string_bytes words

-- a request as the form that it stands for
abbrev pub form : Request → Form
form (requests.Simplify options bound file) = Simplify options bound file.now
form (requests.Layers options bound file) = Layers options bound file.now
form (requests.Check options bound file out cert) = Check options bound file.now out.now cert.now
form (requests.Faces file) = Faces file.now
form (requests.Make rows cols seed) = Make rows cols seed
form (requests.Demo rows cols seed bound) = Demo rows cols seed bound
form (requests.Dissolve list file) = Dissolve (polygons_in list.now) file.now
form (requests.Build file) = Build file.now
form (requests.Pyramid list file) = Pyramid (bounds_in list.now) file.now

-- ---- limits

-- a bound in whole units, from 0 to 2^30
pub record IsBound (bound : ℤ) : Type 0 where
  pub low : pos 0 ≤ℤ bound
  pub high : bound ≤ℤ pos (2 ^ 30)

-- the weights that are named are weights
abbrev pub AreWeights : Option Scales → Type 0
AreWeights None = Unit {0}
AreWeights (Some w) = IsWeight w.x × IsWeight w.y

-- the numbers of a coverage that can be made
pub record IsMakeable (rows cols seed : ℕ) : Type 0 where
  pub some_rows : 1 ≤ rows
  pub few_rows : rows ≤ 100
  pub some_cols : 1 ≤ cols
  pub few_cols : cols ≤ 100
  pub small_seed : seed ≤ 65536

-- the numbers rise strictly, the first is at least `least`, and each is at most `most`
abbrev pub AreRising : ℕ → ℕ → List ℕ → Type 0
AreRising most least [] = Unit {0}
AreRising most least (n ∷ ns) = (least ≤ n) × (n ≤ most) × AreRising most (n + 1) ns

-- one number, and no more than there is room for, strictly rising, each at most `most`
pub record AreListed (most room : ℕ) (numbers : List ℕ) : Type 0 where
  pub some : 1 ≤ length numbers
  pub few : length numbers ≤ room
  pub rising : AreRising most 0 numbers

-- 1 to 1,000 numbers of polygons
abbrev pub ArePolygons : List ℕ → Type 0
ArePolygons polygons = AreListed 1048575 1000 polygons

-- 1 to 16 bounds, in whole units
abbrev pub AreBounds : List ℕ → Type 0
AreBounds bounds = AreListed (2 ^ 30) 16 bounds

-- the numbers and names of a form are within their limits
abbrev pub IsWithinLimits : Form → Type 0
IsWithinLimits (Simplify options bound file) = AreWeights options.weights × IsBound bound × IsTrue (is_name file)
IsWithinLimits (Layers options bound file) = AreWeights options.weights × IsBound bound × IsTrue (is_name file)
IsWithinLimits (Check options bound file out cert) = AreWeights options.weights × IsBound bound × IsTrue (are_names file out cert)
IsWithinLimits (Faces file) = IsTrue (is_name file)
IsWithinLimits (Make rows cols seed) = IsMakeable rows cols seed
IsWithinLimits (Demo rows cols seed bound) = IsMakeable rows cols seed × IsBound bound
IsWithinLimits (Dissolve polygons file) = ArePolygons polygons × IsTrue (is_name file)
IsWithinLimits (Build file) = IsTrue (is_name file)
IsWithinLimits (Pyramid bounds file) = AreBounds bounds × IsTrue (is_name file)

-- ---- the words of a form

-- a whole number that is not negative, in decimal
abbrev pub digits : ℤ → List ℕ
digits z = decimal (unsigned_abs z)

abbrev pub hold_words : Bool → List (List ℕ)
hold_words true = codes "--hold" ∷ []
hold_words false = []

abbrev pub weights_words : Option Scales → List (List ℕ)
weights_words None = []
weights_words (Some w) = codes "--weights" ∷ digits w.x ∷ digits w.y ∷ []

abbrev pub options_words : Options → List (List ℕ)
options_words options = hold_words options.hold ++ weights_words options.weights

-- numbers in decimal, with a comma between each two
abbrev pub list_word : List ℕ → List ℕ
list_word numbers = join_with_byte 44 (map decimal numbers)

-- the words that spell a form
abbrev pub spelling : Form → List (List ℕ)
spelling (Simplify options bound file) = codes "simplify" ∷ (options_words options ++ digits bound ∷ file ∷ [])
spelling (Layers options bound file) = codes "layers" ∷ (options_words options ++ digits bound ∷ file ∷ [])
spelling (Check options bound file out cert) = codes "check" ∷ (options_words options ++ digits bound ∷ file ∷ out ∷ cert ∷ [])
spelling (Faces file) = codes "faces" ∷ file ∷ []
spelling (Make rows cols seed) = codes "make" ∷ decimal rows ∷ decimal cols ∷ decimal seed ∷ []
spelling (Demo rows cols seed bound) = codes "demo" ∷ decimal rows ∷ decimal cols ∷ decimal seed ∷ digits bound ∷ []
spelling (Dissolve polygons file) = codes "dissolve" ∷ list_word polygons ∷ file ∷ []
spelling (Build file) = codes "build" ∷ file ∷ []
spelling (Pyramid bounds file) = codes "pyramid" ∷ list_word bounds ∷ file ∷ []

-- the words spell this form, which is within its limits, or they spell none that is
abbrev pub Spells : List (List ℕ) → Option Form → Type 0
Spells words None = (f : Form) → IsWithinLimits f → words ≢ spelling f
Spells words (Some f) = (words ≡ spelling f) × IsWithinLimits f

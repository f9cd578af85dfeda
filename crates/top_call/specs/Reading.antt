-- The texts that a form names, and how their reading ends.
use Rattle.std.specs.Prelude.{◌≡◌, ◌≢◌, ◌<◌, ◌≤◌, ◌^◌, ◌⊎◌, ℕ, Bool, List, [], ◌∷◌, length, Option, None, Some, Result, IsTrue, IsSome}
use Rattle.std.specs.Prelude.{IsSomeAnd, IfOk, IfErr, OnOk, IsErrOf}
use Rattle.outside_io.specs.Causes.{Rose}
use Rattle.outside_io.specs.Texts.{Texts, text_of}
use Rattle.top_call.specs.declared.status.Role.{Role}
use Rattle.top_call.specs.declared.status.Role.TheVariants.{File, Out, Cert}
use Rattle.top_call.specs.declared.status.Limit.TheVariants.{Text}
use Rattle.top_call.specs.declared.status.Status.{Status}
use Rattle.top_call.specs.declared.status.Status.TheVariants.{TooLarge, ReadFault, NoMemory}
use Rattle.top_call.specs.declared.texts.Texts.{Texts as HeldTexts}
use Rattle.top_call.specs.Words.{Form, Simplify, Layers, Check, Faces, Make, Demo, Dissolve, Build, Pyramid}

-- the most bytes of the text of a role
abbrev pub limit_of : Role → ℕ
limit_of File = 2 ^ 26
limit_of Out = 2 ^ 27
limit_of Cert = 2 ^ 26

-- a role, and the name of a text
abbrev pub Named : Type 0
Named = Role × List ℕ

-- the texts that a form names, in the order in which they are read
abbrev pub named : Form → List Named
named (Simplify options bound file) = (File, file) ∷ []
named (Layers options bound file) = (File, file) ∷ []
named (Check options bound file out cert) = (File, file) ∷ (Out, out) ∷ (Cert, cert) ∷ []
named (Faces file) = (File, file) ∷ []
named (Make rows cols seed) = []
named (Demo rows cols seed bound) = []
named (Dissolve polygons file) = (File, file) ∷ []
named (Build file) = (File, file) ∷ []
named (Pyramid bounds file) = (File, file) ∷ []

-- ---- what is held

-- a text is held and is no longer than its role allows
abbrev pub IsWithin : Role → Option (List ℕ) → Type 0
IsWithin role text = IsSomeAnd text (λ bytes. length bytes ≤ limit_of role)

-- a text is held and is longer than its role allows
abbrev pub IsPast : Role → Option (List ℕ) → Type 0
IsPast role text = IsSomeAnd text (λ bytes. limit_of role < length bytes)

-- a text is held under each name
abbrev pub AreHeld : Texts → List Named → Type 0
AreHeld texts [] = Unit {0}
AreHeld texts (n ∷ ns) = IsSome (text_of texts n.1) × AreHeld texts ns

-- the text of this role is the first that is past its limit, and those before it are held and within theirs
abbrev pub IsFirstPast : Texts → List Named → Role → Type 0
IsFirstPast texts [] role = ⊥
IsFirstPast texts (n ∷ ns) role =
    ((role ≡ n.0) × IsPast n.0 (text_of texts n.1)) ⊎ (IsWithin n.0 (text_of texts n.1) × IsFirstPast texts ns role)

-- a text is the first that is not held, and those before it are held and within their limits
abbrev pub IsFirstUnheld : Texts → List Named → Type 0
IsFirstUnheld texts [] = ⊥
IsFirstUnheld texts (n ∷ ns) = (text_of texts n.1 ≡ None) ⊎ (IsWithin n.0 (text_of texts n.1) × IsFirstUnheld texts ns)

-- ---- what was read

-- a text for each role, empty where none is named
pub record Read : Type 0 where
  pub file : List ℕ
  pub out : List ℕ
  pub cert : List ℕ

abbrev pub texts_read : HeldTexts → Read
texts_read texts = record { file = texts.file.items; out = texts.out.items; cert = texts.cert.items }

abbrev pub read_as : Read → Role → List ℕ
read_as read File = read.file
read_as read Out = read.out
read_as read Cert = read.cert

-- these are the texts held under the names
abbrev pub AreRead : Texts → List Named → Read → Type 0
AreRead texts [] read = Unit {0}
AreRead texts (n ∷ ns) read = (text_of texts n.1 ≡ Some (read_as read n.0)) × AreRead texts ns read

-- each text is within the limit of its role
pub record AreShort (read : Read) : Type 0 where
  pub file : length read.file ≤ 2 ^ 26
  pub out : length read.out ≤ 2 ^ 27
  pub cert : length read.cert ≤ 2 ^ 26

-- the statuses with which a reading may end
abbrev pub IsReadingStatus : Status → Type 0
IsReadingStatus ReadFault = Unit {0}
IsReadingStatus (TooLarge (Text role)) = Unit {0}
IsReadingStatus NoMemory = Unit {0}
IsReadingStatus status = ⊥

-- ---- how a reading ends

-- What the reading of the texts with these names may say, by what the inputs tell, and by the count of faults, the strays and the bytes
-- given, before and after.
pub record ReadsNames (tells : Bool) (texts : Texts) (names : List Named) (faults faults_now strays strays_now given : ℕ)
    (result : Result HeldTexts Status) : Type 0 where
  -- the texts are those of the names, and each is within its limit
  pub read : IsTrue tells → IfOk result (λ held. AreRead texts names (texts_read held))
  pub short : IfOk result (λ held. AreShort (texts_read held))
  pub statuses : IfErr result IsReadingStatus
  -- reading failed only where a call failed, and no failed call is passed over
  pub read_fault : IsErrOf result ReadFault → Rose faults faults_now
  pub no_read_fault : OnOk result (faults_now ≡ faults)
  pub other_fault : IfErr result (λ s. s ≢ ReadFault → faults_now ≡ faults)
  -- a text is said to be too long only where it is the first past its limit, and gave more bytes
  pub past : IsTrue tells → IfErr result (λ s. (role : Role) → s ≡ TooLarge (Text role) → IsFirstPast texts names role)
  pub too_large : IfErr result (λ s. (role : Role) → s ≡ TooLarge (Text role) → limit_of role < given)
  -- and it is said of that text, unless a call failed or memory was wanting
  pub past_limit : IsTrue tells → ¬ (Rose faults faults_now) → (role : Role) → IsFirstPast texts names role
      → IsErrOf result (TooLarge (Text role)) ⊎ IsErrOf result NoMemory
  -- no name is asked for but these
  pub strays_stay : IsTrue tells → AreHeld texts names → strays_now ≡ strays

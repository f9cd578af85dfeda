-- How a run ends, beside its answer: want of memory, failed reads and writes, and what was written then.
use Rattle.std.specs.Prelude.{◌≡◌, ◌≢◌, ◌⊎◌, ◌<◌, ℕ, Bool, List, [], ◌++◌, Option, None, Some, IsTrue}
use Rattle.outside_io.specs.Causes.{Rose}
use Rattle.outside_io.specs.Texts.{Texts, AppendsPrefix}
use Rattle.top_call.specs.declared.status.Role.{Role}
use Rattle.top_call.specs.declared.status.Limit.TheVariants.{Text, Depth, Many}
use Rattle.top_call.specs.declared.status.Status.{Status}
use Rattle.top_call.specs.declared.status.Status.TheVariants.{Done, No, NotUtf8, NotJson, NotTopology, OffProfile, TooLarge, NotArranged}
use Rattle.top_call.specs.declared.status.Status.TheVariants.{ReadFault, WriteFault, NoMemory, OffWeights, NoPolygon}
use Rattle.top_call.specs.declared.status.Status.TheVariants.{NotGeoJson}
use Rattle.top_call.specs.Words.{Form}
use Rattle.top_call.specs.Reading.{Named, named, limit_of, AreHeld, IsFirstPast}
use Rattle.top_call.specs.Answers.{Answer}

-- ---- statuses

-- the statuses with which a text is refused, or its map does not have a polygon, or memory is wanting
abbrev pub IsMapStatus : Status → Type 0
IsMapStatus (NotUtf8 at) = Unit {0}
IsMapStatus (NotJson at) = Unit {0}
IsMapStatus (NotTopology kind at) = Unit {0}
IsMapStatus (OffProfile kind at) = Unit {0}
IsMapStatus (TooLarge (Depth at)) = Unit {0}
IsMapStatus (TooLarge (Many what at)) = Unit {0}
IsMapStatus (NotArranged meeting) = Unit {0}
IsMapStatus NoMemory = Unit {0}
IsMapStatus (OffWeights arc at) = Unit {0}
IsMapStatus (NoPolygon polygon) = Unit {0}
IsMapStatus (NotGeoJson kind at) = Unit {0}
IsMapStatus status = ⊥

-- the bytes of a form were written
abbrev pub IsWritten : Status → Type 0
IsWritten Done = Unit {0}
IsWritten (No reason) = Unit {0}
IsWritten status = ⊥

-- the statuses of a form over the texts that it names
abbrev pub IsWorkStatus : Status → Type 0
IsWorkStatus status = IsWritten status ⊎ ((status ≡ WriteFault) ⊎ IsMapStatus status)

-- nothing was written
abbrev pub IsSilent : Status → Type 0
IsSilent Done = ⊥
IsSilent (No reason) = ⊥
IsSilent WriteFault = ⊥
IsSilent status = Unit {0}

-- A run ended with this fault only where the count of faults rose, and it passed no failed call over.
pub record HasFault (fault : Status) (before now : ℕ) (result : Status) : Type 0 where
  pub rose : result ≡ fault → Rose before now
  pub stood : result ≢ fault → now ≡ before

-- ---- what was read

-- What a run may say of the texts that it reads, by the count of faults, the strays and the bytes given before and after.
pub record ReadsTexts (tells : Bool) (texts : Texts) (names : List Named) (faults faults_now strays strays_now given : ℕ)
    (result : Status) : Type 0 where
  -- reading failed only where a call failed, and no failed call is passed over
  pub fault : HasFault ReadFault faults faults_now result
  -- a text is said to be too long only where it is the first past its limit, or at least gave as many bytes
  pub too_long : IsTrue tells → (role : Role) → result ≡ TooLarge (Text role) → IsFirstPast texts names role
  pub too_long_given : (role : Role) → result ≡ TooLarge (Text role) → limit_of role < given
  -- and it is said of that text, unless a call failed or memory was wanting
  pub past_limit : IsTrue tells → ¬ (Rose faults faults_now) → (role : Role) → IsFirstPast texts names role
      → (result ≡ TooLarge (Text role)) ⊎ (result ≡ NoMemory)
  -- no name is asked for but these
  pub strays_stay : IsTrue tells → AreHeld texts names → strays_now ≡ strays

-- the texts that the form of the words names, none where they have no form
abbrev pub names_of : Option Form → List Named
names_of None = []
names_of (Some f) = named f

-- ---- what was written

-- the bytes of a form stand behind what was written before
abbrev pub Wrote : Bool → List ℕ → List ℕ → List ℕ → Type 0
Wrote tells before now bytes = IsTrue tells → now ≡ before ++ bytes

-- a prefix of them does
abbrev pub WrotePrefix : Bool → List ℕ → List ℕ → List ℕ → Type 0
WrotePrefix tells before now bytes = IsTrue tells → AppendsPrefix before now bytes

-- Behind what was written before stands all of the whole but the rest.
pub record IsPartWritten (before now whole rest : List ℕ) : Type 0 where
  pub front : List ℕ
  pub written : now ≡ before ++ front
  pub split : whole ≡ front ++ rest

-- the bytes were written, and the run ended with this status; or a write failed
abbrev pub Replies : Bool → List ℕ → List ℕ → List ℕ → Status → Status → Type 0
Replies tells before now bytes status result =
    ((result ≡ status) × Wrote tells before now bytes) ⊎ ((result ≡ WriteFault) × WrotePrefix tells before now bytes)

-- The run ended as an answer says; or a write failed, and a prefix of its bytes was written; or memory was wanting or a call of the inputs
-- failed, and then the answer is not known.
abbrev pub Settles : (Answer → Type 0) → Bool → List ℕ → List ℕ → Status → Type 0
Settles IsIt tells before now NoMemory = Unit {0}
Settles IsIt tells before now ReadFault = Unit {0}
Settles IsIt tells before now WriteFault = (a : Answer) × IsIt a × IsWritten a.status × WrotePrefix tells before now a.bytes
Settles IsIt tells before now status = (a : Answer) × IsIt a × (status ≡ a.status) × Wrote tells before now a.bytes

-- The message stands behind what was written before, or a prefix of it where a write failed.
abbrev pub Notes : ℕ → ℕ → List ℕ → List ℕ → List ℕ → Type 0
Notes faults_before faults_now before now message =
    (now ≡ before ++ message) ⊎ (Rose faults_before faults_now × AppendsPrefix before now message)

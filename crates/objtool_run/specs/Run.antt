-- What a request gives over its input.
use Rattle.std.specs.Prelude.{◌≡◌, ◌≢◌, ◌<◌, ◌≤◌, ℕ, ◌⊎◌, Bool, true, false, List, length, Option, Some, None, IfSome, string_bytes}
use Rattle.std.specs.List.{All}
use Rattle.hex.specs.Hex.{encode_lower}
use Rattle.byte_core.specs.Outside.{Outside, IsAtEnd}
use Rattle.image_build.specs.declared.error.BuildError.{BuildError}
use Rattle.image_build.specs.declared.error.BuildCause.TheVariants as causes
use Rattle.image_build.specs.Built.{BuildPart, Built, BuildRefusal, TellsBuild, build_cause}
use Rattle.image_build.specs.Texts.{build_text}
use Rattle.objtool_run.specs.Fault.{line}
use Rattle.objtool_run.specs.Asked.{Asked, build, raw, read, names, ask, place, extract, join, gen}
use Rattle.objtool_run.specs.Query.{IsTold, IsRefusedQuery, IsUnreadQuery, ExplainsQuery, JudgesQuery, IsAnswered}
use Rattle.objtool_run.specs.Reading.{IsImageLine, IsUnreadImage, IsImage, ExplainsRead, IsFileFault, JudgesRead}
use Rattle.objtool_run.specs.Placing.{IsPlacedInput, IsUnplacedInput, HasNoPlacement, JudgesPlace, IsPlaceable}
use Rattle.objtool_run.specs.Extracted.{IsUnextracted, JudgesExtract, IsExtractable}
use Rattle.objtool_run.specs.Joined.{IsUnjoinedLine, JudgesJoin, IsJoinable}
use Rattle.objtool_run.specs.Generated.{IsSummaryLine}
use Rattle.fat_commands.specs.Extracting.{IsExtracted}
use Rattle.fat_commands.specs.Joining.{IsJoined}
use Rattle.goblin_reloc_names.specs.Names.{relocation_name}
use Rattle.objtool_run.specs.Script.{HasNoParts, StandsFor}
use Rattle.objtool_run.specs.declared.fault.Fault.{Fault}
use Rattle.objtool_run.specs.declared.fault.Fault.TheVariants.{Refused, BadWords, ReadFailed, WriteFailed, OutOfMemory, NotUnderstood, TooLong}

-- an input has at most so many bytes
abbrev pub input_limit : ℕ
input_limit = 67108864

-- the output for some bytes: two lower-case hexadecimal digits a byte, and a newline
abbrev pub line_of : List ℕ → List ℕ
line_of bytes = line (encode_lower bytes)

-- the text is the line of bytes that are what the input's parts build, and nothing refuses these
pub record IsAnswer (input text : List ℕ) : Type 0 where
  pub parts : List BuildPart
  pub stands : StandsFor input parts
  pub valid : build_cause parts ≡ None
  pub bytes : List ℕ
  pub are_bytes : All (λ x. x < 256) bytes
  pub built : Built parts bytes
  pub text_is : text ≡ line_of bytes

-- the bytes are what the input's parts build, and nothing refuses these
pub record IsFile (input bytes : List ℕ) : Type 0 where
  pub parts : List BuildPart
  pub stands : StandsFor input parts
  pub valid : build_cause parts ≡ None
  pub are_bytes : All (λ x. x < 256) bytes
  pub built : Built parts bytes

-- the text names the part, the place and the first cause that refuse the parts
pub record IsRefusalOf (parts : List BuildPart) (text : List ℕ) : Type 0 where
  pub refusal : BuildRefusal
  pub refused : build_cause parts ≡ Some refusal
  pub error : BuildError
  pub no_memory : error.cause ≢ causes.OutOfMemory
  pub tells : TellsBuild error (build_cause parts)
  pub text_is : text ≡ line (build_text error)

-- what a fault says of parts that were built
abbrev pub ExplainsParts : List BuildPart → Fault → Type 0
ExplainsParts parts (Refused text) = IsRefusalOf parts (string_bytes text)
ExplainsParts parts BadWords = ⊥
ExplainsParts parts ReadFailed = ⊥
ExplainsParts parts WriteFailed = ⊥
ExplainsParts parts OutOfMemory = Unit {0}
ExplainsParts parts NotUnderstood = ⊥
ExplainsParts parts TooLong = ⊥

-- the text is that of the refusal of the input's parts
pub record IsRefusal (input text : List ℕ) : Type 0 where
  pub parts : List BuildPart
  pub stands : StandsFor input parts
  pub refusal : IsRefusalOf parts text

-- what a fault says of the input of a build; those of the words, the streams and memory say nothing of it
abbrev pub ExplainsBuild : List ℕ → Fault → Type 0
ExplainsBuild input (Refused text) = IsRefusal input (string_bytes text)
ExplainsBuild input BadWords = Unit {0}
ExplainsBuild input ReadFailed = Unit {0}
ExplainsBuild input WriteFailed = Unit {0}
ExplainsBuild input OutOfMemory = Unit {0}
ExplainsBuild input NotUnderstood = HasNoParts input
ExplainsBuild input TooLong = Unit {0}

-- the faults that an input alone can have
abbrev pub IsOfInput : Fault → Type 0
IsOfInput (Refused text) = Unit {0}
IsOfInput BadWords = ⊥
IsOfInput ReadFailed = ⊥
IsOfInput WriteFailed = ⊥
IsOfInput OutOfMemory = Unit {0}
IsOfInput NotUnderstood = Unit {0}
IsOfInput TooLong = ⊥

-- the faults that come of what a whole input says
abbrev pub IsJudged : Fault → Type 0
IsJudged (Refused text) = Unit {0}
IsJudged BadWords = ⊥
IsJudged ReadFailed = ⊥
IsJudged WriteFailed = ⊥
IsJudged OutOfMemory = ⊥
IsJudged NotUnderstood = Unit {0}
IsJudged TooLong = ⊥

-- the faults that a request can have before its output is written
abbrev pub IsOfResponse : Fault → Type 0
IsOfResponse (Refused text) = Unit {0}
IsOfResponse BadWords = ⊥
IsOfResponse ReadFailed = Unit {0}
IsOfResponse WriteFailed = ⊥
IsOfResponse OutOfMemory = Unit {0}
IsOfResponse NotUnderstood = Unit {0}
IsOfResponse TooLong = Unit {0}

-- the fault of a refused build: its text, but for want of memory, which no text names
abbrev pub TellsRefusal : BuildError → Fault → Type 0
TellsRefusal error (Refused text) = (error.cause ≢ causes.OutOfMemory) × (string_bytes text ≡ line (build_text error))
TellsRefusal error OutOfMemory = Unit {0}
TellsRefusal error _ = ⊥

-- how a build over an input may end, apart from failed reads, want of memory and the limit of its length
pub record JudgesBuild (input : List ℕ) (status : ℕ) : Type 0 where
  pub unread : HasNoParts input → status ≡ 6
  pub refused : (parts : List BuildPart) (r : BuildRefusal) → StandsFor input parts → build_cause parts ≡ Some r → status ≡ 1
  pub valid : (parts : List BuildPart) → StandsFor input parts → build_cause parts ≡ None → (status ≡ 0) ⊎ (status ≡ 4)

-- -- by request, over the input and the files where they are known

-- the output that a request asks for
abbrev pub IsOutput : Asked → Outside → List ℕ → Type 0
IsOutput build old text = IfSome old.input (λ known. IsAnswer known text)
IsOutput raw old text = IfSome old.input (λ known. IsFile known text)
IsOutput read old text = IfSome old.input (λ known. IsImageLine known text)
IsOutput (names machine number) old text = text ≡ line (relocation_name number machine)
IsOutput (ask query) old text = IfSome old.input (λ known. IsTold query known text)
IsOutput place old text = IfSome old.input (λ known. IsPlacedInput known text)
IsOutput (extract name) old text = IfSome old.input (λ known. IsExtracted known name text)
IsOutput (join paths) old text = IsJoined old.files paths text
IsOutput (gen seed count) old text = IsSummaryLine seed count text

-- the text is the refusal that the request's input or files have
abbrev pub IsRefused : Asked → Outside → List ℕ → Type 0
IsRefused build old text = IfSome old.input (λ known. IsRefusal known text)
IsRefused raw old text = IfSome old.input (λ known. IsRefusal known text)
IsRefused read old text = IfSome old.input (λ known. IsUnreadImage known text)
IsRefused (names machine number) old text = ⊥
IsRefused (ask query) old text = IfSome old.input (λ known. IsRefusedQuery query known text)
IsRefused place old text = IfSome old.input (λ known. IsUnplacedInput known text)
IsRefused (extract name) old text = IfSome old.input (λ known. IsUnextracted known name text)
IsRefused (join paths) old text = IsUnjoinedLine old.files paths text
IsRefused (gen seed count) old text = ⊥

-- the input has no reading, or none of the request's form
abbrev pub IsUnread : Asked → Outside → Type 0
IsUnread build old = IfSome old.input HasNoParts
IsUnread raw old = IfSome old.input HasNoParts
IsUnread (ask query) old = IfSome old.input (λ known. IsUnreadQuery query known)
IsUnread place old = IfSome old.input HasNoPlacement
IsUnread _ old = ⊥

-- a request has an input
abbrev pub has_input : Asked → Bool
has_input (names machine number) = false
has_input (join paths) = false
has_input (gen seed count) = false
has_input _ = true

-- what holds of a request with an input, or else of one without
abbrev pub ByInput : Bool → Type 0 → Type 0 → Type 0
ByInput true one other = one
ByInput false one other = other

-- the input is longer than its limit
abbrev pub IsLong : Asked → Outside → Type 0
IsLong request old = ByInput (has_input request) (IfSome old.input (λ known. input_limit < length known)) ⊥

-- the faults of a request without input, which no library refuses: those of the words, of writing and of memory
abbrev pub IsPlainFault : Fault → Type 0
IsPlainFault (Refused text) = ⊥
IsPlainFault BadWords = Unit {0}
IsPlainFault ReadFailed = ⊥
IsPlainFault WriteFailed = Unit {0}
IsPlainFault OutOfMemory = Unit {0}
IsPlainFault NotUnderstood = ⊥
IsPlainFault TooLong = ⊥

-- what a fault says of an input or of files that are refused, or have no reading; those of the words, the streams and memory
-- say nothing of them
abbrev pub Says : (List ℕ → Type 0) → Type 0 → Fault → Type 0
Says refused unread (Refused text) = refused (string_bytes text)
Says refused unread BadWords = Unit {0}
Says refused unread ReadFailed = Unit {0}
Says refused unread WriteFailed = Unit {0}
Says refused unread OutOfMemory = Unit {0}
Says refused unread NotUnderstood = unread
Says refused unread TooLong = Unit {0}

-- what a fault says of the input of a request, or of its files
abbrev pub Explains : Asked → Outside → Fault → Type 0
Explains build old fault = IfSome old.input (λ known. ExplainsBuild known fault)
Explains raw old fault = IfSome old.input (λ known. ExplainsBuild known fault)
Explains read old fault = IsFileFault fault × IfSome old.input (λ known. ExplainsRead known fault)
Explains (names machine number) old fault = IsPlainFault fault
Explains (ask query) old fault = IfSome old.input (λ known. ExplainsQuery query known fault)
Explains place old fault = IfSome old.input (λ known. Says (IsUnplacedInput known) (HasNoPlacement known) fault)
Explains (extract name) old fault = IsFileFault fault × IfSome old.input (λ known. Says (IsUnextracted known name) ⊥ fault)
Explains (join paths) old fault = Says (IsUnjoinedLine old.files paths) ⊥ fault
Explains (gen seed count) old fault = IsPlainFault fault

-- the input of the request, where it has one, was taken to its end
abbrev pub IsTaken : Asked → Outside → Type 0
IsTaken request now = ByInput (has_input request) (IsAtEnd now) (Unit {0})

-- how a request may end, apart from failed reads, want of memory and the limit of its input's length
abbrev pub Judges : Asked → Outside → ℕ → Type 0
Judges build old status = IfSome old.input (λ known. JudgesBuild known status)
Judges raw old status = IfSome old.input (λ known. JudgesBuild known status)
Judges read old status = IfSome old.input (λ known. JudgesRead known status)
Judges (names machine number) old status = (status ≡ 0) ⊎ (status ≡ 4)
Judges (ask query) old status = IfSome old.input (λ known. JudgesQuery query known status)
Judges place old status = IfSome old.input (λ known. JudgesPlace known status)
Judges (extract name) old status = IfSome old.input (λ known. JudgesExtract name known status)
Judges (join paths) old status = IfSome old.files (λ held. JudgesJoin held paths status)
Judges (gen seed count) old status = (status ≡ 0) ⊎ (status ≡ 4)

-- nothing refuses the parts that the input stands for
pub record IsValid (input : List ℕ) : Type 0 where
  pub parts : List BuildPart
  pub stands : StandsFor input parts
  pub valid : build_cause parts ≡ None

-- an input is known, within the limit, and of this kind
abbrev pub IsGiven : (List ℕ → Type 0) → Option (List ℕ) → Type 0
IsGiven P None = ⊥
IsGiven P (Some input) = P input × (length input ≤ input_limit)

-- the input or the files, where the request has them, are known, the input is within the limit, and nothing refuses them
abbrev pub IsAnswerable : Asked → Outside → Type 0
IsAnswerable build old = IsGiven IsValid old.input
IsAnswerable raw old = IsGiven IsValid old.input
IsAnswerable read old = IsGiven IsImage old.input
IsAnswerable (names machine number) old = Unit {0}
IsAnswerable (ask query) old = IsGiven (IsAnswered query) old.input
IsAnswerable place old = IsGiven IsPlaceable old.input
IsAnswerable (extract name) old = IsGiven (IsExtractable name) old.input
IsAnswerable (join paths) old = IsJoinable paths old.files
IsAnswerable (gen seed count) old = Unit {0}

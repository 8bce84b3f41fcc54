-- The exit status and the text of each fault.
use Rattle.std.specs.Prelude.{ℕ, List, [], ◌∷◌, ◌++◌, codes, string_bytes, slice_get, unwrap_or}
use Rattle.objtool_run.specs.declared.fault.Fault.{Fault}
use Rattle.objtool_run.specs.declared.fault.Fault.TheVariants.{Refused, BadWords, ReadFailed, WriteFailed, OutOfMemory, NotUnderstood, TooLong}
use Rattle.objtool_run.specs.declared.input.InputError.{InputError}
use Rattle.objtool_run.specs.declared.input.InputError.TheVariants as input

abbrev pub code_of : Fault → ℕ
code_of (Refused text) = 1
code_of BadWords = 2
code_of ReadFailed = 3
code_of WriteFailed = 4
code_of OutOfMemory = 5
code_of NotUnderstood = 6
code_of TooLong = 7

-- the fault of an input that could not be read
abbrev pub input_fault : InputError → Fault
input_fault input.Failed = ReadFailed
input_fault input.TooLong = TooLong
input_fault input.OutOfMemory = OutOfMemory

-- a text with a newline
abbrev pub line : List ℕ → List ℕ
line text = text ++ 10 ∷ []

abbrev pub text_of : Fault → List ℕ
text_of (Refused text) = string_bytes text
text_of BadWords = line (codes "words not understood")
text_of ReadFailed = line (codes "reading failed")
text_of WriteFailed = line (codes "writing failed")
text_of OutOfMemory = line (codes "out of memory")
text_of NotUnderstood = line (codes "input not understood")
text_of TooLong = line (codes "input too long")

-- the text of each exit status from 0 on that needs no cause; status 0 has none, and that of status 1 is its cause's
abbrev pub fixed_texts : List (List ℕ)
fixed_texts = [] ∷ [] ∷ text_of BadWords ∷ text_of ReadFailed ∷ text_of WriteFailed ∷ text_of OutOfMemory ∷ text_of NotUnderstood ∷ text_of TooLong ∷ []

abbrev pub fixed_text : ℕ → List ℕ
fixed_text status = unwrap_or (slice_get fixed_texts status) []

-- What is taken out of an input.
use Rattle.std.specs.Prelude.{◌≡◌, ℕ, ◌⊎◌, List, Option, IfSome, string_bytes}
use Rattle.fat_commands.specs.Extracting.{IsExtracted, TellsUnextracted, unextracted_text}
use Rattle.fat_commands.specs.declared.extract.Unextracted.{Unextracted}
use Rattle.objtool_run.specs.Fault.{line}
use Rattle.objtool_run.specs.declared.fault.Fault.{Fault}
use Rattle.objtool_run.specs.declared.fault.Fault.TheVariants.{Refused, OutOfMemory}

-- the text tells why no slice of this name is taken out, where that has a text of ours
pub record IsUnextracted (input name text : List ℕ) : Type 0 where
  pub error : Unextracted
  pub tells : TellsUnextracted input name error
  pub text_is : IfSome (unextracted_text name error) (λ t. text ≡ line t)

-- how taking out a slice may end, apart from failed reads, want of memory and the limit of the input's length
pub record JudgesExtract (name input : List ℕ) (status : ℕ) : Type 0 where
  pub refused : (e : Unextracted) → TellsUnextracted input name e → status ≡ 1
  pub found : (slice : List ℕ) → IsExtracted input name slice → (status ≡ 0) ⊎ (status ≡ 4)

-- a slice of this name is taken out
abbrev pub IsExtractable : List ℕ → List ℕ → Type 0
IsExtractable name input = (slice : List ℕ) × IsExtracted input name slice

-- the fault of a slice that isn't taken out: its text, where that is ours, or want of memory
abbrev pub TellsText : List ℕ → Unextracted → Fault → Type 0
TellsText name error (Refused text) = IfSome (unextracted_text name error) (λ t. string_bytes text ≡ line t)
TellsText name error OutOfMemory = Unit {0}
TellsText name error _ = ⊥

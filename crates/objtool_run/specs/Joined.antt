-- What files are joined to.
use Rattle.std.specs.Prelude.{◌≡◌, ℕ, ◌⊎◌, List, map, Option, Some, None, string_bytes}
use Rattle.std.specs.List.{AllZip}
use Rattle.byte_core.specs.Outside.{file_at}
use Rattle.image_build.specs.declared.error.BuildError.{BuildError}
use Rattle.image_build.specs.Built.{image, BuildRefusal, build_cause}
use Rattle.fat_commands.specs.Joining.{IsJoined, IsUnjoined, path_text}
use Rattle.fat_commands.specs.declared.join.Unjoined.{Unjoined}
use Rattle.fat_commands.specs.declared.join.Unjoined.TheVariants as unjoined
use Rattle.objtool_run.specs.Fault.{line}
use Rattle.objtool_run.specs.declared.fault.Fault.{Fault}
use Rattle.objtool_run.specs.declared.fault.Fault.TheVariants.{Refused, ReadFailed, OutOfMemory}

-- the text tells the path and the cause that refuse the files
pub record IsUnjoinedLine (files : Option (List (List ℕ × List ℕ))) (paths : List (List ℕ)) (text : List ℕ) : Type 0 where
  pub error : BuildError
  pub refused : IsUnjoined files paths error
  pub text_is : text ≡ line (path_text error)

-- the files of the paths
abbrev pub HasFiles : List (List ℕ × List ℕ) → List (List ℕ) → List (List ℕ) → Type 0
HasFiles held paths files = AllZip (λ path bytes. file_at path held ≡ Some bytes) paths files

-- how joining known files may end, apart from failed reads and want of memory
pub record JudgesJoin (held : List (List ℕ × List ℕ)) (paths : List (List ℕ)) (status : ℕ) : Type 0 where
  pub refused : (files : List (List ℕ)) (r : BuildRefusal) → HasFiles held paths files → build_cause (map (λ b. image b) files) ≡ Some r → status ≡ 1
  pub valid : (files : List (List ℕ)) → HasFiles held paths files → build_cause (map (λ b. image b) files) ≡ None → (status ≡ 0) ⊎ (status ≡ 4)

-- each path has a known file, and nothing refuses these
pub record HasJoinable (held : List (List ℕ × List ℕ)) (paths : List (List ℕ)) : Type 0 where
  pub files : List (List ℕ)
  pub has : HasFiles held paths files
  pub valid : build_cause (map (λ b. image b) files) ≡ None

abbrev pub IsJoinable : List (List ℕ) → Option (List (List ℕ × List ℕ)) → Type 0
IsJoinable paths None = ⊥
IsJoinable paths (Some held) = HasJoinable held paths

-- the fault of files that aren't joined
abbrev pub TellsJoin : Unjoined → Fault → Type 0
TellsJoin unjoined.Failed fault = fault ≡ ReadFailed
TellsJoin (unjoined.Refused error) (Refused text) = string_bytes text ≡ line (path_text error)
TellsJoin (unjoined.Refused error) OutOfMemory = Unit {0}
TellsJoin (unjoined.Refused error) _ = ⊥
TellsJoin unjoined.OutOfMemory fault = fault ≡ OutOfMemory

-- the faults of joining before the output is written
abbrev pub IsOfJoin : Fault → Type 0
IsOfJoin (Refused text) = Unit {0}
IsOfJoin ReadFailed = Unit {0}
IsOfJoin OutOfMemory = Unit {0}
IsOfJoin _ = ⊥

-- How a run of the program ends.
use Rattle.std.specs.Prelude.{◌≡◌, ◌≢◌, ◌↔◌, ◌⊎◌, ◌+◌, ◌-◌, ◌<◌, ◌≤◌, ℕ, List, None, IfSome, Result, Ok, Err}
use Rattle.byte_core.specs.Count.{Rose, risen, last_count}
use Rattle.byte_core.specs.Outside.{Outside, Appends, AppendsFront}
use Rattle.fat_commands.specs.Files.{FilesRose}
use Rattle.objtool_run.specs.Fault.{code_of}
use Rattle.objtool_run.specs.Asked.{Asked}
use Rattle.objtool_run.specs.Words.{request_of}
use Rattle.objtool_run.specs.Run.{input_limit, IsOutput, IsRefused, IsUnread, IsTaken, IsLong, Judges, IsAnswerable}
use Rattle.objtool_run.specs.declared.fault.Fault.{Fault}

-- the output of a request was put behind what the output had taken
pub record Answers (request : Asked) (old new : Outside) : Type 0 where
  pub text : List ℕ
  pub output : IsOutput request old text
  pub written : Appends old.output new.output text

-- a front of the output of a request was put behind what the output had taken
pub record AnswersFront (request : Asked) (old new : Outside) : Type 0 where
  pub text : List ℕ
  pub output : IsOutput request old text
  pub written : AppendsFront old.output new.output text

-- a front of this text was put behind what the fault text had taken, the whole where no such write failed
pub record Tells (text : List ℕ) (old new : Outside) : Type 0 where
  pub front : AppendsFront old.errors new.errors text
  pub whole : (Rose old.err_faults new.err_faults → ⊥) → Appends old.errors new.errors text

-- the refusal of a request's input was written to the fault text, whole where no such write failed
pub record Refuses (request : Asked) (old new : Outside) : Type 0 where
  pub text : List ℕ
  pub refusal : IsRefused request old text
  pub told : Tells text old new

-- the exit status of work that was done or has a fault
abbrev pub status_of : {A : Type 0} → Result A Fault → ℕ
status_of (Ok done) = 0
status_of (Err fault) = code_of fault

-- a read of the input failed, or a file could not be opened or read
abbrev pub ReadsRose : Outside → Outside → Type 0
ReadsRose old new = Rose old.read_faults new.read_faults ⊎ FilesRose old new

-- the input and files were read: the outputs stay, their counts, and the files
pub record ReadsAlone (old new : Outside) : Type 0 where
  pub output : new.output ≡ old.output
  pub write_faults : new.write_faults ≡ old.write_faults
  pub errors : new.errors ≡ old.errors
  pub err_faults : new.err_faults ≡ old.err_faults
  pub files : new.files ≡ old.files

-- The run ends with this status, for these reasons and with this output. The fields say of each status when it comes and
-- what it leaves; with 0 the output took what the words ask for, and with 4 a front of that. Apart from want of memory,
-- failed reads and writes and the limit of the input's length, the status follows from the words and the input.
pub record Ends (line : List (List ℕ)) (old new : Outside) (status : ℕ) : Type 0 where
  pub statuses : status ≤ 7
  pub words : (status ≡ 2) ↔ (request_of line ≡ None)
  pub reading : status ≡ 3 → ReadsRose old new
  pub writing : status ≡ 4 → Rose old.write_faults new.write_faults
  pub too_long : new.taken < last_count → ((status ≡ 7) ↔ (input_limit < new.taken - old.taken))
  pub long : status ≡ 7 → IfSome (request_of line) (λ request. IsLong request old)
  pub at_most : new.taken ≤ risen old.taken (input_limit + 1)
  pub done : status ≡ 0 → IfSome (request_of line) (λ request. Answers request old new)
  pub front : status ≡ 4 → IfSome (request_of line) (λ request. AnswersFront request old new)
  pub unread : status ≡ 6 → IfSome (request_of line) (λ request. IsUnread request old)
  pub nothing : status ≢ 0 → status ≢ 4 → new.output ≡ old.output
  pub whole : (status ≡ 0) ⊎ (status ≡ 1) ⊎ (status ≡ 4) ⊎ (status ≡ 6) → IfSome (request_of line) (λ request. IsTaken request new)
  pub judged : status ≢ 2 → status ≢ 3 → status ≢ 5 → status ≢ 7 → IfSome (request_of line) (λ request. Judges request old status)
  pub complete : IfSome (request_of line) (λ request. IsAnswerable request old
      → (ReadsRose old new → ⊥) → (Rose old.write_faults new.write_faults → ⊥) → (status ≡ 0) ⊎ (status ≡ 5))

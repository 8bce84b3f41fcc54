-- What is read of a host's files.
use Rattle.std.specs.Prelude.{◌≡◌, ◌⊎◌, ◌≤◌, ℕ, List, length, Option, Some, None, IfSome}
use Rattle.byte_core.specs.Count.{Rose}
use Rattle.byte_core.specs.Outside.{Outside, FileData, KeepsStreams, file_at}

-- files were opened and read: the streams and the files stay, and the counts of their failures rise
pub record ReadsFiles (old new : Outside) : Type 0 where
  pub streams : KeepsStreams old new
  pub opens : old.open_faults ≤ new.open_faults
  pub reads : old.file_faults ≤ new.file_faults

-- a file could not be opened, or read
abbrev pub FilesRose : Outside → Outside → Type 0
FilesRose old new = Rose old.open_faults new.open_faults ⊎ Rose old.file_faults new.file_faults

-- the bytes are those of the path's file, where the files are known and hold it
abbrev pub IsHeld : Option (List (List ℕ × List ℕ)) → List ℕ → List ℕ → Type 0
IsHeld files path bytes = IfSome files (λ held. IfSome (file_at path held) (λ known. bytes ≡ known))

-- a file of this length is current, with as many bytes where they are known
abbrev pub IsOpen : Option FileData → ℕ → Type 0
IsOpen None n = ⊥
IsOpen (Some file) n = (file.length ≡ n) × IfSome file.bytes (λ bytes. length bytes ≡ n)

-- the bytes of the current file, where they are known
abbrev pub current_bytes : Option FileData → Option (List ℕ)
current_bytes None = None
current_bytes (Some file) = file.bytes

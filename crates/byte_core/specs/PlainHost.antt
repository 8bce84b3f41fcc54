-- What a contract sees of a host that never fails.
use Rattle.std.specs.Prelude.{ℕ, List, [], Option, Some, None, option_map, unwrap_or}
use Rattle.byte_core.specs.Outside.{Outside, known_file, file_at}

-- what is left of its input, how many bytes of it were taken, its files by their paths, and the bytes of the current file
pub record PlainHostData : Type 0 where
  pub input : List ℕ
  pub taken : ℕ
  pub files : List (List ℕ × List ℕ)
  pub file : Option (List ℕ)

-- the outside that it stands for: the outputs aren't known, and no count rises
abbrev pub plain_outside : PlainHostData → Outside
plain_outside h =
    record {
      input = Some h.input;
      taken = h.taken;
      read_faults = 0;
      output = None;
      write_faults = 0;
      errors = None;
      err_faults = 0;
      files = Some h.files;
      open_faults = 0;
      file = option_map known_file h.file;
      file_faults = 0;
    }

-- the host after a file was opened: one of a path that it doesn't hold is empty
abbrev pub after_opening : PlainHostData → List ℕ → PlainHostData
after_opening h path = record h { file = Some (unwrap_or (file_at path h.files) []) }

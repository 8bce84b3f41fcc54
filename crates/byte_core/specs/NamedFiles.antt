-- What a contract sees of files that a host in memory holds.
use Rattle.std.specs.Prelude.{ℕ, List, map}
use Rattle.byte_core.specs.declared.named_file.NamedFile.{NamedFile}

-- the path and the bytes of a file
abbrev pub named_file : NamedFile → List ℕ × List ℕ
named_file file = (file.path.now, file.bytes.now)

-- those of each file
abbrev pub named_files : List NamedFile → List (List ℕ × List ℕ)
named_files files = map named_file files

use Rattle.std.proofs.Common.{◌≡◌, drop}
use Rattle.std.specs.List.{find}
use Rattle.byte_core.specs.Outside.{has_path}
use Rattle.byte_core.specs.NamedFiles.{named_files}
use Rattle.byte_core.proofs.named_file.bytes_of.Given as goal

-- the first file of that path is among those that are left
abbrev pub invariant-loop-file : goal.invariant-loop-file
invariant-loop-file l = find (has_path l.path) (named_files l.files) ≡ find (has_path l.path) (named_files (drop l.file-index l.files))

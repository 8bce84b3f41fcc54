use Rattle.object_elf.proofs.Bytes.{bytes-elf_file}
use Rattle.object_elf.proofs.Holds.{file_holds}
use Rattle.object_elf.proofs.laws.tables_have_files.Goals as goal

pub returns-clause-held : goal.returns-clause-held
returns-clause-held c = file_holds

pub returns-clause-bytes : goal.returns-clause-bytes
returns-clause-bytes c = bytes-elf_file

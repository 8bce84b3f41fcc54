use Rattle.file_tests.proofs.FormedObjects.{file_object_formed}
use Rattle.file_tests.proofs.elf_tests.an_empty_part_has_480_bytes.Goals as goal

pub emit_elf-requires-clause-formed : goal.emit_elf-requires-clause-formed
emit_elf-requires-clause-formed g c = rw c.in_ok-object.ensures file_object_formed

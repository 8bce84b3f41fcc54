use Rattle.file_tests.proofs.FormedObjects.{main_object_formed}
use Rattle.file_tests.proofs.elf_tests.an_exported_main_has_592_bytes.Goals as goal

pub emit_elf-requires-clause-formed : goal.emit_elf-requires-clause-formed
emit_elf-requires-clause-formed g c = rw c.in_ok-object.ensures main_object_formed

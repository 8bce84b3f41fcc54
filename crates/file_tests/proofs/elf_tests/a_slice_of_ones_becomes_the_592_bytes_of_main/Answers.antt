use Rattle.file_tests.proofs.FormedObjects.{main_object_formed}
use Rattle.file_tests.proofs.elf_tests.a_slice_of_ones_becomes_the_592_bytes_of_main.Goals as goal

pub elf_plan-requires-clause-formed : goal.elf_plan-requires-clause-formed
elf_plan-requires-clause-formed g c = rw c.in_ok-object.ensures main_object_formed

pub fill_elf-requires-clause-formed : goal.fill_elf-requires-clause-formed
fill_elf-requires-clause-formed g c = rw c.in_ok-object.ensures main_object_formed

use Rattle.file_tests.proofs.FormedObjects.{main_object_formed}
use Rattle.file_tests.proofs.elf_tests.a_plan_fits_its_own_object_and_no_other.Goals as goal

pub elf_plan-requires-clause-formed : goal.elf_plan-requires-clause-formed
elf_plan-requires-clause-formed g c = rw c.in_ok-object.ensures main_object_formed

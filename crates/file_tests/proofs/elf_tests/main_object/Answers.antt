use Rattle.std.proofs.Common.{refl}
use lib.Count.{ones}
use Rattle.file_tests.proofs.elf_tests.main_object.Goals as goal

pub add_symbol_data-requires-clause-power : goal.add_symbol_data-requires-clause-power
unfolding ones
add_symbol_data-requires-clause-power c = refl

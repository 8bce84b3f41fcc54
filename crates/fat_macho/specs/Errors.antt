-- What an error of the reader of tables is here.
use Rattle.goblin_mach.specs.declared.mach_error.Error.{Error as TableError}
use Rattle.goblin_mach.specs.declared.mach_error.Error.TheVariants as table
use Rattle.fat_macho.specs.declared.error.Error.{Error}
use Rattle.fat_macho.specs.declared.error.Error.TheVariants.{Goblin, OutOfMemory}

-- want of memory is its own, all else keeps its cause
abbrev pub error_from_goblin : TableError → Error
error_from_goblin table.OutOfMemory = OutOfMemory
error_from_goblin cause = Goblin cause

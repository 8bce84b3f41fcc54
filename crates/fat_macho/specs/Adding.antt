-- What an error tells of an input that is not added.
use Rattle.std.specs.Prelude.{◌≡◌, Option, Some, IsSomeAnd}
use Rattle.fat_macho.specs.Input.{FatRefusal, refusal_told}
use Rattle.fat_macho.specs.declared.error.Error.{Error}
use Rattle.fat_macho.specs.declared.error.Error.TheVariants.{OutOfMemory}

-- the errors that an input in memory can have: a refusal, by its cause, or want of memory
abbrev pub TellsAdd : Error → Option FatRefusal → Type 0
TellsAdd OutOfMemory cause = Unit {0}
TellsAdd e cause = IsSomeAnd (refusal_told e) (λ r. cause ≡ Some r)

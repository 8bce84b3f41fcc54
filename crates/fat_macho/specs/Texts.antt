-- How an error of fat files prints.
use Rattle.std.specs.Prelude.{ℕ, List, ◌++◌, codes, decimal, Option, Some, None}
use Rattle.fat_macho.specs.declared.error.Error.{Error}
use Rattle.fat_macho.specs.declared.error.Error.TheVariants.{Io, Goblin, NotFatBinary, InvalidMachO, DuplicatedArch, TooMany, TooLarge, OutOfMemory}
use Rattle.fat_macho.specs.declared.error.InvalidCase.{InvalidCase}
use Rattle.fat_macho.specs.declared.error.InvalidCase.TheVariants.{NotMachO, ShortHeader, NestedFat, Archive, Bitcode, ShortFatHeader, TablePastEnd, SlicePastEnd, Fat64}
use Rattle.fat_macho.specs.declared.error.IoCause.{IoCause}
use Rattle.fat_macho.specs.declared.error.IoCause.TheVariants.{Source, Sink, Open}

abbrev pub io_text : IoCause → List ℕ
io_text Source = codes "reading failed"
io_text Sink = codes "writing failed"
io_text Open = codes "opening failed"

abbrev pub case_text : InvalidCase → List ℕ
case_text NotMachO = codes "input is not a macho file"
case_text ShortHeader = codes "bytes size is smaller than a Mach-O header"
case_text NestedFat = codes "fat binary nested inside a fat binary"
case_text Archive = codes "archive input is unsupported"
case_text Bitcode = codes "bitcode input is unsupported"
case_text ShortFatHeader = codes "truncated fat header"
case_text TablePastEnd = codes "fat arch table runs past the end of the input"
case_text SlicePastEnd = codes "fat arch slice out of bounds"
case_text Fat64 = codes "64-bit fat binaries are not supported"

-- the text of an error; that of the reader of tables is its own
abbrev pub error_text : Error → Option (List ℕ)
error_text (Io cause) = Some (io_text cause)
error_text (Goblin cause) = None
error_text NotFatBinary = Some (codes "input is not a valid Mach-O fat binary")
error_text (InvalidMachO case) = Some (case_text case)
error_text (DuplicatedArch name) = Some (codes "duplicated architecture " ++ name.now)
error_text (TooMany count) = Some (codes "too many slices: " ++ decimal count)
error_text (TooLarge amount) = Some (codes "too large file: " ++ decimal amount)
error_text OutOfMemory = Some (codes "out of memory")

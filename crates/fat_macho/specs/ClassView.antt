-- What the definitions see of a class that was found.
use Rattle.fat_macho.specs.Parse.{Class, thin, cut, fat, bitcode, archive, unknown, ThinHeader as Header}
use Rattle.fat_macho.specs.declared.parse.InputClass.{InputClass}
use Rattle.fat_macho.specs.declared.parse.InputClass.TheVariants.{Thin, Cut, Fat, Bitcode, Archive, Unknown}
use Rattle.fat_macho.specs.declared.parse.ThinHeader.{ThinHeader}

abbrev pub class_view : InputClass → Class
class_view (Thin cputype cpusubtype) = thin cputype cpusubtype
class_view Cut = cut
class_view (Fat wide) = fat wide
class_view Bitcode = bitcode
class_view Archive = archive
class_view Unknown = unknown

abbrev pub header_view : ThinHeader → Header
header_view h = record { big = h.big; size = h.size }

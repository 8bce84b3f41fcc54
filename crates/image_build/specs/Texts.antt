-- How an error of a build prints.
use Rattle.std.specs.Prelude.{ℕ, List, ◌++◌, codes, decimal, unwrap_or}
use Rattle.cranelift_module.specs.Texts as refusals
use Rattle.fat_macho.specs.Texts as fat
use Rattle.object_core.specs.declared.error.What.{What}
use Rattle.object_core.specs.declared.error.What.TheVariants.{Sections, Symbols, Contents, Names, File}
use Rattle.image_build.specs.declared.error.BuildError.{BuildError}
use Rattle.image_build.specs.declared.error.BuildCause.{BuildCause}
use Rattle.image_build.specs.declared.error.BuildCause.TheVariants.{Module, Fat, TooMany, TooLarge, Mixed, OutOfMemory}
use Rattle.image_build.specs.declared.error.Place.{Place}
use Rattle.image_build.specs.declared.error.Place.TheVariants.{Start, Command, End}

abbrev pub what_text : What → List ℕ
what_text Sections = codes "sections"
what_text Symbols = codes "symbols"
what_text Contents = codes "contents"
what_text Names = codes "names"
what_text File = codes "file"

abbrev pub place_text : Place → List ℕ
place_text Start = codes "start"
place_text (Command j) = codes "command " ++ decimal j
place_text End = codes "end"

abbrev pub cause_text : BuildCause → List ℕ
cause_text (Module e) = refusals.error_text e
cause_text (Fat e) = unwrap_or (fat.error_text e) (codes "damaged fat file")
cause_text (TooMany what count) = codes "too many " ++ (what_text what ++ (codes ": " ++ decimal count))
cause_text (TooLarge what amount) = codes "too large " ++ (what_text what ++ (codes ": " ++ decimal amount))
cause_text Mixed = codes "mixed parts"
cause_text OutOfMemory = codes "out of memory"

-- the part, the place in it, the cause
abbrev pub build_text : BuildError → List ℕ
build_text e = codes "part " ++ (decimal e.part ++ (codes " " ++ (place_text e.place ++ (codes ": " ++ cause_text e.cause))))

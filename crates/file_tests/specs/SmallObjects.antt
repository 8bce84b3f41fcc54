-- Two small objects, for the tests.
use Rattle.std.specs.Prelude.{[], ◌∷◌, false, codes}
use Rattle.ir_core.specs.declared.target.Architecture.TheVariants.{X86_64}
use Rattle.ir_core.specs.declared.target.BinaryFormat.TheVariants.{Elf}
use Rattle.object_core.specs.declared.kinds.StandardSection.TheVariants as standard
use Rattle.object_core.specs.declared.kinds.SymbolKind.TheVariants as kind
use Rattle.object_core.specs.declared.kinds.SymbolScope.TheVariants as scope
use Rattle.object_core.specs.declared.kinds.SymbolSection.TheVariants as section
use Rattle.object_core.specs.Object.{SymbolData, ObjectData}
use Rattle.object_core.specs.Appending.{empty_object, with_symbol, file_symbol, with_standard_section, with_symbol_data}

-- an object whose source file is `a.o`
abbrev pub file_object : ObjectData
file_object = with_symbol (empty_object Elf X86_64 0) (file_symbol (codes "a.o"))

-- the function that it declares
abbrev pub main_symbol : SymbolData
main_symbol = record { name = codes "main"; value = 0; size = 0; kind = kind.Text; scope = scope.Dynamic; weak = false; section = section.Undefined; no_dead_strip = false }

-- an object that exports the function of one byte
abbrev pub main_object : ObjectData
main_object = with_symbol_data (with_symbol (with_standard_section file_object standard.Text) main_symbol) 1 0 (0xc3 ∷ []) 1

-- What a finished module gives.
use Rattle.std.specs.Prelude.{◌≡◌, ℕ, ◌+◌, Bool, true, List, [], ◌∷◌, ◌++◌, map, length, unwrap_or, Option, Some, None, if◌then◌else◌}
use Rattle.std.specs.List.{enumerate_from, position_or_len}
use Rattle.object_core.specs.declared.kinds.StandardSection.{StandardSection}
use Rattle.object_core.specs.declared.relocation.Relocation.{Relocation}
use Rattle.object_core.specs.Standard.{empty_section}
use Rattle.object_core.specs.Object.{SymbolData, SectionData, ObjectData}
use Rattle.object_core.specs.WellFormed.{IsFormed}
use Rattle.object_core.specs.Appending.{empty_object, with_symbol, file_symbol, with_standard_section, standard_at, with_symbol_data, with_symbol_bss, changed_at}
use Rattle.cranelift_module.specs.declared.identifiers.FuncOrDataId.{FuncOrDataId}
use Rattle.cranelift_module.specs.declared.identifiers.FuncOrDataId.TheVariants.{Func, Data}
use Rattle.cranelift_module.specs.Call.{Contents}
use Rattle.cranelift_module.specs.Definitions.{contents_of, size_of}
use Rattle.cranelift_object.specs.SectionClass.{Class}
use Rattle.cranelift_module.specs.Rows.{FunctionRow, DataRow}
use Rattle.cranelift_module.specs.LinkState.{LinkState}
use Rattle.cranelift_module.specs.Refusal.{is_same_identifier, is_defined}
use Rattle.cranelift_object.specs.Settings.{Settings}
use Rattle.cranelift_object.specs.BuildVersion.{file_version}
use Rattle.cranelift_object.specs.Opened.{ProductData}
use Rattle.cranelift_object.specs.Linked.{object_of, file_flags}

-- the symbol of an identifier: behind that of the file, in order of creation
abbrev pub symbol_number : LinkState → FuncOrDataId → ℕ
symbol_number s id = 1 + position_or_len (is_same_identifier id) s.created

-- the symbol of a function, and whether it is defined
abbrev pub function_mark : LinkState → ℕ → ℕ × Bool
function_mark s id = (symbol_number s (Func id), is_defined s (Func id))

-- the symbol of a data object, and whether it is defined
abbrev pub data_mark : LinkState → ℕ → ℕ × Bool
data_mark s id = (symbol_number s (Data id), is_defined s (Data id))

-- the marks of the functions by number
unfoldable pub function_marks : LinkState → List (ℕ × Bool)
function_marks s = map (λ (row : ℕ × FunctionRow). function_mark s row.0) (enumerate_from 0 s.functions)

-- the marks of the data objects by number
unfoldable pub data_marks : LinkState → List (ℕ × Bool)
data_marks s = map (λ (row : ℕ × DataRow). data_mark s row.0) (enumerate_from 0 s.objects)

-- these are the marks of all functions and data objects
abbrev pub AreMarks : LinkState → List (ℕ × Bool) → List (ℕ × Bool) → Type 0
AreMarks s functions objects = (functions ≡ function_marks s) × (objects ≡ data_marks s)

-- the product of a finished state
abbrev pub product_of : Settings → LinkState → ProductData
product_of settings s = record { object = object_of settings s; functions = function_marks s; data_objects = data_marks s }

-- an object that has a file of its format
pub record IsWritable (o : ObjectData) : Type 0 where
  pub formed : IsFormed o

-- -- on the way to it

-- the object of a target without sections and symbols
abbrev pub fresh_object : LinkState → ObjectData
fresh_object s =
    record (empty_object s.target.triple.binary_format s.target.triple.architecture (file_flags s.target.triple.architecture s.target.flags)) {
      build_version = file_version s.target.triple.binary_format s.target.triple;
    }

-- the object with the symbol of the file's name alone
abbrev pub begun_object : Settings → LinkState → ObjectData
begun_object settings s = with_symbol (fresh_object s) (file_symbol settings.file_name)

-- a section of a class, in which nothing is yet
abbrev pub empty_class : Class → SectionData
empty_class c = record (empty_section c.segment c.name c.kind c.macho_flags c.shared) { retain = c.retain }

-- an object once there is a section of a class that shares this standard section, if any
abbrev pub with_shared_class : ObjectData → Class → Option StandardSection → ObjectData
with_shared_class o class None = record o { sections = o.sections ++ empty_class class ∷ [] }
with_shared_class o class (Some standard) = with_standard_section o standard

-- an object once there is a section of a class
abbrev pub with_class : ObjectData → Class → ObjectData
with_class o class = with_shared_class o class class.shared

-- the number of the section that an object has for this standard section, or of one more
abbrev pub shared_place : ObjectData → Option StandardSection → ℕ
shared_place o None = length o.sections
shared_place o (Some standard) = unwrap_or (standard_at o.sections standard) (length o.sections)

-- the number of the section of a class
abbrev pub class_place : ObjectData → Class → ℕ
class_place o class = shared_place o class.shared

-- an object with contents behind those of a section, and their symbol there; in a section that takes no bytes, with their room alone
abbrev pub with_symbol_contents : Bool → ObjectData → ℕ → ℕ → Contents → ℕ → ObjectData
with_symbol_contents unstored o symbol section contents align =
    if unstored then with_symbol_bss o symbol section (size_of contents) align else with_symbol_data o symbol section (contents_of contents) align

-- a symbol that the linker keeps
abbrev pub kept_symbol : SymbolData → SymbolData
kept_symbol s = record s { no_dead_strip = true }

-- an object of which the linker keeps the symbol of this number, where it is marked
abbrev pub with_kept : Bool → ObjectData → ℕ → ObjectData
with_kept marked o symbol = if marked then record o { symbols = changed_at symbol kept_symbol o.symbols } else o

-- a section with more relocations, behind the others
abbrev pub relocated_by : List Relocation → SectionData → SectionData
relocated_by rs s = record s { relocations = s.relocations ++ rs }

-- an object with more relocations in a section
abbrev pub with_relocations : ObjectData → ℕ → List Relocation → ObjectData
with_relocations o section rs = record o { sections = changed_at section (relocated_by rs) o.sections }

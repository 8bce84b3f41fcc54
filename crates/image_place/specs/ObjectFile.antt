-- The file of a part, and the rows of its identifiers.
use Rattle.std.specs.Prelude.{ℕ, List}
use Rattle.ir_core.specs.declared.target.BinaryFormat.{BinaryFormat}
use Rattle.ir_core.specs.declared.target.BinaryFormat.TheVariants.{Macho}
use Rattle.object_core.specs.Object.{ObjectData}
use Rattle.object_core.specs.ElfRows.{row_in}
use Rattle.object_core.specs.MachRows.{mach_row_in}
use Rattle.cranelift_module.specs.declared.identifiers.FuncOrDataId.{FuncOrDataId}
use Rattle.cranelift_object.specs.Emitted.{IsObjectFile}
use Rattle.cranelift_object.specs.Linked.{object_of, row_of}
use Rattle.cranelift_object.specs.Targets.{identifier}
use Rattle.cranelift_object.specs.Part.{PartData, part_state}

abbrev pub part_object : PartData → ObjectData
part_object part = object_of part.settings (part_state part)

-- the bytes are the file of a part
abbrev pub IsFileOf : PartData → List ℕ → Type 0
IsFileOf part b = IsObjectFile (part_object part) b

-- the row of a symbol of an object in the file, as its image counts it
abbrev pub symbol_row_by : BinaryFormat → ObjectData → ℕ → ℕ
symbol_row_by Macho o number = mach_row_in o.symbols number
symbol_row_by _ o number = row_in o.symbols number

-- the row of an identifier's symbol
abbrev pub definition_row : PartData → FuncOrDataId → ℕ
definition_row part id = symbol_row_by part.target.triple.binary_format (part_object part) (row_of part.settings (part_state part) (identifier id))

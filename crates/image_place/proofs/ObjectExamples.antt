-- The image of a part's object shows the part's definitions.
use Rattle.std.proofs.Common.{◌≡◌, pos, negsuc, true, false, List, [], ◌∷◌, Some, refl, codes, map}
use Rattle.std.specs.Fmt.{digits}
use Rattle.byte_core.specs.Number.{bytes_at}
use Rattle.ir_core.specs.Moments.{moments}
use Rattle.ir_core.specs.declared.target.BinaryFormat.TheVariants.{Elf}
use Rattle.ir_core.specs.declared.reloc.Reloc.TheVariants.{Abs8, X86PCRel4}
use Rattle.cranelift_module.specs.declared.linkage.Linkage.TheVariants.{Import, Local, Export}
use Rattle.cranelift_module.specs.declared.identifiers.FuncOrDataId.TheVariants.{Func}
use Rattle.cranelift_module.specs.declared.reloc.ModuleRelocTarget.TheVariants.{User, FunctionOffset}
use Rattle.cranelift_module.specs.Call.{Call, declare_function, define_function}
use Rattle.cranelift_module.specs.Rows.{functions_of, objects_of, creation}
use Rattle.cranelift_module.specs.Definitions.{definitions_of}
use Rattle.cranelift_module.specs.LinkState.{state_of}
use Rattle.cranelift_object.specs.Placing.{placed, standing_in, section_number, sections_used}
use Rattle.cranelift_object.specs.Targets.{extras}
use Rattle.cranelift_object.specs.Linked.{object_of, symbols_of, sections_of}
use Rattle.object_core.specs.Places.{end_of, joined}
use Rattle.object_core.specs.LinkTable.{ElfTable}
use Rattle.object_core.specs.ElfRows.{elf_table_of, row_in}
use Rattle.object_elf.specs.TableImage.{section_shown as elf_section_for, symbol_shown as elf_symbol_for}
use Rattle.image_read.specs.ElfImage.{ElfImageData}
use Rattle.image_place.specs.Fixups.{absolute8, relative4, own, named}
use Rattle.image_place.specs.Memory.{pieces_of, part_pieces}
use Rattle.image_view.specs.View.{View, elf_view}
use Rattle.image_place.specs.Placed.{AddressRow, definitions_in, view_pieces}
use Rattle.image_place.specs.ObjectFile.{part_object, definition_row}
use Rattle.image_place.proofs.PartExamples.{part, plain}

-- an exported `main` calls the import `h` and names a label in the local `f`, which stands behind it
abbrev calls : List Call
calls =
    declare_function (codes "main") Export plain
    ∷ declare_function (codes "f") Local plain
    ∷ declare_function (codes "h") Import plain
    ∷ define_function 0 1 (0xe8 ∷ 1 ∷ 2 ∷ 3 ∷ 4 ∷ []) (record { offset = 1; kind = X86PCRel4; name = User 0 2; addend = negsuc 3 } ∷ [])
    ∷ define_function 1 8 (1 ∷ 2 ∷ 3 ∷ 4 ∷ 5 ∷ 6 ∷ 7 ∷ 8 ∷ []) (record { offset = 0; kind = Abs8; name = FunctionOffset 1 4; addend = pos 2 } ∷ [])
    ∷ []

-- its image, but for the sections that the file adds
abbrev image_of : ElfTable → ElfImageData
image_of t = record { machine = t.machine; flags = t.flags; sections = map elf_section_for t.sections; symbols = map elf_symbol_for t.symbols; local_symbols = t.locals }

abbrev the_view : View
the_view = elf_view (image_of (elf_table_of (part_object (part Elf calls))))

-- rows: null, file, `f`, the label, `main`, `h`
abbrev rows : List AddressRow
rows = record { image = 0; symbol = 2; address = 8192; size = 8 } ∷ record { image = 0; symbol = 4; address = 4096; size = 5 } ∷ []

the_rows : (definition_row (part Elf calls) (Func 0) ≡ 4) × (definition_row (part Elf calls) (Func 1) ≡ 2)
unfolding state_of functions_of objects_of creation definitions_of moments placed standing_in section_number sections_used extras symbols_of sections_of object_of elf_table_of row_in end_of joined digits
the_rows = (refl, refl)

shown_pieces : view_pieces rows 0 the_view
    ≡ record { key = 2; name = Some (codes "f"); exported = false; contents = 1 ∷ 2 ∷ 3 ∷ 4 ∷ 5 ∷ 6 ∷ 7 ∷ 8 ∷ []; fixups = record { offset = 0; kind = Some absolute8; goal = own 2 4; addend = pos 2 } ∷ [] }
    ∷ record { key = 4; name = Some (codes "main"); exported = true; contents = 0xe8 ∷ 1 ∷ 2 ∷ 3 ∷ 4 ∷ []; fixups = record { offset = 1; kind = Some relative4; goal = named (codes "h"); addend = negsuc 3 } ∷ [] }
    ∷ []
unfolding view_pieces definitions_in elf_view bytes_at state_of functions_of objects_of creation definitions_of moments placed standing_in section_number sections_used extras symbols_of sections_of object_of elf_table_of row_in end_of joined digits
shown_pieces = refl

pieces : part_pieces (part Elf calls)
    ≡ record { key = Func 0; name = Some (codes "main"); exported = true; contents = 0xe8 ∷ 1 ∷ 2 ∷ 3 ∷ 4 ∷ []; fixups = record { offset = 1; kind = Some relative4; goal = named (codes "h"); addend = negsuc 3 } ∷ [] }
    ∷ record { key = Func 1; name = Some (codes "f"); exported = false; contents = 1 ∷ 2 ∷ 3 ∷ 4 ∷ 5 ∷ 6 ∷ 7 ∷ 8 ∷ []; fixups = record { offset = 0; kind = Some absolute8; goal = own (Func 1) 4; addend = pos 2 } ∷ [] }
    ∷ []
unfolding pieces_of state_of functions_of objects_of creation definitions_of moments
pieces = refl

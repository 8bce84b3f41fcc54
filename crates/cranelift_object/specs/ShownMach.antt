-- What the symbol table of a part's Mach-O file shows of the part's declarations: Apple's mach-o/nlist.h.
use Rattle.std.specs.Prelude.{◌≡◌, ℕ, ◌/◌, ◌%◌, ◌==◌, List, ◌∷◌, map, slice_get, Some, option_map, if◌then◌else◌}
use Rattle.ir_core.specs.Target.{Target}
use Rattle.object_core.specs.MachRows.{macho_table_of, mach_row_in}
use Rattle.object_core.specs.LinkTable.{MachTable}
use Rattle.image_read.specs.MachImage.{MachSymbolData}
use Rattle.object_macho.specs.TableImage.{symbol_shown}
use Rattle.cranelift_module.specs.declared.linkage.Linkage.{Linkage}
use Rattle.cranelift_module.specs.declared.linkage.Linkage.TheVariants.{Import, Local, Hidden, Preemptible, Export}
use Rattle.cranelift_module.specs.declared.identifiers.FuncOrDataId.{FuncOrDataId}
use Rattle.cranelift_module.specs.Call.{Call}
use Rattle.cranelift_module.specs.Marks.{linkage_of, name_of}
use Rattle.cranelift_module.specs.LinkState.{LinkState, state_of}
use Rattle.cranelift_object.specs.Settings.{Settings}
use Rattle.cranelift_object.specs.Targets.{identifier}
use Rattle.cranelift_object.specs.Linked.{object_of, row_of}

-- the linkage that a row's type and desc tell: without N_EXT 1 it is Local, with N_PEXT 0x10 Hidden, with N_WEAK_REF 0x40 or
-- N_WEAK_DEF 0x80 Preemptible, N_UNDF 0 beside N_EXT is Import, and any other row Export
abbrev pub linkage_told : ℕ → ℕ → Linkage
linkage_told n_type desc = if n_type % 2 == 0 then Local else if n_type / 16 == 1 then Hidden else if desc / 64 == 0 then (if n_type == 1 then Import else Export) else Preemptible

abbrev pub mach_linkage_shown : MachSymbolData → Linkage
mach_linkage_shown row = linkage_told row.n_type row.desc

-- the link table of a part's file
abbrev pub mach_table_for : Settings → Target → List Call → MachTable
mach_table_for settings target calls = macho_table_of (object_of settings (state_of target calls))

-- the row of an identifier in that table, counted from 0
abbrev pub mach_identifier_row : Settings → LinkState → FuncOrDataId → ℕ
mach_identifier_row settings s id = mach_row_in (object_of settings s).symbols (row_of settings s (identifier id))

-- among these rows that of this number has the name of an identifier behind an underscore, and shows its linkage
pub record MachShowsIdentifier (rows : List MachSymbolData) (number : ℕ) (calls : List Call) (id : FuncOrDataId) : Type 0 where
  pub row : MachSymbolData
  pub at : slice_get rows number ≡ Some row
  pub name : option_map (λ (name : List ℕ). 0x5f ∷ name) (name_of calls id) ≡ Some row.name
  pub linkage : linkage_of calls id ≡ Some (mach_linkage_shown row)

-- the rows show each identifier that the calls declare: its name, and the greatest linkage of its declarations
abbrev pub MachShowLinkages : Settings → Target → List Call → List MachSymbolData → Type 0
MachShowLinkages settings target calls rows = (id : FuncOrDataId) (linkage : Linkage) → linkage_of calls id ≡ Some linkage → MachShowsIdentifier rows (mach_identifier_row settings (state_of target calls) id) calls id

-- the rows of the part's link table, as a reader shows them
abbrev pub mach_table_rows : Settings → Target → List Call → List MachSymbolData
mach_table_rows settings target calls = map symbol_shown (mach_table_for settings target calls).symbols

-- What the symbol table of a part's ELF file shows of the part's declarations: System V gABI, "Symbol Table".
use Rattle.std.specs.Prelude.{◌≡◌, ℕ, ◌-◌, ◌/◌, ◌==◌, List, map, slice_get, Some, None, if◌then◌else◌}
use Rattle.ir_core.specs.Target.{Target}
use Rattle.object_core.specs.ElfRows.{elf_table_of, row_in}
use Rattle.object_core.specs.LinkTable.{ElfTable}
use Rattle.image_read.specs.ElfImage.{ElfSymbolData}
use Rattle.object_elf.specs.TableImage.{symbol_shown}
use Rattle.cranelift_module.specs.declared.linkage.Linkage.{Linkage}
use Rattle.cranelift_module.specs.declared.linkage.Linkage.TheVariants.{Import, Local, Hidden, Preemptible, Export}
use Rattle.cranelift_module.specs.declared.identifiers.FuncOrDataId.{FuncOrDataId}
use Rattle.cranelift_module.specs.Call.{Call}
use Rattle.cranelift_module.specs.Marks.{linkage_of, name_of}
use Rattle.cranelift_module.specs.LinkState.{LinkState, state_of}
use Rattle.cranelift_object.specs.Settings.{Settings}
use Rattle.cranelift_object.specs.Targets.{identifier}
use Rattle.cranelift_object.specs.Linked.{object_of, row_of}
use Rattle.cranelift_object.specs.EndCause.{end_cause}
use Rattle.cranelift_object.specs.Part.{first_refused}

-- the linkage that a row shows: STB_LOCAL 0 is Local, STB_WEAK 2 Preemptible, STV_HIDDEN 2 Hidden, SHN_UNDEF 0 Import, and any other row Export
abbrev pub linkage_shown : ElfSymbolData → Linkage
linkage_shown row = if row.info / 16 == 0 then Local else if row.info / 16 == 2 then Preemptible else if row.other == 2 then Hidden else if row.shndx == 0 then Import else Export

-- each call is accepted behind those before it, and the module can be finished behind them all
pub record IsFinished (target : Target) (calls : List Call) : Type 0 where
  pub accepted : first_refused target calls ≡ None
  pub ended : end_cause (state_of target calls) ≡ None

-- the link table of a part's file
abbrev pub table_for : Settings → Target → List Call → ElfTable
table_for settings target calls = elf_table_of (object_of settings (state_of target calls))

-- the row of an identifier in that table, counted with the null row
abbrev pub identifier_row : Settings → LinkState → FuncOrDataId → ℕ
identifier_row settings s id = row_in (object_of settings s).symbols (row_of settings s (identifier id))

-- among these rows behind the null row, that of this number has the name of an identifier and shows its linkage
pub record ShowsIdentifier (rows : List ElfSymbolData) (number : ℕ) (calls : List Call) (id : FuncOrDataId) : Type 0 where
  pub row : ElfSymbolData
  pub at : slice_get rows (number - 1) ≡ Some row
  pub name : name_of calls id ≡ Some row.name
  pub linkage : linkage_of calls id ≡ Some (linkage_shown row)

-- the rows show each identifier that the calls declare: its name, and the greatest linkage of its declarations
abbrev pub ShowLinkages : Settings → Target → List Call → List ElfSymbolData → Type 0
ShowLinkages settings target calls rows = (id : FuncOrDataId) (linkage : Linkage) → linkage_of calls id ≡ Some linkage → ShowsIdentifier rows (identifier_row settings (state_of target calls) id) calls id

-- the rows of the part's link table, as a reader shows them
abbrev pub table_rows : Settings → Target → List Call → List ElfSymbolData
table_rows settings target calls = map symbol_shown (table_for settings target calls).symbols

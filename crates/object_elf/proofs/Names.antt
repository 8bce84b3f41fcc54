-- The names of sections are texts.
use Rattle.std.proofs.Common.{◌≡◌, ℕ, refl, Some, slice_get}
use Rattle.object_core.specs.LinkTable.{ElfTable}
use Rattle.object_elf.specs.Layout.{Part, section_names, parts_of}
use Rattle.object_elf.specs.Fitting.{FitsElf, IsText}
use Rattle.byte_core.proofs.Lists.{get_map}
use Rattle.object_elf.specs.PartView.{part_name}
use Rattle.object_elf.proofs.PartCases.{names_of_parts, PartCase, Relocates}
use Rattle.object_elf.proofs.PartCases.PartCase.{is_content, is_note, is_relocations, is_symbols, is_symbol_strings, is_section_strings}

relocation_text : (t : ElfTable) (j : ℕ) (p : Part) → FitsElf t → Relocates t 1 t.sections j p → IsText p.name
relocation_text t j p f r = rw (← r.part) (f.sections r.number r.section r.at).name

pub part_text : (t : ElfTable) (k : ℕ) (p : Part) → FitsElf t → PartCase t k p → IsText p.name
part_text t k p f (is_content s at same) = rw (← same) (f.sections k s at).name
part_text t k p f (is_note same) = rw (← same) refl
part_text t k p f (is_relocations j at r) = relocation_text t j p f r
part_text t k p f (is_symbols at same) = rw (← same) refl
part_text t k p f (is_symbol_strings at same) = rw (← same) refl
part_text t k p f (is_section_strings at same) = rw (← same) refl

pub part_name_get : (t : ElfTable) (k : ℕ) (p : Part) → slice_get (parts_of t) k ≡ Some p → slice_get (section_names t) k ≡ Some p.name
part_name_get t k p e = rw (← names_of_parts t) (get_map part_name (parts_of t) k p e)

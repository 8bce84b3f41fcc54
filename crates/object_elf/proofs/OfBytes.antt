-- A table that a file of bytes holds is a table of bytes.
use Rattle.std.proofs.Common.{◌≡◌, ℕ, ◌+◌, ◌<◌, List, [], ◌∷◌, ◌++◌, map, refl, Some, Bool, true, false, slice_get, subst, codes}
use Rattle.std.specs.Prelude.{filter}
use Rattle.std.specs.List.{All}
use Rattle.std.proofs.lemmas.List.Elements.{All-nil}
use Rattle.byte_core.proofs.Bytes.{IsByte, AreBytes, all_front, all_mapped, all_each, bytes_read, names_from}
use Rattle.object_core.specs.LinkTable.{ElfTable, ElfTableSection, ElfTableSymbol}
use Rattle.image_read.specs.ElfFile.{ElfSectionRow, has_bytes, stored_bytes}
use Rattle.object_elf.specs.Layout.{is_relocated, relocation_name, section_names, symbol_names}
use Rattle.object_elf.specs.ElfHolds.{ElfHolds, row_at}
use Rattle.object_elf.specs.Fitting.{FitsElf, IsOfBytes}
use Rattle.object_elf.specs.File.{elf_file}
use Rattle.object_elf.specs.TableImage.{image_for, ReadsOnly}
use Rattle.object_elf.proofs.Bytes.{bytes-elf_file}
use Rattle.object_elf.proofs.Holds.{file_holds}
use Rattle.object_elf.proofs.TableImage.{only_image}
use Rattle.object_elf.proofs.Uniqueness.{one_file}

stored_by : (b : List ℕ) (row : ElfSectionRow) (yes : Bool) → has_bytes row ≡ yes → AreBytes b → AreBytes (stored_bytes b row)
stored_by b row true e h = rw e (bytes_read b row.offset row.size h)
stored_by b row false e h = rw e (All-nil IsByte)

own_names : (t : ElfTable) → All AreBytes (section_names t) → All (λ (s : ElfTableSection). AreBytes s.name) t.sections
unfolding section_names
own_names t h =
    let own = map (λ (s : ElfTableSection). s.name) t.sections in
    let middle = codes ".note.GNU-stack" ∷ map relocation_name (filter is_relocated t.sections) in
    let back = codes ".symtab" ∷ codes ".strtab" ∷ codes ".shstrtab" ∷ [] in
    all_mapped AreBytes (λ (s : ElfTableSection). s.name) t.sections (all_front AreBytes own middle (all_front AreBytes (own ++ middle) back h))

held_contents : (t : ElfTable) (b : List ℕ) → AreBytes b → ElfHolds b t → (k : ℕ) (s : ElfTableSection) → slice_get t.sections k ≡ Some s → AreBytes s.contents
held_contents t b bytes h k s e = subst AreBytes (h.contents k s e) (stored_by b (row_at b t (k + 1)) (has_bytes (row_at b t (k + 1))) refl bytes)

pub held_bytes : (t : ElfTable) (b : List ℕ) → AreBytes b → ElfHolds b t → IsOfBytes t
held_bytes t b bytes h = record {
  contents = all_each (λ (s : ElfTableSection). AreBytes s.contents) t.sections (held_contents t b bytes h);
  section_names = own_names t (names_from b (section_names t) _ _ bytes h.section_texts);
  symbol_names = all_mapped AreBytes (λ (s : ElfTableSymbol). s.name) t.symbols (names_from b (symbol_names t) _ _ bytes h.symbol_texts);
}

-- it is the file of the table
pub held_is_file : (t : ElfTable) (b : List ℕ) → FitsElf t → AreBytes b → ElfHolds b t → b ≡ elf_file t
held_is_file t b f bytes h = one_file t b (elf_file t) f bytes (bytes-elf_file t (held_bytes t b bytes h)) h (file_holds t f)

pub held_image : (t : ElfTable) (b : List ℕ) → FitsElf t → All (λ x. x < 256) b → ElfHolds b t → ReadsOnly b (image_for t)
held_image t b f bytes h = only_image t b f (held_is_file t b f bytes h)

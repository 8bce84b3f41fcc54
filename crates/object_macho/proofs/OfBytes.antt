-- A table that a file of bytes holds has names and written contents of bytes, so the file is the table's.
use Rattle.std.proofs.Common.{◌≡◌, ℕ, ◌+◌, ◌*◌, ◌<◌, List, Some, slice_get, subst}
use Rattle.std.specs.List.{All}
use Rattle.byte_core.proofs.Bytes.{IsByte, AreBytes, all_front, all_mapped, all_each, bytes_read, names_from}
use Rattle.object_core.specs.LinkTable.{MachTable, MachTableSection, MachTableSymbol}
use Rattle.image_read.specs.MachFile.{MachSectionRow, mach_section_row_at}
use Rattle.object_macho.specs.Layout.{stored_contents, mach_names}
use Rattle.object_macho.specs.MachHolds.{MachHolds}
use Rattle.object_macho.specs.Fitting.{FitsMach}
use Rattle.object_macho.specs.File.{mach_file}
use Rattle.object_macho.specs.TableImage.{image_for, ReadsOnly}
use Rattle.object_macho.proofs.Bytes.{AreWrittenBytes, bytes-written}
use Rattle.object_macho.proofs.Holds.{file_holds}
use Rattle.object_macho.proofs.TableImage.{only_image}
use Rattle.object_macho.proofs.Uniqueness.{one_file}

row_names : (b : List ℕ) (p : ℕ) → AreBytes b → AreBytes (mach_section_row_at b p).name × AreBytes (mach_section_row_at b p).segment
unfolding mach_section_row_at
row_names b p h = (bytes_read b p 16 h, bytes_read b (p + 16) 16 h)

held_segment : (t : MachTable) (b : List ℕ) → AreBytes b → MachHolds b t → (k : ℕ) (s : MachTableSection) → slice_get t.sections k ≡ Some s → AreBytes s.segment
held_segment t b bytes h k s e = all_front IsByte s.segment _ (subst (λ (r : MachSectionRow). AreBytes r.segment) (h.sections k s e) (row_names b (32 + 72 + 80 * k) bytes).1)

held_name : (t : MachTable) (b : List ℕ) → AreBytes b → MachHolds b t → (k : ℕ) (s : MachTableSection) → slice_get t.sections k ≡ Some s → AreBytes s.name
held_name t b bytes h k s e = all_front IsByte s.name _ (subst (λ (r : MachSectionRow). AreBytes r.name) (h.sections k s e) (row_names b (32 + 72 + 80 * k) bytes).0)

held_bytes : (t : MachTable) (b : List ℕ) → AreBytes b → MachHolds b t → AreWrittenBytes t
held_bytes t b bytes h = record {
  contents = all_each (λ (s : MachTableSection). AreBytes (stored_contents t.cputype s)) t.sections (λ k s e. subst AreBytes (h.contents k s e) (bytes_read b _ _ bytes));
  segments = all_each (λ (s : MachTableSection). AreBytes s.segment) t.sections (held_segment t b bytes h);
  section_names = all_each (λ (s : MachTableSection). AreBytes s.name) t.sections (held_name t b bytes h);
  symbol_names = all_mapped AreBytes (λ (s : MachTableSymbol). s.name) t.symbols (names_from b (mach_names t) _ _ bytes h.strings);
}

-- it is the file of the table
held_is_file : (t : MachTable) (b : List ℕ) → FitsMach t → AreBytes b → MachHolds b t → b ≡ mach_file t
held_is_file t b f bytes h = one_file t b (mach_file t) f bytes (bytes-written t (held_bytes t b bytes h)) h (file_holds t f)

pub held_image : (t : MachTable) (b : List ℕ) → FitsMach t → All (λ x. x < 256) b → MachHolds b t → ReadsOnly b (image_for t)
held_image t b f bytes h = only_image t b f (held_is_file t b f bytes h)

-- Where header, contents, padding and section headers stand in the file of a table.
use Rattle.std.proofs.Common.{◌≡◌, ℕ, suc, ◌+◌, ◌-◌, List, [], ◌∷◌, ◌++◌, length, take, refl, ap, sym, ◌∙◌, arith, length-append, Some, slice_get, replicate}
use Rattle.std.specs.Prelude.{flat_map}
use Rattle.std.specs.Int.{next_multiple_of}
use Rattle.byte_core.specs.Fields.{field_bytes}
use Rattle.byte_core.specs.LaidOut.{Aligned, end_of_aligned, laid_out}
use Rattle.byte_core.proofs.Standing.{StandsAt, stands_front, stands_behind, stands_left, stands_right, length-rows, length-field_bytes}
use Rattle.byte_core.proofs.LaidOut.{zeros, length-zeros, length-laid_out, contents_stand}
use Rattle.object_core.specs.LinkTable.{ElfTable}
use Rattle.image_read.specs.ElfFile.{ElfHeader}
use Rattle.object_elf.specs.Layout.{Part, parts_of, end_after, end_of_parts, start_of, headers_start, file_length}
use Rattle.object_elf.specs.ElfHolds.{header_for}
use Rattle.object_elf.specs.File.{header_fields, header_bytes, section_row_bytes, section_rows, section_rows_from, contents_of, elf_file}
use Rattle.object_elf.specs.Fitting.{FitsElf}
use Rattle.object_elf.proofs.Rows.{length-section_row_bytes}
use Rattle.object_elf.proofs.Parts.{FitsPart, FitParts, fit_take, fit_end, fit_part, fit_table}

-- ---- the pieces of a file of any parts

pub length-header_bytes : (h : ElfHeader) → length h.ident ≡ 16 → length (header_bytes h) ≡ 64
length-header_bytes h e = omega (arith, length-append h.ident (field_bytes (header_fields h)), length-field_bytes (header_fields h), e)

-- the contents end where the parts do
pub end_is : (t : ElfTable) → FitsElf t → (k : ℕ) → end_of_aligned 64 (take k (contents_of t)) ≡ end_of_parts (take k (parts_of t))
unfolding end_of_parts
end_is t f k = sym (fit_end 64 (take k (parts_of t)) (take k (contents_of t)) (fit_take (parts_of t) (contents_of t) k (fit_table t f)))

pub whole_end_by : (t : ElfTable) → FitParts (parts_of t) (contents_of t) → end_of_aligned 64 (contents_of t) ≡ end_of_parts (parts_of t)
unfolding end_of_parts
whole_end_by t f = sym (fit_end 64 (parts_of t) (contents_of t) f)

pub whole_end_is : (t : ElfTable) → FitsElf t → end_of_aligned 64 (contents_of t) ≡ end_of_parts (parts_of t)
whole_end_is t f = whole_end_by t (fit_table t f)

abbrev gap_of : ElfTable → List ℕ
gap_of t = replicate (headers_start t - end_of_parts (parts_of t)) 0

abbrev rows_of : ElfTable → List ℕ
rows_of t = flat_map section_row_bytes (section_rows (parts_of t))

pub header_here : (t : ElfTable) → StandsAt (elf_file t) (header_bytes (header_for t)) 0
unfolding elf_file
header_here t = stands_front (header_bytes (header_for t)) (laid_out 64 (contents_of t) ++ (gap_of t ++ rows_of t))

behind_header : (t : ElfTable) → StandsAt (elf_file t) (laid_out 64 (contents_of t) ++ (gap_of t ++ rows_of t)) 64
unfolding elf_file
behind_header t = stands_behind (header_bytes (header_for t)) (laid_out 64 (contents_of t) ++ (gap_of t ++ rows_of t)) 64 (length-header_bytes (header_for t) refl)

pub contents_here : (t : ElfTable) → StandsAt (elf_file t) (laid_out 64 (contents_of t)) 64
contents_here t = stands_left (elf_file t) (laid_out 64 (contents_of t)) (gap_of t ++ rows_of t) 64 (behind_header t)

behind_contents : (t : ElfTable) → FitsElf t → StandsAt (elf_file t) (gap_of t ++ rows_of t) (end_of_parts (parts_of t))
behind_contents t f =
    stands_right (elf_file t) (laid_out 64 (contents_of t)) (gap_of t ++ rows_of t) 64 (end_of_parts (parts_of t)) (behind_header t)
    (length-laid_out 64 (contents_of t) ∙ whole_end_is t f)

pub gap_here : (t : ElfTable) → FitsElf t → StandsAt (elf_file t) (gap_of t) (end_of_parts (parts_of t))
gap_here t f = stands_left (elf_file t) (gap_of t) (rows_of t) (end_of_parts (parts_of t)) (behind_contents t f)

pub rows_here : (t : ElfTable) → FitsElf t → StandsAt (elf_file t) (rows_of t) (headers_start t)
rows_here t f =
    stands_right (elf_file t) (gap_of t) (rows_of t) (end_of_parts (parts_of t)) (headers_start t) (behind_contents t f)
    (omega (arith, length-zeros (headers_start t - end_of_parts (parts_of t))))

-- ---- the length

pub length-section_rows_from : (place end : ℕ) (ps : List Part) → length (section_rows_from place end ps) ≡ length ps
unfolding section_rows_from
length-section_rows_from place end [] = refl
length-section_rows_from place end (p ∷ ps) = ap suc (length-section_rows_from (place + (length p.name + 1)) (end_after end p) ps)

pub length-elf_file : (t : ElfTable) → FitsElf t → length (elf_file t) ≡ file_length t
unfolding elf_file
length-elf_file t f =
    omega (
      arith,
      length-append (header_bytes (header_for t)) (laid_out 64 (contents_of t) ++ (gap_of t ++ rows_of t)),
      length-append (laid_out 64 (contents_of t)) (gap_of t ++ rows_of t),
      length-append (gap_of t) (rows_of t),
      length-header_bytes (header_for t) refl,
      length-laid_out 64 (contents_of t),
      whole_end_is t f,
      length-zeros (headers_start t - end_of_parts (parts_of t)),
      length-rows section_row_bytes 64 length-section_row_bytes (section_rows (parts_of t)),
      length-section_rows_from 1 64 (parts_of t),
    )

-- ---- the contents of a part

-- contents k stand where part k starts, behind zeros
pub record StandsIn (t : ElfTable) (k : ℕ) (c : Aligned) : Type 0 where
  pub part : Part
  pub at : slice_get (parts_of t) k ≡ Some part
  pub fits : FitsPart part c
  pub gap : StandsAt (elf_file t) (zeros (start_of (parts_of t) k part - end_of_parts (take k (parts_of t)))) (end_of_parts (take k (parts_of t)))
  pub here : StandsAt (elf_file t) c.bytes (start_of (parts_of t) k part)

pub stands_in : (t : ElfTable) → FitsElf t → (k : ℕ) (c : Aligned) → slice_get (contents_of t) k ≡ Some c → StandsIn t k c
stands_in t f k c e =
    let part = fit_part (parts_of t) (contents_of t) k c (fit_table t f) e in
    let stand = contents_stand (elf_file t) 64 (contents_of t) k c (contents_here t) e in
    let end : end_of_aligned 64 (take k (contents_of t)) ≡ end_of_parts (take k (parts_of t)) = end_is t f k in
    let start : start_of (parts_of t) k part.0 ≡ next_multiple_of (end_of_parts (take k (parts_of t))) c.align = part.2.start (end_of_parts (take k (parts_of t))) in
    record {
      part = part.0;
      at = part.1;
      fits = part.2;
      gap = rw start (rw end at stand.gap);
      here = rw start (rw end at stand.here);
    }

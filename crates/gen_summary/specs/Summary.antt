-- The line that is told of a generated part, by what its file is read as.
use Rattle.std.specs.Prelude.{◌≡◌, ℕ, ◌+◌, ◌<◌, ◌++◌, List, length, sum_by, codes, decimal}
use Rattle.std.specs.List.{All}
use Rattle.image_read.specs.ElfImage.{ElfImageData, ElfSectionData, ElfReads}
use Rattle.cranelift_object.specs.Emitted.{FileHolds}
use Rattle.cranelift_object.specs.Linked.{link_table}
use Rattle.cranelift_object.specs.Part.{PartData, part_state}
use Rattle.part_gen.specs.Generated.{generated}

-- the bytes are the file of a part: they hold its link table
abbrev pub IsFileOf : PartData → List ℕ → Type 0
IsFileOf part b = FileHolds b (link_table part.settings (part_state part))

abbrev pub section_relocations : ElfSectionData → ℕ
section_relocations s = length s.relocations

-- the relocations of all sections
abbrev pub relocation_count : ElfImageData → ℕ
relocation_count image = sum_by section_relocations image.sections

-- n functions and as many data objects, and what the reader sees in a file of this length; the null section and the null symbol,
-- which an image leaves out, are counted
abbrev pub summary_line : ℕ → ElfImageData → ℕ → List ℕ
summary_line n image len =
    codes "functions " ++ (decimal n ++ (codes " data " ++ (decimal n ++ (codes " sections " ++ (decimal (length image.sections + 1)
    ++ (codes " symbols " ++ (decimal (length image.symbols + 1) ++ (codes " relocations " ++ (decimal (relocation_count image) ++ (codes " bytes " ++ decimal len))))))))))

-- the line of a file: it tells the image that the file is read as
pub record IsSummaryOf (n : ℕ) (bytes text : List ℕ) : Type 0 where
  pub image : ElfImageData
  pub reads : ElfReads bytes image
  pub text_is : text ≡ summary_line n image (length bytes)

-- the line of the file of the part that a seed and a count give
pub record IsSummary (seed n : ℕ) (text : List ℕ) : Type 0 where
  pub bytes : List ℕ
  pub are_bytes : All (λ x. x < 256) bytes
  pub file : IsFileOf (generated seed n) bytes
  pub summary : IsSummaryOf n bytes text

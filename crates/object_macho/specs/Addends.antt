-- The addend of a record, read back from an image: Apple's mach-o/x86_64/reloc.h and mach-o/arm64/reloc.h.
use Rattle.std.specs.Prelude.{ℕ, zero, suc, ◌-◌, ◌*◌, ◌^◌, ◌==◌, ◌&&◌, nat_lt, ℤ, pos, negsuc, ◌+ℤ◌, List, slice_get, Option, Some, None, if◌then◌else◌}
use Rattle.byte_core.specs.Number.{number_at}
use Rattle.ir_core.specs.MachO.{x86_64_cputype, is_in_field, is_in_record}
use Rattle.image_read.specs.MachFile.{MachRelocationRow}
use Rattle.image_read.specs.MachImage.{MachSectionData}

-- a number of so many bits in two's complement
abbrev pub signed_of : ℕ → ℕ → ℤ
signed_of bits n = if nat_lt n (2 ^ (bits - 1)) then pos n else negsuc (2 ^ bits - suc n)

-- the number in the field of a record; on x86_64 the end of a relative field's four bytes is where it counts from
abbrev pub number_in_field : ℕ → List ℕ → MachRelocationRow → ℤ
number_in_field cputype contents r =
    let n = signed_of (8 * 2 ^ r.length) (number_at contents r.address (2 ^ r.length)) in
    if r.pcrel && cputype == x86_64_cputype then n +ℤ negsuc 3 else n

-- ARM64_RELOC_ADDEND 10 keeps an addend in 24 bits, any other record none
abbrev pub addend_kept : Option MachRelocationRow → ℤ
addend_kept None = pos 0
addend_kept (Some r) = if r.r_type == 10 then signed_of 24 r.symbolnum else pos 0

-- the record before record m
abbrev pub record_before : List MachRelocationRow → ℕ → Option MachRelocationRow
record_before records zero = None
record_before records (suc m) = slice_get records m

abbrev pub addend_by : ℕ → MachSectionData → ℕ → Option MachRelocationRow → ℤ
addend_by cputype s m None = pos 0
addend_by cputype s m (Some r) =
    if is_in_field cputype r.r_type then number_in_field cputype s.contents r
    else if is_in_record cputype r.r_type then addend_kept (record_before s.relocations m)
    else pos 0

-- the addend of record m of a section, in a file for this processor
unfoldable pub addend_read : ℕ → MachSectionData → ℕ → ℤ
addend_read cputype s m = addend_by cputype s m (slice_get s.relocations m)

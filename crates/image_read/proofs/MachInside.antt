-- Rows of a Mach-O file lie in the file.
use Rattle.std.proofs.Common.{◌≡◌, ℕ, ◌+◌, ◌*◌, ◌<◌, ◌≤◌, List, length, arith}
use Rattle.image_read.specs.ElfRows.{EachRow}
use Rattle.image_read.specs.MachFile.{command_at, command_place, commands_end, segment_at, section_count}
use Rattle.image_read.specs.MachImage.{IsCommand}
use Rattle.image_read.specs.MachRows.{IsFound, IsSectionTable}
use Rattle.image_read.proofs.MachCommands.{place_by_command}
use Rattle.image_read.specs.declared.mach.sections.SectionTable.{SectionTable}

pub command_inside : (b : List ℕ) (n k p : ℕ) → EachRow (IsCommand b) 0 n → k < n → p ≡ command_place b k → commands_end b ≤ length b
    → p + 8 ≤ length b
command_inside b n k p each below h area =
    let c = place_by_command b p k h (each.at k (omega arith) below) in
    omega (arith, c.size, c.inside, area)

-- and the next begins where it ends
pub command_within : (b : List ℕ) (n k p : ℕ) → EachRow (IsCommand b) 0 n → k < n → p ≡ command_place b k → commands_end b ≤ length b
    → p + (command_at b p).cmdsize ≤ length b
command_within b n k p each below h area =
    let c = place_by_command b p k h (each.at k (omega arith) below) in
    omega (arith, c.inside, area)

pub segment_inside : (b : List ℕ) (p : ℕ) → IsFound b 0x19 p → p + 72 + 80 * (segment_at b p).nsects ≤ length b
segment_inside b p f = omega (arith, f.command.room.segment f.number, f.inside)

pub symtab_inside : (b : List ℕ) (p : ℕ) → IsFound b 2 p → p + 24 ≤ length b
symtab_inside b p f = omega (arith, f.command.room.symtab f.number, f.inside)

pub version_inside : (b : List ℕ) (p : ℕ) → IsFound b 0x32 p → p + 24 ≤ length b
version_inside b p f = omega (arith, f.command.room.version f.number, f.inside)

pub section_inside : (b : List ℕ) (t : SectionTable) (k : ℕ) → IsSectionTable b t → k < section_count b → t.segment + 72 + 80 * k + 80 ≤ length b
section_inside b t k h below = omega (arith, h.inside (omega (arith, h.count, below)), h.count, below)

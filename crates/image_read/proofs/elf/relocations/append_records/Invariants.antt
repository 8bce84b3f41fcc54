use Rattle.std.proofs.Common.{◌≡◌, ◌++◌, map}
use Rattle.std.specs.List.{range_with_len}
use Rattle.image_read.specs.ElfFile.{relocation_row}
use Rattle.image_read.specs.Views.{relocation_of}
use Rattle.image_read.proofs.elf.relocations.append_records.Given as goal

abbrev pub invariant-loop-m : goal.invariant-loop-m
invariant-loop-m l = map relocation_of l.records.items ≡ map relocation_of l.fn.records.items ++ map (relocation_row l.file l.j) (range_with_len 0 l.m)

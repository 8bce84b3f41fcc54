use Rattle.std.proofs.Common.{◌≡◌, ◌-◌, map}
use Rattle.std.specs.List.{range_with_len}
use Rattle.image_read.specs.ElfImage.{symbol_data}
use Rattle.image_read.specs.Views.{symbol_of}
use Rattle.image_read.proofs.elf.symbols.symbols_of.Given as goal

abbrev pub invariant-loop-m : goal.invariant-loop-m
invariant-loop-m l = map symbol_of l.symbols.items ≡ map (symbol_data l.file l.table.number) (range_with_len 1 (l.m - 1))

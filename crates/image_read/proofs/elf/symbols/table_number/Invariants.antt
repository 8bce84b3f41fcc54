use Rattle.std.proofs.Common.{◌≡◌, ◌==◌, ◌-◌, find}
use Rattle.std.specs.List.{range_with_len}
use Rattle.image_read.specs.ElfFile.{header_of, section_row, symbol_table}
use Rattle.image_read.specs.ElfRows.{EachRow, IsNoTable}
use Rattle.image_read.proofs.elf.symbols.table_number.Given as goal

abbrev pub invariant-loop-k : goal.invariant-loop-k
invariant-loop-k l = record {
  none : EachRow (IsNoTable l.file) 1 l.k;
  value : symbol_table l.file ≡ find (λ n. (section_row l.file n).sh_type == 2) (range_with_len l.k ((header_of l.file).shnum - l.k));
}

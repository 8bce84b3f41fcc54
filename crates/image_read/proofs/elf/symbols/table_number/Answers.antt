use Rattle.std.proofs.Common.{refl, arith}
use Rattle.image_read.specs.ElfFile.{symbol_table}
use Rattle.image_read.proofs.Rows.{each_none}
use Rattle.image_read.proofs.elf.symbols.table_number.Goals as goal

pub loop-k-init : goal.loop-k-init
unfolding symbol_table
loop-k-init c = record { none = each_none _ _ _ (omega arith); value = refl }

use Rattle.std.proofs.Common.{refl}
use Rattle.image_read.proofs.Judging.{table_from}
use Rattle.image_read.proofs.elf.symbols.is_symbol_table.Goals as goal

pub returns-then-is_only_table : goal.returns-then-is_only_table
returns-then-is_only_table c = (
  λ symbols. table_from _ _ c.requires (c.if-is_only_table.ensures.0 refl) (c.are_symbols.ensures.0 symbols),
  λ table. c.are_symbols.ensures.1 (record { at = table.symbols }),
)

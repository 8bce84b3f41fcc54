use Rattle.image_read.proofs.MachBuilding.{symbol_is}
use Rattle.image_read.proofs.mach.symbols.symbol.Goals as goal

pub returns : goal.returns
returns c = symbol_is _ _ _ c.symbol_row-row.result _ c.requires.table c.symbol_row-row.ensures c.text_or_empty.ensures

use Rattle.std.proofs.Common.{refl}
use Rattle.image_read.proofs.Judging.{symbol_from, place_of_symbol, name_of_symbol}
use Rattle.image_read.proofs.elf.symbols.is_symbol.Goals as goal

pub returns-then-has_text : goal.returns-then-has_text
returns-then-has_text c =
    let place = rw c.count.ensures.value at c.is_place.ensures in (
      λ placed. symbol_from _ _ _ c.symbol_row-row.result c.requires.table c.symbol_row-row.ensures (c.if-has_text.ensures.0 refl) (place.0 placed),
      λ symbol. place.1 (place_of_symbol _ _ _ c.symbol_row-row.result c.requires.table c.symbol_row-row.ensures symbol),
    )

pub returns-else-has_text : goal.returns-else-has_text
returns-else-has_text c = (
  λ named. absurd (cc),
  λ symbol. c.has_text.ensures.1 (rw (name_of_symbol _ _ c.args.m c.symbol_row-row.result c.requires.table c.symbol_row-row.ensures) symbol.name),
)

use Rattle.std.proofs.Common.{refl, ap, not}
use Rattle.image_read.proofs.MachBuilding.{name_of_sound, symbol_outside, symbol_inside, place_of_symbol}
use Rattle.image_read.proofs.mach.symbols.is_symbol.Goals as goal

pub returns-then-not-has_text : goal.returns-then-not-has_text
returns-then-not-has_text c = (
  λ never. absurd (cc),
  λ symbol. c.if-not-has_text.ensures.1 (name_of_sound _ _ c.args.k c.symbol_row-row.result c.requires.table c.symbol_row-row.ensures symbol),
)

pub returns-then-not-lies_in_section : goal.returns-then-not-lies_in_section
returns-then-not-lies_in_section c = (
  λ outside. symbol_outside _ _ c.args.k c.symbol_row-row.result c.requires.table c.symbol_row-row.ensures (c.if-not-has_text.ensures.0 refl) c.if-not-lies_in_section.ensures,
  λ symbol. ap not c.if-not-lies_in_section.true,
)

pub returns-else-not-lies_in_section : goal.returns-else-not-lies_in_section
returns-else-not-lies_in_section c = (
  λ place. symbol_inside _ _ c.args.k c.symbol_row-row.result c.args.sections c.requires.table c.symbol_row-row.ensures (c.if-not-has_text.ensures.0 refl) c.requires.sections (c.is_section_number.ensures.0 place),
  λ symbol. c.is_section_number.ensures.1 (place_of_symbol _ c.args.k c.symbol_row-row.result c.args.sections c.symbol_row-row.ensures c.requires.sections c.if-not-lies_in_section.ensures symbol),
)

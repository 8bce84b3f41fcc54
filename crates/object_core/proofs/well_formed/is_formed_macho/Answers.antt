use Rattle.object_core.proofs.well_formed.is_formed_macho.Goals as goal

pub returns-clause-yes : goal.returns-clause-yes
returns-clause-yes c = λ t. record { symbols = c.are_formed_symbols.ensures.yes c.if-not-are_formed_symbols.false; sections = c.are_formed_mach_sections.ensures.yes t }

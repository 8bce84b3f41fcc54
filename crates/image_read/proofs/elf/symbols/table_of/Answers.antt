use Rattle.image_read.proofs.elf.symbols.table_of.Goals as goal

pub returns-in-None-sound_table-clause-none : goal.returns-in-None-sound_table-clause-none
returns-in-None-sound_table-clause-none c =
    λ each. c.in-None-sound_table.ensures.none ((each.at c.in-Some.k c.in-Some.ensures.behind_null c.in-Some.ensures.row).table c.in-Some.ensures.kind)

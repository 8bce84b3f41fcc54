use Rattle.gen_summary.proofs.summary.summary_line.Goals as goal

pub returns : goal.returns
returns c = rw (c.section_rows-sections.ensures, c.symbol_rows-symbols.ensures, c.relocation_count-relocations.ensures) at c.format.ensures.ok

use Rattle.object_core.proofs.well_formed.is_formed_elf.Goals as goal

pub returns-clause-yes : goal.returns-clause-yes
returns-clause-yes c = λ t.
    record {
      symbols = c.are_formed_symbols.ensures.yes c.if-not-are_formed_symbols.false;
      names = λ k s e. (c.are_formed_elf_sections.ensures.yes t k s e).name;
      relocations = λ k s e. (c.are_formed_elf_sections.ensures.yes t k s e).relocations;
    }

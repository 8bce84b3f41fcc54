use Rattle.fat_macho.proofs.FilingLaws.{source_set, source_rose}
use Rattle.fat_macho.proofs.RemoveLaws.{reads_as}
use Rattle.fat_macho.proofs.Results.{err_as}
use Rattle.fat_macho.proofs.removing.read_from.Goals as goal

pub returns-clause-cause : goal.returns-clause-cause
returns-clause-cause g c =
    err_as c.read_range.result _ _ (λ e. reads_as _ _ e (source_rose (λ s. g.S.Source.source s) c.args.sources.now c.args.number c.index-sources-number.result c.read_range.new.source c.requires.number)) c.read_range.ensures.cause

pub returns-clause-others : goal.returns-clause-others
returns-clause-others g c = source_set (λ s. g.S.Source.source s) c.args.sources.now c.args.number c.index-sources-number.result c.read_range.new.source c.requires.number c.read_range.ensures.others

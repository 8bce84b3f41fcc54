use Rattle.fat_macho.proofs.CopyLaws.{fails_as}
use Rattle.fat_macho.proofs.FilingLaws.{source_set, source_rose}
use Rattle.fat_macho.proofs.Results.{err_as}
use Rattle.fat_macho.proofs.filing.copy_from.Goals as goal

pub returns-clause-cause : goal.returns-clause-cause
returns-clause-cause g c =
    err_as c.copy_range.result _ _ (λ e. fails_as _ _ _ _ e (source_rose (λ s. g.S.Source.source s) c.args.sources.now c.args.number c.index-sources-number.result c.copy_range.new.source c.requires.number) (λ w. w)) c.copy_range.ensures.cause

pub returns-clause-others : goal.returns-clause-others
returns-clause-others g c = source_set (λ s. g.S.Source.source s) c.args.sources.now c.args.number c.index-sources-number.result c.copy_range.new.source c.requires.number c.copy_range.ensures.others

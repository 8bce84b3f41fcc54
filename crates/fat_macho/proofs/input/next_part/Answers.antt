use Rattle.std.proofs.Common.{sym}
use Rattle.fat_macho.proofs.InputLaws.{duplicate_fails, next_parts}
use Rattle.fat_macho.proofs.input.next_part.Goals as goal

pub returns-then-is_among-clause-cause : goal.returns-then-is_among-clause-cause
returns-then-is_among-clause-cause g c =
    duplicate_fails _ _ c.args.wide c.args.k c.args.parts.now c.in_ok-part.part c.duplicate.result c.entry_part.ensures.known c.requires.before c.in_ok-part.ensures.part (sym c.if-is_among.ensures) c.duplicate.ensures

pub returns-clause-parts : goal.returns-clause-parts
returns-clause-parts g c =
    next_parts _ c.args.wide c.args.k c.args.parts.now c.in_ok-part.part c.entry_part.ensures.known c.requires.before c.in_ok-part.ensures.part (sym c.if-is_among.ensures)

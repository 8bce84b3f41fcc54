use Rattle.std.proofs.Common.{sym, subst, ◌∙◌}
use Rattle.fat_macho.specs.AddedViews.{AreOwnedParts}
use Rattle.fat_macho.proofs.OwnedLaws.{whole_part, only_part}
use Rattle.fat_macho.proofs.Results.{ok_as}
use Rattle.fat_macho.proofs.added.owned_parts.Goals as goal

pub returns-then-part-len : goal.returns-then-part-len
returns-then-part-len c =
    ok_as c.whole_part.result _ _
    (λ new is. subst (λ ps. AreOwnedParts c.args.bytes.items ps new.items) (sym (only_part c.args.parts.now _ c.in-len1.len_at_least c.in-len1.len_below)) (whole_part c.args.bytes _ new.items c.if-part-eq0.true (c.if-part-len.true ∙ (c.len.ensures ∙ c.args.bytes.ok.0)) is))
    c.whole_part.ensures

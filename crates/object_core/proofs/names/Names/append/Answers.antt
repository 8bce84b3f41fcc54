use Rattle.std.proofs.Common.{◌++◌, ◌∷◌, [], ap, refl, ◌∙◌, arith}
use Rattle.std.specs.Prelude.{nat_eq}
use Rattle.std.specs.HashMap.{get}
use Rattle.object_core.specs.NamesView.{NamesData}
use Rattle.object_core.proofs.Texts.{stored_more, texts_appended, text_appended}
use Rattle.object_core.proofs.names.Names.append.Goals as goal

pub invariant_of-self : goal.invariant_of-self
invariant_of-self c =
    stored_more c.self.inside.bytes.items _ c.self.inside.spans.items _ (λ number. get nat_eq c.self.inside.index number) _ c.self.inside.older.items _ c.args.text.now _ _ _ _ c.self.invariant
    c.in-Ok-extend_from_slice.ensures.items c.push_reserved-2.ensures.items c.push_reserved.ensures.items (omega (arith, c.len.ensures, c.self.inside.bytes.ok.0)) refl c.number_of.ensures (omega (arith, c.len-place.ensures, c.self.inside.spans.ok.0))
    c.in-Ok.ensures.old (λ q. c.in-Ok.ensures.updates.0 q)

pub returns-clause-place : goal.returns-clause-place
returns-clause-place c =
    text_appended c.self.inside.bytes.items _ c.self.inside.spans.items _ c.args.text.now _ _ c.self.invariant.within c.in-Ok-extend_from_slice.ensures.items c.push_reserved-2.ensures.items (omega (arith, c.len.ensures, c.self.inside.bytes.ok.0)) refl (omega (arith, c.len-place.ensures, c.self.inside.spans.ok.0))

pub returns-clause-texts : goal.returns-clause-texts
returns-clause-texts c =
    texts_appended c.self.inside.bytes.items _ c.self.inside.spans.items _ c.args.text.now _ c.self.invariant.within c.in-Ok-extend_from_slice.ensures.items c.push_reserved-2.ensures.items (omega (arith, c.len.ensures, c.self.inside.bytes.ok.0)) refl
    ∙ ap (λ (n : NamesData). n.texts ++ c.args.text.now ∷ []) c.self.view_is

use Rattle.std.proofs.Common.{◌≡◌, ap, refl, sym, subst, ◌∙◌, None, length, arith}
use Rattle.std.specs.Prelude.{IfSome}
use Rattle.object_core.specs.Object.{SectionBody, ObjectData}
use Rattle.object_core.specs.Appending.{standard_at}
use Rattle.object_core.specs.contracts.object.Object.{the_view}
use Rattle.object_core.proofs.ObjectNames.{sections_pushed, symbols_kept, names_with_section, count_sections}
use Rattle.object_core.proofs.Sections.{one_more}
use Rattle.object_core.proofs.Standards.{kept_more}
use Rattle.object_core.proofs.object.Object.push_section.Goals as goal

pub invariant_of-self-2 : goal.invariant_of-self-2
invariant_of-self-2 c =
    let longer = sections_pushed c.self.inside.names.texts _ c.self.inside.symbol_names.items c.self.inside.symbols.items c.self.inside.section_names.items _ c.self.inside.sections.items _ _ _ (record { segment = c.in_ok-segment.segment; name = c.in_ok-segment.name }) c.new-section.result c.self.invariant.names c.in_ok-segment.ensures.ok c.in_ok-segment.ensures.first c.in_ok-segment.ensures.second (c.push_reserved-2.ensures.items ∙ rw c.in_ok-reserve-2.ensures.items refl) (c.push_reserved.ensures.items ∙ rw c.in_ok-reserve.ensures.items refl) in
    let new = c.new-section.ensures in
    let missing = subst (λ (o : ObjectData). IfSome c.args.shared (λ standard. standard_at o.sections standard ≡ None)) (sym c.self.view_is) c.requires in
    let number : c.len-number.result ≡ length (the_view c.self.inside).sections = omega (arith, c.len-number.ensures, count_sections _ _ _ _ _ c.self.invariant.names, c.self.inside.sections.ok.0) in
    record {
      kept = record {
        sound = one_more _ _ _ _ _ c.self.invariant.kept.sound longer (ap (λ (s : SectionBody). s.contents) new) (ap (λ (s : SectionBody). s.size) new) (ap (λ (s : SectionBody). s.align) new);
        standards = kept_more _ _ _ _ _ _ _ c.self.invariant.kept.standards longer (ap (λ (s : SectionBody). s.shared) new) missing number (omega arith) c.keep_place.ensures;
      };
      names = names_with_section c.self.inside.names.texts _ c.self.inside.symbol_names.items c.self.inside.symbols.items c.self.inside.section_names.items _ c.self.inside.sections.items _ _ _ (record { segment = c.in_ok-segment.segment; name = c.in_ok-segment.name }) c.new-section.result c.self.invariant.names c.in_ok-segment.ensures.ok c.in_ok-segment.ensures.first c.in_ok-segment.ensures.second (c.push_reserved-2.ensures.items ∙ rw c.in_ok-reserve-2.ensures.items refl) (c.push_reserved.ensures.items ∙ rw c.in_ok-reserve.ensures.items refl);
    }

pub returns-clause-id : goal.returns-clause-id
returns-clause-id c = omega (arith, c.from_number.ensures, c.len-number.ensures, ap (λ (o : ObjectData). length o.sections) c.self.view_is, count_sections _ _ _ _ _ c.self.invariant.names, c.self.inside.sections.ok.0)

pub returns-clause-ok : goal.returns-clause-ok
returns-clause-ok c =
    rw (symbols_kept c.self.inside.names.texts _ c.self.inside.symbol_names.items c.self.inside.symbols.items c.self.inside.section_names.items c.self.inside.sections.items _ _ c.self.invariant.names c.in_ok-segment.ensures.ok, sections_pushed c.self.inside.names.texts _ c.self.inside.symbol_names.items c.self.inside.symbols.items c.self.inside.section_names.items _ c.self.inside.sections.items _ _ _ (record { segment = c.in_ok-segment.segment; name = c.in_ok-segment.name }) c.new-section.result c.self.invariant.names c.in_ok-segment.ensures.ok c.in_ok-segment.ensures.first c.in_ok-segment.ensures.second (c.push_reserved-2.ensures.items ∙ rw c.in_ok-reserve-2.ensures.items refl) (c.push_reserved.ensures.items ∙ rw c.in_ok-reserve.ensures.items refl), ← c.self.view_is, c.new-section.ensures) refl

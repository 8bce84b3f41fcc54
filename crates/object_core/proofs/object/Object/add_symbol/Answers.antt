use Rattle.std.proofs.Common.{ap, refl, length, ◌∙◌, arith}
use Rattle.object_core.specs.Object.{ObjectData}
use Rattle.object_core.proofs.ObjectNames.{symbols_pushed, sections_kept, names_with_symbol, count_symbols}
use Rattle.object_core.proofs.object.Object.add_symbol.Goals as goal

pub invariant_of-self-2 : goal.invariant_of-self-2
invariant_of-self-2 c = record {
  kept = rw (sections_kept c.self.inside.names.texts _ c.self.inside.symbol_names.items c.self.inside.symbols.items c.self.inside.section_names.items c.self.inside.sections.items _ c.self.invariant.names c.in_ok-name.ensures.ok) c.self.invariant.kept;
  names = names_with_symbol c.self.inside.names.texts _ c.self.inside.symbol_names.items _ c.self.inside.symbols.items _ c.self.inside.section_names.items c.self.inside.sections.items _ _ c.args.symbol c.self.invariant.names c.in_ok-name.ensures.ok c.in_ok-name.ensures.place (c.push_reserved-2.ensures.items ∙ rw c.in_ok-reserve-2.ensures.items refl) (c.push_reserved.ensures.items ∙ rw c.in_ok-reserve.ensures.items refl);
}

pub returns-clause-id : goal.returns-clause-id
returns-clause-id c = omega (arith, c.from_number-id.ensures, c.len.ensures, ap (λ (o : ObjectData). length o.symbols) c.self.view_is, count_symbols _ _ _ _ _ c.self.invariant.names, c.self.inside.symbols.ok.0)

pub returns-clause-ok : goal.returns-clause-ok
returns-clause-ok c = rw (sections_kept c.self.inside.names.texts _ c.self.inside.symbol_names.items c.self.inside.symbols.items c.self.inside.section_names.items c.self.inside.sections.items _ c.self.invariant.names c.in_ok-name.ensures.ok, symbols_pushed c.self.inside.names.texts _ c.self.inside.symbol_names.items _ c.self.inside.symbols.items _ c.self.inside.section_names.items c.self.inside.sections.items _ _ c.args.symbol c.self.invariant.names c.in_ok-name.ensures.ok c.in_ok-name.ensures.place (c.push_reserved-2.ensures.items ∙ rw c.in_ok-reserve-2.ensures.items refl) (c.push_reserved.ensures.items ∙ rw c.in_ok-reserve.ensures.items refl), ← c.self.view_is) refl

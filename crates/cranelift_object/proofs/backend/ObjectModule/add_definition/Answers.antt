use Rattle.std.proofs.Common.{◌≡◌, ◌<◌, ◌^◌, length, map, get_or, Some, ap, ◌∙◌, subst, arith}
use Rattle.object_core.specs.Object.{ObjectData}
use Rattle.cranelift_module.specs.Definitions.{Definition}
use Rattle.cranelift_object.specs.Opened.{OpenModule}
use Rattle.cranelift_object.specs.Kept.{IsModule, Marks}
use Rattle.cranelift_object.specs.Linked.{object_relocation}
use Rattle.cranelift_object.specs.Product.{symbol_number, with_relocations}
use Rattle.cranelift_object.proofs.ClassLaws.{retained_unshared}
use Rattle.cranelift_object.proofs.ObjectLaws.{partial_format}
use Rattle.cranelift_object.proofs.FinishLaws.{definition_had}
use Rattle.cranelift_object.proofs.DefineLaws.{adding, body_at, place_at, standard_is, bytes_stored, aligned_power, opened_undefined, later_stored, opened_sum, opened_there, opened_offset, later_is, section_is, contents_sections, adds}
use Rattle.cranelift_object.proofs.backend.ObjectModule.add_definition.Goals as goal

pub open_section-requires-clause-format : goal.open_section-requires-clause-format
open_section-requires-clause-format c = ap (λ (o : ObjectData). o.format) c.requires.before ∙ partial_format c.args.self.now.settings c.args.self.now.state _

pub open_section-requires-clause-standard : goal.open_section-requires-clause-standard
open_section-requires-clause-standard c =
    let marks : Marks = record { functions = c.self.inside.defined.items; objects = c.self.inside.defined_objects.items } in
    let h = subst (λ (o : OpenModule). IsModule o marks) c.self.view_is c.self.invariant in
    let d : Definition = c.index-definition.result.now in
    let there : d ≡ get_or c.args.self.now.state.definitions c.args.number d = c.index-definition.ensures ∙ ap (λ (o : OpenModule). get_or o.state.definitions c.args.number d) c.self.view_is in
    let at = adding c.args.self.now c.args.number d c.requires.number there in
    let format : c.args.object.now.format ≡ c.args.self.now.state.target.triple.binary_format = ap (λ (o : ObjectData). o.format) c.requires.before ∙ partial_format c.args.self.now.settings c.args.self.now.state _ in
    rw format (standard_is c.args.self.now.state.target.triple.binary_format c.args.self.now.state d (place_at c.args.self.now marks c.args.number d h at))

pub open_section-requires-clause-text : goal.open_section-requires-clause-text
open_section-requires-clause-text c =
    let marks : Marks = record { functions = c.self.inside.defined.items; objects = c.self.inside.defined_objects.items } in
    let h = subst (λ (o : OpenModule). IsModule o marks) c.self.view_is c.self.invariant in
    let d : Definition = c.index-definition.result.now in
    let there : d ≡ get_or c.args.self.now.state.definitions c.args.number d = c.index-definition.ensures ∙ ap (λ (o : OpenModule). get_or o.state.definitions c.args.number d) c.self.view_is in
    let at = adding c.args.self.now c.args.number d c.requires.number there in
    let format : c.args.object.now.format ≡ c.args.self.now.state.target.triple.binary_format = ap (λ (o : ObjectData). o.format) c.requires.before ∙ partial_format c.args.self.now.settings c.args.self.now.state _ in
    let body = body_at c.args.self.now marks c.args.number d h at in
    rw format body.section

pub open_section-requires-clause-marked : goal.open_section-requires-clause-marked
open_section-requires-clause-marked c marked =
    let marks : Marks = record { functions = c.self.inside.defined.items; objects = c.self.inside.defined_objects.items } in
    let h = subst (λ (o : OpenModule). IsModule o marks) c.self.view_is c.self.invariant in
    let d : Definition = c.index-definition.result.now in
    let there : d ≡ get_or c.args.self.now.state.definitions c.args.number d = c.index-definition.ensures ∙ ap (λ (o : OpenModule). get_or o.state.definitions c.args.number d) c.self.view_is in
    let at = adding c.args.self.now c.args.number d c.requires.number there in
    let body = body_at c.args.self.now marks c.args.number d h at in
    retained_unshared c.args.self.now.settings c.args.self.now.state d body.plain marked

pub symbol_of-symbol-requires-clause-declared : goal.symbol_of-symbol-requires-clause-declared
symbol_of-symbol-requires-clause-declared c =
    let marks : Marks = record { functions = c.self.inside.defined.items; objects = c.self.inside.defined_objects.items } in
    let h = subst (λ (o : OpenModule). IsModule o marks) c.self.view_is c.self.invariant in
    let d : Definition = c.index-definition.result.now in
    let there : d ≡ get_or c.args.self.now.state.definitions c.args.number d = c.index-definition.ensures ∙ ap (λ (o : OpenModule). get_or o.state.definitions c.args.number d) c.self.view_is in
    let at = adding c.args.self.now c.args.number d c.requires.number there in
    let body = body_at c.args.self.now marks c.args.number d h at in
    rw c.identifier.ensures body.declared

pub add_contents-requires-clause-power : goal.add_contents-requires-clause-power
add_contents-requires-clause-power c =
    let marks : Marks = record { functions = c.self.inside.defined.items; objects = c.self.inside.defined_objects.items } in
    let h = subst (λ (o : OpenModule). IsModule o marks) c.self.view_is c.self.invariant in
    let d : Definition = c.index-definition.result.now in
    let there : d ≡ get_or c.args.self.now.state.definitions c.args.number d = c.index-definition.ensures ∙ ap (λ (o : OpenModule). get_or o.state.definitions c.args.number d) c.self.view_is in
    let at = adding c.args.self.now c.args.number d c.requires.number there in
    let body = body_at c.args.self.now marks c.args.number d h at in
    rw c.alignment_of-align.ensures (aligned_power c.args.self.now.state d body.aligned)

pub add_contents-requires-clause-symbol : goal.add_contents-requires-clause-symbol
add_contents-requires-clause-symbol c =
    let marks : Marks = record { functions = c.self.inside.defined.items; objects = c.self.inside.defined_objects.items } in
    let h = subst (λ (o : OpenModule). IsModule o marks) c.self.view_is c.self.invariant in
    let d : Definition = c.index-definition.result.now in
    let there : d ≡ get_or c.args.self.now.state.definitions c.args.number d = c.index-definition.ensures ∙ ap (λ (o : OpenModule). get_or o.state.definitions c.args.number d) c.self.view_is in
    let at = adding c.args.self.now c.args.number d c.requires.number there in
    let later = later_is c.args.self.now marks c.args.number d c.args.object.now c.open_section.new.object h at c.requires.before c.in_ok-section.ensures.opened in
    let place = section_is c.args.self.now c.args.number d c.args.object.now c.in_ok-section.section c.requires.before c.in_ok-section.ensures.id in
    let symbol = c.symbol_of-symbol.ensures ∙ ap (symbol_number c.args.self.now.state) c.identifier.ensures in
    rw (later, symbol) (opened_undefined c.args.self.now marks c.args.number d h at)

pub add_contents-requires-clause-section : goal.add_contents-requires-clause-section
add_contents-requires-clause-section c =
    let marks : Marks = record { functions = c.self.inside.defined.items; objects = c.self.inside.defined_objects.items } in
    let h = subst (λ (o : OpenModule). IsModule o marks) c.self.view_is c.self.invariant in
    let d : Definition = c.index-definition.result.now in
    let there : d ≡ get_or c.args.self.now.state.definitions c.args.number d = c.index-definition.ensures ∙ ap (λ (o : OpenModule). get_or o.state.definitions c.args.number d) c.self.view_is in
    let at = adding c.args.self.now c.args.number d c.requires.number there in
    let later = later_is c.args.self.now marks c.args.number d c.args.object.now c.open_section.new.object h at c.requires.before c.in_ok-section.ensures.opened in
    let place = section_is c.args.self.now c.args.number d c.args.object.now c.in_ok-section.section c.requires.before c.in_ok-section.ensures.id in
    rw (later, place) (opened_there c.args.self.now marks c.args.number d h at)

pub add_contents-requires-clause-stored : goal.add_contents-requires-clause-stored
add_contents-requires-clause-stored c given =
    let marks : Marks = record { functions = c.self.inside.defined.items; objects = c.self.inside.defined_objects.items } in
    let h = subst (λ (o : OpenModule). IsModule o marks) c.self.view_is c.self.invariant in
    let d : Definition = c.index-definition.result.now in
    let there : d ≡ get_or c.args.self.now.state.definitions c.args.number d = c.index-definition.ensures ∙ ap (λ (o : OpenModule). get_or o.state.definitions c.args.number d) c.self.view_is in
    let at = adding c.args.self.now c.args.number d c.requires.number there in
    let body = body_at c.args.self.now marks c.args.number d h at in
    let later = later_is c.args.self.now marks c.args.number d c.args.object.now c.open_section.new.object h at c.requires.before c.in_ok-section.ensures.opened in
    let place = section_is c.args.self.now c.args.number d c.args.object.now c.in_ok-section.section c.requires.before c.in_ok-section.ensures.id in
    later_stored c.args.self.now marks c.args.number d c.open_section.new.object c.in_ok-section.section h at later place ∙ ap Some (bytes_stored c.args.self.now.settings c.args.self.now.state d given body.section)

pub add_contents-requires-clause-sum : goal.add_contents-requires-clause-sum
add_contents-requires-clause-sum c =
    let marks : Marks = record { functions = c.self.inside.defined.items; objects = c.self.inside.defined_objects.items } in
    let h = subst (λ (o : OpenModule). IsModule o marks) c.self.view_is c.self.invariant in
    let d : Definition = c.index-definition.result.now in
    let there : d ≡ get_or c.args.self.now.state.definitions c.args.number d = c.index-definition.ensures ∙ ap (λ (o : OpenModule). get_or o.state.definitions c.args.number d) c.self.view_is in
    let at = adding c.args.self.now c.args.number d c.requires.number there in
    let later = later_is c.args.self.now marks c.args.number d c.args.object.now c.open_section.new.object h at c.requires.before c.in_ok-section.ensures.opened in
    let place = section_is c.args.self.now c.args.number d c.args.object.now c.in_ok-section.section c.requires.before c.in_ok-section.ensures.id in
    let few : length c.args.self.now.state.definitions < 2 ^ 63 = omega (arith, c.self.inside.definitions.small, c.self.inside.definitions.ok.0, ap (λ (o : OpenModule). length o.state.definitions) c.self.view_is) in
    rw later (opened_sum c.args.self.now marks c.args.number d h few)

pub add_relocations-requires-clause-section : goal.add_relocations-requires-clause-section
add_relocations-requires-clause-section c =
    let marks : Marks = record { functions = c.self.inside.defined.items; objects = c.self.inside.defined_objects.items } in
    let h = subst (λ (o : OpenModule). IsModule o marks) c.self.view_is c.self.invariant in
    let d : Definition = c.index-definition.result.now in
    let there : d ≡ get_or c.args.self.now.state.definitions c.args.number d = c.index-definition.ensures ∙ ap (λ (o : OpenModule). get_or o.state.definitions c.args.number d) c.self.view_is in
    let at = adding c.args.self.now c.args.number d c.requires.number there in
    let later = later_is c.args.self.now marks c.args.number d c.args.object.now c.open_section.new.object h at c.requires.before c.in_ok-section.ensures.opened in
    let place = section_is c.args.self.now c.args.number d c.args.object.now c.in_ok-section.section c.requires.before c.in_ok-section.ensures.id in
    let stored = later_stored c.args.self.now marks c.args.number d c.open_section.new.object c.in_ok-section.section h at later place in
    let same = contents_sections _ _ c.open_section.new.object c.add_contents.new.object c.symbol_of-symbol.result c.in_ok-section.section c.alignment_of-align.result d.contents (c.in_ok-offset.ensures.ok _ stored) in
    let inside = opened_there c.args.self.now marks c.args.number d h at in
    omega (arith, same, ap (λ (o : ObjectData). length o.sections) later, place, inside)

pub add_relocations-requires-clause-targets : goal.add_relocations-requires-clause-targets
add_relocations-requires-clause-targets c =
    let marks : Marks = record { functions = c.self.inside.defined.items; objects = c.self.inside.defined_objects.items } in
    let h = subst (λ (o : OpenModule). IsModule o marks) c.self.view_is c.self.invariant in
    let d : Definition = c.index-definition.result.now in
    let there : d ≡ get_or c.args.self.now.state.definitions c.args.number d = c.index-definition.ensures ∙ ap (λ (o : OpenModule). get_or o.state.definitions c.args.number d) c.self.view_is in
    let at = adding c.args.self.now c.args.number d c.requires.number there in
    rw c.relocs-relocs.ensures (definition_had c.args.self.now.state c.args.number d at c.requires.targets)

pub add_relocations-requires-clause-offset : goal.add_relocations-requires-clause-offset
add_relocations-requires-clause-offset c =
    let marks : Marks = record { functions = c.self.inside.defined.items; objects = c.self.inside.defined_objects.items } in
    let h = subst (λ (o : OpenModule). IsModule o marks) c.self.view_is c.self.invariant in
    let d : Definition = c.index-definition.result.now in
    let there : d ≡ get_or c.args.self.now.state.definitions c.args.number d = c.index-definition.ensures ∙ ap (λ (o : OpenModule). get_or o.state.definitions c.args.number d) c.self.view_is in
    let at = adding c.args.self.now c.args.number d c.requires.number there in
    let later = later_is c.args.self.now marks c.args.number d c.args.object.now c.open_section.new.object h at c.requires.before c.in_ok-section.ensures.opened in
    let place = section_is c.args.self.now c.args.number d c.args.object.now c.in_ok-section.section c.requires.before c.in_ok-section.ensures.id in
    let few : length c.args.self.now.state.definitions < 2 ^ 63 = omega (arith, c.self.inside.definitions.small, c.self.inside.definitions.ok.0, ap (λ (o : OpenModule). length o.state.definitions) c.self.view_is) in
    rw (c.in_ok-offset.ensures.offset, later, place, c.alignment_of-align.ensures) (opened_offset c.args.self.now marks c.args.number d h few at)

pub returns : goal.returns
returns c =
    let marks : Marks = record { functions = c.self.inside.defined.items; objects = c.self.inside.defined_objects.items } in
    let h = subst (λ (o : OpenModule). IsModule o marks) c.self.view_is c.self.invariant in
    let d : Definition = c.index-definition.result.now in
    let there : d ≡ get_or c.args.self.now.state.definitions c.args.number d = c.index-definition.ensures ∙ ap (λ (o : OpenModule). get_or o.state.definitions c.args.number d) c.self.view_is in
    let at = adding c.args.self.now c.args.number d c.requires.number there in
    let later = later_is c.args.self.now marks c.args.number d c.args.object.now c.open_section.new.object h at c.requires.before c.in_ok-section.ensures.opened in
    let place = section_is c.args.self.now c.args.number d c.args.object.now c.in_ok-section.section c.requires.before c.in_ok-section.ensures.id in
    let symbol = c.symbol_of-symbol.ensures ∙ ap (symbol_number c.args.self.now.state) c.identifier.ensures in
    let stored = later_stored c.args.self.now marks c.args.number d c.open_section.new.object c.in_ok-section.section h at later place in
    let rest = ap (λ rs. with_relocations c.add_contents.new.object c.in_ok-section.section (map (object_relocation c.args.self.now.settings c.args.self.now.state c.in_ok-offset.offset) rs)) c.relocs-relocs.ensures in
    adds c.args.self.now marks c.args.number c.symbol_of-symbol.result c.in_ok-section.section c.alignment_of-align.result c.in_ok-offset.offset d c.open_section.new.object c.add_contents.new.object c.add_relocations.new.object h at later place symbol c.alignment_of-align.ensures
    c.in_ok-offset.ensures.offset (c.in_ok-offset.ensures.ok _ stored) (c.in_ok-add_relocations.ensures ∙ rest)

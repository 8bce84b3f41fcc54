use Rattle.std.proofs.Common.{◌≡◌, ◌%◌, ap, sym, ◌∙◌, subst, Some}
use Rattle.std.specs.Prelude.{slice_get, option_map}
use Rattle.object_core.specs.Object.{SectionData, SectionBody, body_of}
use Rattle.object_core.specs.Checking.{AreAllApart}
use Rattle.object_core.proofs.Forming.{told_of, told_there}
use Rattle.object_core.proofs.well_formed.is_formed_mach_section.Goals as goal

pub returns-then-not-are_formed_mach_relocations-clause-no : goal.returns-then-not-are_formed_mach_relocations-clause-no
returns-then-not-are_formed_mach_relocations-clause-no c = λ _ all.
    let told : option_map body_of (slice_get c.args.object.now.sections c.args.number) ≡ Some c.section-section.result.now = rw (← c.from_number-id.ensures) c.section-section.ensures in
    let there = told_there body_of (slice_get c.args.object.now.sections c.args.number) c.section-section.result.now told in
    c.are_formed_mach_relocations.ensures.no there.0 there.2 c.if-not-are_formed_mach_relocations.true (all there.0 there.1).relocations

pub returns-clause-yes : goal.returns-clause-yes
returns-clause-yes c = λ t s e.
    let found = slice_get c.args.object.now.sections c.args.number in
    let told : option_map body_of found ≡ Some c.section-section.result.now = rw (← c.from_number-id.ensures) c.section-section.ensures in
    let told_segment : option_map (λ (x : SectionData). x.segment) found ≡ Some c.section_segment.result.now = rw (← c.from_number-id.ensures) c.section_segment.ensures in
    let told_name : option_map (λ (x : SectionData). x.name) found ≡ Some c.section_name.result.now = rw (← c.from_number-id.ensures) c.section_name.ensures in
    let same : body_of s ≡ c.section-section.result.now = told_of body_of found _ s told e in
    let segment : s.segment ≡ c.section_segment.result.now = told_of (λ (x : SectionData). x.segment) found _ s told_segment e in
    let name : s.name ≡ c.section_name.result.now = told_of (λ (x : SectionData). x.name) found _ s told_name e in
    let list : c.relocations.result.now ≡ s.relocations = c.relocations.ensures ∙ ap (λ (b : SectionBody). b.relocations) (sym same) in
    let flags : s.macho_flags ≡ c.macho_flags.result = ap (λ (b : SectionBody). b.macho_flags) same ∙ sym c.macho_flags.ensures in
    record {
      segment = rw segment (c.is_mach_text.ensures.yes c.if-not-is_mach_text.false);
      name = rw name (c.is_mach_text-2.ensures.yes c.if-not-is_mach_text-2.false);
      segment_room = rw segment (c.is_mach_text.ensures.room c.if-not-is_mach_text.false);
      name_room = rw name (c.is_mach_text-2.ensures.room c.if-not-is_mach_text-2.false);
      kind = λ k. c.if-macho_flags-eq12.false (ap (λ n. n % 256) (sym flags) ∙ k);
      relocations = c.are_formed_mach_relocations.ensures.yes s same c.if-not-are_formed_mach_relocations.false;
      apart = subst AreAllApart list (c.are_apart.ensures.yes t);
    }

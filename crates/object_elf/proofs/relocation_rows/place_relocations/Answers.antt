use Rattle.std.proofs.Common.{◌≡◌, ◌<◌, ◌+◌, ◌*◌, ◌^◌, arith, ap, sym, ◌∙◌, length, take, ◌++◌, refl, length-take-le}
use Rattle.object_core.specs.Object.{SectionData, body_of}
use Rattle.object_elf.specs.Writing.{FitRecords, record_bytes_by}
use Rattle.byte_core.specs.LaidOut.{end_of_aligned}
use Rattle.byte_core.proofs.LaidOut.{lays_none, laid_next, lays_as}
use Rattle.byte_core.proofs.Lists.{each_more, each_all}
use Rattle.std.proofs.lemmas.List.{length-map}
use Rattle.object_elf.proofs.Items.{item_of, own_relocations}
use Rattle.object_elf.proofs.SectionLoops.{relocated_passed, relocated_next, has_none, has_some, fit_none, records_end, records_room, records_front}
use Rattle.object_elf.proofs.relocation_rows.place_relocations.Goals as goal

pub loop-section-init : goal.loop-section-init
unfolding Rattle.byte_core.specs.LaidOut.end_of_aligned
loop-section-init c = record { records = lays_none _; end = refl; len = refl; fit = λ k s h. absurd (omega arith) }

pub loop-section-preserved-then-is_empty : goal.loop-section-preserved-then-is_empty
loop-section-preserved-then-is_empty c =
    let xs = c.args.object.now.sections in
    let i = c.loop-section.section-index in
    let item = item_of body_of xs _ i c.section-item.result c.sections-sections.ensures.value c.loop-section-test.true c.section-item.is in
    let s = item.whole in
    let none = has_none s c.is_empty.result (length c.relocations.result.now) (ap length (own_relocations s _ _ item.same c.relocations.ensures)) c.is_empty.ensures c.if-is_empty.true in
    let same = relocated_passed c.args.rows.now xs i s item.within item.here none in
    record {
      records = lays_as _ _ _ _ (sym same) c.loop-section.invariant.records;
      end = c.loop-section.invariant.end ∙ ap (end_of_aligned c.args.at) (sym same);
      len = c.loop-section.invariant.len;
      fit = each_more (λ (s : SectionData). FitRecords s.relocations) xs i s item.within item.here c.loop-section.invariant.fit (fit_none s none);
    }

pub place_padding-end-requires : goal.place_padding-end-requires
place_padding-end-requires c =
    let xs = c.args.object.now.sections in
    let i = c.loop-section.section-index in
    let item = item_of body_of xs _ i c.section-item.result c.sections-sections.ensures.value c.loop-section-test.true c.section-item.is in
    let s = item.whole in
    let some = has_some s c.is_empty.result (length c.relocations.result.now) (ap length (own_relocations s _ _ item.same c.relocations.ensures)) c.is_empty.ensures c.if-is_empty.false in
    omega (arith, c.loop-section.invariant.len, records_room c.args.rows.now xs i s c.args.at c.loop-section.end _ item.within item.here some c.loop-section.invariant.end c.requires.room)

pub place_records-end-requires-clause-names : goal.place_records-end-requires-clause-names
place_records-end-requires-clause-names c =
    let xs = c.args.object.now.sections in
    let i = c.loop-section.section-index in
    let item = item_of body_of xs _ i c.section-item.result c.sections-sections.ensures.value c.loop-section-test.true c.section-item.is in
    let s = item.whole in
    let same = own_relocations s _ _ item.same c.relocations-in-loop-section.ensures in
    rw same (c.requires.names i s item.found)

pub place_records-end-requires-clause-room : goal.place_records-end-requires-clause-room
place_records-end-requires-clause-room c =
    let xs = c.args.object.now.sections in
    let i = c.loop-section.section-index in
    let item = item_of body_of xs _ i c.section-item.result c.sections-sections.ensures.value c.loop-section-test.true c.section-item.is in
    let s = item.whole in
    let same = own_relocations s _ _ item.same c.relocations-in-loop-section.ensures in
    let some = has_some s c.is_empty.result (length c.relocations.result.now) (ap length (own_relocations s _ _ item.same c.relocations.ensures)) c.is_empty.ensures c.if-is_empty.false in
    omega (
      arith,
      c.loop-section.invariant.len,
      c.place_padding-end.ensures.end,
      c.place_padding-end.ensures.len,
      ap length same,
      records_room c.args.rows.now xs i s c.args.at c.loop-section.end _ item.within item.here some c.loop-section.invariant.end c.requires.room,
    )

pub loop-section-preserved : goal.loop-section-preserved
loop-section-preserved c =
    let xs = c.args.object.now.sections in
    let i = c.loop-section.section-index in
    let item = item_of body_of xs _ i c.section-item.result c.sections-sections.ensures.value c.loop-section-test.true c.section-item.is in
    let s = item.whole in
    let same = own_relocations s _ _ item.same c.relocations-in-loop-section.ensures in
    let some = has_some s c.is_empty.result (length c.relocations.result.now) (ap length (own_relocations s _ _ item.same c.relocations.ensures)) c.is_empty.ensures c.if-is_empty.false in
    let within = records_front c.args.rows.now xs i c.args.at c.loop-section.end _ c.loop-section.invariant.end c.requires.room in
    let filled : length (take c.loop-section.end c.loop-section.out) ≡ c.loop-section.end = length-take-le c.loop-section.end c.loop-section.out (rw c.loop-section.invariant.len within) in
    let bytes = c.place_records-end.ensures.records ∙ ap (λ l. take c.place_padding-end.result c.place_padding-end.new.out ++ record_bytes_by c.args.rows.now l) same in
    let end = c.place_records-end.ensures.end ∙ ap (λ l. c.place_padding-end.result + 24 * length l) same in
    let size : 24 * length s.relocations < 2 ^ 64 = omega (arith, end) in
    record {
      records = laid_next _ _ _ _ _ 8 _ _ (relocated_next c.args.rows.now xs i s item.within item.here some) c.loop-section.invariant.records (rw filled c.place_padding-end.ensures.bytes) bytes;
      end = omega (arith, end, c.place_padding-end.ensures.end, records_end c.args.rows.now xs i s c.args.at c.loop-section.end item.within item.here some c.loop-section.invariant.end);
      len = c.place_records-end.ensures.len ∙ c.place_padding-end.ensures.len ∙ c.loop-section.invariant.len;
      fit = each_more (λ (s : SectionData). FitRecords s.relocations) xs i s item.within item.here c.loop-section.invariant.fit (record { size = size; each = rw same at c.place_records-end.ensures.fit });
    }

pub returns-clause-fit : goal.returns-clause-fit
returns-clause-fit c = each_all (λ (s : SectionData). FitRecords s.relocations) c.args.object.now.sections c.loop-section.section-index (omega (arith, c.loop-section-test.false, ap length c.sections-sections.ensures.value, length-map c.args.object.now.sections body_of)) c.loop-section.invariant.fit

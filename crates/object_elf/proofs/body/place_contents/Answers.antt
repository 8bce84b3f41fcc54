use Rattle.std.proofs.Common.{map, ◌≡◌, ◌<◌, ◌^◌, ◌++◌, arith, ap, ◌∙◌, refl, length, take, length-take-le}
use Rattle.byte_core.proofs.LaidOut.{lays_none, laid_next, bytes_room, padding_room, front_room}
use Rattle.object_core.specs.Object.{SectionData}
use Rattle.object_elf.specs.Writing.{plain, contents_at}
use Rattle.byte_core.proofs.Lists.{each_more, each_all}
use Rattle.std.proofs.lemmas.List.{length-map}
use Rattle.object_elf.proofs.Items.{plain_item, own_contents, align_same, aligned_same}
use Rattle.object_elf.proofs.SectionLoops.{contents_next, end_more}
use Rattle.object_elf.proofs.body.place_contents.Goals as goal

pub loop-section-init : goal.loop-section-init
unfolding Rattle.byte_core.specs.LaidOut.end_of_aligned
loop-section-init c = record { contents = lays_none _; end = refl; len = refl; aligns = λ k s h. absurd (omega arith) }

pub place_padding-end-requires : goal.place_padding-end-requires
place_padding-end-requires c =
    let xs = map plain c.args.sections.now in
    let i = c.loop-section.section-index in
    let item = plain_item c.args.sections.now i c.section-item.result c.loop-section-test.true c.section-item.is in
    let s = item.whole in
    let align = c.stored_align.ensures.value ∙ align_same s _ item.same in
    let room = padding_room contents_at xs i c.args.at c.loop-section.end _ s item.within c.loop-section.invariant.end c.requires in
    rw (align, c.loop-section.invariant.len) (rw (← item.here) at room)

pub place_bytes-end-requires : goal.place_bytes-end-requires
place_bytes-end-requires c =
    let xs = map plain c.args.sections.now in
    let i = c.loop-section.section-index in
    let item = plain_item c.args.sections.now i c.section-item.result c.loop-section-test.true c.section-item.is in
    let s = item.whole in
    let align = c.stored_align.ensures.value ∙ align_same s _ item.same in
    let own = own_contents s _ _ item.same c.contents.ensures in
    let room = bytes_room contents_at xs i c.args.at c.loop-section.end _ s item.within c.loop-section.invariant.end c.requires in
    rw (c.place_padding-end.ensures.end, c.place_padding-end.ensures.len, align, c.loop-section.invariant.len, own) (rw (← item.here) at room)

pub loop-section-preserved : goal.loop-section-preserved
loop-section-preserved c =
    let xs = map plain c.args.sections.now in
    let i = c.loop-section.section-index in
    let item = plain_item c.args.sections.now i c.section-item.result c.loop-section-test.true c.section-item.is in
    let s = item.whole in
    let align = c.stored_align.ensures.value ∙ align_same s _ item.same in
    let own = own_contents s _ _ item.same c.contents.ensures in
    let next = contents_next xs i s item.within item.here in
    let within = front_room contents_at xs i c.args.at c.loop-section.end _ c.loop-section.invariant.end c.requires in
    let filled : length (take c.loop-section.end c.loop-section.out) ≡ c.loop-section.end = length-take-le c.loop-section.end c.loop-section.out (rw c.loop-section.invariant.len within) in
    let padded = rw align at c.place_padding-end.ensures.bytes in
    let start = rw align at c.place_padding-end.ensures.end in
    let bytes = c.place_bytes-end.ensures.bytes ∙ ap (λ l. take c.place_padding-end.result c.place_padding-end.new.out ++ l) own in
    record {
      contents = laid_next _ _ _ _ _ (contents_at s).align _ _ next c.loop-section.invariant.contents (rw filled padded) bytes;
      end = omega (arith, c.place_bytes-end.ensures.end, ap length own, start, end_more _ _ (contents_at s) c.args.at c.loop-section.end next c.loop-section.invariant.end);
      len = c.place_bytes-end.ensures.len ∙ c.place_padding-end.ensures.len ∙ c.loop-section.invariant.len;
      aligns = each_more (λ (s : SectionData). s.align < 2 ^ 64) xs i s item.within item.here c.loop-section.invariant.aligns (aligned_same s _ item.same c.stored_align.ensures.bound);
    }

pub returns-clause-aligns : goal.returns-clause-aligns
returns-clause-aligns c = each_all (λ (s : SectionData). s.align < 2 ^ 64) (map plain c.args.sections.now) c.loop-section.section-index (omega (arith, c.loop-section-test.false, length-map c.args.sections.now plain)) c.loop-section.invariant.aligns

use Rattle.std.proofs.Common.{◌≡◌, false, map, take, sym, ◌∙◌, subst}
use Rattle.image_build.specs.Built.{is_elf_part, BuiltFat}
use Rattle.image_build.specs.Joined.{IsKnownFile}
use Rattle.image_build.specs.Parts.{part_view, HasFewCalls}
use Rattle.image_build.proofs.FatCauses.{refused_first, refused_no_more, passed_at, refused_there}
use Rattle.image_build.proofs.FatLists.{HoldsParts, holds_nothing, holds_more, built_of}
use Rattle.image_build.proofs.PartLists.{part_there, all_there, parts_more, long_views, all_taken, no_views_left, if_ok, on_ok}
use Rattle.image_build.proofs.fat.fat_file.Goals as goal

pub loop-number-init : goal.loop-number-init
loop-number-init c = (rw c.new-writer.ensures holds_nothing, refused_first (map part_view c.args.parts.now))

pub add_part-requires-clause-few : goal.add_part-requires-clause-few
add_part-requires-clause-few c = all_there HasFewCalls c.args.parts.now c.loop-number.number c.index-parts-number.result c.requires.few c.loop-number-test.true c.index-parts-number.is

pub add_part-requires-clause-format : goal.add_part-requires-clause-format
add_part-requires-clause-format c =
    all_there (λ part. is_elf_part part ≡ false) c.args.parts.now c.loop-number.number c.index-parts-number.result c.requires.format c.loop-number-test.true c.index-parts-number.is

pub returns-in-Err-clause-cause : goal.returns-in-Err-clause-cause
returns-in-Err-clause-cause c =
    refused_there (map part_view c.args.parts.now) c.loop-number.number (part_view c.index-parts-number.result) c.loop-number.writer c.in-Err.error (long_views c.args.parts.now c.loop-number.number c.loop-number-test.true)
    (part_there c.args.parts.now c.loop-number.number c.index-parts-number.result c.loop-number-test.true c.index-parts-number.is) c.loop-number.invariant.0 c.in-Err.ensures.number c.in-Err.ensures.cause c.loop-number.invariant.1

pub loop-number-preserved : goal.loop-number-preserved
loop-number-preserved c =
    let views = map part_view c.args.parts.now in
    let view = part_view c.index-parts-number.result in
    let at = part_there c.args.parts.now c.loop-number.number c.index-parts-number.result c.loop-number-test.true c.index-parts-number.is in (
      subst (λ before. HoldsParts before c.add_part.new.writer) (sym (parts_more c.args.parts.now c.loop-number.number c.index-parts-number.result c.loop-number-test.true c.index-parts-number.is))
          (holds_more (take c.loop-number.number views) view c.loop-number.writer c.add_part.new.writer c.loop-number.invariant.0 c.in_default.ensures.ok),
      passed_at views c.loop-number.number view c.loop-number.writer (long_views c.args.parts.now c.loop-number.number c.loop-number-test.true) at c.loop-number.invariant.0 c.in_default.ensures.none c.loop-number.invariant.1,
    )

pub returns-clause-built : goal.returns-clause-built
returns-clause-built c =
    let views = map part_view c.args.parts.now in
    let held = subst (λ before. HoldsParts before c.loop-number.writer) (all_taken c.args.parts.now c.loop-number.number c.loop-number-test.false) c.loop-number.invariant.0 in
    if_ok (λ bytes. IsKnownFile c.loop-number.writer bytes.items) (λ bytes. BuiltFat views bytes.items) c.written.result (λ bytes file. built_of views c.loop-number.writer bytes.items held file) c.written.ensures.file

pub returns-clause-valid : goal.returns-clause-valid
returns-clause-valid c =
    let views = map part_view c.args.parts.now in
    on_ok _ c.written.result (c.loop-number.invariant.1 ∙ refused_no_more views c.loop-number.number (no_views_left c.args.parts.now c.loop-number.number c.loop-number-test.false))

use Rattle.std.proofs.Common.{arith}
use Rattle.std.proofs.lemmas.List.Sums.{sum_by_more}
use Rattle.std.proofs.Common.{ap}
use Rattle.object_core.specs.Object.{body_of}
use Rattle.object_macho.specs.PlainCounts.{section_records}
use Rattle.object_macho.proofs.Items.{item_of, records_same}
use Rattle.object_macho.proofs.limits.record_count.Goals as goal

pub loop-section-preserved : goal.loop-section-preserved
loop-section-preserved c =
    let o = c.args.object.now in
    let item = item_of body_of o.sections _ c.loop-section.section-index c.section-item.result c.sections-section-items.ensures.value c.loop-section-test.true c.section-item.is in
    let s = item.whole in
    let cputype = c.mach_cputype-cputype.result in
    record {
      value = omega (arith, c.loop-section.invariant.value, c.section_records-count.ensures.value, records_same cputype s _ c.relocations.result.now item.same c.relocations.ensures, sum_by_more (section_records cputype) o.sections c.loop-section.section-index s item.within, ap (section_records cputype) item.here);
      bound = omega (arith, c.loop-section.invariant.bound, c.section_records-count.ensures.bound);
    }

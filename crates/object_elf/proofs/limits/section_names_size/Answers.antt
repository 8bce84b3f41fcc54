use Rattle.std.proofs.Common.{ap, ◌∙◌, arith}
use Rattle.std.proofs.lemmas.List.Sums.{sum_by_more}
use Rattle.object_core.specs.Object.{body_of}
use Rattle.object_elf.specs.PlainCounts.{section_name_size}
use Rattle.object_elf.proofs.Items.{item_of, name_size_same}
use Rattle.object_elf.proofs.limits.section_names_size.Goals as goal

pub loop-k-preserved : goal.loop-k-preserved
loop-k-preserved c =
    let o = c.args.object.now in
    let item = item_of body_of o.sections _ c.loop-k.k c.index-sections-k.result c.sections-sections.ensures.value c.loop-k-test.true c.index-sections-k.is in
    let s = item.whole in
    let more = sum_by_more section_name_size o.sections c.loop-k.k s item.within in
    let size = c.section_name_size-size.ensures.value ∙ name_size_same s _ _ item.same (c.section_name.ensures s item.found) in
    record {
      value = omega (arith, c.loop-k.invariant.value, size, more, ap section_name_size item.here);
      bound = omega (arith, c.loop-k.invariant.bound, c.section_name_size-size.ensures.bound);
    }

use Rattle.std.proofs.Common.{arith, ap, length}
use Rattle.std.proofs.lemmas.List.{length-map}
use Rattle.object_core.specs.Object.{body_of}
use Rattle.object_core.specs.Checking.{At, IsFormedElfSection}
use Rattle.object_core.proofs.Forming.{below_more, each_all}
use Rattle.object_core.proofs.well_formed.are_formed_elf_sections.Goals as goal

pub returns-then-not-is_formed_elf_section-clause-no : goal.returns-then-not-is_formed_elf_section-clause-no
returns-then-not-is_formed_elf_section-clause-no c = λ _ all. c.is_formed_elf_section.ensures.no c.if-not-is_formed_elf_section.true (all c.loop-number.number)

pub loop-number-preserved : goal.loop-number-preserved
loop-number-preserved c = below_more (At (IsFormedElfSection c.args.object.now) c.args.object.now.sections) c.loop-number.number c.loop-number.invariant (c.is_formed_elf_section.ensures.yes c.if-not-is_formed_elf_section.false)

pub returns-clause-yes : goal.returns-clause-yes
returns-clause-yes c = λ _.
    let o = c.args.object.now in
    each_all (IsFormedElfSection o) o.sections c.loop-number.number (omega (arith, c.loop-number-test.false, ap length c.sections-count.ensures.value, length-map o.sections body_of)) c.loop-number.invariant

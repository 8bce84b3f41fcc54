use Rattle.std.proofs.Common.{◌∙◌, subst}
use Rattle.ir_core.specs.declared.target.BinaryFormat.{BinaryFormat}
use Rattle.object_core.specs.Appending.{AreSections}
use Rattle.object_core.specs.MachRows.{macho_table_of}
use Rattle.object_macho.specs.Whole.{IsWritable}
use Rattle.object_macho.proofs.Filling.{numbers_of_plan}
use Rattle.object_macho.proofs.Holds.{file_holds}
use Rattle.object_macho.proofs.TableFits.{table_fits}
use Rattle.object_macho.proofs.fill.fill_macho.Goals as goal

pub fill_parts-requires-clause-fits : goal.fill_parts-requires-clause-fits
fill_parts-requires-clause-fits c =
    let o = c.args.object.now in
    let writable : IsWritable o =
    record {
      formed = c.requires.formed;
      sound = subst (λ (f : BinaryFormat). AreSections f o.sections o.content_sum) c.requires.format c.sections-sections.ensures.sound;
      limits = c.requires.plan.limits;
      flags = c.flags_fit.ensures;
      version = λ v e. c.version_fits.ensures v (c.macho_build_version.ensures ∙ e);
    } in
    table_fits o writable

pub fill_parts-requires-clause-plan : goal.fill_parts-requires-clause-plan
fill_parts-requires-clause-plan c = numbers_of_plan c.args.plan.now c.args.object.now c.requires.plan.numbers

pub returns : goal.returns
returns c =
    let o = c.args.object.now in
    let writable : IsWritable o =
    record {
      formed = c.requires.formed;
      sound = subst (λ (f : BinaryFormat). AreSections f o.sections o.content_sum) c.requires.format c.sections-sections.ensures.sound;
      limits = c.requires.plan.limits;
      flags = c.flags_fit.ensures;
      version = λ v e. c.version_fits.ensures v (c.macho_build_version.ensures ∙ e);
    } in
    rw c.fill_parts.ensures (file_holds (macho_table_of o) (table_fits o writable))

use Rattle.fat_macho.specs.Held.{shapes_held}
use Rattle.image_build.proofs.FatCauses.{file_added, file_free, file_refused}
use Rattle.image_build.proofs.fat.add_file.Goals as goal

pub returns-in-Ok-add_owned-clause-ok : goal.returns-in-Ok-add_owned-clause-ok
returns-in-Ok-add_owned-clause-ok c =
    file_added c.args.part.now c.in-Ok.file.items c.args.writer.now _ c.requires.format c.in-Ok.ensures.valid c.in-Ok.ensures.built c.in-Ok-add_owned.ensures.added.ok c.in-Ok-add_owned.ensures.added.none

pub returns-in-Ok-add_owned-clause-none : goal.returns-in-Ok-add_owned-clause-none
returns-in-Ok-add_owned-clause-none c =
    file_free c.args.part.now c.in-Ok.file.items (shapes_held c.args.writer.now) c.requires.format c.in-Ok.ensures.valid c.in-Ok.ensures.built c.in-Ok-add_owned.ensures.added.none

pub returns-in-Err-add_owned-clause-cause : goal.returns-in-Err-add_owned-clause-cause
returns-in-Err-add_owned-clause-cause c =
    rw c.at.ensures
    (file_refused c.args.part.now c.in-Ok.file.items (shapes_held c.args.writer.now) c.in-Err-add_owned.error c.fat_cause.result c.requires.format c.in-Ok.ensures.valid c.in-Ok.ensures.built c.in-Err-add_owned.ensures.added.cause
    c.fat_cause.ensures)

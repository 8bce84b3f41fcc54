use Rattle.image_build.proofs.FatCauses.{image_added}
use Rattle.image_build.proofs.fat.add_image.Goals as goal

pub returns-in-Ok-clause-ok : goal.returns-in-Ok-clause-ok
returns-in-Ok-clause-ok c = image_added c.args.bytes.now c.args.writer.now _ c.in-Ok.ensures.added.ok c.in-Ok.ensures.added.none

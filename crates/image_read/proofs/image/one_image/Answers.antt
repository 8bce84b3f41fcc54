use Rattle.image_read.proofs.Laws.{one_image}
use Rattle.image_read.proofs.image.one_image.Goals as goal

pub returns : goal.returns
returns c = one_image

use Rattle.image_view.proofs.ViewedLaws.{one_view}
use Rattle.image_view.proofs.laws.one_view.Goals as goal

pub returns : goal.returns
returns c = one_view

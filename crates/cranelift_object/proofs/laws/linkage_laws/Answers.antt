use Rattle.cranelift_object.proofs.ShownLaws.{linkages_shown}
use Rattle.cranelift_object.proofs.laws.linkage_laws.Goals as goal

pub returns : goal.returns
returns c = record { shown = linkages_shown }

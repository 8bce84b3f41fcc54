use Rattle.cranelift_module.proofs.error.BackendCauseDisplay.fmt.Goals as goal

pub returns-in-UnsupportedReloc-clause-writes : goal.returns-in-UnsupportedReloc-clause-writes
returns-in-UnsupportedReloc-clause-writes g c = rw c.in-UnsupportedReloc.is c.write-in-UnsupportedReloc.ensures.writes

pub returns-in-BadReloc-clause-writes : goal.returns-in-BadReloc-clause-writes
returns-in-BadReloc-clause-writes g c = rw c.in-BadReloc.is c.write-in-BadReloc.ensures.writes

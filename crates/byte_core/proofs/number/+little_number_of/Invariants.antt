use Rattle.std.proofs.Common.{length}
use Rattle.byte_core.proofs.number.+little_number_of.Given as goal

abbrev pub decreases-little_number_of : goal.decreases-little_number_of
decreases-little_number_of l = length l.bytes.now

use Rattle.part_gen.proofs.Valid.{part_valid}
use Rattle.gen_summary.proofs.ReadBack.{file_is_elf}
use Rattle.gen_summary.proofs.summary.summary_text.Goals as goal

pub file_of_part-requires-clause-valid : goal.file_of_part-requires-clause-valid
file_of_part-requires-clause-valid c = rw c.in_ok-part.ensures.stated (part_valid c.args.seed c.args.n c.requires.least c.requires.most)

pub summary_of-requires : goal.summary_of-requires
summary_of-requires c = rw c.deref.ensures.value (file_is_elf c.args.seed c.args.n c.in_ok-bytes.bytes.items (rw c.in_ok-part.ensures.stated at c.in_ok-bytes.ensures))

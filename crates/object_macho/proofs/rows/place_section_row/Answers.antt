use Rattle.object_macho.proofs.Joining.{join_three}
use Rattle.object_macho.proofs.rows.place_section_row.Goals as goal

pub returns-clause-bytes : goal.returns-clause-bytes
returns-clause-bytes c = join_three _ _ _ _ _ _ _ c.place_name-at.ensures.bytes c.place_name-at-2.ensures.bytes c.place_section_numbers.ensures.bytes

use Rattle.object_elf.proofs.section_rows.place_section_row.Goals as goal

pub returns-clause-bytes : goal.returns-clause-bytes
returns-clause-bytes c =
    rw (c.of_u32.ensures, c.of_u32-2.ensures, c.of_u64.ensures, c.of_u64-2.ensures, c.of_u64-3.ensures, c.of_u64-4.ensures, c.of_u32-3.ensures, c.of_u32-4.ensures, c.of_u64-5.ensures, c.of_u64-6.ensures) at c.place_fields.ensures.bytes

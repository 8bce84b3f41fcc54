use Rattle.object_macho.proofs.rows.place_section_numbers.Goals as goal

pub returns-clause-bytes : goal.returns-clause-bytes
returns-clause-bytes c =
    rw (
      c.of_u64.ensures,
      c.of_u64-2.ensures,
      c.of_u32.ensures,
      c.of_u32-2.ensures,
      c.of_u32-3.ensures,
      c.of_u32-4.ensures,
      c.of_u32-5.ensures,
      c.of_u32-6.ensures,
      c.of_u32-7.ensures,
      c.of_u32-8.ensures,
      c.size-size.ensures,
      c.align-power.ensures,
      c.macho_flags-flags.ensures,
    )
    at c.place_fields.ensures.bytes

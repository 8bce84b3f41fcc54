use Rattle.object_elf.proofs.header.place_numbers.Goals as goal

pub returns-clause-bytes : goal.returns-clause-bytes
returns-clause-bytes c =
    rw (
      c.of_u16.ensures,
      c.of_u16-2.ensures,
      c.of_u32.ensures,
      c.of_u64.ensures,
      c.of_u64-2.ensures,
      c.of_u64-3.ensures,
      c.of_u32-2.ensures,
      c.of_u16-3.ensures,
      c.of_u16-4.ensures,
      c.of_u16-5.ensures,
      c.of_u16-6.ensures,
      c.of_u16-7.ensures,
      c.of_u16-8.ensures,
      c.elf_machine.ensures,
    )
    at c.place_fields.ensures.bytes

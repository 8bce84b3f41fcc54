use Rattle.std.proofs.Common.{arith}
use Rattle.object_elf.proofs.Tables.{names_split}
use Rattle.object_elf.proofs.Emitting.{section_texts}
use Rattle.object_elf.proofs.strings.place_section_strings.Goals as goal

pub place_own_names-at-requires : goal.place_own_names-at-requires
place_own_names-at-requires c = omega (arith, names_split c.args.object.now.sections, c.requires, c.place_byte-at.ensures.end, c.place_byte-at.ensures.len)

pub place_text-at-requires : goal.place_text-at-requires
place_text-at-requires c =
    omega (
      arith,
      names_split c.args.object.now.sections,
      c.requires,
      c.place_byte-at.ensures.end,
      c.place_byte-at.ensures.len,
      c.place_own_names-at.ensures.end,
      c.place_own_names-at.ensures.len,
    )

pub place_record_names-at-requires : goal.place_record_names-at-requires
place_record_names-at-requires c =
    omega (
      arith,
      names_split c.args.object.now.sections,
      c.requires,
      c.place_byte-at.ensures.end,
      c.place_byte-at.ensures.len,
      c.place_own_names-at.ensures.end,
      c.place_own_names-at.ensures.len,
      c.place_text-at.ensures.end,
      c.place_text-at.ensures.len,
    )

pub place_table_names-requires : goal.place_table_names-requires
place_table_names-requires c =
    omega (
      arith,
      names_split c.args.object.now.sections,
      c.requires,
      c.place_byte-at.ensures.end,
      c.place_byte-at.ensures.len,
      c.place_own_names-at.ensures.end,
      c.place_own_names-at.ensures.len,
      c.place_text-at.ensures.end,
      c.place_text-at.ensures.len,
      c.place_record_names-at.ensures.end,
      c.place_record_names-at.ensures.len,
    )

pub returns-clause-bytes : goal.returns-clause-bytes
returns-clause-bytes c =
    section_texts c.args.object.now _ _ _ _ _ _ c.place_byte-at.ensures.bytes c.place_own_names-at.ensures.bytes c.place_text-at.ensures.bytes c.place_record_names-at.ensures.bytes c.place_table_names.ensures.bytes

pub returns-clause-end : goal.returns-clause-end
returns-clause-end c =
    omega (
      arith,
      names_split c.args.object.now.sections,
      c.place_byte-at.ensures.end,
      c.place_own_names-at.ensures.end,
      c.place_text-at.ensures.end,
      c.place_record_names-at.ensures.end,
      c.place_table_names.ensures.end,
    )

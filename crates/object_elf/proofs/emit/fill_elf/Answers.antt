use Rattle.std.proofs.Common.{◌≡◌, ◌≤◌, ◌-◌, ◌*◌, ◌+◌, ap, arith, refl, ◌∙◌, length, take, length-take-le}
use Rattle.object_core.specs.ElfRows.{elf_table_of, elf_machine}
use Rattle.object_elf.specs.Layout.{headers_start, parts_of}
use Rattle.object_elf.specs.File.{header_bytes}
use Rattle.object_elf.proofs.Tables.{counts_are}
use Rattle.object_elf.proofs.Fit.{table_fits}
use Rattle.object_elf.proofs.Holds.{file_holds}
use Rattle.object_elf.proofs.Planning.{plan_rows, plan_places, plan_length, length-places_of}
use Rattle.object_elf.proofs.Emitting.{part_count_is, header_is_of, ends, object_file}
use Rattle.object_elf.proofs.emit.fill_elf.Goals as goal

pub overflow_cast-count : goal.overflow_cast-count
overflow_cast-count c =
    let o = c.args.object.now in
    let count = ap length (c.places-places.ensures ∙ plan_places c.args.plan.now o c.requires.plan.numbers) ∙ length-places_of (parts_of (elf_table_of o)) in
    let limits = rw (counts_are o) at c.requires.plan.limits in
    omega (arith, count, part_count_is o, limits.sections)

pub overflow_mul-start : goal.overflow_mul-start
overflow_mul-start c =
    let o = c.args.object.now in
    let count = ap length (c.places-places.ensures ∙ plan_places c.args.plan.now o c.requires.plan.numbers) ∙ length-places_of (parts_of (elf_table_of o)) in
    let limits = rw (counts_are o) at c.requires.plan.limits in
    omega (arith, count, part_count_is o, limits.sections, c.from.ensures)

pub overflow_sub-start : goal.overflow_sub-start
overflow_sub-start c =
    let o = c.args.object.now in
    let count = ap length (c.places-places.ensures ∙ plan_places c.args.plan.now o c.requires.plan.numbers) ∙ length-places_of (parts_of (elf_table_of o)) in
    omega (arith, count, c.from.ensures, c.len.ensures, plan_length c.args.plan.now o c.requires.plan.numbers)

pub place_header-at-requires-clause-count : goal.place_header-at-requires-clause-count
place_header-at-requires-clause-count c =
    let o = c.args.object.now in
    let count = ap length (c.places-places.ensures ∙ plan_places c.args.plan.now o c.requires.plan.numbers) ∙ length-places_of (parts_of (elf_table_of o)) in
    let limits = rw (counts_are o) at c.requires.plan.limits in
    omega (arith, count, part_count_is o, limits.sections)

pub place_header-at-requires-clause-room : goal.place_header-at-requires-clause-room
place_header-at-requires-clause-room c = omega (arith, c.requires.room, plan_length c.args.plan.now c.args.object.now c.requires.plan.numbers)

pub place_body-at-requires-clause-limits : goal.place_body-at-requires-clause-limits
place_body-at-requires-clause-limits c = rw (counts_are c.args.object.now) at c.requires.plan.limits

pub place_body-at-requires-clause-rows : goal.place_body-at-requires-clause-rows
place_body-at-requires-clause-rows c = c.rows.ensures ∙ plan_rows c.args.plan.now c.args.object.now c.requires.plan.numbers

pub place_body-at-requires-clause-room : goal.place_body-at-requires-clause-room
place_body-at-requires-clause-room c = omega (arith, c.place_header-at.ensures.len, c.requires.room, plan_length c.args.plan.now c.args.object.now c.requires.plan.numbers)

pub place_section_strings-at-requires : goal.place_section_strings-at-requires
place_section_strings-at-requires c =
    let o = c.args.object.now in
    let rows = c.rows.ensures ∙ plan_rows c.args.plan.now o c.requires.plan.numbers in
    let behind = ends o c.rows.result.now c.requires.format c.place_body-at.ensures.numbers.sections c.requires.formed rows in
    let body = rw c.place_header-at.ensures.end at c.place_body-at.ensures.end in
    omega (arith, behind, body, c.place_header-at.ensures.len, c.place_body-at.ensures.len, c.requires.room, plan_length c.args.plan.now o c.requires.plan.numbers)

pub place_padding-at-requires : goal.place_padding-at-requires
place_padding-at-requires c =
    let o = c.args.object.now in
    let rows = c.rows.ensures ∙ plan_rows c.args.plan.now o c.requires.plan.numbers in
    let behind = ends o c.rows.result.now c.requires.format c.place_body-at.ensures.numbers.sections c.requires.formed rows in
    let body = rw c.place_header-at.ensures.end at c.place_body-at.ensures.end in
    omega (
      arith,
      behind,
      body,
      c.place_section_strings-at.ensures.end,
      c.place_header-at.ensures.len,
      c.place_body-at.ensures.len,
      c.place_section_strings-at.ensures.len,
      c.requires.room,
      plan_length c.args.plan.now o c.requires.plan.numbers,
    )

pub place_section_rows-requires-clause-limits : goal.place_section_rows-requires-clause-limits
place_section_rows-requires-clause-limits c = rw (counts_are c.args.object.now) at c.requires.plan.limits

pub place_section_rows-requires-clause-places : goal.place_section_rows-requires-clause-places
place_section_rows-requires-clause-places c = c.places-places.ensures ∙ plan_places c.args.plan.now c.args.object.now c.requires.plan.numbers

pub place_section_rows-requires-clause-room : goal.place_section_rows-requires-clause-room
place_section_rows-requires-clause-room c =
    let o = c.args.object.now in
    let rows = c.rows.ensures ∙ plan_rows c.args.plan.now o c.requires.plan.numbers in
    let behind = ends o c.rows.result.now c.requires.format c.place_body-at.ensures.numbers.sections c.requires.formed rows in
    let body = rw c.place_header-at.ensures.end at c.place_body-at.ensures.end in
    omega (
      arith,
      behind,
      body,
      c.place_section_strings-at.ensures.end,
      c.place_padding-at.ensures.end,
      c.place_header-at.ensures.len,
      c.place_body-at.ensures.len,
      c.place_section_strings-at.ensures.len,
      c.place_padding-at.ensures.len,
      c.requires.room,
      plan_length c.args.plan.now o c.requires.plan.numbers,
    )

pub returns : goal.returns
returns c =
    let o = c.args.object.now in
    let size = plan_length c.args.plan.now o c.requires.plan.numbers in
    let limits = rw (counts_are o) at c.requires.plan.limits in
    let rows = c.rows.ensures ∙ plan_rows c.args.plan.now o c.requires.plan.numbers in
    let behind = ends o c.rows.result.now c.requires.format c.place_body-at.ensures.numbers.sections c.requires.formed rows in
    let body = rw c.place_header-at.ensures.end at c.place_body-at.ensures.end in
    let count : length c.places-places.result.now ≡ length (parts_of (elf_table_of o)) = ap length (c.places-places.ensures ∙ plan_places c.args.plan.now o c.requires.plan.numbers) ∙ length-places_of (parts_of (elf_table_of o)) in
    let fits = table_fits o c.requires.format c.requires.formed limits c.place_body-at.ensures.numbers (omega (arith, c.place_header-at.ensures.flags, c.e_flags.ensures)) (omega (arith, size, c.len.ensures)) in
    let start : c.len.result - 64 * (c.from.result + 1) ≡ headers_start (elf_table_of o) = omega (arith, size, c.len.ensures, count, c.from.ensures) in
    let head = c.place_header-at.ensures.bytes ∙ ap header_bytes (header_is_of o (elf_machine c.architecture.result) c.e_flags.result _ _ (ap elf_machine c.architecture.ensures) c.e_flags.ensures start count) in
    let room : c.place_section_strings-at.result ≤ length c.place_section_strings-at.new.out = omega (
      arith,
      behind,
      body,
      c.place_section_strings-at.ensures.end,
      c.place_header-at.ensures.len,
      c.place_body-at.ensures.len,
      c.place_section_strings-at.ensures.len,
      c.requires.room,
      size,
    ) in
    let filled : length (take c.place_section_strings-at.result c.place_section_strings-at.new.out) ≡ c.place_section_strings-at.result = length-take-le c.place_section_strings-at.result c.place_section_strings-at.new.out room in
    let whole : length c.place_section_rows.new.out ≡ c.place_section_rows.result = omega (
      arith,
      behind,
      body,
      c.place_section_strings-at.ensures.end,
      c.place_padding-at.ensures.end,
      c.place_section_rows.ensures.end,
      c.place_header-at.ensures.len,
      c.place_body-at.ensures.len,
      c.place_section_strings-at.ensures.len,
      c.place_padding-at.ensures.len,
      c.place_section_rows.ensures.len,
      c.requires.room,
      size,
    ) in
    let file =
    object_file o c.rows.result.now _ _ _ _ _ _ c.place_section_rows.result fits c.requires.formed rows head c.place_body-at.ensures.bytes c.place_section_strings-at.ensures.bytes (rw filled c.place_padding-at.ensures.bytes) c.place_section_rows.ensures.rows refl
    whole in
    rw file (file_holds (elf_table_of o) fits)

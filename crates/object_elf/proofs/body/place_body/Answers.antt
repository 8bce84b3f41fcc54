use Rattle.std.proofs.Common.{ap, ◌∙◌, arith, length, map}
use Rattle.std.specs.Prelude.{filter}
use Rattle.byte_core.specs.LaidOut.{end_of_aligned}
use Rattle.byte_core.proofs.LaidOut.{end_of_aligned-le, lays_as}
use Rattle.object_elf.specs.Writing.{contents_at, records_at, has_relocations}
use Rattle.object_elf.proofs.Items.{contents_told, aligns_same}
use Rattle.object_elf.proofs.Fit.{formed_rows, formed_names}
use Rattle.object_elf.proofs.Planning.{length-rows_of}
use Rattle.object_elf.proofs.Emitting.{body_laid, body_end, body_room}
use Rattle.object_elf.proofs.body.place_body.Goals as goal

pub place_contents-at-requires : goal.place_contents-at-requires
place_contents-at-requires c =
    let o = c.args.object.now in
    let told = contents_told o.sections _ c.sections.ensures.value in
    let records = map (records_at c.args.rows.now) (filter has_relocations o.sections) in
    rw told (omega (arith, body_end o c.args.rows.now c.args.at, end_of_aligned-le (end_of_aligned c.args.at (map contents_at o.sections)) records, body_room c.args.object.now c.args.rows.now c.args.at _ c.requires.format c.sections.ensures.sound c.requires.formed c.requires.rows c.requires.start c.requires.room))

pub place_relocations-at-requires-clause-names : goal.place_relocations-at-requires-clause-names
place_relocations-at-requires-clause-names c = formed_names c.args.object.now c.requires.formed _ (ap length c.requires.rows ∙ length-rows_of c.args.object.now.symbols)

pub place_relocations-at-requires-clause-room : goal.place_relocations-at-requires-clause-room
place_relocations-at-requires-clause-room c =
    let contents = c.place_contents-at.ensures.end ∙ ap (end_of_aligned c.args.at) (contents_told c.args.object.now.sections _ c.sections.ensures.value) in
    rw contents (omega (arith, body_end c.args.object.now c.args.rows.now c.args.at, body_room c.args.object.now c.args.rows.now c.args.at _ c.requires.format c.sections.ensures.sound c.requires.formed c.requires.rows c.requires.start c.requires.room, c.place_contents-at.ensures.len))

pub place_symbol_table-at-requires-clause-fits : goal.place_symbol_table-at-requires-clause-fits
place_symbol_table-at-requires-clause-fits c = formed_rows c.args.object.now c.requires.formed c.requires.limits

pub place_symbol_table-at-requires-clause-room : goal.place_symbol_table-at-requires-clause-room
place_symbol_table-at-requires-clause-room c =
    let contents = c.place_contents-at.ensures.end ∙ ap (end_of_aligned c.args.at) (contents_told c.args.object.now.sections _ c.sections.ensures.value) in
    let records = rw contents at c.place_relocations-at.ensures.end in
    rw records (omega (arith, body_end c.args.object.now c.args.rows.now c.args.at, body_room c.args.object.now c.args.rows.now c.args.at _ c.requires.format c.sections.ensures.sound c.requires.formed c.requires.rows c.requires.start c.requires.room, c.place_contents-at.ensures.len, c.place_relocations-at.ensures.len))

pub place_symbol_strings-requires : goal.place_symbol_strings-requires
place_symbol_strings-requires c =
    let contents = c.place_contents-at.ensures.end ∙ ap (end_of_aligned c.args.at) (contents_told c.args.object.now.sections _ c.sections.ensures.value) in
    let records = rw contents at c.place_relocations-at.ensures.end in
    rw (rw records at c.place_symbol_table-at.ensures.end)
    (omega (arith, body_end c.args.object.now c.args.rows.now c.args.at, body_room c.args.object.now c.args.rows.now c.args.at _ c.requires.format c.sections.ensures.sound c.requires.formed c.requires.rows c.requires.start c.requires.room, c.place_contents-at.ensures.len, c.place_relocations-at.ensures.len, c.place_symbol_table-at.ensures.len))

pub returns-clause-numbers : goal.returns-clause-numbers
returns-clause-numbers c =
    record {
      sections = c.sections.ensures.sound;
      aligns = aligns_same c.args.object.now.sections _ c.sections.ensures.value c.place_contents-at.ensures.aligns;
      records = c.place_relocations-at.ensures.fit;
      locals = c.place_symbol_table-at.ensures.local_sizes;
      others = c.place_symbol_table-at.ensures.other_sizes;
    }

pub returns-clause-bytes : goal.returns-clause-bytes
returns-clause-bytes c =
    let contents = lays_as _ _ _ _ (contents_told c.args.object.now.sections _ c.sections.ensures.value) c.place_contents-at.ensures.contents in
    body_laid c.args.object.now c.args.rows.now _ _ _ _ _ contents c.place_relocations-at.ensures.records c.place_symbol_table-at.ensures.table c.place_symbol_strings.ensures.bytes

pub returns-clause-end : goal.returns-clause-end
returns-clause-end c =
    let contents = c.place_contents-at.ensures.end ∙ ap (end_of_aligned c.args.at) (contents_told c.args.object.now.sections _ c.sections.ensures.value) in
    let records = rw contents at c.place_relocations-at.ensures.end in
    omega (arith, body_end c.args.object.now c.args.rows.now c.args.at, rw records at c.place_symbol_table-at.ensures.end, c.place_symbol_strings.ensures.end)

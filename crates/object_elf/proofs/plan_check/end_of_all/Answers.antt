use Rattle.std.proofs.Common.{◌≡◌, ◌+◌, ◌-◌, ◌∷◌, [], ◌++◌, arith, ap, sym, refl, ◌∙◌, append_assoc, length, map, length-append}
use Rattle.std.proofs.lemmas.List.{length-map}
use Rattle.object_core.specs.ElfRows.{elf_table_of}
use Rattle.object_core.specs.Object.{body_of}
use Rattle.object_elf.specs.Layout.{note_part, table_parts}
use Rattle.object_elf.specs.PartView.{content_part_of, relocation_parts_from}
use Rattle.object_elf.proofs.Tables.{parts_are, table_row_is}
use Rattle.object_elf.proofs.Emitting.{part_count_is}
use Rattle.object_elf.proofs.PartLoops.{parts_count, note_split, stand_none, stand_more, over_as, stops, last_part}
use Rattle.object_elf.proofs.plan_check.end_of_all.Goals as goal

pub returns-in_err-end : goal.returns-in_err-end
returns-in_err-end c =
    let o = c.args.object.now in
    let parts = parts_are o c.args.table (sym c.requires.table) in
    let cs = map content_part_of o.sections in
    let rs = relocation_parts_from c.args.table 1 o.sections in
    rw c.from_residual.ensures (stops c.args.places.now 0 0 64 64 [] cs (note_part ∷ rs ++ table_parts (elf_table_of o)) _ (stand_none _ _ _) refl (parts ∙ append_assoc cs (note_part ∷ rs) (table_parts (elf_table_of o))) c.in_err-end.ensures)

pub returns-in_err-end-2 : goal.returns-in_err-end-2
returns-in_err-end-2 c =
    let o = c.args.object.now in
    let parts = parts_are o c.args.table (sym c.requires.table) in
    let cs = map content_part_of o.sections in
    let rs = relocation_parts_from c.args.table 1 o.sections in
    let count : length c.sections-count.result.now ≡ 0 + length cs = omega (arith, ap length c.sections-count.ensures.value, length-map o.sections body_of, length-map o.sections content_part_of) in
    rw c.from_residual-in_err-end-2.ensures
    (stops c.args.places.now 0 _ 64 _ cs (note_part ∷ []) (rs ++ table_parts (elf_table_of o)) _ c.in_ok-end.ensures count (parts ∙ append_assoc cs (note_part ∷ rs) (table_parts (elf_table_of o))) (over_as _ _ _ _ _ c.stack_note.ensures c.in_err-end-2.ensures))

pub returns-in_err-end-3 : goal.returns-in_err-end-3
returns-in_err-end-3 c =
    let o = c.args.object.now in
    let parts = parts_are o c.args.table (sym c.requires.table) in
    let cs = map content_part_of o.sections in
    let rs = relocation_parts_from c.args.table 1 o.sections in
    let count : length c.sections-count.result.now ≡ 0 + length cs = omega (arith, ap length c.sections-count.ensures.value, length-map o.sections body_of, length-map o.sections content_part_of) in
    let front = stand_more _ _ _ _ _ _ cs (note_part ∷ []) (cs ++ note_part ∷ []) c.in_ok-end.ensures (rw c.stack_note.ensures at c.in_ok-end-2.ensures) count refl in
    let number : length o.sections + 1 ≡ 0 + length (cs ++ note_part ∷ []) = omega (arith, length-append cs (note_part ∷ []), length-map o.sections content_part_of) in
    rw c.from_residual-in_err-end-3.ensures
    (stops c.args.places.now 0 _ 64 _ (cs ++ note_part ∷ []) rs (table_parts (elf_table_of o)) _ front number (note_split note_part cs rs (table_parts (elf_table_of o)) _ parts) c.in_err-end-3.ensures)

pub returns : goal.returns
returns c =
    let o = c.args.object.now in
    let parts = parts_are o c.args.table (sym c.requires.table) in
    let cs = map content_part_of o.sections in
    let rs = relocation_parts_from c.args.table 1 o.sections in
    let count : length c.sections-count.result.now ≡ 0 + length cs = omega (arith, ap length c.sections-count.ensures.value, length-map o.sections body_of, length-map o.sections content_part_of) in
    let front = stand_more _ _ _ _ _ _ cs (note_part ∷ []) (cs ++ note_part ∷ []) c.in_ok-end.ensures (rw c.stack_note.ensures at c.in_ok-end-2.ensures) count refl in
    let number : length o.sections + 1 ≡ 0 + length (cs ++ note_part ∷ []) = omega (arith, length-append cs (note_part ∷ []), length-map o.sections content_part_of) in
    let behind = stand_more _ _ _ _ _ _ (cs ++ note_part ∷ []) rs (cs ++ note_part ∷ rs) front c.in_ok-end-3.ensures number (sym (append_assoc cs (note_part ∷ []) rs)) in
    let all = parts_count note_part cs rs (table_parts (elf_table_of o)) _ parts in
    let tables : c.args.table - 1 ≡ 0 + length (cs ++ note_part ∷ rs) = omega (arith, c.requires.table, table_row_is o, part_count_is o, all, length-append cs (note_part ∷ rs)) in
    last_part _ _ _ _ _ _ _ behind tables parts (rw c.table_parts-parts.ensures at c.end_at-2.ensures)

use Rattle.std.proofs.Common.{◌+◌, List, take, length, refl, ap, sym, ◌∙◌, subst, arith}
use Rattle.std.proofs.lemmas.Option.{slice_get_read}
use Rattle.object_core.specs.declared.relocation.Relocation.{Relocation}
use Rattle.object_macho.specs.Rows.{FitFields, FieldsApart, IsRowOf}
use Rattle.object_macho.proofs.Patching.{Steps, step_front, patched_next, patched_end}
use Rattle.ir_core.specs.MachO.{is_in_field}
use Rattle.object_core.specs.MachRows.{mach_type_of}
use Rattle.object_macho.proofs.contents.place_contents.Goals as goal

pub loop-relocation-preserved : goal.loop-relocation-preserved
loop-relocation-preserved c =
    let i = c.loop-relocation.relocation-index in
    let rs = c.relocations-relocation-items.result.now in
    let r = c.relocation-item.result in
    let b = c.args.section.now.contents in
    let here = slice_get_read rs (length rs) i r refl c.loop-relocation-test.true c.relocation-item.is in
    let fits : FitFields c.args.cputype (length b) rs = subst (FitFields c.args.cputype (length b)) (sym c.relocations-relocation-items.ensures) c.requires.fields in
    let apart : FieldsApart rs = subst FieldsApart (sym c.relocations-relocation-items.ensures) c.requires.apart in
    let step : Steps c.args.cputype c.args.at r c.loop-relocation.out c.patch_field.new.out = record { kept = c.patch_field.ensures.kept; put = c.patch_field.ensures.put } in
    record {
      patched = λ symbols. patched_next c.args.cputype c.args.at symbols rs i r b c.loop-relocation.out c.patch_field.new.out here (c.loop-relocation.invariant.patched symbols) step fits apart (omega (arith, c.loop-relocation.invariant.len, c.requires.room));
      front = step_front c.args.cputype c.args.at (length b) r c.loop-relocation.out c.patch_field.new.out (is_in_field c.args.cputype (mach_type_of r.flags)) refl (fits i r here) (omega (arith, c.loop-relocation.invariant.len, c.requires.room)) step ∙ c.loop-relocation.invariant.front;
      len = c.patch_field.ensures.len ∙ c.loop-relocation.invariant.len;
    }

pub returns-clause-bytes : goal.returns-clause-bytes
returns-clause-bytes c = λ symbols s row.
    let rs = c.relocations-relocation-items.result.now in
    let b = c.args.section.now.contents in
    let same : IsRowOf b rs symbols s = subst (λ (xs : List Relocation). IsRowOf b xs symbols s) (sym c.relocations-relocation-items.ensures) row in
    ap (λ n. take n c.loop-relocation.out) (c.place_bytes-end.ensures.end ∙ ap (λ xs. c.args.at + length xs) c.contents.ensures)
    ∙ patched_end c.args.cputype c.args.at symbols rs c.loop-relocation.relocation-index b c.args.out.now c.loop-relocation.out s (omega (arith, c.loop-relocation-test.false)) (c.loop-relocation.invariant.patched symbols) same c.loop-relocation.invariant.front

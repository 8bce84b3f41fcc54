use Rattle.std.proofs.Common.{sum_by, ◌+◌, arith, ap, sym, ◌∙◌, length, map, ◌++◌, codes}
use Rattle.object_core.specs.Object.{body_of}
use Rattle.object_elf.specs.Writing.{record_name, record_name_size}
use Rattle.object_elf.proofs.Items.{item_of, has_same}
use Rattle.object_elf.proofs.NameLoops.{name_more, names_passed, relocated_past, relocated_left, record_size_next}
use Rattle.object_elf.proofs.strings.place_record_names.Goals as goal

pub place_record_name-end-requires : goal.place_record_name-end-requires
place_record_name-end-requires c =
    let o = c.args.object.now in
    let item = item_of body_of o.sections _ c.loop-k.k c.index-sections-k.result c.sections-sections.ensures.value c.loop-k-test.true c.index-sections-k.is in
    let s = item.whole in
    let e = item.found in
    let some = sym (has_same s _ item.same) ∙ sym c.has_relocations.ensures ∙ c.if-not-has_relocations.false in
    omega (arith, ap length (c.section_name.ensures s e), record_size_next o.sections c.loop-k.k s e some, c.loop-k.invariant.end, c.loop-k.invariant.len, c.requires)

pub loop-k-preserved-then-not-has_relocations : goal.loop-k-preserved-then-not-has_relocations
loop-k-preserved-then-not-has_relocations c =
    let o = c.args.object.now in
    let item = item_of body_of o.sections _ c.loop-k.k c.index-sections-k.result c.sections-sections.ensures.value c.loop-k-test.true c.index-sections-k.is in
    let s = item.whole in
    let none = sym (has_same s _ item.same) ∙ sym c.has_relocations.ensures ∙ c.if-not-has_relocations.true in
    let same = relocated_past o.sections c.loop-k.k s item.found none in
    record {
      names = names_passed _ _ _ _ (ap (map record_name) same) c.loop-k.invariant.names;
      end = ap (λ l. c.loop-k.end + sum_by record_name_size l) (sym same) ∙ c.loop-k.invariant.end;
      len = c.loop-k.invariant.len;
    }

pub loop-k-preserved : goal.loop-k-preserved
loop-k-preserved c =
    let o = c.args.object.now in
    let item = item_of body_of o.sections _ c.loop-k.k c.index-sections-k.result c.sections-sections.ensures.value c.loop-k-test.true c.index-sections-k.is in
    let s = item.whole in
    let e = item.found in
    let some = sym (has_same s _ item.same) ∙ sym c.has_relocations.ensures ∙ c.if-not-has_relocations.false in
    let name = c.section_name.ensures s e in
    record {
      names =
          name_more _ _ _ _ (record_name s) _ _ (ap (map record_name) (relocated_left o.sections c.loop-k.k s e some)) (ap (λ l. codes ".rela" ++ l) name) c.place_record_name-end.ensures.bytes c.loop-k.invariant.names;
      end = omega (arith, c.place_record_name-end.ensures.end, ap length name, record_size_next o.sections c.loop-k.k s e some, c.loop-k.invariant.end);
      len = c.place_record_name-end.ensures.len ∙ c.loop-k.invariant.len;
    }

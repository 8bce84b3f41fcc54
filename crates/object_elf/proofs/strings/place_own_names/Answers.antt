use Rattle.std.proofs.Common.{arith, ap, ◌∙◌, length}
use Rattle.std.proofs.lemmas.List.{length-map}
use Rattle.object_core.specs.Object.{body_of}
use Rattle.byte_core.proofs.Lists.{get_exists}
use Rattle.object_elf.proofs.NameLoops.{name_more, own_next, own_size_next}
use Rattle.object_elf.proofs.strings.place_own_names.Goals as goal

pub place_text-end-requires : goal.place_text-end-requires
place_text-end-requires c =
    let o = c.args.object.now in
    let s = get_exists o.sections c.loop-k.k (omega (arith, c.loop-k-test.true, ap length c.sections-sections.ensures.value, length-map o.sections body_of)) in
    omega (arith, ap length (c.section_name.ensures s.0 s.1), own_size_next o.sections c.loop-k.k s.0 s.1, c.loop-k.invariant.end, c.loop-k.invariant.len, c.requires)

pub loop-k-preserved : goal.loop-k-preserved
loop-k-preserved c =
    let o = c.args.object.now in
    let s = get_exists o.sections c.loop-k.k (omega (arith, c.loop-k-test.true, ap length c.sections-sections.ensures.value, length-map o.sections body_of)) in
    record {
      names = name_more _ _ _ _ s.0.name _ _ (own_next o.sections c.loop-k.k s.0 s.1) (c.section_name.ensures s.0 s.1) c.place_text-end.ensures.bytes c.loop-k.invariant.names;
      end = omega (arith, c.place_text-end.ensures.end, ap length (c.section_name.ensures s.0 s.1), own_size_next o.sections c.loop-k.k s.0 s.1, c.loop-k.invariant.end);
      len = c.place_text-end.ensures.len ∙ c.loop-k.invariant.len;
    }

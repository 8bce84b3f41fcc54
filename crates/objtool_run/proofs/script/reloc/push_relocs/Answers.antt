use Rattle.std.proofs.Common.{◌∙◌, ap, Some}
use Rattle.std.proofs.lemmas.List.{map-id}
use Rattle.serde_json.specs.View.{view}
use Rattle.cranelift_module.specs.declared.reloc.ModuleReloc.{ModuleReloc}
use Rattle.json_form.proofs.EachOf.{each_step, each_stop, each_end}
use Rattle.objtool_run.specs.DefinitionForm.{reloc_of}
use Rattle.objtool_run.proofs.Appending.{appended}
use Rattle.objtool_run.proofs.script.reloc.push_relocs.Goals as goal

pub returns-in-Err : goal.returns-in-Err
returns-in-Err c = each_stop reloc_of c.args.values.now c.loop-value.value-index c.value-item.result _ c.in-Err.error _ c.loop-value-test.true c.value-item.is c.loop-value.invariant c.in-Err.ensures.err

pub loop-value-preserved : goal.loop-value-preserved
loop-value-preserved c =
    let one = appended c.loop-value.relocs.items c.push_reloc.new.relocs.items (reloc_of (view c.value-item.result)) c.in-Ok.ensures.ok in
    each_step reloc_of (λ (x : ModuleReloc). x) c.args.values.now c.loop-value.value-index c.value-item.result c.loop-value.relocs.items c.push_reloc.new.relocs.items one.0 _
    c.loop-value-test.true c.value-item.is one.2 c.loop-value.invariant one.1

pub returns : goal.returns
returns c = each_end reloc_of c.args.values.now c.loop-value.value-index _ _ c.loop-value-test.false c.loop-value.invariant ∙ ap Some (map-id c.loop-value.relocs.items)

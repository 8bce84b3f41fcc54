use Rattle.std.proofs.lemmas.Result.{err_from_is_err_and}
use Rattle.cranelift_module.proofs.NamesRead.{object_step, object_stop, functions_stop}
use Rattle.cranelift_module.proofs.declaration_json.names.names_of.Goals as goal

pub returns-in_err-names-clause-cause : goal.returns-in_err-names-clause-cause
returns-in_err-names-clause-cause c = let p = err_from_is_err_and c.from_residual.result c.from_residual.ensures.1 in
    rw (p.1, p.2) (functions_stop c.args.functions.now c.args.objects.now _ c.in_err-names.ensures.cause)

pub returns-in_err-add_name-clause-cause : goal.returns-in_err-add_name-clause-cause
returns-in_err-add_name-clause-cause c =
    let p = err_from_is_err_and c.from_residual-in_err-add_name.result c.from_residual-in_err-add_name.ensures.1 in
    rw (p.1, p.2)
    (object_stop c.loop-i.names c.args.functions.now c.args.objects.now c.loop-i.i c.index-objects-i.result _ _ c.loop-i-test.true c.index-objects-i.is c.name.ensures c.in_err-add_name.ensures.cause c.loop-i.invariant)

pub loop-i-preserved : goal.loop-i-preserved
loop-i-preserved c =
    object_step c.loop-i.names c.add_name.new.names c.args.functions.now c.args.objects.now c.loop-i.i c.from_u32.result c.index-objects-i.result _ c.loop-i-test.true c.if-objects-gt-IDENTIFIER_LIMIT.false c.index-objects-i.is c.name.ensures c.from_u32.ensures
    c.in_ok-add_name.ensures.added c.loop-i.invariant

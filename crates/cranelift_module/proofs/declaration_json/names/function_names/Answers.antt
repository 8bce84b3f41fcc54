use Rattle.std.proofs.lemmas.Result.{err_from_is_err_and}
use Rattle.cranelift_module.proofs.NamesRead.{function_step, function_stop}
use Rattle.cranelift_module.proofs.declaration_json.names.function_names.Goals as goal

pub returns-in_err-add_name-clause-cause : goal.returns-in_err-add_name-clause-cause
returns-in_err-add_name-clause-cause c =
    let p = err_from_is_err_and c.from_residual.result c.from_residual.ensures.1 in
    rw (p.1, p.2)
    (function_stop c.loop-i.names c.args.functions.now c.loop-i.i c.index-functions-i.result _ _ c.loop-i-test.true c.index-functions-i.is c.name.ensures c.in_err-add_name.ensures.cause c.loop-i.invariant)

pub loop-i-preserved : goal.loop-i-preserved
loop-i-preserved c =
    function_step c.loop-i.names c.add_name.new.names c.args.functions.now c.loop-i.i c.from_u32.result c.index-functions-i.result _ c.loop-i-test.true c.requires c.index-functions-i.is c.name.ensures c.from_u32.ensures c.in_ok-add_name.ensures.added c.loop-i.invariant

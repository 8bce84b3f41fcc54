use Rattle.std.proofs.Common.{Some, ap, subst, ◌∙◌}
use Rattle.cranelift_object.specs.Opened.{OpenModule}
use Rattle.cranelift_object.specs.Kept.{IsModule}
use Rattle.cranelift_object.proofs.DefineLaws.{created_there, created_function, created_data, function_row_more, data_row_more, functions_past, objects_past}
use Rattle.cranelift_object.proofs.backend.ObjectModule.add_identifier.Goals as goal

pub add_function-requires : goal.add_function-requires
add_function-requires c =
    let h = subst (λ (o : OpenModule). IsModule o (record { functions = c.self.inside.defined.items; objects = c.self.inside.defined_objects.items })) c.self.view_is c.self.invariant in
    let at = created_there c.self.inside.created.items c.args.self.now.state.created c.args.number c.index.result.now (ap (λ (o : OpenModule). o.state.created) c.self.view_is) c.requires.number c.index.ensures ∙ ap Some c.in-Func.is in
    created_function c.args.self.now _ c.args.number c.in-Func.id h at

pub add_object-requires : goal.add_object-requires
add_object-requires c =
    let h = subst (λ (o : OpenModule). IsModule o (record { functions = c.self.inside.defined.items; objects = c.self.inside.defined_objects.items })) c.self.view_is c.self.invariant in
    let at = created_there c.self.inside.created.items c.args.self.now.state.created c.args.number c.index.result.now (ap (λ (o : OpenModule). o.state.created) c.self.view_is) c.requires.number c.index.ensures ∙ ap Some c.in-Data.is in
    created_data c.args.self.now _ c.args.number c.in-Data.id h at

pub returns-in_ok-push-in-Func-clause-functions : goal.returns-in_ok-push-in-Func-clause-functions
returns-in_ok-push-in-Func-clause-functions c =
    let h = subst (λ (o : OpenModule). IsModule o (record { functions = c.self.inside.defined.items; objects = c.self.inside.defined_objects.items })) c.self.view_is c.self.invariant in
    let at = created_there c.self.inside.created.items c.args.self.now.state.created c.args.number c.index.result.now (ap (λ (o : OpenModule). o.state.created) c.self.view_is) c.requires.number c.index.ensures ∙ ap Some c.in-Func.is in
    function_row_more c.args.self.now _ c.args.number c.in-Func.id c.args.object.now c.args.symbols.now.functions.items c.push.new.self.items c.in_ok-row-in-Func.row h at c.requires.object c.in_ok-row-in-Func.ensures.row c.requires.functions c.in_ok-push-in-Func.ensures.items

pub returns-in_ok-push-in-Func-clause-objects : goal.returns-in_ok-push-in-Func-clause-objects
returns-in_ok-push-in-Func-clause-objects c =
    let at = created_there c.self.inside.created.items c.args.self.now.state.created c.args.number c.index.result.now (ap (λ (o : OpenModule). o.state.created) c.self.view_is) c.requires.number c.index.ensures ∙ ap Some c.in-Func.is in
    c.requires.objects ∙ objects_past c.args.self.now c.args.number c.in-Func.id at

pub returns-in_ok-push-in-Data-clause-functions : goal.returns-in_ok-push-in-Data-clause-functions
returns-in_ok-push-in-Data-clause-functions c =
    let at = created_there c.self.inside.created.items c.args.self.now.state.created c.args.number c.index.result.now (ap (λ (o : OpenModule). o.state.created) c.self.view_is) c.requires.number c.index.ensures ∙ ap Some c.in-Data.is in
    c.requires.functions ∙ functions_past c.args.self.now c.args.number c.in-Data.id at

pub returns-in_ok-push-in-Data-clause-objects : goal.returns-in_ok-push-in-Data-clause-objects
returns-in_ok-push-in-Data-clause-objects c =
    let h = subst (λ (o : OpenModule). IsModule o (record { functions = c.self.inside.defined.items; objects = c.self.inside.defined_objects.items })) c.self.view_is c.self.invariant in
    let at = created_there c.self.inside.created.items c.args.self.now.state.created c.args.number c.index.result.now (ap (λ (o : OpenModule). o.state.created) c.self.view_is) c.requires.number c.index.ensures ∙ ap Some c.in-Data.is in
    data_row_more c.args.self.now _ c.args.number c.in-Data.id c.args.object.now c.args.symbols.now.objects.items c.push-in-Data.new.self.items c.in_ok-row-in-Data.row h at c.requires.object c.in_ok-row-in-Data.ensures.row c.requires.objects c.in_ok-push-in-Data.ensures.items

use Rattle.std.proofs.Common.{◌<◌, ◌∙◌, sym, ap, refl, Some, length, rules}
use Rattle.cranelift_module.proofs.Names.{IsSound-first, IsSound-again, found_function, found_data, found_nothing, clash-function, clash-data, clash-none, on_ok}
use Rattle.cranelift_module.proofs.declarations.ModuleDeclarations.declare_function.Goals as goal

pub invariant_of-self : goal.invariant_of-self
invariant_of-self c =
    let few : length c.self.inside.functions.items < 4294967295 = search rules in
    IsSound-first c.declare_first.result c.self.inside.names c.declare_first.new.names c.self.inside.functions.items c.declare_first.new.functions.items c.self.inside.objects.items c.args.name.now (record { name = Some c.args.name.now; linkage = c.args.linkage; signature = c.args.signature.now }) refl (sym c.found.ensures ∙ c.in-None.is) c.declare_first.ensures.found
    c.declare_first.ensures.pushed
    c.declare_first.ensures.kept
    c.declare_first.ensures.names_kept few
    c.self.invariant

pub invariant_of-self-in-Func : goal.invariant_of-self-in-Func
invariant_of-self-in-Func c =
    IsSound-again c.declare_again.result c.self.inside.names c.self.inside.functions.items c.declare_again.new.functions.items c.self.inside.objects.items c.in-Func.id c.args.linkage c.declare_again.ensures.found c.declare_again.ensures.kept c.self.invariant

pub returns-in-None-clause-accepted : goal.returns-in-None-clause-accepted
returns-in-None-clause-accepted c =
    on_ok c.declare_first.result _
    (rw (← c.self.view_is) (clash-none c.self.inside.functions.items c.self.inside.objects.items c.args.name.now c.args.signature.now (found_nothing c.self.inside.names c.self.inside.functions.items c.self.inside.objects.items c.args.name.now c.self.invariant.finds (sym c.found.ensures ∙ c.in-None.is))))

pub returns-in-Func-clause-accepted : goal.returns-in-Func-clause-accepted
returns-in-Func-clause-accepted c =
    let at = found_function c.self.inside.names c.self.inside.functions.items c.self.inside.objects.items c.args.name.now c.in-Func.id c.self.invariant.finds (sym c.found.ensures ∙ c.in-Some.is ∙ ap Some c.in-Func.is) in
    rw (← c.self.view_is, clash-function c.self.inside.functions.items c.self.inside.objects.items c.args.name.now c.in-Func.id c.args.signature.now at) c.declare_again.ensures.accepted

pub returns-in-Func-clause-refused : goal.returns-in-Func-clause-refused
returns-in-Func-clause-refused c =
    let at = found_function c.self.inside.names c.self.inside.functions.items c.self.inside.objects.items c.args.name.now c.in-Func.id c.self.invariant.finds (sym c.found.ensures ∙ c.in-Some.is ∙ ap Some c.in-Func.is) in
    rw (← c.self.view_is, clash-function c.self.inside.functions.items c.self.inside.objects.items c.args.name.now c.in-Func.id c.args.signature.now at) c.declare_again.ensures.refused

pub returns-in_ok-name-in-Data-clause-refused : goal.returns-in_ok-name-in-Data-clause-refused
returns-in_ok-name-in-Data-clause-refused c =
    let at = found_data c.self.inside.names c.self.inside.functions.items c.self.inside.objects.items c.args.name.now c.in-Data.field-0 c.self.invariant.finds (sym c.found.ensures ∙ c.in-Some.is ∙ ap Some c.in-Data.is) in
    rw (← c.self.view_is, c.in_ok-name-in-Data.ensures.ok) (clash-data c.self.inside.functions.items c.self.inside.objects.items c.args.name.now c.in-Data.field-0 c.args.signature.now at)

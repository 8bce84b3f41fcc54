use Rattle.std.proofs.Common.{◌<◌, ◌∙◌, sym, ap, refl, Some, length, rules}
use Rattle.cranelift_module.proofs.Names.{IsSound-data_first, IsSound-data_again, found_data, found_function, found_nothing, data_clash-data, data_clash-function, data_clash-none, on_ok}
use Rattle.cranelift_module.proofs.declarations.ModuleDeclarations.declare_data.Goals as goal

pub invariant_of-self : goal.invariant_of-self
invariant_of-self c =
    let few : length c.self.inside.objects.items < 4294967295 = search rules in
    IsSound-data_first c.declare_data_first.result c.self.inside.names c.declare_data_first.new.names c.self.inside.functions.items c.self.inside.objects.items c.declare_data_first.new.objects.items c.args.name.now (record { name = Some c.args.name.now; linkage = c.args.linkage; writable = c.args.writable; tls = c.args.tls }) refl (sym c.found.ensures ∙ c.in-None.is) c.declare_data_first.ensures.found
    c.declare_data_first.ensures.pushed
    c.declare_data_first.ensures.kept
    c.declare_data_first.ensures.names_kept few
    c.self.invariant

pub invariant_of-self-in-Data : goal.invariant_of-self-in-Data
invariant_of-self-in-Data c =
    IsSound-data_again c.declare_data_again.result c.self.inside.names c.self.inside.functions.items c.self.inside.objects.items c.declare_data_again.new.objects.items c.in-Data.id c.args.linkage c.args.writable c.declare_data_again.ensures.found c.declare_data_again.ensures.kept c.self.invariant

pub returns-in-None-clause-accepted : goal.returns-in-None-clause-accepted
returns-in-None-clause-accepted c =
    on_ok c.declare_data_first.result _
    (rw (← c.self.view_is) (data_clash-none c.self.inside.functions.items c.self.inside.objects.items c.args.name.now c.args.tls (found_nothing c.self.inside.names c.self.inside.functions.items c.self.inside.objects.items c.args.name.now c.self.invariant.finds (sym c.found.ensures ∙ c.in-None.is))))

pub returns-in-Data-clause-accepted : goal.returns-in-Data-clause-accepted
returns-in-Data-clause-accepted c =
    let at = found_data c.self.inside.names c.self.inside.functions.items c.self.inside.objects.items c.args.name.now c.in-Data.id c.self.invariant.finds (sym c.found.ensures ∙ c.in-Some.is ∙ ap Some c.in-Data.is) in
    rw (← c.self.view_is, data_clash-data c.self.inside.functions.items c.self.inside.objects.items c.args.name.now c.in-Data.id c.args.tls at) c.declare_data_again.ensures.accepted

pub returns-in-Data-clause-refused : goal.returns-in-Data-clause-refused
returns-in-Data-clause-refused c =
    let at = found_data c.self.inside.names c.self.inside.functions.items c.self.inside.objects.items c.args.name.now c.in-Data.id c.self.invariant.finds (sym c.found.ensures ∙ c.in-Some.is ∙ ap Some c.in-Data.is) in
    rw (← c.self.view_is, data_clash-data c.self.inside.functions.items c.self.inside.objects.items c.args.name.now c.in-Data.id c.args.tls at) c.declare_data_again.ensures.refused

pub returns-in_ok-name-in-Func-clause-refused : goal.returns-in_ok-name-in-Func-clause-refused
returns-in_ok-name-in-Func-clause-refused c =
    let at = found_function c.self.inside.names c.self.inside.functions.items c.self.inside.objects.items c.args.name.now c.in-Func.field-0 c.self.invariant.finds (sym c.found.ensures ∙ c.in-Some.is ∙ ap Some c.in-Func.is) in
    rw (← c.self.view_is, c.in_ok-name-in-Func.ensures.ok) (data_clash-function c.self.inside.functions.items c.self.inside.objects.items c.args.name.now c.in-Func.field-0 c.args.tls at)

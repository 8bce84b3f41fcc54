use Rattle.std.proofs.Common.{◌≤◌, length, ap, ◌∙◌, subst, arith}
use Rattle.cranelift_object.specs.Opened.{OpenModule}
use Rattle.cranelift_object.specs.Kept.{IsModule}
use Rattle.cranelift_object.proofs.DefineLaws.{none_marked, with_symbols_all, functions_whole, objects_whole}
use Rattle.cranelift_object.proofs.backend.ObjectModule.add_symbols.Goals as goal

pub loop-number-init : goal.loop-number-init
loop-number-init c = let none = none_marked c.args.self.now.state in record { object = c.requires; functions = c.new.ensures.items ∙ none.0; objects = c.new-2.ensures.items ∙ none.1 }

pub returns-clause-symbols : goal.returns-clause-symbols
returns-clause-symbols c =
    let past : length c.args.self.now.state.created ≤ c.loop-number.number = omega (arith, c.loop-number-test.false, c.len-number-end.ensures, c.self.inside.created.ok.0, ap (λ (o : OpenModule). length o.state.created) c.self.view_is) in
    c.loop-number.invariant.object ∙ with_symbols_all c.args.self.now c.loop-number.number past

pub returns-clause-functions : goal.returns-clause-functions
returns-clause-functions c =
    let h = subst (λ (o : OpenModule). IsModule o (record { functions = c.self.inside.defined.items; objects = c.self.inside.defined_objects.items })) c.self.view_is c.self.invariant in
    let past : length c.args.self.now.state.created ≤ c.loop-number.number = omega (arith, c.loop-number-test.false, c.len-number-end.ensures, c.self.inside.created.ok.0, ap (λ (o : OpenModule). length o.state.created) c.self.view_is) in
    c.loop-number.invariant.functions ∙ functions_whole c.args.self.now _ c.loop-number.number h past

pub returns-clause-objects : goal.returns-clause-objects
returns-clause-objects c =
    let h = subst (λ (o : OpenModule). IsModule o (record { functions = c.self.inside.defined.items; objects = c.self.inside.defined_objects.items })) c.self.view_is c.self.invariant in
    let past : length c.args.self.now.state.created ≤ c.loop-number.number = omega (arith, c.loop-number-test.false, c.len-number-end.ensures, c.self.inside.created.ok.0, ap (λ (o : OpenModule). length o.state.created) c.self.view_is) in
    c.loop-number.invariant.objects ∙ objects_whole c.args.self.now _ c.loop-number.number h past

use Rattle.std.proofs.Common.{◌∙◌, subst}
use Rattle.cranelift_object.specs.Opened.{OpenModule}
use Rattle.cranelift_object.specs.Kept.{IsModule, Marks}
use Rattle.cranelift_object.proofs.FinishLaws.{end_targets}
use Rattle.cranelift_object.proofs.FormedMach.{writable}
use Rattle.cranelift_object.proofs.AddingLaws.{has_identifiers}
use Rattle.cranelift_object.proofs.DefineLaws.{product_is}
use Rattle.cranelift_object.proofs.backend.ObjectModule.finish.Goals as goal

pub returns-clause-ok : goal.returns-clause-ok
returns-clause-ok c =
    c.new.ensures ∙ product_is c.args.self _ _ _ c.in_ok-add_extras.ensures c.in_ok-symbols.ensures.functions c.in_ok-symbols.ensures.objects

pub new-requires : goal.new-requires
new-requires c =
    let h = subst (λ (o : OpenModule). IsModule o (record { functions = c.self.inside.defined.items; objects = c.self.inside.defined_objects.items })) c.self.view_is c.self.invariant in
    writable c.args.self _ _ _ h c.in_ok-extras.ensures (end_targets c.args.self.state c.in_default.ensures.none) c.in_ok-add_extras.ensures

pub add_definitions-requires-clause-targets : goal.add_definitions-requires-clause-targets
add_definitions-requires-clause-targets c = end_targets c.args.self.state c.in_default.ensures.none

pub add_extras-requires-clause-targets : goal.add_extras-requires-clause-targets
add_extras-requires-clause-targets c = end_targets c.args.self.state c.in_default.ensures.none

pub add_extras-requires-clause-identifiers : goal.add_extras-requires-clause-identifiers
add_extras-requires-clause-identifiers c =
    let marks : Marks = record { functions = c.self.inside.defined.items; objects = c.self.inside.defined_objects.items } in
    let h = subst (λ (o : OpenModule). IsModule o marks) c.self.view_is c.self.invariant in
    has_identifiers c.args.self marks _ h c.in_ok-add_definitions.ensures

use Rattle.std.proofs.Common.{◌∙◌, ap, sym, is_some, refl}
use Rattle.cranelift_module.specs.LinkState.{is_function_named}
use Rattle.cranelift_module.specs.Declarations.{function_found}
use Rattle.cranelift_module.proofs.Places.{any-position}
use Rattle.cranelift_module.proofs.declarations.ModuleDeclarations.has_function.Goals as goal

pub returns : goal.returns
returns c =
    c.is_function_id.ensures
    ∙ ap (λ o. is_some (function_found o)) c.found.ensures
    ∙ ap is_some (c.self.invariant.finds.at_function c.args.name.now)
    ∙ sym (any-position (is_function_named c.args.name.now) c.self.inside.functions.items)
    ∙ rw (← c.self.view_is) refl

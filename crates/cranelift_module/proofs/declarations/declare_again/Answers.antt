use Rattle.std.proofs.Common.{◌<◌, ◌∙◌, ap, sym, subst, Some, option_map, length, refl, rules}
use Rattle.std.specs.List.{position_from}
use Rattle.cranelift_module.specs.Rows.{FunctionRow}
use Rattle.cranelift_module.specs.LinkState.{is_function_named, raised_function}
use Rattle.cranelift_module.specs.Refusal.{changes_signature, Tells}
use Rattle.cranelift_module.proofs.Places.{set-changed, slice_get-set, position-below, position-changed, with_first-at, any-at}
use Rattle.cranelift_module.proofs.Names.{find-row}
use Rattle.cranelift_module.proofs.declarations.declare_again.Goals as goal

pub index_mut-known-requires : goal.index_mut-known-requires
index_mut-known-requires c = let h : c.args.id < length c.args.functions.now.items = position-below (is_function_named c.args.name.now) c.args.functions.now.items c.args.id c.requires in search rules

pub returns-clause-found : goal.returns-clause-found
returns-clause-found c = set-changed (raised_function c.args.linkage) c.args.functions.now.items c.args.id c.as_u32.result c.index_mut-known.result.now c.raise.new.self c.as_u32.ensures c.raise.ensures c.index_mut-known.ensures.value

pub returns-clause-declared : goal.returns-clause-declared
returns-clause-declared c =
    set-changed (raised_function c.args.linkage) c.args.functions.now.items c.args.id c.as_u32.result c.index_mut-known.result.now c.raise.new.self c.as_u32.ensures c.raise.ensures c.index_mut-known.ensures.value
    ∙ sym (with_first-at (is_function_named c.args.name.now) (raised_function c.args.linkage) (record { name = Some c.args.name.now; linkage = c.args.linkage; signature = c.args.signature.now }) c.args.functions.now.items c.args.id c.requires)

pub returns-clause-id : goal.returns-clause-id
returns-clause-id c =
    ap (position_from (is_function_named c.args.name.now) 0) (set-changed (raised_function c.args.linkage) c.args.functions.now.items c.args.id c.as_u32.result c.index_mut-known.result.now c.raise.new.self c.as_u32.ensures c.raise.ensures c.index_mut-known.ensures.value)
    ∙ position-changed (is_function_named c.args.name.now) (raised_function c.args.linkage) (λ x. refl) c.args.functions.now.items c.args.id
    ∙ c.requires

pub returns-clause-linkage : goal.returns-clause-linkage
returns-clause-linkage c =
    ap (option_map (λ (row : FunctionRow). row.linkage)) (slice_get-set c.args.functions.now.items c.args.id c.as_u32.result c.raise.new.self c.as_u32.ensures (position-below (is_function_named c.args.name.now) c.args.functions.now.items c.args.id c.requires))
    ∙ ap Some (sym c.linkage.ensures)

pub returns-clause-known : goal.returns-clause-known
returns-clause-known c = any-at (is_function_named c.args.name.now) c.args.functions.now.items c.args.id c.requires

pub returns-clause-accepted : goal.returns-clause-accepted
returns-clause-accepted c = ap (changes_signature c.args.name.now c.args.signature.now) (find-row (is_function_named c.args.name.now) c.args.functions.now.items c.args.id c.index_mut-known.result.now c.requires (rw (← c.as_u32.ensures) c.index_mut-known.ensures.value)) ∙ c.in_default.ensures.accepted

pub returns-in-Err-clause-refused : goal.returns-in-Err-clause-refused
returns-in-Err-clause-refused c = subst (Tells c.in-Err.error) (sym (ap (changes_signature c.args.name.now c.args.signature.now) (find-row (is_function_named c.args.name.now) c.args.functions.now.items c.args.id c.index_mut-known.result.now c.requires (rw (← c.as_u32.ensures) c.index_mut-known.ensures.value)))) c.in-Err.ensures.refused

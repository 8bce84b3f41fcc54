use Rattle.std.proofs.Common.{◌≡◌, ◌++◌, ◌∷◌, [], ◌∙◌, ap, sym, refl, Some, option_map, length, rules}
use Rattle.std.specs.List.{position_from}
use Rattle.cranelift_module.specs.Rows.{FunctionRow}
use Rattle.cranelift_module.specs.LinkState.{is_function_named, raised_function}
use Rattle.cranelift_module.proofs.Places.{with_first-new, slice_get-last}
use Rattle.cranelift_module.proofs.Names.{position-new}
use Rattle.cranelift_module.proofs.declarations.declare_first.Goals as goal

pub returns-clause-declared : goal.returns-clause-declared
returns-clause-declared c =
    let row : FunctionRow = record { name = Some c.args.name.now; linkage = c.args.linkage; signature = c.args.signature.now } in
    let pushed : c.push.new.self.items ≡ c.args.functions.now.items ++ row ∷ [] = search rules in
    pushed ∙ sym (with_first-new (is_function_named c.args.name.now) (raised_function c.args.linkage) row c.args.functions.now.items c.requires.new)

pub returns-clause-id : goal.returns-clause-id
returns-clause-id c =
    let row : FunctionRow = record { name = Some c.args.name.now; linkage = c.args.linkage; signature = c.args.signature.now } in
    let pushed : c.push.new.self.items ≡ c.args.functions.now.items ++ row ∷ [] = search rules in
    let e : c.from_u32-id.result ≡ length c.args.functions.now.items = search rules in
    ap (position_from (is_function_named c.args.name.now) 0) pushed ∙ position-new is_function_named c.args.functions.now.items c.args.name.now row c.requires.new refl ∙ ap Some (sym e)

pub returns-clause-linkage : goal.returns-clause-linkage
returns-clause-linkage c =
    let row : FunctionRow = record { name = Some c.args.name.now; linkage = c.args.linkage; signature = c.args.signature.now } in
    let pushed : c.push.new.self.items ≡ c.args.functions.now.items ++ row ∷ [] = search rules in
    let e : c.from_u32-id.result ≡ length c.args.functions.now.items = search rules in
    rw (pushed, e) (ap (option_map (λ (row : FunctionRow). row.linkage)) (slice_get-last c.args.functions.now.items row))

pub returns-clause-found : goal.returns-clause-found
returns-clause-found c = let e : c.from_u32-id.result ≡ length c.args.functions.now.items = search rules in rw (← e) (c.in_ok-key.key, c.in_ok-key.ensures.ok, c.in_ok-insert.ensures.updates)

use Rattle.std.proofs.Common.{◌≡◌, ◌++◌, ◌∷◌, [], ◌∙◌, ap, sym, refl, Some, option_map, length, rules}
use Rattle.std.specs.List.{position_from}
use Rattle.cranelift_module.specs.Rows.{DataRow}
use Rattle.cranelift_module.specs.LinkState.{is_data_named, raised_data}
use Rattle.cranelift_module.proofs.Places.{with_first-new, slice_get-last}
use Rattle.cranelift_module.proofs.Names.{position-new}
use Rattle.cranelift_module.proofs.declarations.declare_data_first.Goals as goal

pub returns-clause-declared : goal.returns-clause-declared
returns-clause-declared c =
    let row : DataRow = record { name = Some c.args.name.now; linkage = c.args.linkage; writable = c.args.writable; tls = c.args.tls } in
    let pushed : c.push.new.self.items ≡ c.args.objects.now.items ++ row ∷ [] = search rules in
    pushed ∙ sym (with_first-new (is_data_named c.args.name.now) (raised_data c.args.linkage c.args.writable) row c.args.objects.now.items c.requires.new)

pub returns-clause-id : goal.returns-clause-id
returns-clause-id c =
    let row : DataRow = record { name = Some c.args.name.now; linkage = c.args.linkage; writable = c.args.writable; tls = c.args.tls } in
    let pushed : c.push.new.self.items ≡ c.args.objects.now.items ++ row ∷ [] = search rules in
    let e : c.from_u32-id.result ≡ length c.args.objects.now.items = search rules in
    ap (position_from (is_data_named c.args.name.now) 0) pushed ∙ position-new is_data_named c.args.objects.now.items c.args.name.now row c.requires.new refl ∙ ap Some (sym e)

pub returns-clause-linkage : goal.returns-clause-linkage
returns-clause-linkage c =
    let row : DataRow = record { name = Some c.args.name.now; linkage = c.args.linkage; writable = c.args.writable; tls = c.args.tls } in
    let pushed : c.push.new.self.items ≡ c.args.objects.now.items ++ row ∷ [] = search rules in
    let e : c.from_u32-id.result ≡ length c.args.objects.now.items = search rules in
    rw (pushed, e) (ap (option_map (λ (row : DataRow). row.linkage)) (slice_get-last c.args.objects.now.items row))

pub returns-clause-found : goal.returns-clause-found
returns-clause-found c = let e : c.from_u32-id.result ≡ length c.args.objects.now.items = search rules in rw (← e) (c.in_ok-key.key, c.in_ok-key.ensures.ok, c.in_ok-insert.ensures.updates)

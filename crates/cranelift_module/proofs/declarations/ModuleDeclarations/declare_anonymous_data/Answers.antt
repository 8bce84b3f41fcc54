use Rattle.std.proofs.Common.{◌<◌, ap, length, rules}
use Rattle.cranelift_module.specs.Rows.{DataRow}
use Rattle.cranelift_module.proofs.Names.{IsSound-data_anonymous}
use Rattle.cranelift_module.proofs.declarations.ModuleDeclarations.declare_anonymous_data.Goals as goal

pub invariant_of-self-2 : goal.invariant_of-self-2
invariant_of-self-2 c =
    let few : length c.self.inside.objects.items < 4294967295 = search rules in
    rw c.in_ok-push.ensures.items (IsSound-data_anonymous c.self.inside.names c.self.inside.functions.items c.self.inside.objects.items c.new.result (ap (λ (row : DataRow). row.name) c.new.ensures) few c.self.invariant)

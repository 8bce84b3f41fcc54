use Rattle.std.proofs.Common.{rules, ◌≡◌, sym}
use Rattle.serde_json.specs.View.{view}
use Rattle.cranelift_module.specs.DeclarationJson.{value_of}
use Rattle.cranelift_module.proofs.JsonLaws.{reads_back_at}
use Rattle.cranelift_module.proofs.declarations.ModuleDeclarations.to_value.Goals as goal

pub returns-clause-reads_back : goal.returns-clause-reads_back
returns-clause-reads_back c =
    let written : view c.in_ok-value.value ≡ value_of c.args.self.now = search rules in
    reads_back_at c.args.self.now _ (view c.in_ok-value.value) (sym c.self.view_is) written c.self.invariant.distinct

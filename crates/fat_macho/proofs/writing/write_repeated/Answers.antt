use Rattle.std.proofs.Common.{arith, rules, ◌≤◌, length}
use Rattle.fat_macho.proofs.PutLaws.{zeros_go_on, zeros_fail, on_err}
use Rattle.fat_macho.proofs.writing.write_repeated.Goals as goal

pub returns-in_err-write_all-clause-front : goal.returns-in_err-write_all-clause-front
returns-in_err-write_all-clause-front g c =
    let few : c.min-n.result ≤ length c.args.block.now = grind (arith, rules, c.min-n.ensures) in
    let some : c.min-n.result ≤ c.zeros.left = grind (arith, rules, c.min-n.ensures) in
    on_err _ _ (zeros_fail _ (g.W.Sink.sink c.zeros.sink) (g.W.Sink.sink c.write_all.new.sink) c.args.block.now c.args.count c.zeros.left c.min-n.result c.zeros.invariant.written c.requires.zeros few some c.in_err-write_all.ensures.front)

pub zeros-preserved : goal.zeros-preserved
zeros-preserved g c =
    let few : c.min-n.result ≤ length c.args.block.now = grind (arith, rules, c.min-n.ensures) in
    let some : c.min-n.result ≤ c.zeros.left = grind (arith, rules, c.min-n.ensures) in
    record {
      written = zeros_go_on _ _ _ c.args.block.now c.args.count c.zeros.left c.min-n.result c.zeros.invariant.written c.requires.zeros few some c.in_ok-write_all.ensures.ok;
      bound = omega (arith, c.zeros.invariant.bound);
      rises = omega (arith, c.zeros.invariant.rises, c.write_all.ensures.rises);
    }

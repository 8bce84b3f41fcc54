use Rattle.std.proofs.Common.{ℕ, ◌+◌, List, length, drop, ◌≡◌, arith, ap, get_or, ◌∙◌}
use Rattle.object_core.specs.Object.{SymbolData}
use Rattle.byte_core.specs.Strings.{with_zero}
use Rattle.byte_core.proofs.Lists.{flat_more, flat_all, get_within}
use Rattle.std.proofs.lemmas.List.{drop_all}
use Rattle.std.specs.Prelude.{sum_by}
use Rattle.object_core.specs.MachRows.{mach_symbol_name_of, macho_table_of}
use Rattle.object_macho.specs.Layout.{mach_names}
use Rattle.object_macho.proofs.OrderLoops.{drop_get, sum_next, symbol_at, name_of_row, length-names}
use Rattle.object_macho.proofs.names.place_names.Goals as goal

pub place_name-end-requires-clause-number : goal.place_name-end-requires-clause-number
place_name-end-requires-clause-number c =
    let o = c.args.object.now in
    let s = symbol_at o c.args.order.now c.loop-n.n c.requires.order c.loop-n-test.true in
    get_within o.symbols (get_or c.args.order.now c.loop-n.n 0) s.item s.at

pub place_name-end-requires-clause-room : goal.place_name-end-requires-clause-room
place_name-end-requires-clause-room c = λ x e.
    let o = c.args.object.now in
    let names = mach_names (macho_table_of o) in
    let s = symbol_at o c.args.order.now c.loop-n.n c.requires.order c.loop-n-test.true in
    let same : s.item ≡ x = (let f = s.at in cc) in
    let name = mach_symbol_name_of s.item.kind s.item.name in
    let next = drop_get names c.loop-n.n name (name_of_row o c.loop-n.n s.item s.place) in
    omega (arith, ap (λ (y : SymbolData). length (mach_symbol_name_of y.kind y.name)) same, sum_next (λ (name : List ℕ). length name + 1) (drop c.loop-n.n names) (drop (c.loop-n.n + 1) names) name next, c.loop-n.invariant.end, c.loop-n.invariant.len, c.requires.room)

pub loop-n-preserved : goal.loop-n-preserved
loop-n-preserved c =
    let o = c.args.object.now in
    let names = mach_names (macho_table_of o) in
    let s = symbol_at o c.args.order.now c.loop-n.n c.requires.order c.loop-n-test.true in
    let name = mach_symbol_name_of s.item.kind s.item.name in
    let next = drop_get names c.loop-n.n name (name_of_row o c.loop-n.n s.item s.place) in
    record {
      bytes = flat_more with_zero name (drop c.loop-n.n names) (drop (c.loop-n.n + 1) names) _ _ _ next (c.place_name-end.ensures.bytes s.item s.at) c.loop-n.invariant.bytes;
      end = omega (arith, c.place_name-end.ensures.end s.item s.at, sum_next (λ (name : List ℕ). length name + 1) (drop c.loop-n.n names) (drop (c.loop-n.n + 1) names) name next, c.loop-n.invariant.end);
      len = c.place_name-end.ensures.len ∙ c.loop-n.invariant.len;
    }

pub returns-clause-bytes : goal.returns-clause-bytes
returns-clause-bytes c =
    let names = mach_names (macho_table_of c.args.object.now) in
    flat_all with_zero names c.loop-n.n _ _ (omega (arith, length-names c.args.object.now, ap length c.requires.order, c.loop-n-test.false)) c.loop-n.invariant.bytes

pub returns-clause-end : goal.returns-clause-end
returns-clause-end c =
    let names = mach_names (macho_table_of c.args.object.now) in
    let none = drop_all c.loop-n.n names (omega (arith, length-names c.args.object.now, ap length c.requires.order, c.loop-n-test.false)) in
    omega (arith, ap (sum_by (λ (name : List ℕ). length name + 1)) none, c.loop-n.invariant.end)

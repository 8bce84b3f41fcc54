use Rattle.std.proofs.Common.{◌<◌, arith, ap, length}
use Rattle.std.proofs.lemmas.List.Sums.{sum_by_more}
use Rattle.std.proofs.lemmas.Option.{get_or_from_slice_get}
use Rattle.std.proofs.lemmas.List.{length-map}
use Rattle.object_core.specs.Object.{plain_symbol}
use Rattle.byte_core.proofs.Lists.{get_exists}
use Rattle.object_elf.specs.PlainCounts.{symbol_name_size}
use Rattle.object_elf.proofs.limits.symbol_names_size.Goals as goal

pub loop-k-preserved : goal.loop-k-preserved
loop-k-preserved c =
    let o = c.args.object.now in
    let h : c.loop-k.k < length o.symbols = omega (arith, c.loop-k-test.true, ap length c.symbols-count.ensures.value, length-map o.symbols plain_symbol) in
    let s = get_exists o.symbols c.loop-k.k h in
    let more = sum_by_more symbol_name_size o.symbols c.loop-k.k s.0 h in
    let name = ap length (c.symbol_name.ensures s.0 s.1) in
    record {
      value = omega (arith, c.loop-k.invariant.value, name, more, ap symbol_name_size (get_or_from_slice_get o.symbols c.loop-k.k s.0 s.0 s.1));
      bound = omega (arith, c.loop-k.invariant.bound);
    }

use Rattle.std.proofs.Common.{◌+◌, arith, ap, sym, ◌∙◌, length, map}
use Rattle.object_core.specs.Object.{plain_symbol}
use Rattle.object_core.specs.LinkTable.{ElfTableSymbol}
use Rattle.object_elf.proofs.Items.{item_of, chosen_same}
use Rattle.object_elf.proofs.NameLoops.{name_more, names_passed}
use Rattle.object_elf.proofs.SymbolLoops.{chosen_next, chosen_passed, passed_names, names_more, names_room}
use Rattle.object_elf.proofs.strings.place_symbol_names.Goals as goal

pub place_text-end-requires : goal.place_text-end-requires
place_text-end-requires c =
    let o = c.args.object.now in
    let item = item_of plain_symbol o.symbols _ c.loop-k.k c.index-symbols-k.result c.symbols-symbols.ensures.value c.loop-k-test.true c.index-symbols-k.is in
    let s = item.whole in
    let next = chosen_next c.args.local o.symbols c.loop-k.k s item.within item.here (sym (chosen_same c.args.local s _ item.same) ∙ sym c.is_chosen.ensures ∙ c.if-not-is_chosen.false) in
    omega (arith, ap length (c.symbol_name.ensures s item.found), names_room _ _ _ _ _ next c.loop-k.invariant.end, c.loop-k.invariant.len, c.requires)

pub loop-k-preserved-then-not-is_chosen : goal.loop-k-preserved-then-not-is_chosen
loop-k-preserved-then-not-is_chosen c =
    let o = c.args.object.now in
    let item = item_of plain_symbol o.symbols _ c.loop-k.k c.index-symbols-k.result c.symbols-symbols.ensures.value c.loop-k-test.true c.index-symbols-k.is in
    let s = item.whole in
    let fails = sym (chosen_same c.args.local s _ item.same) ∙ sym c.is_chosen.ensures ∙ c.if-not-is_chosen.true in
    let same = chosen_passed c.args.local o.symbols c.loop-k.k s item.within item.here fails in
    record {
      names = names_passed _ _ _ _ (ap (map (λ (x : ElfTableSymbol). x.name)) same) c.loop-k.invariant.names;
      end = passed_names _ _ _ _ same c.loop-k.invariant.end;
      len = c.loop-k.invariant.len;
    }

pub loop-k-preserved : goal.loop-k-preserved
loop-k-preserved c =
    let o = c.args.object.now in
    let item = item_of plain_symbol o.symbols _ c.loop-k.k c.index-symbols-k.result c.symbols-symbols.ensures.value c.loop-k-test.true c.index-symbols-k.is in
    let s = item.whole in
    let next = chosen_next c.args.local o.symbols c.loop-k.k s item.within item.here (sym (chosen_same c.args.local s _ item.same) ∙ sym c.is_chosen.ensures ∙ c.if-not-is_chosen.false) in
    let name = c.symbol_name.ensures s item.found in
    record {
      names = name_more _ _ _ _ s.name _ _ (ap (map (λ (x : ElfTableSymbol). x.name)) next) name c.place_text-end.ensures.bytes c.loop-k.invariant.names;
      end = names_more _ _ _ _ _ _ next (c.place_text-end.ensures.end ∙ ap (λ l. c.loop-k.end + (length l + 1)) name) c.loop-k.invariant.end;
      len = c.place_text-end.ensures.len ∙ c.loop-k.invariant.len;
    }

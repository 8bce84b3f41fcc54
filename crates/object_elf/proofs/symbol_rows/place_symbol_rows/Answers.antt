use Rattle.std.proofs.Common.{◌++◌, take, ◌≡◌, ◌<◌, ◌^◌, ◌+◌, arith, length, sym, ◌∙◌, ap, true}
use Rattle.object_core.specs.Object.{SymbolData, plain_symbol}
use Rattle.object_elf.specs.File.{symbol_row_bytes}
use Rattle.std.proofs.lemmas.List.{length-map}
use Rattle.object_elf.specs.Writing.{is_chosen}
use Rattle.byte_core.proofs.Lists.{each_more, each_all}
use Rattle.object_elf.proofs.Items.{item_of, chosen_same, row_same, symbol_row_same, size_same}
use Rattle.object_elf.proofs.SymbolLoops.{chosen_next, chosen_passed, chosen_none, rows_more, rows_all, rows_end_more, rows_room, names_more, names_room, passed_rows, passed_names, passed_ends, not_chosen}
use Rattle.object_elf.proofs.symbol_rows.place_symbol_rows.Goals as goal

pub loop-k-preserved-then-not-is_chosen : goal.loop-k-preserved-then-not-is_chosen
loop-k-preserved-then-not-is_chosen c =
    let o = c.args.object.now in
    let item = item_of plain_symbol o.symbols _ c.loop-k.k c.index-symbols-k.result c.symbols-symbols.ensures.value c.loop-k-test.true c.index-symbols-k.is in
    let s = item.whole in
    let fails = sym (chosen_same c.args.local s _ item.same) ∙ sym c.is_chosen.ensures ∙ c.if-not-is_chosen.true in
    let same = chosen_passed c.args.local o.symbols c.loop-k.k s item.within item.here fails in
    record {
      rows = passed_rows _ _ _ _ _ same c.loop-k.invariant.rows;
      at = passed_ends _ _ _ _ same c.loop-k.invariant.at;
      names = passed_names _ _ _ _ same c.loop-k.invariant.names;
      len = c.loop-k.invariant.len;
      sizes = each_more (λ (x : SymbolData). is_chosen c.args.local x ≡ true → x.size < 2 ^ 64) o.symbols c.loop-k.k s item.within item.here c.loop-k.invariant.sizes (λ passes. not_chosen fails passes);
    }

pub place_symbol_row-at-requires-clause-fits : goal.place_symbol_row-at-requires-clause-fits
place_symbol_row-at-requires-clause-fits c =
    let o = c.args.object.now in
    let item = item_of plain_symbol o.symbols _ c.loop-k.k c.index-symbols-k.result c.symbols-symbols.ensures.value c.loop-k-test.true c.index-symbols-k.is in
    row_same item.whole _ item.same (c.requires.fits c.loop-k.k item.whole item.found)

pub place_symbol_row-at-requires-clause-room : goal.place_symbol_row-at-requires-clause-room
place_symbol_row-at-requires-clause-room c =
    let o = c.args.object.now in
    let item = item_of plain_symbol o.symbols _ c.loop-k.k c.index-symbols-k.result c.symbols-symbols.ensures.value c.loop-k-test.true c.index-symbols-k.is in
    let s = item.whole in
    let next = chosen_next c.args.local o.symbols c.loop-k.k s item.within item.here (sym (chosen_same c.args.local s _ item.same) ∙ sym c.is_chosen.ensures ∙ c.if-not-is_chosen.false) in
    omega (arith, rows_room _ _ _ _ _ next c.loop-k.invariant.at, c.loop-k.invariant.len, c.requires.room)

pub loop-k-preserved : goal.loop-k-preserved
loop-k-preserved c =
    let o = c.args.object.now in
    let item = item_of plain_symbol o.symbols _ c.loop-k.k c.index-symbols-k.result c.symbols-symbols.ensures.value c.loop-k-test.true c.index-symbols-k.is in
    let s = item.whole in
    let next = chosen_next c.args.local o.symbols c.loop-k.k s item.within item.here (sym (chosen_same c.args.local s _ item.same) ∙ sym c.is_chosen.ensures ∙ c.if-not-is_chosen.false) in
    let name = c.symbol_name.ensures s item.found in
    let place : c.loop-k.name + (length c.symbol_name.result.now + 1) ≡ c.loop-k.name + (length s.name + 1) = ap (λ l. c.loop-k.name + (length l + 1)) name in
    record {
      rows = rows_more _ _ _ _ _ _ _ _ next place (c.place_symbol_row-at.ensures.row ∙ ap (λ x. take c.loop-k.at c.loop-k.out ++ symbol_row_bytes x) (symbol_row_same c.loop-k.name s _ item.same)) c.loop-k.invariant.rows;
      at = rows_end_more _ _ _ _ _ _ next c.place_symbol_row-at.ensures.end c.loop-k.invariant.at;
      names = names_more _ _ _ _ _ _ next place c.loop-k.invariant.names;
      len = c.place_symbol_row-at.ensures.len ∙ c.loop-k.invariant.len;
      sizes = each_more (λ (x : SymbolData). is_chosen c.args.local x ≡ true → x.size < 2 ^ 64) o.symbols c.loop-k.k s item.within item.here c.loop-k.invariant.sizes (λ _. size_same s _ item.same c.place_symbol_row-at.ensures.size);
    }

pub returns-clause-rows : goal.returns-clause-rows
returns-clause-rows c = rows_all _ _ _ _ (chosen_none c.args.local c.args.object.now.symbols c.loop-k.k (omega (arith, c.loop-k-test.false, ap length c.symbols-symbols.ensures.value, length-map c.args.object.now.symbols plain_symbol))) c.loop-k.invariant.rows

pub returns-clause-sizes : goal.returns-clause-sizes
returns-clause-sizes c =
    each_all (λ (x : SymbolData). is_chosen c.args.local x ≡ true → x.size < 2 ^ 64) c.args.object.now.symbols c.loop-k.k (omega (arith, c.loop-k-test.false, ap length c.symbols-symbols.ensures.value, length-map c.args.object.now.symbols plain_symbol)) c.loop-k.invariant.sizes

-- the place behind the name is one of the string section
place : (c : goal.After-symbol_name) → c.loop-k.name + (length c.symbol_name.result.now + 1) < 2 ^ 32
place c =
    let o = c.args.object.now in
    let item = item_of plain_symbol o.symbols _ c.loop-k.k c.index-symbols-k.result c.symbols-symbols.ensures.value c.loop-k-test.true c.index-symbols-k.is in
    let s = item.whole in
    let next = chosen_next c.args.local o.symbols c.loop-k.k s item.within item.here (sym (chosen_same c.args.local s _ item.same) ∙ sym c.is_chosen.ensures ∙ c.if-not-is_chosen.false) in
    omega (arith, ap length (c.symbol_name.ensures s item.found), names_room _ _ _ _ _ next c.loop-k.invariant.names, c.requires.names)

pub overflow_cast-name : goal.overflow_cast-name
overflow_cast-name c = omega (arith, place c)

pub overflow_add-name : goal.overflow_add-name
overflow_add-name c = omega (arith, place c)

pub overflow_add-name-in-loop-k : goal.overflow_add-name-in-loop-k
overflow_add-name-in-loop-k c = omega (arith, place c)

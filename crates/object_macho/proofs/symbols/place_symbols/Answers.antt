use Rattle.std.proofs.Common.{◌≡◌, ◌+◌, ◌++◌, drop, take, length, get_or, ap, sym, ◌∙◌, subst, arith}
use Rattle.byte_core.proofs.Lists.{flat_more, flat_all, get_within}
use Rattle.object_core.specs.declared.symbol.Symbol.{Symbol}
use Rattle.object_core.specs.Object.{SymbolData, plain_symbol}
use Rattle.object_core.specs.MachRows.{mach_symbol_name_of, mach_symbol, macho_table_of}
use Rattle.object_macho.specs.Layout.{mach_names}
use Rattle.object_macho.specs.MachHolds.{mach_symbol_for}
use Rattle.object_macho.specs.File.{mach_symbol_bytes, mach_symbol_rows_from}
use Rattle.object_macho.specs.Orders.{IsAmong, sect_by, value_by}
use Rattle.object_macho.proofs.OrderLoops.{drop_get, symbol_at, name_of_row}
use Rattle.object_macho.proofs.SymbolLoops.{length-section_numbers, are_numbers, sect_is, value_is, is_among, table_symbol_at, symbol_row_at, row_same, place_next, place_fits, told, length-symbol_rows}
use Rattle.object_macho.proofs.symbols.place_symbols.Goals as goal

pub symbol-symbol-requires : goal.symbol-symbol-requires
symbol-symbol-requires c =
    let o = c.args.object.now in
    let s = symbol_at o c.args.order.now c.loop-n.n c.requires.order c.loop-n-test.true in
    omega (arith, get_within o.symbols (get_or c.args.order.now c.loop-n.n 0) s.item s.at, c.from_number-id.ensures)

pub place_symbol-end-requires-clause-among : goal.place_symbol-end-requires-clause-among
place_symbol-end-requires-clause-among c =
    let o = c.args.object.now in
    let s = symbol_at o c.args.order.now c.loop-n.n c.requires.order c.loop-n-test.true in
    let same = told plain_symbol o.symbols (get_or c.args.order.now c.loop-n.n 0) c.from_number-id.result s.item c.symbol-symbol.result.now s.at c.from_number-id.ensures c.symbol-symbol.ensures in
    let among = is_among o s.item.kind s.item.section (c.requires.formed.symbols (get_or c.args.order.now c.loop-n.n 0) s.item s.at).place in
    let count : length o.sections ≡ length c.args.numbers.now = sym (length-section_numbers o.sections) ∙ sym (ap length c.requires.numbers) in
    subst (λ n. IsAmong n c.symbol-symbol.result.now.section) count (subst (λ (p : Symbol). IsAmong (length o.sections) p.section) same among)

pub place_symbol-end-requires-clause-numbers : goal.place_symbol-end-requires-clause-numbers
place_symbol-end-requires-clause-numbers c = are_numbers c.args.object.now c.args.numbers.now c.args.addresses.now c.requires.fits c.requires.numbers c.requires.addresses

pub place_symbol-end-requires-clause-value : goal.place_symbol-end-requires-clause-value
place_symbol-end-requires-clause-value c =
    let o = c.args.object.now in
    let s = symbol_at o c.args.order.now c.loop-n.n c.requires.order c.loop-n-test.true in
    let same = told plain_symbol o.symbols (get_or c.args.order.now c.loop-n.n 0) c.from_number-id.result s.item c.symbol-symbol.result.now s.at c.from_number-id.ensures c.symbol-symbol.ensures in
    let among = is_among o s.item.kind s.item.section (c.requires.formed.symbols (get_or c.args.order.now c.loop-n.n 0) s.item s.at).place in
    let is = value_is o.sections c.args.numbers.now c.args.addresses.now s.item.section s.item.value c.requires.numbers c.requires.addresses among in
    let fits = (c.requires.fits.symbols c.loop-n.n (mach_symbol o.sections s.item) (table_symbol_at o c.loop-n.n s.item s.place)).value in
    omega (arith, ap (λ (p : Symbol). value_by c.args.numbers.now c.args.addresses.now p.section p.value) same, is, fits)

pub symbol_name-requires : goal.symbol_name-requires
symbol_name-requires c =
    let o = c.args.object.now in
    let s = symbol_at o c.args.order.now c.loop-n.n c.requires.order c.loop-n-test.true in
    omega (arith, get_within o.symbols (get_or c.args.order.now c.loop-n.n 0) s.item s.at, c.from_number-id.ensures)

pub overflow_add-strx : goal.overflow_add-strx
overflow_add-strx c =
    let o = c.args.object.now in
    let s = symbol_at o c.args.order.now c.loop-n.n c.requires.order c.loop-n-test.true in
    let same = told plain_symbol o.symbols (get_or c.args.order.now c.loop-n.n 0) c.from_number-id.result s.item c.symbol-symbol.result.now s.at c.from_number-id.ensures c.symbol-symbol.ensures in
    let name = told (λ (x : SymbolData). x.name) o.symbols (get_or c.args.order.now c.loop-n.n 0) c.from_number-id.result s.item c.symbol_name.result.now s.at c.from_number-id.ensures c.symbol_name.ensures in
    let text = mach_symbol_name_of s.item.kind s.item.name in
    let fits = place_fits (macho_table_of o) c.loop-n.n text c.requires.fits (name_of_row o c.loop-n.n s.item s.place) in
    omega (arith, fits, c.name_size.ensures, c.loop-n.invariant.strx, ap (λ (p : Symbol). length (mach_symbol_name_of p.kind s.item.name)) same, ap (λ xs. length (mach_symbol_name_of c.symbol-symbol.result.now.kind xs)) name)

pub overflow_cast-strx : goal.overflow_cast-strx
overflow_cast-strx c =
    let o = c.args.object.now in
    let s = symbol_at o c.args.order.now c.loop-n.n c.requires.order c.loop-n-test.true in
    let same = told plain_symbol o.symbols (get_or c.args.order.now c.loop-n.n 0) c.from_number-id.result s.item c.symbol-symbol.result.now s.at c.from_number-id.ensures c.symbol-symbol.ensures in
    let name = told (λ (x : SymbolData). x.name) o.symbols (get_or c.args.order.now c.loop-n.n 0) c.from_number-id.result s.item c.symbol_name.result.now s.at c.from_number-id.ensures c.symbol_name.ensures in
    let text = mach_symbol_name_of s.item.kind s.item.name in
    let fits = place_fits (macho_table_of o) c.loop-n.n text c.requires.fits (name_of_row o c.loop-n.n s.item s.place) in
    omega (arith, fits, c.name_size.ensures, ap (λ (p : Symbol). length (mach_symbol_name_of p.kind s.item.name)) same, ap (λ xs. length (mach_symbol_name_of c.symbol-symbol.result.now.kind xs)) name)

pub loop-n-preserved : goal.loop-n-preserved
loop-n-preserved c =
    let o = c.args.object.now in
    let t = macho_table_of o in
    let n = c.loop-n.n in
    let s = symbol_at o c.args.order.now n c.requires.order c.loop-n-test.true in
    let same = told plain_symbol o.symbols (get_or c.args.order.now n 0) c.from_number-id.result s.item c.symbol-symbol.result.now s.at c.from_number-id.ensures c.symbol-symbol.ensures in
    let name = told (λ (x : SymbolData). x.name) o.symbols (get_or c.args.order.now n 0) c.from_number-id.result s.item c.symbol_name.result.now s.at c.from_number-id.ensures c.symbol_name.ensures in
    let among = is_among o s.item.kind s.item.section (c.requires.formed.symbols (get_or c.args.order.now n 0) s.item s.at).place in
    let text = mach_symbol_name_of s.item.kind s.item.name in
    let rows = mach_symbol_rows_from t 0 t.symbols in
    let row = mach_symbol_for t n (mach_symbol o.sections s.item) in
    let next = drop_get rows n row (symbol_row_at o n s.item s.place) in
    let sect = ap (λ (p : Symbol). sect_by c.args.numbers.now p.section) (sym same) ∙ sect_is o.sections c.args.numbers.now s.item.section c.requires.numbers among in
    let value = ap (λ (p : Symbol). value_by c.args.numbers.now c.args.addresses.now p.section p.value) (sym same) ∙ value_is o.sections c.args.numbers.now c.args.addresses.now s.item.section s.item.value c.requires.numbers c.requires.addresses among in
    let is = row_same t n o.sections s.item c.symbol-symbol.result.now c.loop-n.strx _ _ same c.loop-n.invariant.strx sect value in
    record {
      bytes = flat_more mach_symbol_bytes row (drop n rows) (drop (n + 1) rows) _ _ _ next (c.place_symbol-end.ensures.bytes ∙ ap (λ r. take c.loop-n.end c.loop-n.out ++ mach_symbol_bytes r) is) c.loop-n.invariant.bytes;
      end = omega (arith, c.place_symbol-end.ensures.end, c.loop-n.invariant.end);
      strx = omega (arith, place_next (mach_names t) n text (name_of_row o n s.item s.place), c.name_size.ensures, c.loop-n.invariant.strx, ap (λ (p : Symbol). length (mach_symbol_name_of p.kind s.item.name)) same, ap (λ xs. length (mach_symbol_name_of c.symbol-symbol.result.now.kind xs)) name);
      len = c.place_symbol-end.ensures.len ∙ c.loop-n.invariant.len;
    }

pub returns-clause-bytes : goal.returns-clause-bytes
returns-clause-bytes c =
    let t = macho_table_of c.args.object.now in
    let rows = mach_symbol_rows_from t 0 t.symbols in
    flat_all mach_symbol_bytes rows c.loop-n.n _ _ (omega (arith, length-symbol_rows c.args.object.now, ap length c.requires.order, c.loop-n-test.false)) c.loop-n.invariant.bytes

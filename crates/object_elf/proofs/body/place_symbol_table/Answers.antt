use Rattle.std.proofs.Common.{◌≡◌, arith, take, length, length-take-le}
use Rattle.byte_core.proofs.LaidOut.{lays_one}
use Rattle.object_elf.proofs.Emitting.{table_bytes}
use Rattle.object_elf.proofs.Tables.{chosen_sizes, chosen_counts}
use Rattle.object_elf.proofs.body.place_symbol_table.Goals as goal

pub place_symbol_rows-others-requires-clause-room : goal.place_symbol_rows-others-requires-clause-room
place_symbol_rows-others-requires-clause-room c =
    omega (
      arith,
      chosen_counts c.args.object.now.symbols,
      c.requires.room,
      c.place_padding-at.ensures.end,
      c.place_padding-at.ensures.len,
      c.place_zeros-at.ensures.end,
      c.place_zeros-at.ensures.len,
    )

pub place_symbol_rows-others-requires-clause-names : goal.place_symbol_rows-others-requires-clause-names
place_symbol_rows-others-requires-clause-names c = omega (arith, chosen_sizes c.args.object.now.symbols, c.requires.names)

pub place_symbol_rows-end-requires-clause-room : goal.place_symbol_rows-end-requires-clause-room
place_symbol_rows-end-requires-clause-room c =
    omega (
      arith,
      chosen_counts c.args.object.now.symbols,
      c.requires.room,
      c.place_padding-at.ensures.end,
      c.place_padding-at.ensures.len,
      c.place_zeros-at.ensures.end,
      c.place_zeros-at.ensures.len,
      c.place_symbol_rows-others.ensures.at,
      c.place_symbol_rows-others.ensures.len,
    )

pub place_symbol_rows-end-requires-clause-names : goal.place_symbol_rows-end-requires-clause-names
place_symbol_rows-end-requires-clause-names c = omega (arith, chosen_sizes c.args.object.now.symbols, c.requires.names, c.place_symbol_rows-others.ensures.name)

pub returns-clause-table : goal.returns-clause-table
returns-clause-table c =
    let filled : length (take c.args.at c.args.out.now) ≡ c.args.at = length-take-le c.args.at c.args.out.now (omega (arith, c.requires.room)) in
    lays_one (take c.args.at c.args.out.now) _ _ _ 8 (rw filled c.place_padding-at.ensures.bytes)
    (table_bytes c.args.object.now.symbols _ _ _ _ _ c.place_zeros-at.ensures.bytes c.place_symbol_rows-others.ensures.rows c.place_symbol_rows-others.ensures.name c.place_symbol_rows-end.ensures.rows)

pub returns-clause-end : goal.returns-clause-end
returns-clause-end c =
    omega (arith, chosen_counts c.args.object.now.symbols, c.place_padding-at.ensures.end, c.place_zeros-at.ensures.end, c.place_symbol_rows-others.ensures.at, c.place_symbol_rows-end.ensures.at)

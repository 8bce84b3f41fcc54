use Rattle.std.proofs.Common.{arith}
use Rattle.object_elf.proofs.Tables.{chosen_sizes}
use Rattle.object_elf.proofs.Emitting.{table_names}
use Rattle.object_elf.proofs.strings.place_symbol_strings.Goals as goal

pub place_symbol_names-at-requires : goal.place_symbol_names-at-requires
place_symbol_names-at-requires c = omega (arith, chosen_sizes c.args.object.now.symbols, c.requires, c.place_byte-at.ensures.end, c.place_byte-at.ensures.len)

pub place_symbol_names-requires : goal.place_symbol_names-requires
place_symbol_names-requires c =
    omega (
      arith,
      chosen_sizes c.args.object.now.symbols,
      c.requires,
      c.place_byte-at.ensures.end,
      c.place_byte-at.ensures.len,
      c.place_symbol_names-at.ensures.end,
      c.place_symbol_names-at.ensures.len,
    )

pub returns-clause-bytes : goal.returns-clause-bytes
returns-clause-bytes c = table_names c.args.object.now.symbols _ _ _ _ c.place_byte-at.ensures.bytes c.place_symbol_names-at.ensures.bytes c.place_symbol_names.ensures.bytes

pub returns-clause-end : goal.returns-clause-end
returns-clause-end c = omega (arith, chosen_sizes c.args.object.now.symbols, c.place_byte-at.ensures.end, c.place_symbol_names-at.ensures.end, c.place_symbol_names.ensures.end)

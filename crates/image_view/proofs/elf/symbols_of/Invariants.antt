use Rattle.std.proofs.Common.{◌≡◌, ◌∷◌, map, take}
use Rattle.image_read.specs.Views.{symbol_of}
use Rattle.image_view.specs.View.{elf_view_symbol, null_symbol}
use Rattle.image_view.specs.ViewRows.{symbol_seen}
use Rattle.image_view.proofs.elf.symbols_of.Given as goal

abbrev pub invariant-loop-row : goal.invariant-loop-row
invariant-loop-row l = map symbol_seen l.symbols.items ≡ null_symbol ∷ map (elf_view_symbol l.count) (map symbol_of (take l.row-index l.rows))

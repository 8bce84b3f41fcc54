use Rattle.std.proofs.Common.{◌≡◌, ◌∷◌, ◌++◌, false, map, drop}
use Rattle.serde_json.specs.View.{items_of}
use Rattle.serde_json.specs.Written.{items_text}
use Rattle.image_read.specs.Views.{symbol_of}
use Rattle.image_json.specs.ElfJson.{symbol_value}
use Rattle.image_json.proofs.elf_json.push_symbols.Given as goal

-- what was written and the items that are left are what was there and all items
abbrev pub invariant-loop-symbol : goal.invariant-loop-symbol
invariant-loop-symbol l = l.out.items ++ items_text l.is_later (items_of (map symbol_value (map symbol_of (drop l.symbol-index l.symbols)))) ≡ l.fn.out.items ++ 91 ∷ items_text false (items_of (map symbol_value (map symbol_of l.symbols)))

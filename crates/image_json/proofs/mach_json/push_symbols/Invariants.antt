use Rattle.std.proofs.Common.{◌≡◌, ◌∷◌, ◌++◌, false, map, drop}
use Rattle.serde_json.specs.View.{items_of}
use Rattle.serde_json.specs.Written.{items_text}
use Rattle.image_read.specs.MachViews.{mach_symbol_of}
use Rattle.image_json.specs.MachJson.{mach_symbol_value}
use Rattle.image_json.proofs.mach_json.push_symbols.Given as goal

-- what was written and the items that are left are what was there and all items
abbrev pub invariant-loop-symbol : goal.invariant-loop-symbol
invariant-loop-symbol l = l.out.items ++ items_text l.is_later (items_of (map mach_symbol_value (map mach_symbol_of (drop l.symbol-index l.symbols)))) ≡ l.fn.out.items ++ 91 ∷ items_text false (items_of (map mach_symbol_value (map mach_symbol_of l.symbols)))

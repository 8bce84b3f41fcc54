use Rattle.std.proofs.Common.{◌≡◌, ◌∷◌, ◌++◌, false, map, drop}
use Rattle.serde_json.specs.View.{items_of}
use Rattle.serde_json.specs.Written.{items_text}
use Rattle.image_json.specs.MachJson.{mach_section_value}
use Rattle.image_json.proofs.mach_json.push_sections.Given as goal

-- what was written and the items that are left are what was there and all items
abbrev pub invariant-loop-section : goal.invariant-loop-section
invariant-loop-section l = l.out.items ++ items_text l.is_later (items_of (map mach_section_value (drop l.section-index l.sections))) ≡ l.fn.out.items ++ 91 ∷ items_text false (items_of (map mach_section_value l.sections))

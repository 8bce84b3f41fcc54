use Rattle.std.proofs.Common.{◌≡◌, ◌∷◌, ◌++◌, false, map, drop}
use Rattle.serde_json.specs.View.{items_of}
use Rattle.serde_json.specs.Written.{items_text}
use Rattle.image_read.specs.FatViews.{fat_slice_of}
use Rattle.image_json.specs.FatJson.{fat_slice_value}
use Rattle.image_json.proofs.fat_json.push_slices.Given as goal

-- what was written and the items that are left are what was there and all items
abbrev pub invariant-loop-slice : goal.invariant-loop-slice
invariant-loop-slice l = l.out.items ++ items_text l.is_later (items_of (map fat_slice_value (map fat_slice_of (drop l.slice-index l.slices)))) ≡ l.fn.out.items ++ 91 ∷ items_text false (items_of (map fat_slice_value (map fat_slice_of l.slices)))

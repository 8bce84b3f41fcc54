use Rattle.std.proofs.Common.{map, take}
use Rattle.std.specs.Prelude.{filter}
use Rattle.image_place.specs.Grouped.{Groups, holds_here}
use Rattle.image_place.proofs.GroupLaws.{items_of}
use Rattle.image_place.proofs.grouping.group_section.Given as goal

abbrev pub invariant-loop-relocation : goal.invariant-loop-relocation
invariant-loop-relocation l =
    Groups l.definitions (λ d. filter (holds_here l.k l.section.start d) (take l.relocation-index l.section.relocations)) (map items_of l.fn.fields.items) (map items_of l.fields.items)

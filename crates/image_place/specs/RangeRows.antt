-- What the definitions see of definitions with their ranges.
use Rattle.std.specs.Prelude.{List, [], Option}
use Rattle.std.specs.List.{cons_option}
use Rattle.image_view.specs.ViewRows.{symbol_seen}
use Rattle.image_place.specs.Placed as placed
use Rattle.image_place.specs.declared.ranges.Definition.{Definition}

abbrev pub definition_seen : Definition → placed.Definition
definition_seen d = record { row = d.row; symbol = symbol_seen d.symbol; section = d.section; address = d.address; size = d.size }

-- one element, or none
abbrev pub one_or_none : {A : Type 0} → Option A → List A
one_or_none o = cons_option o []

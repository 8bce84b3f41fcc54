-- What a contract sees of a view.
use Rattle.std.specs.Prelude.{map}
use Rattle.image_view.specs.View.{View}
use Rattle.image_view.specs.ViewRows.{symbol_seen}
use Rattle.image_view.specs.declared.view.View.TheInside.{Inside}

abbrev pub view_seen : Inside → View
view_seen v = record { is_elf = v.is_elf; sections = v.sections.items; symbols = map symbol_seen v.symbols.items }

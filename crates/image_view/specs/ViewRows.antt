-- What the definitions see of a symbol of a view.
use Rattle.image_view.specs.View.{ViewSymbol}
use Rattle.image_view.specs.declared.view.ViewSymbol.{ViewSymbol as Row}

abbrev pub symbol_seen : Row → ViewSymbol
symbol_seen s = record { name = s.name.now; section = s.section; address = s.address; size = s.size; is_local = s.is_local; is_label = s.is_label }

-- What the definitions see of definitions that are found.
use Rattle.std.specs.Prelude.{ℕ, Bool, List, [], ◌∷◌, if◌then◌else◌}
use Rattle.image_view.specs.View.{ViewSymbol}
use Rattle.image_view.specs.ViewRows.{symbol_seen}
use Rattle.image_place.specs.Placed.{At, is_definition}
use Rattle.image_place.specs.declared.definitions.Found.{Found}

abbrev pub found_seen : Found → At
found_seen f = record { image = f.image; row = f.row; symbol = symbol_seen f.symbol }

abbrev pub is_found : At → Bool
is_found a = is_definition a.symbol

-- a symbol, if it is a definition
abbrev pub found_if : ℕ → ℕ → ViewSymbol → List At
found_if image row symbol = if is_definition symbol then record { image = image; row = row; symbol = symbol } ∷ [] else []

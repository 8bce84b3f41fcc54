-- What a contract sees of a section of a view.
use Rattle.image_view.specs.View.{ViewSection, filled}
use Rattle.image_view.specs.declared.view.ViewSection.TheInside.{Inside}

abbrev pub section_seen : Inside → ViewSection
section_seen s = record { start = s.start; size = s.size; bytes = filled s.size s.contents.now; relocations = s.relocations.items }

use Rattle.std.proofs.Common.{◌≡◌, ◌++◌, map, flat_map, drop}
use Rattle.image_place.specs.Views.{placed_view}
use Rattle.place_json.specs.Lines.{entry_line}
use Rattle.place_json.proofs.lines.entry_lines.Given as goal

-- the lines that were written, and those of the entries that are left, are all lines
abbrev pub invariant-loop-entry : goal.invariant-loop-entry
invariant-loop-entry l = l.out.items ++ flat_map entry_line (map placed_view (drop l.entry-index l.entries)) ≡ flat_map entry_line (map placed_view l.entries)

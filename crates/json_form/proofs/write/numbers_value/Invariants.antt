use Rattle.std.proofs.Common.{◌≡◌, map, take}
use Rattle.serde_json.specs.View.{view}
use Rattle.json_form.specs.Written.{number_value}
use Rattle.json_form.proofs.write.numbers_value.Given as goal

-- those so far are written
abbrev pub invariant-loop-number : goal.invariant-loop-number
invariant-loop-number l = map view l.values.items ≡ map number_value (take l.number-index l.numbers)

use Rattle.std.proofs.Common.{◌≡◌, ◌++◌, drop}
use Rattle.image_json.specs.RowJson.{next_numbers}
use Rattle.image_json.proofs.pieces.push_numbers.Given as goal

-- what was written and the numbers that are left are what was there and all numbers
abbrev pub invariant-loop-number : goal.invariant-loop-number
invariant-loop-number l = l.out.items ++ next_numbers (drop l.number-index l.numbers) ≡ l.fn.out.items ++ next_numbers l.numbers

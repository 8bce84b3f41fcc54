use Rattle.std.proofs.Common.{◌≡◌, ◌≤◌, drop, map, length}
use Rattle.serde_json.specs.View.{members_view}
use Rattle.json_form.specs.Written.{number_members, number_field}
use Rattle.json_form.proofs.write.numbers_object.Given as goal

-- the members from a place on stand in the object
abbrev pub invariant-putting : goal.invariant-putting
invariant-putting l = record { place : l.left ≤ length l.members; put : members_view l.object.entries ≡ number_members (map number_field (drop l.left l.members)) }

abbrev pub decreases-putting : goal.decreases-putting
decreases-putting l = l.left

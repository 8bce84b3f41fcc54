use Rattle.std.proofs.Common.{◌∙◌}
use Rattle.json_form.proofs.Keys.{keys_within-view}
use Rattle.json_form.proofs.fields.has_keys_within.Goals as goal

pub returns-in-Some : goal.returns-in-Some
returns-in-Some c = rw (← c.in-Some.ensures) (c.are_among.ensures ∙ keys_within-view c.args.keys.now c.in-Some.members.now.entries)

use Rattle.std.proofs.Common.{◌∙◌, refl, string_bytes}
use Rattle.std.proofs.lemmas.List.{map-set}
use Rattle.cranelift_module.proofs.libcall_names.LibcallNames.set.Goals as goal

pub returns-clause-ok : goal.returns-clause-ok
returns-clause-ok c = rw (← c.self.view_is) (map-set string_bytes c.self.inside.texts.items c.place.result c.in_ok-text.text ∙ rw (c.place.ensures.place, c.in_ok-text.ensures.ok) refl)

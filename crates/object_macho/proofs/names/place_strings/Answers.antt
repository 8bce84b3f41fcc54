use Rattle.std.proofs.Common.{[], ◌∷◌}
use Rattle.byte_core.specs.Strings.{string_bytes_of}
use Rattle.object_macho.proofs.Joining.{join_two}
use Rattle.object_macho.proofs.names.place_strings.Goals as goal

pub returns-clause-bytes : goal.returns-clause-bytes
unfolding string_bytes_of
returns-clause-bytes c = join_two _ _ _ (0 ∷ []) _ c.place_byte-at.ensures.bytes c.place_names.ensures.bytes

-- The names of fields stand in the order of their bytes.
use Rattle.std.proofs.Common.{◌≡◌, List, ◌++◌, map, take, drop, IsTrue, refl}
use Rattle.std.proofs.lemmas.List.{map-append}
use Rattle.serde_json.proofs.OnLiterals.{serde_json_on_literals}
use Rattle.json_form.specs.declared.write.NumberMember.{NumberMember}
use Rattle.json_form.specs.Written.{number_field, are_ascending}
use Rattle.goblin_pe.specs.declared.load_config.LoadConfigDirectory.{LoadConfigDirectory}
use Rattle.goblin_pe.specs.Tls.{TlsView}
use Rattle.pe_json.specs.LoadConfig.{number_fields}
use Rattle.pe_json.specs.Tls.{tls_numbers}

pub fields_ascend : (d : LoadConfigDirectory) → IsTrue (are_ascending (number_fields d))
unfolding number_fields are_ascending serde_json_on_literals
fields_ascend d = refl

pub numbers_ascend : (t : TlsView) → IsTrue (are_ascending (tls_numbers t))
unfolding tls_numbers are_ascending serde_json_on_literals
numbers_ascend t = refl

-- five parts of the fields are all of them
pub joined_fields : (d : LoadConfigDirectory) (a b c e f : List NumberMember) → map number_field a ≡ take 12 (number_fields d) → map number_field b ≡ take 10 (drop 12 (number_fields d))
    → map number_field c ≡ take 10 (drop 22 (number_fields d)) → map number_field e ≡ take 9 (drop 32 (number_fields d)) → map number_field f ≡ drop 41 (number_fields d)
    → map number_field ((((a ++ b) ++ c) ++ e) ++ f) ≡ number_fields d
unfolding number_fields
joined_fields d a b c e f p q r s t = rw (map-append, map-append, map-append, map-append, p, q, r, s, t) refl

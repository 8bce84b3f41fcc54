-- The keys of an object's members.
use Rattle.std.proofs.Common.{◌≡◌, ℕ, List, [], ◌∷◌, map, refl, String, Global, Bor, string_bytes, bytes_eq}
use Rattle.std.specs.List.{list_all, list_any}
use Rattle.std.specs.Map.{keys_of}
use Rattle.serde_json.specs.declared.value.Value.{Value}
use Rattle.serde_json.specs.View.{members_view}
use Rattle.json_form.specs.Form.{keys_within}

-- a slice of texts as a list of texts
any-now : (key : List ℕ) (keys : List (Bor (List ℕ))) → list_any (λ k. bytes_eq key k.now) keys ≡ list_any (bytes_eq key) (map (λ k. k.now) keys)
any-now key [] = refl
any-now key (k ∷ keys) = rw (any-now key keys) refl

pub keys_within-view : (keys : List (Bor (List ℕ))) (es : List (String Global × Value)) → list_all (λ key. list_any (λ k. bytes_eq (string_bytes key) k.now) keys) (keys_of es) ≡ keys_within (map (λ k. k.now) keys) (members_view es)
keys_within-view keys [] = refl
keys_within-view keys (e ∷ es) = rw (any-now (string_bytes e.0) keys, keys_within-view keys es) refl

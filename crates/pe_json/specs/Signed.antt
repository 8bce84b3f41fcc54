-- The bytes that a signature covers, as they are answered to a JSON value.
use Rattle.std.specs.Prelude.{ℕ, List, Option, option_map, Result, Ok}
use Rattle.std.specs.List.{concat}
use Rattle.hex.specs.Hex.{encode_lower}
use Rattle.serde_json.specs.Data.{Data}
use Rattle.json_form.specs.Reply.{Reply}
use Rattle.pe_core.specs.declared.pe_error.Error.{Error}
use Rattle.pe_core.specs.Steps.{◌>>=◌}
use Rattle.pe_signed.specs.SignedRanges.{signed_ranges}
use Rattle.pe_json.specs.Inputs.{SignedData, signed_input}
use Rattle.pe_json.specs.Answers.{text_reply}

-- the hexadecimal of all ranges that the signature covers, one behind the other
unfoldable pub signed_hex : SignedData → Result (List ℕ) Error
signed_hex i = do
  ranges ← signed_ranges i.bytes i.sections i.excluded
  Ok (encode_lower (concat ranges))

-- what is answered to an input
abbrev pub signed_answer : SignedData → Reply
signed_answer i = text_reply (signed_hex i)

-- what is answered to a value; none where it isn't of the form
abbrev pub signed_reply : Data → Option Reply
signed_reply d = option_map signed_answer (signed_input d)

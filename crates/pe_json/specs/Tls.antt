-- Thread-local data, as it is answered to a JSON value.
use Rattle.std.specs.Prelude.{ℕ, List, [], ◌∷◌, codes, Option, Some, None, option_map, Result, Ok}
use Rattle.serde_json.specs.Data.{Data, null, object, put}
use Rattle.json_form.specs.Reply.{Reply}
use Rattle.json_form.specs.Written.{number_value, hex_or_null, list_value, number_members}
use Rattle.pe_core.specs.declared.pe_error.Error.{Error}
use Rattle.pe_core.specs.Steps.{◌>>=◌}
use Rattle.goblin_pe.specs.Tls.{TlsView, tls_of}
use Rattle.pe_json.specs.Inputs.{BasedData, tls_input}
use Rattle.pe_json.specs.Answers.{json_reply}

-- the numbers that are told of thread-local data, by their names in the order of their bytes
unfoldable pub tls_numbers : TlsView → List (List ℕ × Option ℕ)
tls_numbers t =
    (codes "callbacks_address", Some t.image_tls_directory.address_of_callbacks)
    ∷ (codes "characteristics", Some t.image_tls_directory.characteristics)
    ∷ (codes "end", Some t.image_tls_directory.end_address_of_raw_data)
    ∷ (codes "index", Some t.image_tls_directory.address_of_index)
    ∷ (codes "slot", t.slot)
    ∷ (codes "start", Some t.image_tls_directory.start_address_of_raw_data)
    ∷ (codes "zero_fill", Some t.image_tls_directory.size_of_zero_fill)
    ∷ []

-- these, the addresses of the callbacks and the raw data
unfoldable pub tls_value : TlsView → Data
tls_value t =
    object (
    put (codes "callbacks") (list_value number_value t.callbacks) (
    put (codes "raw") (hex_or_null t.raw_data) (
    number_members (tls_numbers t))))

-- the same, or null where there is none
abbrev pub tls_or_null : Option TlsView → Data
tls_or_null None = null
tls_or_null (Some t) = tls_value t

-- the thread-local data that an input's directory names, as a value
unfoldable pub tls_json : BasedData → Result Data Error
tls_json i = do
  found ← tls_of i.image.bytes i.image_base i.image.directory i.image.sections i.image.file_alignment i.image.options i.is_64
  Ok (tls_or_null found)

-- what is answered to an input
abbrev pub tls_answer : BasedData → Reply
tls_answer i = json_reply (tls_json i)

-- what is answered to a value; none where it isn't of the form
abbrev pub tls_reply : Data → Option Reply
tls_reply d = option_map tls_answer (tls_input d)

-- CLR metadata, as it is answered to a JSON value.
use Rattle.std.specs.Prelude.{ℕ, List, [], ◌∷◌, codes, Option, option_map, Result, Ok, Err}
use Rattle.serde_json.specs.Data.{Data, string, array, object, item, no_items, member, no_members}
use Rattle.serde_json.specs.View.{items_of}
use Rattle.json_form.specs.Reply.{Reply}
use Rattle.json_form.specs.Written.{number_value, hex_or_null}
use Rattle.pe_core.specs.declared.section_table.DataDirectory.{DataDirectory}
use Rattle.pe_core.specs.declared.pe_error.Error.{Error}
use Rattle.pe_core.specs.Steps.{◌>>=◌}
use Rattle.pe_clr.specs.Storage.{StreamData}
use Rattle.pe_clr.specs.Streams.{streams_counted, mvid_among}
use Rattle.pe_clr.specs.Clr.{ClrView, clr_of}
use Rattle.pe_json.specs.Image.{ImageData}
use Rattle.pe_json.specs.Inputs.{clr_input}
use Rattle.pe_json.specs.Answers.{json_reply}

-- an entry of the data directory is a list of its address and its size
abbrev pub directory_value : DataDirectory → Data
directory_value dd = array (item (number_value dd.virtual_address) (item (number_value dd.size) no_items))

-- a stream is a list of its name, its offset and its size
abbrev pub stream_value : StreamData → Data
stream_value s = array (item (string s.name) (item (number_value s.offset) (item (number_value s.size) no_items)))

-- each stream as a value, or the refusal with which the streams end
unfoldable pub stream_values : List (Result StreamData Error) → Result (List Data) Error
stream_values [] = Ok []
stream_values (Err error ∷ answers) = Err error
stream_values (Ok s ∷ answers) = stream_values answers >>= λ values. Ok (stream_value s ∷ values)

-- what is told of CLR data, its streams and its module's version identifier
unfoldable pub clr_value : ClrView → List Data → Option (List ℕ) → Data
clr_value clr streams mvid =
    object (
    member (codes "flags") (number_value clr.cor20_header.flags) (
    member (codes "metadata") (directory_value clr.cor20_header.metadata) (
    member (codes "mvid") (hex_or_null mvid) (
    member (codes "signature") (number_value clr.signature) (
    member (codes "streams") (array (items_of streams)) (
    member (codes "version") (string clr.metadata_header.version) no_members))))))

-- the CLR data that an input's directory names, as a value; a refusal of a stream stands before one of the identifier
unfoldable pub clr_json : ImageData → Result Data Error
clr_json i = do
  clr ← clr_of i.bytes i.directory i.sections i.file_alignment i.options
  streams ← stream_values (streams_counted clr.metadata_data clr.storage_header.streams)
  mvid ← mvid_among clr.metadata_data clr.offset_of_metadata (streams_counted clr.metadata_data clr.storage_header.streams)
  Ok (clr_value clr streams mvid)

-- what is answered to an input
abbrev pub clr_answer : ImageData → Reply
clr_answer i = json_reply (clr_json i)

-- what is answered to a value; none where it isn't of the form
abbrev pub clr_reply : Data → Option Reply
clr_reply d = option_map clr_answer (clr_input d)

-- The values that are told have no float, so their texts are exact.
use Rattle.std.proofs.Common.{◌≡◌, ℕ, Bool, true, false, List, [], ◌∷◌, Option, Some, None, Result, Ok, Err, refl, subst, codes}
use Rattle.serde_json.specs.Data.{Data, put}
use Rattle.serde_json.specs.View.{items_of}
use Rattle.serde_json.specs.Written.{has_float, items_have_float, compact_text}
use Rattle.json_form.specs.Reply.{told}
use Rattle.json_form.specs.Written.{number_value, hex_or_null, list_value, number_members}
use Rattle.json_form.proofs.Plain.{hex_plain, numbers_plain, members_plain, put_plain}
use Rattle.pe_core.specs.declared.pe_error.Error.{Error}
use Rattle.pe_core.specs.Steps.{◌>>=◌}
use Rattle.pe_clr.specs.Storage.{StreamData}
use Rattle.pe_clr.specs.Streams.{streams_counted, mvid_among}
use Rattle.pe_clr.specs.Clr.{ClrView, clr_of}
use Rattle.goblin_pe.specs.declared.load_config.LoadConfigCodeIntegrity.{LoadConfigCodeIntegrity}
use Rattle.goblin_pe.specs.declared.load_config.LoadConfigDirectory.{LoadConfigDirectory}
use Rattle.goblin_pe.specs.declared.load_config.LoadConfigData.{LoadConfigData}
use Rattle.goblin_pe.specs.LoadConfig.{load_config_of}
use Rattle.goblin_pe.specs.Tls.{TlsView, tls_of}
use Rattle.pe_json.specs.Answers.{json_reply}
use Rattle.pe_json.specs.Image.{ImageData}
use Rattle.pe_json.specs.Inputs.{WideData, BasedData}
use Rattle.pe_json.specs.Clr.{stream_value, stream_values, clr_value, clr_json}
use Rattle.pe_json.specs.LoadConfig.{integrity_value, number_fields, load_config_value, load_config_json}
use Rattle.pe_json.specs.Tls.{tls_numbers, tls_value, tls_or_null, tls_json}

-- what is told of a value without floats is its exact text
pub json_told : (j : Result Data Error) (d : Data) (text : List ℕ) → has_float d ≡ false → j ≡ Ok d → (has_float d ≡ false → text ≡ compact_text d) → Some (json_reply j) ≡ Some (told text)
json_told j d text none is exact = rw (is, exact none) refl

-- -- CLR metadata

one_more : (s : StreamData) (rest : Result (List Data) Error) (ds : List Data) → ((es : List Data) → rest ≡ Ok es → items_have_float (items_of es) ≡ false) → (rest >>= λ values. Ok (stream_value s ∷ values)) ≡ Ok ds → items_have_float (items_of ds) ≡ false
one_more s (Err e) ds later h = absurd (cc)
one_more s (Ok values) ds later h = let same : (stream_value s ∷ values) ≡ ds = cc in subst (λ xs. items_have_float (items_of xs) ≡ false) same (later values refl)

streams_plain : (answers : List (Result StreamData Error)) (ds : List Data) → stream_values answers ≡ Ok ds → items_have_float (items_of ds) ≡ false
unfolding stream_values
streams_plain [] ds h = let same : [] ≡ ds = cc in subst (λ xs. items_have_float (items_of xs) ≡ false) same refl
streams_plain (Err e ∷ answers) ds h = absurd (cc)
streams_plain (Ok s ∷ answers) ds h = one_more s (stream_values answers) ds (λ es e. streams_plain answers es e) h

clr_value_plain : (clr : ClrView) (streams : List Data) (mvid : Option (List ℕ)) → items_have_float (items_of streams) ≡ false → has_float (clr_value clr streams mvid) ≡ false
unfolding clr_value
clr_value_plain clr streams mvid none = rw (hex_plain mvid, none) refl

clr_rest : (clr : ClrView) (answers : List (Result StreamData Error)) (s : Result (List Data) Error) (m : Result (Option (List ℕ)) Error) (d : Data) → stream_values answers ≡ s → (s >>= λ streams. m >>= λ mvid. Ok (clr_value clr streams mvid)) ≡ Ok d → has_float d ≡ false
clr_rest clr answers (Err e) m d q h = absurd (cc)
clr_rest clr answers (Ok streams) (Err e) d q h = absurd (cc)
clr_rest clr answers (Ok streams) (Ok mvid) d q h = let same : clr_value clr streams mvid ≡ d = cc in subst (λ x. has_float x ≡ false) same (clr_value_plain clr streams mvid (streams_plain answers streams q))

clr_found : (o : Result ClrView Error) (d : Data)
    → (o >>= λ clr. stream_values (streams_counted clr.metadata_data clr.storage_header.streams) >>= λ streams.
    mvid_among clr.metadata_data clr.offset_of_metadata (streams_counted clr.metadata_data clr.storage_header.streams) >>= λ mvid. Ok (clr_value clr streams mvid)) ≡ Ok d
    → has_float d ≡ false
clr_found (Err e) d h = absurd (cc)
clr_found (Ok clr) d h = clr_rest clr (streams_counted clr.metadata_data clr.storage_header.streams) (stream_values (streams_counted clr.metadata_data clr.storage_header.streams)) (mvid_among clr.metadata_data clr.offset_of_metadata (streams_counted clr.metadata_data clr.storage_header.streams)) d refl h

pub clr_plain : (i : ImageData) (d : Data) → clr_json i ≡ Ok d → has_float d ≡ false
unfolding clr_json
clr_plain i d h = clr_found (clr_of i.bytes i.directory i.sections i.file_alignment i.options) d h

-- -- load configuration

integrity_plain : (o : Option LoadConfigCodeIntegrity) → has_float (integrity_value o) ≡ false
integrity_plain None = refl
integrity_plain (Some c) = refl

load_config_value_plain : (x : LoadConfigDirectory) → has_float (load_config_value x) ≡ false
unfolding load_config_value
load_config_value_plain x = put_plain (codes "code_integrity") (integrity_value x.code_integrity) (number_members (number_fields x)) (integrity_plain x.code_integrity) (members_plain (number_fields x))

load_config_found : (o : Result LoadConfigData Error) (d : Data) → (o >>= λ config. Ok (load_config_value config.directory)) ≡ Ok d → has_float d ≡ false
load_config_found (Err e) d h = absurd (cc)
load_config_found (Ok config) d h = let same : load_config_value config.directory ≡ d = cc in subst (λ x. has_float x ≡ false) same (load_config_value_plain config.directory)

pub load_config_plain : (i : WideData) (d : Data) → load_config_json i ≡ Ok d → has_float d ≡ false
unfolding load_config_json
load_config_plain i d h = load_config_found (load_config_of i.image.bytes i.image.directory i.image.sections i.image.file_alignment i.image.options i.is_64) d h

-- -- thread-local data

tls_value_plain : (o : Option TlsView) → has_float (tls_or_null o) ≡ false
unfolding tls_value
tls_value_plain None = refl
tls_value_plain (Some t) =
    put_plain (codes "callbacks") (list_value number_value t.callbacks) (put (codes "raw") (hex_or_null t.raw_data) (number_members (tls_numbers t))) (numbers_plain t.callbacks)
    (put_plain (codes "raw") (hex_or_null t.raw_data) (number_members (tls_numbers t)) (hex_plain t.raw_data) (members_plain (tls_numbers t)))

tls_found : (o : Result (Option TlsView) Error) (d : Data) → (o >>= λ found. Ok (tls_or_null found)) ≡ Ok d → has_float d ≡ false
tls_found (Err e) d h = absurd (cc)
tls_found (Ok found) d h = let same : tls_or_null found ≡ d = cc in subst (λ x. has_float x ≡ false) same (tls_value_plain found)

pub tls_plain : (i : BasedData) (d : Data) → tls_json i ≡ Ok d → has_float d ≡ false
unfolding tls_json
tls_plain i d h = tls_found (tls_of i.image.bytes i.image_base i.image.directory i.image.sections i.image.file_alignment i.image.options i.is_64) d h

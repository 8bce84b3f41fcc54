-- The headers of CLR metadata, by ECMA-335, partition II, "Metadata root" and "Stream header".
use Rattle.std.specs.Prelude.{ℕ, ◌+◌, List, length, Result, Ok, Err, if◌then◌else◌}
use Rattle.std.specs.Int.{next_multiple_of}
use Rattle.std.specs.Str.{is_utf8}
use Rattle.byte_core.specs.Number.{number_at, text_at}
use Rattle.pe_clr.specs.declared.clr.storage.StorageSignature.{StorageSignature}
use Rattle.pe_clr.specs.declared.clr.storage.StorageHeader.{StorageHeader}
use Rattle.pe_clr.specs.declared.clr.storage.StorageStream.{StorageStream}
use Rattle.pe_core.specs.declared.pe_error.Case.TheVariants.{BadText, NoTextEnd}
use Rattle.pe_core.specs.declared.pe_error.Error.{Error}
use Rattle.pe_core.specs.declared.pe_error.Error.TheVariants.{Malformed}
use Rattle.pe_core.specs.Steps.{◌>>=◌, value_or, within_or_short, number_or_short, bytes_or_short}

-- the fields of a storage signature, its version as bytes
pub record SignatureData : Type 0 where
  pub signature : ℕ
  pub major_version : ℕ
  pub minor_version : ℕ
  pub extra_data : ℕ
  pub version_len : ℕ
  pub version : List ℕ

-- the fields of a stream's row, its name as bytes
pub record StreamData : Type 0 where
  pub offset : ℕ
  pub size : ℕ
  pub name : List ℕ

-- a storage signature as its fields
abbrev pub signature_view : StorageSignature → SignatureData
signature_view s =
    record { signature = s.signature; major_version = s.major_version; minor_version = s.minor_version; extra_data = s.extra_data; version_len = s.version_len; version = s.version.now }

-- a stream's row as its fields
abbrev pub stream_view : StorageStream → StreamData
stream_view s = record { offset = s.offset; size = s.size; name = s.name.now }

-- bytes as a text
abbrev pub text_or_bad : List ℕ → Result (List ℕ) Error
text_or_bad text = if is_utf8 text then Ok text else Err (Malformed BadText)

-- the n bytes at place p as a text
unfoldable pub sized_text_at : List ℕ → ℕ → ℕ → Result (List ℕ) Error
sized_text_at b p n = do
  text ← bytes_or_short b p n
  text_or_bad text

-- the bytes from place p up to the first zero as a text
unfoldable pub ended_text_at : List ℕ → ℕ → Result (List ℕ) Error
ended_text_at b p = do
  text ← value_or (text_at b p (length b)) NoTextEnd
  text_or_bad text

-- the storage signature at place p: "Metadata root"
unfoldable pub storage_signature_at : List ℕ → ℕ → Result SignatureData Error
storage_signature_at b p = do
  signature ← number_or_short b p 4
  major ← number_or_short b (p + 4) 2
  minor ← number_or_short b (p + 6) 2
  extra ← number_or_short b (p + 8) 4
  len ← number_or_short b (p + 12) 4
  version ← sized_text_at b (p + 16) len
  Ok (record { signature = signature; major_version = major; minor_version = minor; extra_data = extra; version_len = len; version = version })

-- where a storage signature at place p ends, its version being n bytes long
abbrev pub signature_end : ℕ → ℕ → ℕ
signature_end p n = p + 16 + n

-- the storage header at place p: "Metadata root", from Flags on
abbrev pub storage_header_at : List ℕ → ℕ → Result StorageHeader Error
storage_header_at b p = within_or_short b p 4 (record { flags = number_at b p 1; reserved = number_at b (p + 1) 1; streams = number_at b (p + 2) 2 })

-- the stream's row at place p, whose name ends before the first zero byte: "Stream header"
unfoldable pub storage_stream_at : List ℕ → ℕ → Result StreamData Error
storage_stream_at b p = do
  offset ← number_or_short b p 4
  size ← number_or_short b (p + 4) 4
  name ← ended_text_at b (p + 8)
  Ok (record { offset = offset; size = size; name = name })

-- where the row behind one at place p begins: behind the name's zero byte, at a multiple of 4
abbrev pub stream_end : ℕ → List ℕ → ℕ
stream_end p name = next_multiple_of (p + 8 + length name + 1) 4

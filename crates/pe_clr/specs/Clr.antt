-- CLR metadata of an image, by ECMA-335, partition II, "CLI header" and "Metadata root".
use Rattle.std.specs.Prelude.{ℕ, ◌+◌, ◌-◌, nat_le, List, length, Result, Ok}
use Rattle.pe_core.specs.declared.section_table.SectionTable.{SectionTable}
use Rattle.pe_core.specs.declared.section_table.DataDirectory.{DataDirectory}
use Rattle.pe_core.specs.declared.section_table.ParseOptions.{ParseOptions}
use Rattle.pe_clr.specs.declared.clr.cor20_header.Cor20Header.{Cor20Header}
use Rattle.pe_clr.specs.declared.clr.storage.StorageHeader.{StorageHeader}
use Rattle.pe_clr.specs.declared.clr.ClrData.{ClrData}
use Rattle.pe_core.specs.declared.pe_error.Case.TheVariants.{MetadataRange}
use Rattle.pe_core.specs.declared.pe_error.Error.{Error}
use Rattle.pe_core.specs.Steps.{◌>>=◌, demand, number_or_short}
use Rattle.pe_core.specs.FindOffset.{offset_or_refusal}
use Rattle.pe_core.specs.Steps.{bytes_between}
use Rattle.pe_clr.specs.Cor20.{cor20_at}
use Rattle.pe_clr.specs.Storage.{SignatureData, signature_view, storage_signature_at, signature_end, storage_header_at}

-- the CLR data of an image, with texts and ranges as bytes
pub record ClrView : Type 0 where
  pub signature : ℕ
  pub cor20_header : Cor20Header
  pub storage_header : StorageHeader
  pub metadata_header : SignatureData
  pub metadata_data : List ℕ
  pub offset_of_metadata : ℕ

-- CLR data as its fields
abbrev pub clr_view : ClrData → ClrView
clr_view d =
    record {
      signature = d.signature;
      cor20_header = d.cor20_header;
      storage_header = d.storage_header;
      metadata_header = signature_view d.metadata_header;
      metadata_data = d.metadata_data.now;
      offset_of_metadata = d.offset_of_metadata;
    }

-- where the streams' rows begin, behind a storage header of 4 bytes, in metadata at place p whose version is n bytes long
abbrev pub rows_start : ℕ → ℕ → ℕ
rows_start p n = signature_end p n + 4

-- the metadata of `size` bytes at place p, under this header
unfoldable pub metadata_at : List ℕ → Cor20Header → ℕ → ℕ → Result ClrView Error
metadata_at b header p size = do
  signature ← number_or_short b p 4
  _ ← demand (nat_le (p + size) (length b)) MetadataRange
  root ← storage_signature_at b p
  storage ← storage_header_at b (signature_end p root.version_len)
  _ ← demand (nat_le (rows_start p root.version_len) (p + size)) MetadataRange
  Ok
      (record {
        signature = signature;
        cor20_header = header;
        storage_header = storage;
        metadata_header = root;
        metadata_data = bytes_between b (rows_start p root.version_len) (p + size);
        offset_of_metadata = rows_start p root.version_len - p;
      })

-- the header that the directory names, and the metadata that the header names
unfoldable pub clr_of : List ℕ → DataDirectory → List SectionTable → ℕ → ParseOptions → Result ClrView Error
clr_of b dd sections file_alignment opts = do
  place ← offset_or_refusal dd.virtual_address sections file_alignment opts
  header ← cor20_at b place
  start ← offset_or_refusal header.metadata.virtual_address sections file_alignment opts
  metadata_at b header start header.metadata.size

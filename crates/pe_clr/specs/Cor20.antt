-- The CLR header of 72 bytes, by ECMA-335, partition II, "CLI header".
use Rattle.std.specs.Prelude.{ℕ, ◌+◌, List, Result}
use Rattle.byte_core.specs.Number.{number_at}
use Rattle.pe_core.specs.declared.section_table.DataDirectory.{DataDirectory}
use Rattle.pe_clr.specs.declared.clr.cor20_header.Cor20Header.{Cor20Header}
use Rattle.pe_core.specs.declared.pe_error.Error.{Error}
use Rattle.pe_core.specs.Steps.{within_or_short}

-- an address and a size at place p
unfoldable pub directory_at : List ℕ → ℕ → DataDirectory
directory_at b p = record { virtual_address = number_at b p 4; size = number_at b (p + 4) 4 }

-- the fields of the 72 bytes at place p
unfoldable pub cor20_fields_at : List ℕ → ℕ → Cor20Header
cor20_fields_at b p =
    record {
      cb = number_at b p 4;
      major_runtime_version = number_at b (p + 4) 2;
      minor_runtime_version = number_at b (p + 6) 2;
      metadata = directory_at b (p + 8);
      flags = number_at b (p + 16) 4;
      entry_point_token_or_rva = number_at b (p + 20) 4;
      resources = directory_at b (p + 24);
      strong_name_signature = directory_at b (p + 32);
      code_manager_table = directory_at b (p + 40);
      vtable_fixups = directory_at b (p + 48);
      export_address_table_jumps = directory_at b (p + 56);
      managed_native_header = directory_at b (p + 64);
    }

-- the header at place p, where its 72 bytes lie in the file
abbrev pub cor20_at : List ℕ → ℕ → Result Cor20Header Error
cor20_at b p = within_or_short b p 72 (cor20_fields_at b p)

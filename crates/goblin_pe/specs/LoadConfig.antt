-- The load configuration of an image, by Microsoft's PE Format, "Load Configuration Layout"; that the flags of the first heap
-- follow the affinity mask, in files of both widths, is this project's choice.
use Rattle.std.specs.Prelude.{ℕ, ◌+◌, ◌*◌, nat_le, Bool, List, length, Option, Some, None, Result, Ok, if◌then◌else◌}
use Rattle.byte_core.specs.Number.{bytes_at, number_at}
use Rattle.pe_core.specs.declared.section_table.SectionTable.{SectionTable}
use Rattle.pe_core.specs.declared.section_table.DataDirectory.{DataDirectory}
use Rattle.pe_core.specs.declared.section_table.ParseOptions.{ParseOptions}
use Rattle.goblin_pe.specs.declared.load_config.LoadConfigCodeIntegrity.{LoadConfigCodeIntegrity}
use Rattle.goblin_pe.specs.declared.load_config.LoadConfigDirectory.{LoadConfigDirectory}
use Rattle.goblin_pe.specs.declared.load_config.LoadConfigData.{LoadConfigData}
use Rattle.pe_core.specs.declared.pe_error.Case.TheVariants.{DirectoryRange, TooSmall}
use Rattle.pe_core.specs.declared.pe_error.Error.{Error}
use Rattle.pe_core.specs.Steps.{◌>>=◌, demand, address_width, field_at}
use Rattle.pe_core.specs.FindOffset.{offset_or_refusal}

-- the code integrity of the 12 bytes at place p, none where they pass the end
unfoldable pub code_integrity_at : List ℕ → ℕ → Option LoadConfigCodeIntegrity
code_integrity_at b p =
    if nat_le (p + 12) (length b) then Some (record { flags = number_at b p 2; catalog = number_at b (p + 2) 2; catalog_offset = number_at b (p + 4) 4; reserved = number_at b (p + 8) 4 })
    else None

-- the fields in order, where addresses have w bytes; the ends rise, so from the first that passes the end on all are none
unfoldable pub load_config_fields : List ℕ → ℕ → LoadConfigDirectory
load_config_fields b w =
    record {
      size = number_at b 0 4;
      time_stamp = field_at b 4 4;
      major_version = field_at b 8 2;
      minor_version = field_at b 10 2;
      global_flags_clear = field_at b 12 4;
      global_flags_set = field_at b 16 4;
      critical_section_default_timeout = field_at b 20 4;
      de_commit_free_block_threshold = field_at b 24 w;
      de_commit_total_free_threshold = field_at b (24 + w) w;
      lock_prefix_table = field_at b (24 + 2 * w) w;
      maximum_allocation_size = field_at b (24 + 3 * w) w;
      virtual_memory_threshold = field_at b (24 + 4 * w) w;
      process_affinity_mask = field_at b (24 + 5 * w) w;
      process_heap_flags = field_at b (24 + 6 * w) 4;
      csd_version = field_at b (28 + 6 * w) 2;
      dependent_load_flags = field_at b (30 + 6 * w) 2;
      edit_list = field_at b (32 + 6 * w) w;
      security_cookie = field_at b (32 + 7 * w) w;
      se_handler_table = field_at b (32 + 8 * w) w;
      se_handler_count = field_at b (32 + 9 * w) w;
      guard_cf_check_function_pointer = field_at b (32 + 10 * w) w;
      guard_cf_dispatch_function_pointer = field_at b (32 + 11 * w) w;
      guard_cf_function_table = field_at b (32 + 12 * w) w;
      guard_cf_function_count = field_at b (32 + 13 * w) w;
      guard_flags = field_at b (32 + 14 * w) 4;
      code_integrity = code_integrity_at b (36 + 14 * w);
      guard_address_taken_iat_entry_table = field_at b (48 + 14 * w) w;
      guard_address_taken_iat_entry_count = field_at b (48 + 15 * w) w;
      guard_long_jump_target_table = field_at b (48 + 16 * w) w;
      guard_long_jump_target_count = field_at b (48 + 17 * w) w;
      dynamic_value_reloc_table = field_at b (48 + 18 * w) w;
      chpe_metadata_pointer = field_at b (48 + 19 * w) w;
      guard_rf_failure_routine = field_at b (48 + 20 * w) w;
      guard_rf_failure_routine_function_pointer = field_at b (48 + 21 * w) w;
      dynamic_value_reloc_table_offset = field_at b (48 + 22 * w) 4;
      dynamic_value_reloc_table_section = field_at b (52 + 22 * w) 2;
      reserved2 = field_at b (54 + 22 * w) 2;
      guard_rf_verify_stack_pointer_function_pointer = field_at b (56 + 22 * w) w;
      hot_patch_table_offset = field_at b (56 + 23 * w) 4;
      reserved3 = field_at b (60 + 23 * w) 4;
      enclave_configuration_pointer = field_at b (64 + 23 * w) w;
      volatile_metadata_pointer = field_at b (64 + 24 * w) w;
      guard_eh_continuation_table = field_at b (64 + 25 * w) w;
      guard_eh_continuation_count = field_at b (64 + 26 * w) w;
      guard_xfg_check_function_pointer = field_at b (64 + 27 * w) w;
      guard_xfg_dispatch_function_pointer = field_at b (64 + 28 * w) w;
      guard_xfg_table_dispatch_function_pointer = field_at b (64 + 29 * w) w;
      cast_guard_os_determined_failure_mode = field_at b (64 + 30 * w) w;
      guard_memcpy_function_pointer = field_at b (64 + 31 * w) w;
    }

-- the configuration that the bytes of a directory hold
abbrev pub load_config_at : List ℕ → Bool → Result LoadConfigDirectory Error
load_config_at b is_64 = do
  _ ← demand (nat_le 4 (length b)) TooSmall
  Ok (load_config_fields b (address_width is_64))

-- the configuration of the bytes that the directory names
unfoldable pub load_config_of : List ℕ → DataDirectory → List SectionTable → ℕ → ParseOptions → Bool → Result LoadConfigData Error
load_config_of b dd sections file_alignment opts is_64 = do
  place ← offset_or_refusal dd.virtual_address sections file_alignment opts
  _ ← demand (nat_le (place + dd.size) (length b)) DirectoryRange
  directory ← load_config_at (bytes_at b place dd.size) is_64
  Ok (record { directory = directory })

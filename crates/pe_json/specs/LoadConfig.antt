-- The load configuration, as it is answered to a JSON value.
use Rattle.std.specs.Prelude.{ℕ, List, [], ◌∷◌, codes, Option, Some, None, option_map, Result, Ok}
use Rattle.serde_json.specs.Data.{Data, null, array, object, item, no_items, put}
use Rattle.json_form.specs.Reply.{Reply}
use Rattle.json_form.specs.Written.{number_value, number_members}
use Rattle.pe_core.specs.declared.pe_error.Error.{Error}
use Rattle.pe_core.specs.Steps.{◌>>=◌}
use Rattle.goblin_pe.specs.declared.load_config.LoadConfigCodeIntegrity.{LoadConfigCodeIntegrity}
use Rattle.goblin_pe.specs.declared.load_config.LoadConfigDirectory.{LoadConfigDirectory}
use Rattle.goblin_pe.specs.LoadConfig.{load_config_of}
use Rattle.pe_json.specs.Inputs.{WideData, load_config_input}
use Rattle.pe_json.specs.Answers.{json_reply}

-- code integrity is a list of its four numbers, or null
abbrev pub integrity_value : Option LoadConfigCodeIntegrity → Data
integrity_value None = null
integrity_value (Some c) = array (item (number_value c.flags) (item (number_value c.catalog) (item (number_value c.catalog_offset) (item (number_value c.reserved) no_items))))

-- the numbers by the names of their fields, in the order of their bytes
unfoldable pub number_fields : LoadConfigDirectory → List (List ℕ × Option ℕ)
number_fields d =
    (codes "cast_guard_os_determined_failure_mode", d.cast_guard_os_determined_failure_mode)
    ∷ (codes "chpe_metadata_pointer", d.chpe_metadata_pointer)
    ∷ (codes "critical_section_default_timeout", d.critical_section_default_timeout)
    ∷ (codes "csd_version", d.csd_version)
    ∷ (codes "de_commit_free_block_threshold", d.de_commit_free_block_threshold)
    ∷ (codes "de_commit_total_free_threshold", d.de_commit_total_free_threshold)
    ∷ (codes "dependent_load_flags", d.dependent_load_flags)
    ∷ (codes "dynamic_value_reloc_table", d.dynamic_value_reloc_table)
    ∷ (codes "dynamic_value_reloc_table_offset", d.dynamic_value_reloc_table_offset)
    ∷ (codes "dynamic_value_reloc_table_section", d.dynamic_value_reloc_table_section)
    ∷ (codes "edit_list", d.edit_list)
    ∷ (codes "enclave_configuration_pointer", d.enclave_configuration_pointer)
    ∷ (codes "global_flags_clear", d.global_flags_clear)
    ∷ (codes "global_flags_set", d.global_flags_set)
    ∷ (codes "guard_address_taken_iat_entry_count", d.guard_address_taken_iat_entry_count)
    ∷ (codes "guard_address_taken_iat_entry_table", d.guard_address_taken_iat_entry_table)
    ∷ (codes "guard_cf_check_function_pointer", d.guard_cf_check_function_pointer)
    ∷ (codes "guard_cf_dispatch_function_pointer", d.guard_cf_dispatch_function_pointer)
    ∷ (codes "guard_cf_function_count", d.guard_cf_function_count)
    ∷ (codes "guard_cf_function_table", d.guard_cf_function_table)
    ∷ (codes "guard_eh_continuation_count", d.guard_eh_continuation_count)
    ∷ (codes "guard_eh_continuation_table", d.guard_eh_continuation_table)
    ∷ (codes "guard_flags", d.guard_flags)
    ∷ (codes "guard_long_jump_target_count", d.guard_long_jump_target_count)
    ∷ (codes "guard_long_jump_target_table", d.guard_long_jump_target_table)
    ∷ (codes "guard_memcpy_function_pointer", d.guard_memcpy_function_pointer)
    ∷ (codes "guard_rf_failure_routine", d.guard_rf_failure_routine)
    ∷ (codes "guard_rf_failure_routine_function_pointer", d.guard_rf_failure_routine_function_pointer)
    ∷ (codes "guard_rf_verify_stack_pointer_function_pointer", d.guard_rf_verify_stack_pointer_function_pointer)
    ∷ (codes "guard_xfg_check_function_pointer", d.guard_xfg_check_function_pointer)
    ∷ (codes "guard_xfg_dispatch_function_pointer", d.guard_xfg_dispatch_function_pointer)
    ∷ (codes "guard_xfg_table_dispatch_function_pointer", d.guard_xfg_table_dispatch_function_pointer)
    ∷ (codes "hot_patch_table_offset", d.hot_patch_table_offset)
    ∷ (codes "lock_prefix_table", d.lock_prefix_table)
    ∷ (codes "major_version", d.major_version)
    ∷ (codes "maximum_allocation_size", d.maximum_allocation_size)
    ∷ (codes "minor_version", d.minor_version)
    ∷ (codes "process_affinity_mask", d.process_affinity_mask)
    ∷ (codes "process_heap_flags", d.process_heap_flags)
    ∷ (codes "reserved2", d.reserved2)
    ∷ (codes "reserved3", d.reserved3)
    ∷ (codes "se_handler_count", d.se_handler_count)
    ∷ (codes "se_handler_table", d.se_handler_table)
    ∷ (codes "security_cookie", d.security_cookie)
    ∷ (codes "size", Some d.size)
    ∷ (codes "time_stamp", d.time_stamp)
    ∷ (codes "virtual_memory_threshold", d.virtual_memory_threshold)
    ∷ (codes "volatile_metadata_pointer", d.volatile_metadata_pointer)
    ∷ []

-- each field by its name
unfoldable pub load_config_value : LoadConfigDirectory → Data
load_config_value d = object (put (codes "code_integrity") (integrity_value d.code_integrity) (number_members (number_fields d)))

-- the configuration that an input's directory names, as a value
unfoldable pub load_config_json : WideData → Result Data Error
load_config_json i = do
  config ← load_config_of i.image.bytes i.image.directory i.image.sections i.image.file_alignment i.image.options i.is_64
  Ok (load_config_value config.directory)

-- what is answered to an input
abbrev pub load_config_answer : WideData → Reply
load_config_answer i = json_reply (load_config_json i)

-- what is answered to a value; none where it isn't of the form
abbrev pub load_config_reply : Data → Option Reply
load_config_reply d = option_map load_config_answer (load_config_input d)

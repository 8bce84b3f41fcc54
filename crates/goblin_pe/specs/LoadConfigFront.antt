-- That a load configuration has its fields up to some place, and none behind it.
use Rattle.std.specs.Prelude.{Bool, true, false, List, [], ◌∷◌, is_some, IsTrue, not}
use Rattle.goblin_pe.specs.declared.load_config.LoadConfigDirectory.{LoadConfigDirectory}

-- whether each field behind the size is there, in order
abbrev pub are_there : LoadConfigDirectory → List Bool
are_there d =
    is_some d.time_stamp ∷ is_some d.major_version ∷ is_some d.minor_version ∷ is_some d.global_flags_clear ∷ is_some d.global_flags_set
    ∷ is_some d.critical_section_default_timeout ∷ is_some d.de_commit_free_block_threshold ∷ is_some d.de_commit_total_free_threshold
    ∷ is_some d.lock_prefix_table ∷ is_some d.maximum_allocation_size ∷ is_some d.virtual_memory_threshold ∷ is_some d.process_affinity_mask
    ∷ is_some d.process_heap_flags ∷ is_some d.csd_version ∷ is_some d.dependent_load_flags ∷ is_some d.edit_list ∷ is_some d.security_cookie
    ∷ is_some d.se_handler_table ∷ is_some d.se_handler_count ∷ is_some d.guard_cf_check_function_pointer
    ∷ is_some d.guard_cf_dispatch_function_pointer ∷ is_some d.guard_cf_function_table ∷ is_some d.guard_cf_function_count ∷ is_some d.guard_flags
    ∷ is_some d.code_integrity ∷ is_some d.guard_address_taken_iat_entry_table ∷ is_some d.guard_address_taken_iat_entry_count
    ∷ is_some d.guard_long_jump_target_table ∷ is_some d.guard_long_jump_target_count ∷ is_some d.dynamic_value_reloc_table
    ∷ is_some d.chpe_metadata_pointer ∷ is_some d.guard_rf_failure_routine ∷ is_some d.guard_rf_failure_routine_function_pointer
    ∷ is_some d.dynamic_value_reloc_table_offset ∷ is_some d.dynamic_value_reloc_table_section ∷ is_some d.reserved2
    ∷ is_some d.guard_rf_verify_stack_pointer_function_pointer ∷ is_some d.hot_patch_table_offset ∷ is_some d.reserved3
    ∷ is_some d.enclave_configuration_pointer ∷ is_some d.volatile_metadata_pointer ∷ is_some d.guard_eh_continuation_table
    ∷ is_some d.guard_eh_continuation_count ∷ is_some d.guard_xfg_check_function_pointer ∷ is_some d.guard_xfg_dispatch_function_pointer
    ∷ is_some d.guard_xfg_table_dispatch_function_pointer ∷ is_some d.cast_guard_os_determined_failure_mode
    ∷ is_some d.guard_memcpy_function_pointer ∷ []

-- each of these is false
abbrev pub AreFalse : List Bool → Type 0
AreFalse [] = Unit {0}
AreFalse (b ∷ bs) = IsTrue (not b) × AreFalse bs

-- from the first that is false on, all are
abbrev pub IsFront : List Bool → Type 0
IsFront [] = Unit {0}
IsFront (true ∷ bs) = IsFront bs
IsFront (false ∷ bs) = AreFalse bs

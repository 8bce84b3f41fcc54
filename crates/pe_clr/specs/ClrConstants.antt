-- The numbers of the CLR header, by ECMA-335, partition II, "CLI header" and "Runtime flags", and the Windows header corhdr.h.
use Rattle.std.specs.Prelude.{ℕ, List, [], ◌∷◌}
use Rattle.pe_clr.specs.declared.clr.TheConstants.{DOTNET_SIGNATURE, COMIMAGE_FLAGS_ILONLY, COMIMAGE_FLAGS_32BITREQUIRED, COMIMAGE_FLAGS_IL_LIBRARY, COMIMAGE_FLAGS_STRONGNAMESIGNED, COMIMAGE_FLAGS_NATIVE_ENTRYPOINT, COMIMAGE_FLAGS_TRACKDEBUGDATA, COMIMAGE_FLAGS_32BITPREFERRED, COR_VERSION_MAJOR_V2, COR_VERSION_MAJOR, COR_VERSION_MINOR, COR_DELETED_NAME_LENGTH, COR_VTABLEGAP_NAME_LENGTH, COR_VTABLE_32BIT, COR_VTABLE_64BIT, COR_VTABLE_FROM_UNMANAGED, COR_VTABLE_FROM_UNMANAGED_RETAIN_APPDOMAIN, COR_VTABLE_CALL_MOST_DERIVED}

-- the signature of metadata: "Metadata root"
unfoldable pub metadata_signature : List (ℕ × ℕ)
metadata_signature = (DOTNET_SIGNATURE, 0x424a5342) ∷ []

-- the runtime flags, the lowest first: "Runtime flags"
unfoldable pub runtime_flags : List (ℕ × ℕ)
runtime_flags =
    (COMIMAGE_FLAGS_ILONLY, 0x00000001) ∷ (COMIMAGE_FLAGS_32BITREQUIRED, 0x00000002) ∷ (COMIMAGE_FLAGS_IL_LIBRARY, 0x00000004)
    ∷ (COMIMAGE_FLAGS_STRONGNAMESIGNED, 0x00000008) ∷ (COMIMAGE_FLAGS_NATIVE_ENTRYPOINT, 0x00000010) ∷ (COMIMAGE_FLAGS_TRACKDEBUGDATA, 0x00010000)
    ∷ (COMIMAGE_FLAGS_32BITPREFERRED, 0x00020000) ∷ []

-- the versions of the runtime, and the lengths of names that were deleted or stand for a gap
unfoldable pub runtime_versions : List (ℕ × ℕ)
runtime_versions =
    (COR_VERSION_MAJOR_V2, 2) ∷ (COR_VERSION_MAJOR, 2) ∷ (COR_VERSION_MINOR, 5) ∷ (COR_DELETED_NAME_LENGTH, 8) ∷ (COR_VTABLEGAP_NAME_LENGTH, 8) ∷ []

-- the kinds of entries of virtual tables, the lowest first
unfoldable pub vtable_kinds : List (ℕ × ℕ)
vtable_kinds =
    (COR_VTABLE_32BIT, 0x01) ∷ (COR_VTABLE_64BIT, 0x02) ∷ (COR_VTABLE_FROM_UNMANAGED, 0x04) ∷ (COR_VTABLE_FROM_UNMANAGED_RETAIN_APPDOMAIN, 0x08)
    ∷ (COR_VTABLE_CALL_MOST_DERIVED, 0x10) ∷ []

-- The texts of the calls into the runtime.
use Rattle.std.specs.Prelude.{ℕ, List, [], ◌∷◌, codes}
use Rattle.ir_core.specs.declared.reloc.LibCall.{LibCall}
use Rattle.ir_core.specs.declared.reloc.LibCall.TheVariants.{Probestack, CeilF32, CeilF64, FloorF32, FloorF64, TruncF32, TruncF64, NearestF32, NearestF64, FmaF32, FmaF64, Memcpy, Memset, Memmove, Memcmp, ElfTlsGetAddr, ElfTlsGetOffset, X86Pshufb}

-- the place of a call in the table of texts
abbrev pub library_place : LibCall → ℕ
library_place Probestack = 0
library_place CeilF32 = 1
library_place CeilF64 = 2
library_place FloorF32 = 3
library_place FloorF64 = 4
library_place TruncF32 = 5
library_place TruncF64 = 6
library_place NearestF32 = 7
library_place NearestF64 = 8
library_place FmaF32 = 9
library_place FmaF64 = 10
library_place Memcpy = 11
library_place Memset = 12
library_place Memmove = 13
library_place Memcmp = 14
library_place ElfTlsGetAddr = 15
library_place ElfTlsGetOffset = 16
library_place X86Pshufb = 17

-- the usual texts, in the order of the calls: names of the C library where it has one
unfoldable pub usual_texts : List (List ℕ)
usual_texts =
    codes "__cranelift_probestack" ∷ codes "ceilf" ∷ codes "ceil" ∷ codes "floorf" ∷ codes "floor" ∷ codes "truncf" ∷ codes "trunc" ∷ codes "nearbyintf" ∷ codes "nearbyint"
    ∷ codes "fmaf" ∷ codes "fma" ∷ codes "memcpy" ∷ codes "memset" ∷ codes "memmove" ∷ codes "memcmp" ∷ codes "__tls_get_addr" ∷ codes "__tls_get_offset" ∷ codes "__cranelift_x86_pshufb" ∷ []

-- The first entry of an architecture, among the items of a table.
use Rattle.std.proofs.Common.{◌≡◌, Bool, true, false, cond, List, [], ◌∷◌, ◌++◌, map, find, Option, Some, None, Result, Ok, Err, refl, ap, if◌then◌else◌, nat_lt}
use Rattle.goblin_mach.specs.declared.fat.FatArch.{FatArch}
use Rattle.goblin_mach.specs.declared.mach_error.Error.{Error}
use Rattle.goblin_mach.specs.declared.mach_error.Error.TheVariants.{BufferTooShort}
use Rattle.goblin_mach.specs.FatFile.{FatFile}
use Rattle.goblin_mach.specs.FatTable.{items_from, fat_arches, fat_items, whole_entries}

-- the first entry with a property before the first error
abbrev pub first_among : (FatArch → Bool) → List (Result FatArch Error) → Option FatArch
first_among p [] = None
first_among p (Err e ∷ items) = None
first_among p (Ok entry ∷ items) = if p entry then Some entry else first_among p items

among_entries : (p : FatArch → Bool) (entries : List FatArch) (b : Bool) (e : Error) → first_among p (map Ok entries ++ cond b (Err e ∷ []) []) ≡ find p entries
among_entries p [] true e = refl
among_entries p [] false e = refl
among_entries p (x ∷ xs) b e = ap (λ rest. if p x then Some x else rest) (among_entries p xs b e)

pub among_items : (p : FatArch → Bool) (fat : FatFile) → first_among p (fat_items fat) ≡ find p (fat_arches fat)
unfolding items_from
among_items p fat = among_entries p (fat_arches fat) (nat_lt (whole_entries fat.bytes) fat.narches) BufferTooShort

-- The bytes of contents that lie in the fields of relocations, marked one by one.
use Rattle.std.specs.Prelude.{◌≡◌, ℕ, ◌+◌, ◌<◌, ◌≤◌, Bool, List, length, take, drop, Option, unwrap_or}
use Rattle.std.specs.List.{list_any}
use Rattle.ir_core.specs.declared.target.BinaryFormat.{BinaryFormat}
use Rattle.ir_core.specs.declared.target.BinaryFormat.TheVariants.{Macho}
use Rattle.cranelift_module.specs.declared.reloc.ModuleReloc.{ModuleReloc}
use Rattle.cranelift_module.specs.Refusal.{shares_byte}

-- one of these bytes is marked
abbrev pub is_marked : List Bool → ℕ → ℕ → Bool
is_marked marks offset width = list_any (λ mark. mark) (take width (drop offset marks))

-- a field has a marked byte exactly where it shares one with the field of a relocation
abbrev pub AreMarked : List Bool → List ModuleReloc → Type 0
AreMarked marks relocs = (offset width : ℕ) → 0 < width → offset + width ≤ length marks → is_marked marks offset width ≡ list_any (shares_byte offset width) relocs

-- in Mach-O each byte of the contents has a mark; other formats need none
abbrev pub AreTaken : BinaryFormat → Option ℕ → List Bool → List ModuleReloc → Type 0
AreTaken Macho size marks relocs = (length marks ≡ unwrap_or size 0) × AreMarked marks relocs
AreTaken _ size marks relocs = Unit {0}

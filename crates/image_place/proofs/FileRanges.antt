-- The fields of a definition's relocations, whatever the format.
use Rattle.std.proofs.Common.{◌≡◌, ℕ, suc, ◌+◌, ◌≤◌, List, [], ◌∷◌, length, map, refl, ap, arith, Some, slice_get}
use Rattle.ir_core.specs.declared.reloc.Reloc.{Reloc}
use Rattle.ir_core.specs.declared.reloc.Reloc.TheVariants.{Abs4, Abs8, X86PCRel4, X86CallPCRel4}
use Rattle.ir_core.specs.declared.target.BinaryFormat.{BinaryFormat}
use Rattle.ir_core.specs.declared.target.BinaryFormat.TheVariants.{Elf}
use Rattle.ir_core.specs.Kind.{field_width}
use Rattle.cranelift_module.specs.declared.reloc.ModuleReloc.{ModuleReloc}
use Rattle.cranelift_module.specs.LinkState.{LinkState}
use Rattle.cranelift_object.specs.Settings.{Settings}
use Rattle.image_view.specs.declared.kind.FixKind.{FixKind}
use Rattle.image_view.specs.declared.kind.FixKind.TheVariants.{Absolute8, Absolute4, Relative4}
use Rattle.image_place.specs.Fixups.{fix_width, Patch}
use Rattle.image_place.specs.Memory.{fix_kind, fixup_of}
use Rattle.image_place.specs.Shares.{Pairs}
use Rattle.image_place.specs.Shown.{AllFit, HasField, AgreesOutside}

-- a kind that is applied has a field of its own width
pub width-kept : (format : BinaryFormat) (kind : Reloc) (k : FixKind) → fix_kind format kind ≡ Some k → fix_width k ≡ field_width kind
width-kept format Abs8 k e = let same : Absolute8 ≡ k = cc in rw (← same) refl
width-kept format Abs4 k e = let same : Absolute4 ≡ k = cc in rw (← same) refl
width-kept format X86PCRel4 k e = let same : Relative4 ≡ k = cc in rw (← same) refl
width-kept Elf X86CallPCRel4 k e = let same : Relative4 ≡ k = cc in rw (← same) refl
width-kept format kind k e = absurd (cc)

-- the fields lie in so many bytes
abbrev pub LieIn : ℕ → List ModuleReloc → Type 0
LieIn size rs = (n : ℕ) (r : ModuleReloc) → slice_get rs n ≡ Some r → r.offset + field_width r.kind ≤ size

pub fields-fit : (settings : Settings) (s : LinkState) (size : ℕ) (rs : List ModuleReloc) (ws : List Patch) → LieIn size rs → Pairs HasField (map (fixup_of settings s) rs) ws → AllFit size ws
fields-fit settings s size [] [] inside h = tt
fields-fit settings s size [] (w ∷ ws) inside h = absurd h
fields-fit settings s size (r ∷ rs) [] inside h = absurd h
fields-fit settings s size (r ∷ rs) (w ∷ ws) inside h =
    let width = width-kept s.target.triple.binary_format r.kind h.0.kind h.0.is in
    (record { inside = omega (arith, h.0.offset, h.0.width, width, inside 0 r refl) }, fields-fit settings s size rs ws (λ n. inside (suc n)) h.1)

pub same-agrees : (ws : List Patch) (xs ys : List ℕ) → xs ≡ ys → AgreesOutside ws xs ys
same-agrees ws xs ys e = record { long = ap length e; same = λ j out. ap (λ zs. slice_get zs j) e }

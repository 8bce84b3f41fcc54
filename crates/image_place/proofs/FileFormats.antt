-- The law of placed files out of what the files of each format show.
use Rattle.std.proofs.Common.{◌≡◌, ℕ, ◌^◌, ◌<◌, List, length, refl, ◌∙◌, arith, Some, true, slice_get, subst, ◌⊎◌, inl, inr}
use Rattle.std.specs.List.{All}
use Rattle.byte_core.proofs.Lists.{get_exists, get_within}
use Rattle.ir_core.specs.declared.target.BinaryFormat.{BinaryFormat}
use Rattle.ir_core.specs.declared.target.BinaryFormat.TheVariants.{Elf, Coff, Macho, Wasm, Unknown}
use Rattle.ir_core.specs.declared.target.Architecture.TheVariants.{X86_64}
use Rattle.object_core.specs.WellFormed.{is_supported}
use Rattle.cranelift_module.specs.declared.identifiers.FuncOrDataId.{FuncOrDataId}
use Rattle.cranelift_object.specs.Part.{PartData}
use Rattle.image_place.specs.declared.rows.DefAddress.{DefAddress as AddressRow}
use Rattle.image_place.specs.Fixups.{Addresses}
use Rattle.image_place.specs.Laws.{HaveRows, HaveInnerLabels, AreElf, AreMacho, PlacedIsMemory}
use Rattle.image_place.specs.Memory.{part_pieces}
use Rattle.image_place.specs.ObjectFile.{definition_row, IsFileOf}
use Rattle.image_place.specs.Placed.{PlacedEntry, Placed, AreOfBytes, given, view_pieces}
use Rattle.image_view.specs.Viewed.{IsViewed}
use Rattle.image_place.specs.Related.{IsPart}
use Rattle.image_place.specs.Shown.{ObjectShows}
use Rattle.image_view.specs.View.{View}
use Rattle.image_place.proofs.Accepted.{part-started}
use Rattle.image_place.proofs.Applied.{AreApplied, views-applied}
use Rattle.image_place.proofs.MemoryLaw.{AreShown, placed-is-memory}
use Rattle.image_place.proofs.ElfFits.{held-fits}
use Rattle.image_place.proofs.ElfLaw.{state-elf, part-settled, file-holds, elf-shows}
use Rattle.image_place.proofs.FileTexts.{elf-texts}

-- the view of a file of a part, by its format, shows the part's definitions
abbrev pub FileShows : (PartData → Type 0) → Type 0
FileShows Format =
    (parts : List PartData) (at : Addresses FuncOrDataId) (addresses : List AddressRow) (q : ℕ) (part : PartData) (b : List ℕ) (v : View) → IsPart part → Format part → All (λ x. x < 256) b → length b < 2 ^ 64
    → HaveRows parts at addresses → HaveInnerLabels parts → slice_get parts q ≡ Some part → IsFileOf part b → IsViewed b v → AreApplied v
    → ObjectShows (definition_row part) (at q) (given addresses q) (part_pieces part) (view_pieces addresses q v)

pub elf-file-shows : FileShows AreElf
elf-file-shows parts at addresses q part b v h elf bytes short rows labels here file viewed applied =
    let fits = held-fits part b h elf (elf-texts part h.valid (part-settled part h) (state-elf part elf)) bytes short (file-holds part b elf file) in
    elf-shows parts at addresses q part b v h elf fits bytes rows labels here file viewed applied

-- -- formats

format_by : (format : BinaryFormat) → is_supported X86_64 format ≡ true → (format ≡ Elf) ⊎ (format ≡ Macho)
format_by Elf h = inl refl
format_by Macho h = inr refl
format_by Coff h = absurd (cc)
format_by Wasm h = absurd (cc)
format_by Unknown h = absurd (cc)

pub part-format : (part : PartData) → IsPart part → AreElf part ⊎ AreMacho part
part-format part h = format_by part.target.triple.binary_format (subst (λ a. is_supported a part.target.triple.binary_format ≡ true) h.architecture (part-started part h.valid))

shows_by : (parts : List PartData) (at : Addresses FuncOrDataId) (addresses : List AddressRow) (q : ℕ) (part : PartData) (b : List ℕ) (v : View) → FileShows AreMacho → IsPart part → (AreElf part ⊎ AreMacho part) → All (λ x. x < 256) b → length b < 2 ^ 64
    → HaveRows parts at addresses → HaveInnerLabels parts → slice_get parts q ≡ Some part → IsFileOf part b → IsViewed b v → AreApplied v
    → ObjectShows (definition_row part) (at q) (given addresses q) (part_pieces part) (view_pieces addresses q v)
shows_by parts at addresses q part b v mach h (inl elf) = elf-file-shows parts at addresses q part b v h elf
shows_by parts at addresses q part b v mach h (inr macho) = mach parts at addresses q part b v h macho

-- the law, where files of Mach-O parts show them
pub placed-by-formats : (files : List (List ℕ)) (addresses : List AddressRow) (externs : List (List ℕ × ℕ)) (out : List PlacedEntry) → FileShows AreMacho → AreOfBytes files (length files) → Placed files addresses externs out
    → PlacedIsMemory files addresses externs out
placed-by-formats files addresses externs out mach bytes given_out parts at q k part d of rows labels at_q at_k =
    let views = given_out.views in
    let count : length views ≡ length parts = given_out.viewed.count ∙ of.count in
    let shown : AreShown parts at addresses views =
    λ n x v e f.
    let b = get_exists files n (omega (arith, of.count, get_within parts n x e)) in
    let carried = bytes n b.0 (get_within files n b.0 b.1) b.1 in
    shows_by parts at addresses n x b.0 v mach (of.valid n x e) (part-format x (of.valid n x e)) carried.bytes carried.short rows labels e
    (of.each n x b.0 e b.1) (given_out.viewed.each n b.0 v b.1 f) (views-applied views addresses externs n v given_out.none f) in
    placed-is-memory files addresses externs out parts at views q k part d of count shown given_out.none given_out.entries at_q at_k

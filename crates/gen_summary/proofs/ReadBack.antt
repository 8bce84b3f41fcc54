-- The file of a generated part is an ELF file, and is read as one.
use Rattle.std.proofs.Common.{◌≡◌, ℕ, List, refl, length, map, ap, sym, ◌∙◌}
use Rattle.std.proofs.lemmas.List.{length-map}
use Rattle.image_read.specs.declared.elf.image.ElfSymbol.{ElfSymbol}
use Rattle.image_read.specs.Views.{symbol_of}
use Rattle.ir_core.specs.declared.target.BinaryFormat.{BinaryFormat}
use Rattle.ir_core.specs.declared.target.BinaryFormat.TheVariants.{Elf, Coff, Macho, Wasm, Unknown}
use Rattle.object_core.specs.Object.{ObjectData}
use Rattle.object_core.specs.Tables.{table_in}
use Rattle.image_read.specs.ElfImage.{ElfImageData, ElfReads, IsElf}
use Rattle.image_read.specs.MachImage.{MachImageData, MachReads}
use Rattle.image_read.specs.FatImage.{FatImageData, FatReads}
use Rattle.image_read.specs.Image.{HasNoImage}
use Rattle.image_read.proofs.Laws.{elf_is_no_mach, elf_is_no_fat, elf_has_image}
use Rattle.cranelift_module.specs.LinkState.{state_of}
use Rattle.cranelift_object.specs.Emitted.{FileHolds}
use Rattle.cranelift_object.specs.Linked.{object_of}
use Rattle.cranelift_object.specs.Part.{part_state}
use Rattle.part_gen.specs.Generated.{generated}
use Rattle.gen_summary.specs.Summary.{IsFileOf, IsSummaryOf, summary_line}

pub no_mach : (b : List ℕ) (image : MachImageData) → IsElf b → MachReads b image → ⊥
no_mach b image e m = elf_is_no_mach b e m.file

pub no_fat : (b : List ℕ) (image : FatImageData) → IsElf b → FatReads b image → ⊥
no_fat b image e f = elf_is_no_fat b e f.file

pub not_unread : (b : List ℕ) → IsElf b → HasNoImage b → ⊥
not_unread b e n = let has = elf_has_image b e in n.none has.image has.reads

holds_elf : (format : BinaryFormat) (o : ObjectData) (b : List ℕ) → format ≡ Elf → FileHolds b (table_in format o) → IsElf b
holds_elf Elf o b e h = h.file
holds_elf Coff o b e h = absurd (cc)
holds_elf Macho o b e h = absurd (cc)
holds_elf Wasm o b e h = absurd (cc)
holds_elf Unknown o b e h = absurd (cc)

generated_format : (seed n : ℕ) → (object_of (generated seed n).settings (part_state (generated seed n))).format ≡ Elf
unfolding object_of state_of generated
generated_format seed n = refl

pub file_is_elf : (seed n : ℕ) (b : List ℕ) → IsFileOf (generated seed n) b → IsElf b
file_is_elf seed n b h =
    let o : ObjectData = object_of (generated seed n).settings (part_state (generated seed n)) in
    holds_elf o.format o b (generated_format seed n) h

pub symbol_rows : (image : ElfImageData) (rows : List ElfSymbol) → map symbol_of rows ≡ image.symbols → length rows ≡ length image.symbols
symbol_rows image rows h = sym (length-map rows symbol_of) ∙ ap length h

pub told : (n : ℕ) (bytes : List ℕ) (image : ElfImageData) (text : List ℕ) → ElfReads bytes image → text ≡ summary_line n image (length bytes) → IsSummaryOf n bytes text
told n bytes image text r t = record { image = image; reads = r; text_is = t }

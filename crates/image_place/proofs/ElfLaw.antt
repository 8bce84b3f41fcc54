-- The file of an ELF part, placed: its view shows the part's definitions.
use Rattle.std.proofs.Common.{◌≡◌, ℕ, ◌<◌, List, refl, ap, sym, ◌∙◌, arith, Some, None, slice_get, subst}
use Rattle.std.specs.List.{All}
use Rattle.ir_core.specs.declared.target.BinaryFormat.TheVariants.{Elf}
use Rattle.ir_core.specs.Target.{Target}
use Rattle.image_read.specs.declared.image.Image.TheVariants as image
use Rattle.object_core.specs.ElfRows.{elf_machine, elf_table_of}
use Rattle.object_core.specs.Tables.{table_in}
use Rattle.object_elf.specs.ElfHolds.{ElfHolds}
use Rattle.object_elf.specs.Fitting.{FitsElf}
use Rattle.object_elf.specs.Limits.{IsWithinLimits, limit_cause}
use Rattle.object_elf.specs.PlainCounts.{plain_counts}
use Rattle.object_elf.specs.TableImage.{image_for}
use Rattle.object_elf.proofs.Fit.{machine_is}
use Rattle.object_elf.proofs.Judging.{within_limits}
use Rattle.object_elf.proofs.OfBytes.{held_image}
use Rattle.object_elf.proofs.Tables.{counts_are}
use Rattle.cranelift_module.specs.Call.{Call}
use Rattle.cranelift_module.specs.declared.identifiers.FuncOrDataId.{FuncOrDataId}
use Rattle.cranelift_module.specs.LinkState.{state_of}
use Rattle.cranelift_object.specs.Emitted.{FileHolds}
use Rattle.cranelift_object.specs.Linked.{object_of, row_of}
use Rattle.cranelift_object.specs.Part.{PartData, part_state, limit_in}
use Rattle.cranelift_object.specs.Targets.{identifier}
use Rattle.cranelift_object.proofs.StateSound.{sound_state}
use Rattle.image_place.specs.declared.rows.DefAddress.{DefAddress as AddressRow}
use Rattle.image_place.specs.Fixups.{Addresses}
use Rattle.image_place.specs.Laws.{HaveRows, HaveInnerLabels, AreElf}
use Rattle.image_place.specs.Memory.{part_pieces}
use Rattle.image_place.specs.ObjectFile.{part_object, definition_row, symbol_row_by, IsFileOf}
use Rattle.image_place.specs.Placed.{given, view_pieces}
use Rattle.image_view.specs.Viewed.{IsViewed}
use Rattle.image_place.specs.Related.{IsPart}
use Rattle.image_place.specs.Shown.{ObjectShows}
use Rattle.image_view.specs.View.{View, view_of}
use Rattle.image_place.proofs.SoundLaws.{definitions-once}
use Rattle.image_view.proofs.ViewedLaws.{is_viewed, one_view}
use Rattle.image_place.proofs.Accepted.{part-free, definition-accepted, function-local, data-local}
use Rattle.image_place.proofs.Applied.{AreApplied}
use Rattle.image_place.proofs.FileSymbols.{IsSettled}
use Rattle.image_place.proofs.ElfSymbols.{elf_shown}
use Rattle.image_place.proofs.ElfDefinitions.{elf_row, ElfPart}
use Rattle.image_place.proofs.ElfPieces.{elf-object-shows}

-- -- the part

pub state_target : (target : Target) (calls : List Call) → (state_of target calls).target ≡ target
unfolding state_of
state_target target calls = refl

pub object_format : (part : PartData) → (part_object part).format ≡ part.target.triple.binary_format
unfolding object_of
object_format part = ap (λ (t : Target). t.triple.binary_format) (state_target part.target part.calls)

pub object_architecture : (part : PartData) → (part_object part).architecture ≡ part.target.triple.architecture
unfolding object_of
object_architecture part = ap (λ (t : Target). t.triple.architecture) (state_target part.target part.calls)

pub state-elf : (part : PartData) → AreElf part → (part_state part).target.triple.binary_format ≡ Elf
state-elf part elf = ap (λ (t : Target). t.triple.binary_format) (state_target part.target part.calls) ∙ elf

pub part-settled : (part : PartData) → IsPart part → IsSettled (part_state part)
part-settled part h =
    let free = part-free part h.valid in
    record { sound = sound_state part.target part.calls free.calls; ended = free.ended; once = definitions-once part h.valid }

pub elf-limits : (part : PartData) → IsPart part → AreElf part → IsWithinLimits (plain_counts (part_object part))
elf-limits part h elf =
    let o = part_object part in
    let none : limit_in Elf o ≡ None = ap (λ f. limit_in f o) (sym (object_format part ∙ elf)) ∙ (part-free part h.valid).limit in
    within_limits (plain_counts o) (ap limit_cause (sym (counts_are o)) ∙ none)

row_elf : (part : PartData) (id : FuncOrDataId) → AreElf part → definition_row part id ≡ elf_row part.settings (part_state part) id
row_elf part id elf = ap (λ f. symbol_row_by f (part_object part) (row_of part.settings (part_state part) (identifier id))) elf

pub elf-part : (parts : List PartData) (at : Addresses FuncOrDataId) (addresses : List AddressRow) (q : ℕ) (part : PartData) → IsPart part → AreElf part → HaveRows parts at addresses → HaveInnerLabels parts → slice_get parts q ≡ Some part
    → ElfPart part.settings (part_state part) q (at q) addresses
elf-part parts at addresses q part h elf rows labels here =
    record {
      settled = part-settled part h;
      elf = state-elf part elf;
      machine = ap (λ (t : Target). t.triple.architecture) (state_target part.target part.calls) ∙ h.architecture;
      few = omega (arith, (elf-limits part h elf).sections);
      plain = λ k d e. (definition-accepted part h.valid k d e).plain;
      judged = λ k d e. (definition-accepted part h.valid k d e).judged;
      named = record { functions = function-local part; objects = data-local part };
      rows = λ k d e. let row = row_elf part d.identifier elf in rw row at (rows q k part d here e);
      labels = λ j k n d e r function offset. labels q j k n part d e r function offset here;
    }

-- -- its view

pub file-holds : (part : PartData) (b : List ℕ) → AreElf part → IsFileOf part b → ElfHolds b (elf_table_of (part_object part))
file-holds part b elf h = subst (λ f. FileHolds b (table_in f (part_object part))) (object_format part ∙ elf) h

machine_shown : (part : PartData) → IsPart part → (image_for (elf_table_of (part_object part))).machine ≡ 62
unfolding image_for
machine_shown part h = machine_is (part_object part) ∙ ap elf_machine (object_architecture part ∙ h.architecture)

view_shown : (part : PartData) → IsPart part → view_of (image.Elf (image_for (elf_table_of (part_object part)))) ≡ Some (elf_shown (part_object part))
view_shown part h = rw (machine_shown part h) refl

-- the view of a part's file is that of the image of its table
pub elf-viewed : (part : PartData) (b : List ℕ) (v : View) → IsPart part → AreElf part → FitsElf (elf_table_of (part_object part)) → All (λ x. x < 256) b → IsFileOf part b → IsViewed b v → v ≡ elf_shown (part_object part)
elf-viewed part b v h elf fits bytes file viewed =
    let held = held_image (elf_table_of (part_object part)) b fits bytes (file-holds part b elf file) in
    one_view b v (elf_shown (part_object part)) viewed (is_viewed b (image.Elf (image_for (elf_table_of (part_object part)))) (elf_shown (part_object part)) held.reads (view_shown part h))

-- -- what it shows

rows_elf : (part : PartData) (at : FuncOrDataId → ℕ) (to : ℕ → ℕ) (v : View) (addresses : List AddressRow) (q : ℕ) → AreElf part → ObjectShows (elf_row part.settings (part_state part)) at to (part_pieces part) (view_pieces addresses q v)
    → ObjectShows (definition_row part) at to (part_pieces part) (view_pieces addresses q v)
rows_elf part at to v addresses q elf shows =
    subst (λ f. ObjectShows (λ id. symbol_row_by f (part_object part) (row_of part.settings (part_state part) (identifier id))) at to (part_pieces part) (view_pieces addresses q v)) (sym elf) shows

pub elf-shows : (parts : List PartData) (at : Addresses FuncOrDataId) (addresses : List AddressRow) (q : ℕ) (part : PartData) (b : List ℕ) (v : View) → IsPart part → AreElf part → FitsElf (elf_table_of (part_object part)) → All (λ x. x < 256) b
    → HaveRows parts at addresses → HaveInnerLabels parts → slice_get parts q ≡ Some part → IsFileOf part b → IsViewed b v → AreApplied v
    → ObjectShows (definition_row part) (at q) (given addresses q) (part_pieces part) (view_pieces addresses q v)
elf-shows parts at addresses q part b v h elf fits bytes rows labels here file viewed applied =
    let is = elf-viewed part b v h elf fits bytes file viewed in
    let all : AreApplied (elf_shown (part_object part)) = subst AreApplied is applied in
    let shows = elf-object-shows part.settings (part_state part) q (at q) addresses (elf-part parts at addresses q part h elf rows labels here) all in
    rows_elf part (at q) (given addresses q) v addresses q elf (subst (λ w. ObjectShows (elf_row part.settings (part_state part)) (at q) (given addresses q) (part_pieces part) (view_pieces addresses q w)) (sym is) shows)

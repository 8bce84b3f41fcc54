-- The file of a Mach-O part, placed: its view shows the part's definitions.
use Rattle.std.proofs.Common.{◌≡◌, ℕ, ◌<◌, List, refl, ap, sym, ◌∙◌, Some, slice_get, subst}
use Rattle.std.specs.List.{All}
use Rattle.ir_core.specs.MachO.{mach_cputype}
use Rattle.ir_core.specs.Target.{Target}
use Rattle.image_read.specs.declared.image.Image.TheVariants as image
use Rattle.object_core.specs.MachRows.{macho_table_of}
use Rattle.object_core.specs.Tables.{table_in}
use Rattle.object_core.specs.WellFormed.{IsFormedMacho}
use Rattle.object_macho.specs.MachHolds.{MachHolds}
use Rattle.object_macho.specs.Fitting.{FitsMach}
use Rattle.object_macho.specs.TableImage.{image_for}
use Rattle.object_macho.proofs.OfBytes.{held_image}
use Rattle.cranelift_module.specs.declared.identifiers.FuncOrDataId.{FuncOrDataId}
use Rattle.cranelift_object.specs.Emitted.{FileHolds}
use Rattle.cranelift_object.specs.Linked.{row_of}
use Rattle.cranelift_object.specs.Part.{PartData, part_state}
use Rattle.cranelift_object.specs.Targets.{identifier}
use Rattle.image_place.specs.declared.rows.DefAddress.{DefAddress as AddressRow}
use Rattle.image_place.specs.Fixups.{Addresses}
use Rattle.image_place.specs.Laws.{HaveRows, HaveInnerLabels, AreMacho}
use Rattle.image_place.specs.Memory.{part_pieces}
use Rattle.image_place.specs.ObjectFile.{part_object, definition_row, symbol_row_by, IsFileOf}
use Rattle.image_place.specs.Placed.{given, view_pieces}
use Rattle.image_view.specs.Viewed.{IsViewed}
use Rattle.image_place.specs.Related.{IsPart}
use Rattle.image_place.specs.Shown.{ObjectShows}
use Rattle.image_view.specs.View.{View, view_of}
use Rattle.image_view.proofs.ViewedLaws.{is_viewed, one_view}
use Rattle.image_place.proofs.Accepted.{definition-accepted, function-local, data-local}
use Rattle.image_place.proofs.Applied.{AreApplied}
use Rattle.image_place.proofs.ElfLaw.{state_target, object_format, object_architecture, part-settled}
use Rattle.image_place.proofs.MachAccepted.{definition-body}
use Rattle.image_place.proofs.MachSymbols.{mach_shown}
use Rattle.image_place.proofs.MachDefinitions.{mach_row, MachPart}
use Rattle.image_place.proofs.MachPieces.{mach-object-shows}

-- -- the part

row_macho : (part : PartData) (id : FuncOrDataId) → AreMacho part → definition_row part id ≡ mach_row part.settings (part_state part) id
row_macho part id macho = ap (λ f. symbol_row_by f (part_object part) (row_of part.settings (part_state part) (identifier id))) macho

pub mach-part : (parts : List PartData) (at : Addresses FuncOrDataId) (addresses : List AddressRow) (q : ℕ) (part : PartData) → IsPart part → AreMacho part → IsFormedMacho (part_object part) → HaveRows parts at addresses → HaveInnerLabels parts → slice_get parts q ≡ Some part
    → MachPart part.settings (part_state part) q (at q) addresses
mach-part parts at addresses q part h macho formed rows labels here =
    record {
      settled = part-settled part h;
      macho = ap (λ (t : Target). t.triple.binary_format) (state_target part.target part.calls) ∙ macho;
      machine = ap (λ (t : Target). t.triple.architecture) (state_target part.target part.calls) ∙ h.architecture;
      formed = formed;
      plain = λ k d e. (definition-accepted part h.valid k d e).plain;
      judged = λ k d e. (definition-accepted part h.valid k d e).judged;
      texts = λ k d e. (definition-body part h macho k d e).body.section;
      named = record { functions = function-local part; objects = data-local part };
      rows = λ k d e. let row = row_macho part d.identifier macho in rw row at (rows q k part d here e);
      labels = λ j k n d e r function offset. labels q j k n part d e r function offset here;
    }

-- -- its view

pub mach-file-holds : (part : PartData) (b : List ℕ) → AreMacho part → IsFileOf part b → MachHolds b (macho_table_of (part_object part))
mach-file-holds part b macho h = subst (λ f. FileHolds b (table_in f (part_object part))) (object_format part ∙ macho) h

machine_shown : (part : PartData) → IsPart part → (image_for (macho_table_of (part_object part))).cputype ≡ 0x01000007
unfolding image_for macho_table_of
machine_shown part h = ap mach_cputype (object_architecture part ∙ h.architecture)

view_shown : (part : PartData) → IsPart part → view_of (image.Mach (image_for (macho_table_of (part_object part)))) ≡ Some (mach_shown (part_object part))
view_shown part h = rw (machine_shown part h) refl

-- the view of a part's file is that of the image of its table
pub mach-viewed : (part : PartData) (b : List ℕ) (v : View) → IsPart part → AreMacho part → FitsMach (macho_table_of (part_object part)) → All (λ x. x < 256) b → IsFileOf part b → IsViewed b v → v ≡ mach_shown (part_object part)
mach-viewed part b v h macho fits bytes file viewed =
    let held = held_image (macho_table_of (part_object part)) b fits bytes (mach-file-holds part b macho file) in
    one_view b v (mach_shown (part_object part)) viewed (is_viewed b (image.Mach (image_for (macho_table_of (part_object part)))) (mach_shown (part_object part)) held.reads (view_shown part h))

-- -- what it shows

rows_macho : (part : PartData) (at : FuncOrDataId → ℕ) (to : ℕ → ℕ) (v : View) (addresses : List AddressRow) (q : ℕ) → AreMacho part → ObjectShows (mach_row part.settings (part_state part)) at to (part_pieces part) (view_pieces addresses q v)
    → ObjectShows (definition_row part) at to (part_pieces part) (view_pieces addresses q v)
rows_macho part at to v addresses q macho shows =
    subst (λ f. ObjectShows (λ id. symbol_row_by f (part_object part) (row_of part.settings (part_state part) (identifier id))) at to (part_pieces part) (view_pieces addresses q v)) (sym macho) shows

pub mach-shows : (parts : List PartData) (at : Addresses FuncOrDataId) (addresses : List AddressRow) (q : ℕ) (part : PartData) (b : List ℕ) (v : View) → IsPart part → AreMacho part → IsFormedMacho (part_object part) → FitsMach (macho_table_of (part_object part)) → All (λ x. x < 256) b
    → HaveRows parts at addresses → HaveInnerLabels parts → slice_get parts q ≡ Some part → IsFileOf part b → IsViewed b v → AreApplied v
    → ObjectShows (definition_row part) (at q) (given addresses q) (part_pieces part) (view_pieces addresses q v)
mach-shows parts at addresses q part b v h macho formed fits bytes rows labels here file viewed applied =
    let is = mach-viewed part b v h macho fits bytes file viewed in
    let all : AreApplied (mach_shown (part_object part)) = subst AreApplied is applied in
    let shows = mach-object-shows part.settings (part_state part) q (at q) addresses (mach-part parts at addresses q part h macho formed rows labels here) all in
    rows_macho part (at q) (given addresses q) v addresses q macho (subst (λ w. ObjectShows (mach_row part.settings (part_state part)) (at q) (given addresses q) (part_pieces part) (view_pieces addresses q w)) (sym is) shows)

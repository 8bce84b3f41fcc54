-- Where the symbols come from that the relocations of a part add; a label that lies inside its function is small.
use Rattle.std.proofs.Common.{◌≡◌, ℕ, ◌^◌, ◌<◌, List, map, sym, arith, Some, slice_get, subst}
use Rattle.std.specs.Prelude.{filter}
use Rattle.std.specs.List.{position_or_len}
use Rattle.byte_core.proofs.Lists.{get_map_from, passing}
use Rattle.cranelift_module.specs.declared.identifiers.FuncOrDataId.TheVariants.{Func}
use Rattle.cranelift_module.specs.declared.reloc.ModuleReloc.{ModuleReloc}
use Rattle.cranelift_module.specs.Definitions.{Definition}
use Rattle.cranelift_module.specs.LinkState.{LinkState}
use Rattle.cranelift_module.specs.Refusal.{is_same_identifier}
use Rattle.cranelift_object.specs.Part.{PartData, part_state}
use Rattle.cranelift_object.specs.Settings.{Settings}
use Rattle.cranelift_object.specs.Targets.{RelocationTarget, label, target_of, targets, extras, is_same_target, is_extra}
use Rattle.cranelift_object.proofs.CreationLaws.{same_is}
use Rattle.cranelift_object.proofs.TargetLaws.{IsHad}
use Rattle.image_place.specs.Laws.{HaveInnerLabels, AreMacho}
use Rattle.image_place.specs.Related.{IsPart}
use Rattle.image_place.proofs.ElfLaw.{part-settled}
use Rattle.image_place.proofs.MachAccepted.{definition-sized}
use Rattle.image_place.proofs.MachSections.{flat-from}
use Rattle.image_place.proofs.FileSymbols.{position-there, target-symbol}
use Rattle.image_place.proofs.FileTexts.{once-from}

-- the relocation that goes to a target
pub record IsTargetOf (settings : Settings) (s : LinkState) (t : RelocationTarget) : Type 0 where
  pub place : ℕ
  pub definition : Definition
  pub at : slice_get s.definitions place ≡ Some definition
  pub number : ℕ
  pub relocation : ModuleReloc
  pub there : slice_get definition.relocs number ≡ Some relocation
  pub is : target_of settings s relocation.name ≡ t

pub extra-from : (settings : Settings) (s : LinkState) (k : ℕ) (t : RelocationTarget) → slice_get (extras settings s) k ≡ Some t → IsTargetOf settings s t
unfolding extras
extra-from settings s k t e =
    let once = once-from is_same_target (filter is_extra (targets settings s s.definitions)) k t e in
    let passes = passing is_extra (targets settings s s.definitions) once.number t once.here in
    let flat = flat-from (λ (d : Definition). map (λ (r : ModuleReloc). target_of settings s r.name) d.relocs) s.definitions passes.place t passes.at in
    let from = get_map_from (λ (r : ModuleReloc). target_of settings s r.name) flat.element.relocs flat.inner t flat.there in
    record { place = flat.outer; definition = flat.element; at = flat.here; number = flat.inner; relocation = from.0; there = from.1; is = from.2 }

pub label-small : (parts : List PartData) (q : ℕ) (part : PartData) (function offset : ℕ) → HaveInnerLabels parts → slice_get parts q ≡ Some part → IsPart part → AreMacho part → IsTargetOf part.settings (part_state part) (label function offset) → offset < 2 ^ 32
label-small parts q part function offset labels here h macho from =
    let s = part_state part in
    let had : IsHad s (label function offset) = subst (IsHad s) from.is (target-symbol part.settings s from.place from.number from.definition from.relocation (part-settled part h) from.at from.there).had in
    let found = position-there (λ (x : Definition). is_same_identifier (Func function) x.identifier) s.definitions had.1 in
    let same = sym (same_is (Func function) found.0.identifier found.2) in
    let k = position_or_len (λ (x : Definition). is_same_identifier (Func function) x.identifier) s.definitions in
    omega (arith, labels q from.place k from.number part from.definition found.0 from.relocation function offset here from.at found.1 from.there from.is same, definition-sized part h macho k found.0 found.1)

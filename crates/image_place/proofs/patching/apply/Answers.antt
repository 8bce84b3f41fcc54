use Rattle.std.proofs.Common.{◌≡◌, ◌+◌, ◌-◌, ℕ, Some, true, ap, sym, ◌∙◌, arith}
use Rattle.std.specs.Prelude.{Option}
use Rattle.std.proofs.Common.{FitsSigned, w64, rules}
use Rattle.std.proofs.lemmas.Int.{to_z-of_z}
use Rattle.byte_core.specs.Number.{little_bytes}
use Rattle.image_place.specs.Fixups.{FixKind, fix_width, value_bytes}
use Rattle.image_place.specs.Naming.{address_found}
use Rattle.image_place.specs.Placed.{given, holds_field}
use Rattle.image_place.specs.RangeRows.{definition_seen}
use Rattle.image_place.proofs.ApplyingLaws.{applies_value, patched}
use Rattle.image_place.proofs.patching.apply.Goals as goal

pub returns-in-Some-value_of-clause-applied : goal.returns-in-Some-value_of-clause-applied
returns-in-Some-value_of-clause-applied c =
    let at = given c.args.scene.addresses.now c.args.scene.image in
    let place : c.from-in-At-3.result + c.saturating_sub-offset.result ≡ c.args.definition.address + (c.args.start + c.args.r.offset - c.args.definition.symbol.address) = omega arith in
    let fits : FitsSigned w64 c.args.r.addend = search rules in
    let held : holds_field c.args.start c.args.r c.args.r.kind (definition_seen c.args.definition) ≡ true = ap (λ (o : Option FixKind). holds_field c.args.start c.args.r o (definition_seen c.args.definition)) c.in-Some.is ∙ sym c.if-not-holds_range.ensures in
    let value : value_bytes c.in-Some.kind c.in-At.address c.args.r.addend (c.args.definition.address + (c.args.start + c.args.r.offset - c.args.definition.symbol.address)) ≡ Some (little_bytes (fix_width c.in-Some.kind) c.in-Some-value_of.number) =
    ap (λ (p : ℕ). value_bytes c.in-Some.kind c.in-At.address c.args.r.addend p) (sym place) ∙ sym (simp to_z-of_z at c.in-Some-value_of.ensures) in
    applies_value (address_found c.args.scene.exports.now c.args.scene.outsides.now) at c.args.scene.view.now c.args.scene.definitions.now (definition_seen c.args.definition) c.args.start c.args.r c.in-Some.kind c.in-At.address c.args.bytes.now c.put_number.new.out _ c.in-Some.is held (sym c.in-At.ensures.led) value
    (patched c.args.bytes.now c.put_number.new.out _ _ _ _ _ c.put_number.ensures.bytes (omega arith) c.width_of.ensures.width)

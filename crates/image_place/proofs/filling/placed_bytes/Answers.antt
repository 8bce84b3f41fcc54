use Rattle.std.proofs.Common.{◌-◌, List, ℕ, length, ap, sym, ◌∙◌, arith}
use Rattle.std.proofs.lemmas.List.{drop_all}
use Rattle.byte_core.specs.Number.{bytes_at}
use Rattle.image_place.specs.Fixups.{fixed}
use Rattle.image_view.specs.declared.view.ViewReloc.{ViewReloc}
use Rattle.image_place.specs.Applying.{held_by}
use Rattle.image_place.specs.Naming.{address_found}
use Rattle.image_place.specs.Placed.{given}
use Rattle.image_place.specs.RangeRows.{definition_seen}
use Rattle.image_place.proofs.ApplyingLaws.{fixed_end, held_again}
use Rattle.image_place.proofs.WholeLaws.{range_long}
use Rattle.image_place.proofs.filling.placed_bytes.Goals as goal

pub loop-relocation-init : goal.loop-relocation-init
loop-relocation-init c =
    let F = address_found c.args.scene.exports.now c.args.scene.outsides.now in
    let at = given c.args.scene.addresses.now c.args.scene.image in
    let ds = c.args.scene.definitions.now in
    let d = definition_seen c.args.definition in
    let v = c.args.scene.view.now in
    let s = c.args.section.now in
    record {
      rest =
          ap (fixed (bytes_at s.bytes (d.symbol.address - s.start) d.size) d.address) (sym (held_again F at v ds d s.start s.relocations c.args.fields.now c.requires.fields))
          ∙ ap (λ (xs : List ℕ). fixed xs d.address (held_by F at v ds d s.start c.args.fields.now)) (sym c.in_ok-bytes.ensures);
      long = omega (arith, ap length c.in_ok-bytes.ensures, range_long s d c.requires.range);
    }

pub returns : goal.returns
returns c =
    let F = address_found c.args.scene.exports.now c.args.scene.outsides.now in
    let at = given c.args.scene.addresses.now c.args.scene.image in
    let ds = c.args.scene.definitions.now in
    let p = c.args.definition.address in
    sym
    (c.loop-relocation.invariant.rest
    ∙ ap (λ (rs : List ViewReloc). fixed c.loop-relocation.bytes.items p (held_by F at c.args.scene.view.now ds (definition_seen c.args.definition) c.args.section.now.start rs)) (drop_all c.loop-relocation.relocation-index c.args.fields.now (omega (arith, c.loop-relocation-test.false)))
    ∙ fixed_end c.loop-relocation.bytes.items p)

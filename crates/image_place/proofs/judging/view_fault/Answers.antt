use Rattle.std.proofs.Common.{◌≡◌, ◌<◌, List, Some, None, length, get_or, ap, sym, ◌∙◌, arith}
use Rattle.image_view.specs.View.{ViewSection}
use Rattle.image_place.specs.Leading.{section_faults}
use Rattle.image_place.specs.Naming.{address_found}
use Rattle.image_place.specs.Placed.{first_fault, given}
use Rattle.image_place.proofs.FaultLaws.{fault_here, fault_later}
use Rattle.image_place.proofs.judging.view_fault.Goals as goal

pub returns-in-Some : goal.returns-in-Some
returns-in-Some c =
    let F = address_found c.args.scene.exports.now c.args.scene.outsides.now in
    let at = given c.args.scene.addresses.now c.args.scene.image in
    let ds = c.args.scene.definitions.now in
    let f = section_faults F at c.args.scene.image c.args.scene.view.now ds in
    let section = c.section-item.result in
    let is : section ≡ get_or c.args.scene.view.now.sections c.loop-k.k section = c.section-item.is ∙ ap (λ (xs : List ViewSection). get_or xs c.loop-k.k section) c.sections-section-items.ensures in
    let below : c.loop-k.k < length c.args.scene.view.now.sections = omega (arith, c.loop-k-test.true, ap length c.sections-section-items.ensures) in
    let here : first_fault (f (c.loop-k.k, section)) ≡ Some c.in-Some.fault = sym c.section_fault.ensures ∙ c.in-Some.is in
    sym (c.loop-k.invariant ∙ fault_here f c.args.scene.view.now.sections c.loop-k.k section c.in-Some.fault below is here)

pub loop-k-preserved : goal.loop-k-preserved
loop-k-preserved c =
    let F = address_found c.args.scene.exports.now c.args.scene.outsides.now in
    let at = given c.args.scene.addresses.now c.args.scene.image in
    let ds = c.args.scene.definitions.now in
    let f = section_faults F at c.args.scene.image c.args.scene.view.now ds in
    let section = c.section-item.result in
    let is : section ≡ get_or c.args.scene.view.now.sections c.loop-k.k section = c.section-item.is ∙ ap (λ (xs : List ViewSection). get_or xs c.loop-k.k section) c.sections-section-items.ensures in
    let below : c.loop-k.k < length c.args.scene.view.now.sections = omega (arith, c.loop-k-test.true, ap length c.sections-section-items.ensures) in
    let none : first_fault (f (c.loop-k.k, section)) ≡ None = sym c.section_fault.ensures ∙ c.in_default.is in
    c.loop-k.invariant ∙ fault_later f c.args.scene.view.now.sections c.loop-k.k section below is none

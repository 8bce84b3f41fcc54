use Rattle.std.proofs.Common.{◌≡◌, List, Some, map, ap, sym, ◌∙◌, subst}
use Rattle.std.specs.Prelude.{Option}
use Rattle.image_place.specs.Placed.{AddressRow, PlaceFault, first_fault, place_fault, placed_entries}
use Rattle.image_place.specs.Leading.{faults_by}
use Rattle.image_place.specs.Applying.{entries_by}
use Rattle.image_place.specs.Faults.{TellsFault}
use Rattle.image_place.specs.Naming.{address_found}
use Rattle.image_place.specs.Views.{extern_view}
use Rattle.image_place.proofs.BindingLaws.{binds, definitions_first, relocations_first, ranges_there, entries_same}
use Rattle.image_place.proofs.FaultLaws.{told}
use Rattle.image_place.proofs.placing.place_views.Goals as goal

pub returns-in-Some-clause-cause : goal.returns-in-Some-clause-cause
returns-in-Some-clause-cause c =
    let externs = map extern_view c.args.externs.now in
    let views = c.args.views.now in
    let rows = c.in_ok-addresses.addresses in
    let fault : place_fault views c.args.addresses.now externs ≡ Some c.in-Some.fault =
    ap (λ (a : List AddressRow). place_fault views a externs) (sym c.in_ok-addresses.ensures) ∙ definitions_first views rows externs c.in-Some.fault (sym c.in_ok-fault.ensures.ok ∙ c.in-Some.is) in
    subst (λ (o : Option PlaceFault). TellsFault o c.error_of.result) (sym fault) (told c.in-Some.fault c.error_of.result c.error_of.ensures)

pub place_images-requires : goal.place_images-requires
place_images-requires c = record { ranges = ranges_there c.args.views.now c.in_ok-addresses.addresses c.requires.whole (sym c.in_ok-fault.ensures.ok ∙ c.in_default.is) }

pub returns-clause-none : goal.returns-clause-none
returns-clause-none c =
    let externs = map extern_view c.args.externs.now in
    let views = c.args.views.now in
    let rows = c.in_ok-addresses.addresses in
    let F = address_found c.in_ok-exports.exports c.in_ok-outsides.outsides in
    let bound = binds c.in_ok-exports.exports c.in_ok-outsides.outsides views rows externs c.in_ok-exports.ensures.ok c.in_ok-outsides.ensures in
    let fault : place_fault views c.args.addresses.now externs ≡ first_fault (faults_by F rows views) =
    ap (λ (a : List AddressRow). place_fault views a externs) (sym c.in_ok-addresses.ensures) ∙ relocations_first views rows externs F bound (sym c.in_ok-fault.ensures.ok ∙ c.in_default.is) in
    rw fault c.place_images.ensures.none

pub returns-clause-placed : goal.returns-clause-placed
returns-clause-placed c =
    let externs = map extern_view c.args.externs.now in
    let views = c.args.views.now in
    let rows = c.in_ok-addresses.addresses in
    let F = address_found c.in_ok-exports.exports c.in_ok-outsides.outsides in
    let bound = binds c.in_ok-exports.exports c.in_ok-outsides.outsides views rows externs c.in_ok-exports.ensures.ok c.in_ok-outsides.ensures in
    let entries : placed_entries views c.args.addresses.now externs ≡ entries_by F rows views =
    ap (λ (a : List AddressRow). placed_entries views a externs) (sym c.in_ok-addresses.ensures) ∙ sym (entries_same views rows externs F bound) in
    rw entries c.place_images.ensures.placed

pub returns-clause-cause : goal.returns-clause-cause
returns-clause-cause c =
    let externs = map extern_view c.args.externs.now in
    let views = c.args.views.now in
    let rows = c.in_ok-addresses.addresses in
    let F = address_found c.in_ok-exports.exports c.in_ok-outsides.outsides in
    let bound = binds c.in_ok-exports.exports c.in_ok-outsides.outsides views rows externs c.in_ok-exports.ensures.ok c.in_ok-outsides.ensures in
    let fault : place_fault views c.args.addresses.now externs ≡ first_fault (faults_by F rows views) =
    ap (λ (a : List AddressRow). place_fault views a externs) (sym c.in_ok-addresses.ensures) ∙ relocations_first views rows externs F bound (sym c.in_ok-fault.ensures.ok ∙ c.in_default.is) in
    rw fault c.place_images.ensures.cause

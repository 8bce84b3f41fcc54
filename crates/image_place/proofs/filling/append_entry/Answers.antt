use Rattle.std.proofs.Common.{◌≡◌, ◌++◌, List, ℕ, Some, None, Vec, Global, map, length, get_or, refl, ap, sym, ◌∙◌, append-nil, slice_get}
use Rattle.std.specs.Prelude.{Option, option_map}
use Rattle.std.proofs.lemmas.Option.{slice_get_read, slice_get_within}
use Rattle.image_view.specs.View.{ViewSection}
use Rattle.image_place.specs.Applying.{bytes_by}
use Rattle.image_place.specs.Naming.{address_found}
use Rattle.image_place.specs.Placed.{given, PlacedEntry}
use Rattle.image_place.specs.RangeRows.{definition_seen, one_or_none}
use Rattle.image_place.specs.Views.{placed_view}
use Rattle.image_place.proofs.DefinitionLaws.{map_append}
use Rattle.image_place.proofs.PlacingLaws.{entry_valueless, entry_there}
use Rattle.image_place.proofs.filling.append_entry.Goals as goal

pub returns-in_default : goal.returns-in_default
returns-in_default c =
    let F = address_found c.args.scene.exports.now c.args.scene.outsides.now in
    let at = given c.args.scene.addresses.now c.args.scene.image in
    let ds = c.args.scene.definitions.now in
    let d = definition_seen c.args.definition in
    let v = c.args.scene.view.now in
    let s = c.index-sections-definition.result in
    let there : slice_get v.sections d.section ≡ Some s =
    slice_get_read v.sections (length v.sections) d.section s refl (slice_get_within v.sections d.section c.requires.home.section c.requires.home.here) (c.index-sections-definition.is ∙ ap (λ (xs : List ViewSection). get_or xs d.section s) c.sections.ensures) in
    let none : bytes_by F at v ds d s ≡ None = sym c.in_ok-bytes.ensures ∙ ap (option_map (λ (bytes : Vec ℕ Global). bytes.items)) c.in_default.is in
    sym (ap (λ (o : Option PlacedEntry). map placed_view c.args.out.now.items ++ one_or_none o) (entry_valueless F at c.args.scene.image v ds d s there none) ∙ append-nil (map placed_view c.args.out.now.items))

pub returns : goal.returns
returns c =
    let F = address_found c.args.scene.exports.now c.args.scene.outsides.now in
    let at = given c.args.scene.addresses.now c.args.scene.image in
    let ds = c.args.scene.definitions.now in
    let d = definition_seen c.args.definition in
    let v = c.args.scene.view.now in
    let s = c.index-sections-definition.result in
    let there : slice_get v.sections d.section ≡ Some s =
    slice_get_read v.sections (length v.sections) d.section s refl (slice_get_within v.sections d.section c.requires.home.section c.requires.home.here) (c.index-sections-definition.is ∙ ap (λ (xs : List ViewSection). get_or xs d.section s) c.sections.ensures) in
    let some : bytes_by F at v ds d s ≡ Some c.in-Some.bytes.items = sym c.in_ok-bytes.ensures ∙ ap (option_map (λ (bytes : Vec ℕ Global). bytes.items)) c.in-Some.is in
    ap (map placed_view) c.in_ok-push.ensures.items ∙ map_append placed_view c.args.out.now.items _
    ∙ sym (ap (λ (o : Option PlacedEntry). map placed_view c.args.out.now.items ++ one_or_none o) (entry_there F at c.args.scene.image v ds d s c.in-Some.bytes.items there some))

pub placed_bytes-requires-clause-fields : goal.placed_bytes-requires-clause-fields
placed_bytes-requires-clause-fields c =
    let d = definition_seen c.args.definition in
    let v = c.args.scene.view.now in
    let s = c.index-sections-definition.result in
    let there : slice_get v.sections d.section ≡ Some s =
    slice_get_read v.sections (length v.sections) d.section s refl (slice_get_within v.sections d.section c.requires.home.section c.requires.home.here) (c.index-sections-definition.is ∙ ap (λ (xs : List ViewSection). get_or xs d.section s) c.sections.ensures) in
    c.requires.fields.all s there

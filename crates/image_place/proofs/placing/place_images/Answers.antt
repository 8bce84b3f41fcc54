use Rattle.std.proofs.Common.{◌≡◌, ◌+◌, ◌++◌, List, None, map, take, drop, ap, sym, ◌∙◌, subst}
use Rattle.std.specs.Prelude.{Option, flat_map}
use Rattle.std.specs.Option.{option_or}
use Rattle.std.specs.List.{filter_map, enumerate_from}
use Rattle.std.proofs.lemmas.Result.{err_from_is_err_and}
use Rattle.byte_core.proofs.Lists.{item_get}
use Rattle.image_view.specs.View.{View}
use Rattle.image_place.specs.Placed.{Definition, PlacedEntry, definitions_in, PlaceFault, first_fault, given}
use Rattle.image_place.specs.Leading.{faults_by, numbered_faults, view_faults}
use Rattle.image_place.specs.Applying.{HaveRanges, entry_by, numbered_entries}
use Rattle.image_place.specs.Faults.{TellsFault}
use Rattle.image_place.specs.Naming.{address_found}
use Rattle.image_place.specs.Views.{placed_view}
use Rattle.image_place.proofs.FaultLaws.{fault_later, rest_next, told_first}
use Rattle.image_place.proofs.PlacingLaws.{flat_next}
use Rattle.image_place.proofs.placing.place_images.Goals as goal

pub loop-image-preserved : goal.loop-image-preserved
loop-image-preserved c =
    let F = address_found c.args.exports.now c.args.outsides.now in
    let addresses = c.args.addresses.now in
    let views = c.args.views.now in
    let i = c.loop-image.image in
    let v = c.index-views-image.result in
    let here : c.in_ok-definitions.definitions ≡ definitions_in addresses i v = c.in_ok-definitions.ensures.ok ∙ c.in_ok-rows.ensures.ok in
    let none : first_fault (numbered_faults F addresses (i, v)) ≡ None = ap (λ (ds : List Definition). first_fault (view_faults F (given addresses i) i v ds)) (sym here) ∙ c.in_ok-place_image.ensures.none in
    record {
      placed =
          c.in_ok-place_image.ensures.placed
          ∙ ap (λ (ds : List Definition). map placed_view c.loop-image.out.items ++ filter_map (entry_by F (given addresses i) i v ds) ds) here
          ∙ ap (λ (es : List PlacedEntry). es ++ numbered_entries F addresses (i, v)) c.loop-image.invariant.placed
          ∙ ap (λ (w : View). flat_map (numbered_entries F addresses) (enumerate_from 0 (take i views)) ++ numbered_entries F addresses (i, w)) c.index-views-image.is
          ∙ sym (flat_next (numbered_entries F addresses) views i v c.loop-image-test.true);
      rest = c.loop-image.invariant.rest ∙ fault_later (numbered_faults F addresses) views i v c.loop-image-test.true c.index-views-image.is none;
    }

pub returns-in_err-place_image-clause-cause : goal.returns-in_err-place_image-clause-cause
returns-in_err-place_image-clause-cause c =
    let F = address_found c.args.exports.now c.args.outsides.now in
    let addresses = c.args.addresses.now in
    let views = c.args.views.now in
    let i = c.loop-image.image in
    let v = c.index-views-image.result in
    let p = err_from_is_err_and c.from_residual-in_err-place_image.result c.from_residual-in_err-place_image.ensures.1 in
    let here : c.in_ok-definitions.definitions ≡ definitions_in addresses i v = c.in_ok-definitions.ensures.ok ∙ c.in_ok-rows.ensures.ok in
    let one : first_fault (view_faults F (given addresses i) i v c.in_ok-definitions.definitions) ≡ first_fault (numbered_faults F addresses (i, v)) = ap (λ (ds : List Definition). first_fault (view_faults F (given addresses i) i v ds)) here in
    let told = told_first _ (first_fault (flat_map (numbered_faults F addresses) (enumerate_from (i + 1) (drop (i + 1) views)))) c.in_err-place_image.field-0.0 c.in_err-place_image.ensures.cause in
    let all : option_or (first_fault (view_faults F (given addresses i) i v c.in_ok-definitions.definitions)) (first_fault (flat_map (numbered_faults F addresses) (enumerate_from (i + 1) (drop (i + 1) views)))) ≡ first_fault (faults_by F addresses views) =
    ap (λ (o : Option PlaceFault). option_or o (first_fault (flat_map (numbered_faults F addresses) (enumerate_from (i + 1) (drop (i + 1) views))))) (one ∙ ap (λ (w : View). first_fault (numbered_faults F addresses (i, w))) c.index-views-image.is)
    ∙ sym (c.loop-image.invariant.rest ∙ rest_next (numbered_faults F addresses) views i v c.loop-image-test.true) in
    rw (p.1, p.2) (subst (λ (o : Option PlaceFault). TellsFault o c.in_err-place_image.field-0.0) all told)

pub place_image-requires : goal.place_image-requires
place_image-requires c =
    let v = c.index-views-image.result in
    let here : c.in_ok-definitions.definitions ≡ definitions_in c.args.addresses.now c.loop-image.image v = c.in_ok-definitions.ensures.ok ∙ c.in_ok-rows.ensures.ok in
    record { ranges = subst (HaveRanges v) (sym here) (c.requires.ranges c.loop-image.image v (item_get c.args.views.now c.loop-image.image v c.loop-image-test.true c.index-views-image.is)) }

use Rattle.std.proofs.Common.{◌≡◌, map, Vec, Global, ℕ, List, ap, sym, ◌∙◌, arith, Some, true, false}
use Rattle.image_view.specs.View.{View}
use Rattle.image_place.specs.Placed.{fits_format}
use Rattle.image_place.proofs.ViewedLaws.{bytes_more, item_at, unread_at, unfit_at, viewed_at}
use Rattle.image_place.proofs.objects.object_views.Goals as goal

pub returns-in-Err-NoReading-clause-cause : goal.returns-in-Err-NoReading-clause-cause
returns-in-Err-NoReading-clause-cause c =
    let here = item_at (λ (b : Vec ℕ Global). b.items) c.args.files.now c.loop-image.image c.index-files-image.result (omega arith) c.index-files-image.is in
    let cause = rw c.in-Err-NoReading.field-0-is at c.in-Err-NoReading.ensures.cause in
    unread_at (map (λ (b : Vec ℕ Global). b.items) c.args.files.now) c.loop-image.image c.deref.result.now c.loop-image.views.items (here ∙ ap Some (sym c.deref.ensures.value)) c.loop-image.invariant.viewed cause

pub returns-then-not-fits_format-clause-cause : goal.returns-then-not-fits_format-clause-cause
returns-then-not-fits_format-clause-cause c =
    let here = item_at (λ (b : Vec ℕ Global). b.items) c.args.files.now c.loop-image.image c.index-files-image.result (omega arith) c.index-files-image.is in
    let off : fits_format c.loop-image.views.items c.in-Ok.view ≡ false = ap (λ (ws : List View). fits_format ws c.in-Ok.view) (sym c.deref-in-loop-image.ensures.value) ∙ sym c.if-not-fits_format.ensures in
    unfit_at (map (λ (b : Vec ℕ Global). b.items) c.args.files.now) c.loop-image.image c.deref.result.now c.loop-image.views.items c.in-Ok.view (here ∙ ap Some (sym c.deref.ensures.value)) c.loop-image.invariant.viewed c.in-Ok.ensures.ok off

pub loop-image-preserved : goal.loop-image-preserved
loop-image-preserved c =
    let here = item_at (λ (b : Vec ℕ Global). b.items) c.args.files.now c.loop-image.image c.index-files-image.result (omega arith) c.index-files-image.is in
    let fits : fits_format c.loop-image.views.items c.in-Ok.view ≡ true = ap (λ (ws : List View). fits_format ws c.in-Ok.view) (sym c.deref-in-loop-image.ensures.value) ∙ sym c.if-not-fits_format.ensures in
    let is = here ∙ ap Some (sym c.deref.ensures.value) in
    let files = map (λ (b : Vec ℕ Global). b.items) c.args.files.now in
    record {
      viewed = rw c.in_ok-push.ensures.items (viewed_at files c.loop-image.image c.deref.result.now c.loop-image.views.items c.in-Ok.view is c.loop-image.invariant.viewed c.in-Ok.ensures.ok fits);
      bytes = bytes_more files c.loop-image.image c.deref.result.now c.loop-image.invariant.bytes is (record { bytes = c.object_view.ensures.bytes; short = c.object_view.ensures.short });
    }

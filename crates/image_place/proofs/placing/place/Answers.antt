use Rattle.std.proofs.Common.{ℕ, arith, List, Vec, Global, map, sym, subst}
use Rattle.std.proofs.lemmas.List.{length-map}
use Rattle.image_view.specs.View.{View}
use Rattle.image_place.specs.Applying.{AreWhole}
use Rattle.image_place.proofs.WholeLaws.{all_whole}
use Rattle.image_place.specs.Placed.{AreViewed}
use Rattle.image_place.specs.Views.{extern_view}
use Rattle.image_place.proofs.MemoryOfFiles.{memory-where-placed}
use Rattle.image_place.proofs.placing.place.Goals as goal

pub place_views-requires : goal.place_views-requires
place_views-requires c =
    record { whole = subst (λ (views : List View). AreWhole views) (sym c.deref.ensures.value) (all_whole (map (λ (b : Vec ℕ Global). b.items) c.args.images.now) c.in_ok-views.views.items c.in_ok-views.ensures.ok) }

pub returns-clause-memory : goal.returns-clause-memory
returns-clause-memory c =
    let files = map (λ (b : Vec ℕ Global). b.items) c.args.images.now in
    memory-where-placed files c.args.addresses.now (map extern_view c.args.externs.now) c.deref.result.now c.place_views.result
    (λ q b less at_q. c.in_ok-views.ensures.bytes q b (omega (arith, less, length-map c.args.images.now (λ (b : Vec ℕ Global). b.items))) at_q) (subst (λ (views : List View). AreViewed files views) (sym c.deref.ensures.value) c.in_ok-views.ensures.ok) c.place_views.ensures.none c.place_views.ensures.placed

-- A writer keeps to its rules when slices are put to it.
use Rattle.std.proofs.Common.{◌≡◌, List, [], ◌∷◌, ◌++◌, map, find, None, refl, ap, sym, ◌∙◌, arith, subst}
use Rattle.std.specs.List.{AllByRecursion}
use Rattle.std.proofs.lemmas.List.{length-map, map-append}
use Rattle.std.proofs.Math.ListN.{length-append}
use Rattle.byte_core.specs.Streams.{SourceData, HasLength}
use Rattle.fat_macho.specs.Held.{shape_held, held_before, shapes_held}
use Rattle.fat_macho.specs.HeldViews.{raw_shape, held_view, held_list, IsPlaced, AreOthers, IsWriter}
use Rattle.fat_macho.specs.Input.{joining_cause, is_among}
use Rattle.fat_macho.specs.Parts.{Pairwise}
use Rattle.fat_macho.specs.Slices.{by_shape, all_inserted, in_order_by, shapes_in_order}
use Rattle.fat_macho.specs.declared.held.HeldSlice.{HeldSlice}
use Rattle.fat_macho.proofs.InputLaws.{share_turn}
use Rattle.fat_macho.proofs.JoiningLaws.{AreAllowed, allowed, none_among}
use Rattle.fat_macho.proofs.OrderLaws.{AllDiffer, put_in, seen_in_order}
use Rattle.fat_macho.proofs.RankLaws.{each_in_order, each_append, pairs_in_order, pairs_append, length-in_order, in_order_stays, differ_seen}

pub no_writer : (sources : List SourceData) → AllByRecursion HasLength sources → IsWriter sources []
no_writer sources lengths = record { order = refl; once = tt; few = omega arith; short = omega arith; places = tt; lengths = lengths }

-- what is put in order into a writer's slices is all in order
put_raw : (sources : List SourceData) (slices new : List HeldSlice) → IsWriter sources slices → AllDiffer raw_shape slices new → all_inserted (by_shape raw_shape) new slices ≡ in_order_by (by_shape raw_shape) (slices ++ new)
put_raw sources slices new w differ = put_in raw_shape slices new w.order differ

differ_raw : (slices new : List HeldSlice) → find (is_among (map raw_shape slices)) (map raw_shape new) ≡ None → AllDiffer raw_shape slices new
differ_raw slices new none = differ_seen raw_shape slices new (none_among (map raw_shape slices) (map raw_shape new) none)

shapes_of_order : (slices new : List HeldSlice) → map raw_shape (in_order_by (by_shape raw_shape) (slices ++ new)) ≡ shapes_in_order (map raw_shape slices ++ map raw_shape new)
unfolding shapes_in_order
shapes_of_order slices new = seen_in_order raw_shape (λ a. a) (slices ++ new) ∙ ap (in_order_by (by_shape (λ a. a))) (map-append raw_shape slices new)

writer_of : (sources : List SourceData) (slices new : List HeldSlice) → IsWriter sources slices → AllByRecursion (λ h. IsPlaced sources h.bytes) new → Pairwise AreOthers new
    → AreAllowed (map raw_shape slices) (map raw_shape new) → IsWriter sources (in_order_by (by_shape raw_shape) (slices ++ new))
writer_of sources slices new w places once a =
    let differ = differ_raw slices new a.none in
    let both = pairs_append raw_shape slices new w.once once differ in
    record {
      order = in_order_stays raw_shape (slices ++ new) both;
      once = pairs_in_order AreOthers (by_shape raw_shape) (slices ++ new) (λ g h d. share_turn (raw_shape h) (raw_shape g) ∙ d) both;
      few = omega (arith, length-in_order (by_shape raw_shape) (slices ++ new), length-append slices new, length-map slices raw_shape, length-map new raw_shape, a.few);
      short = rw (shapes_of_order slices new) a.short;
      places = each_in_order (λ h. IsPlaced sources h.bytes) (by_shape raw_shape) (slices ++ new) (each_append (λ h. IsPlaced sources h.bytes) slices new w.places places);
      lengths = w.lengths;
    }

pub joined_writer : (sources : List SourceData) (slices new both : List HeldSlice) → IsWriter sources slices → AllByRecursion (λ h. IsPlaced sources h.bytes) new → Pairwise AreOthers new
    → joining_cause (map raw_shape slices) (map raw_shape new) ≡ None → both ≡ all_inserted (by_shape raw_shape) new slices → IsWriter sources both
joined_writer sources slices new both w places once none is =
    let a = allowed (map raw_shape slices) (map raw_shape new) none in
    subst (IsWriter sources) (sym (is ∙ put_raw sources slices new w (differ_raw slices new a.none))) (writer_of sources slices new w places once a)

pub joined_view : (sources : List SourceData) (slices new both : List HeldSlice) → IsWriter sources slices
    → joining_cause (map raw_shape slices) (map raw_shape new) ≡ None → both ≡ all_inserted (by_shape raw_shape) new slices
    → held_list sources both ≡ in_order_by held_before (held_list sources slices ++ held_list sources new)
joined_view sources slices new both w none is =
    let a = allowed (map raw_shape slices) (map raw_shape new) none in
    ap (held_list sources) (is ∙ put_raw sources slices new w (differ_raw slices new a.none))
    ∙ seen_in_order (held_view sources) shape_held (slices ++ new)
    ∙ ap (in_order_by held_before) (map-append (held_view sources) slices new)

pub shapes_of_view : (sources : List SourceData) (slices : List HeldSlice) → shapes_held (held_list sources slices) ≡ map raw_shape slices
shapes_of_view sources [] = refl
shapes_of_view sources (h ∷ slices) = ap (λ xs. raw_shape h ∷ xs) (shapes_of_view sources slices)

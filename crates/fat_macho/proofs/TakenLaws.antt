-- What a sink has taken of a writer's file.
use Rattle.std.proofs.Common.{◌≡◌, ℕ, ◌^◌, ◌<◌, Bool, true, false, List, [], ◌∷◌, length, map, Option, Some, None, option_map, IfSome, refl, ap, sym, ◌∙◌, arith, subst, if◌then◌else◌}
use Rattle.std.specs.Prelude.{nat_lt}
use Rattle.std.specs.List.{AllByRecursion}
use Rattle.std.proofs.lemmas.List.{length-map}
use Rattle.std.proofs.lemmas.List.Elements.{All-nil}
use Rattle.std.proofs.lemmas.Bool.{ltb-false}
use Rattle.byte_core.specs.Streams.{SourceData, SinkData}
use Rattle.image_read.specs.FatFile.{fat_table_end}
use Rattle.fat_macho.specs.FatBytes.{fat_bytes, FitsShape}
use Rattle.fat_macho.specs.FatHolds.{HoldsAt, HoldsOrdered, FatHolds}
use Rattle.fat_macho.specs.Filing.{known_file}
use Rattle.fat_macho.specs.Held.{known_slices, TakesFile, TakesFront, TableIsBytes}
use Rattle.fat_macho.specs.HeldViews.{raw_shape, held_list, IsWriter}
use Rattle.fat_macho.specs.Layout.{FatLayout, places_from, end_from, layout_of, fat_layout, greatest_align, sizes_of, total_of}
use Rattle.fat_macho.specs.Slices.{Shape, Slice, shape_of, in_order}
use Rattle.fat_macho.specs.Writing.{PutsKnown, FrontKnown, FailsBy}
use Rattle.fat_macho.specs.declared.error.Error.{Error}
use Rattle.fat_macho.specs.declared.error.Error.TheVariants.{Io}
use Rattle.fat_macho.specs.declared.error.IoCause.TheVariants.{Source}
use Rattle.fat_macho.specs.declared.held.HeldSlice.{HeldSlice}
use Rattle.fat_macho.proofs.FileLaws.{known_shapes}
use Rattle.fat_macho.proofs.HoldsLaws.{FitsWide, FileStands, file_stands, holds_at, table_is_bytes}
use Rattle.fat_macho.proofs.OrderLaws.{Before}
use Rattle.fat_macho.proofs.PutLaws.{puts_nothing}
use Rattle.fat_macho.proofs.RankLaws.{Ranked, rank_in_order, ranked_stays}
use Rattle.fat_macho.proofs.StepLaws.{layout_fits, layout_short}

-- -- the order of known slices

all_seen : {X : Type 0} (shape : X → Shape) (a : Shape) (xs : List X) → AllByRecursion (λ y. Before a (shape y)) xs → AllByRecursion (λ b. Before a b) (map shape xs)
all_seen shape a [] h = tt
all_seen shape a (x ∷ xs) h = (h.0, all_seen shape a xs h.1)

all_unseen : {X : Type 0} (shape : X → Shape) (a : Shape) (xs : List X) → AllByRecursion (λ b. Before a b) (map shape xs) → AllByRecursion (λ y. Before a (shape y)) xs
all_unseen shape a [] h = tt
all_unseen shape a (x ∷ xs) h = (h.0, all_unseen shape a xs h.1)

ranked_seen : {X : Type 0} (shape : X → Shape) (xs : List X) → Ranked shape xs → Ranked (λ a. a) (map shape xs)
ranked_seen shape [] h = tt
ranked_seen shape (x ∷ xs) h = (all_seen shape (shape x) xs h.0, ranked_seen shape xs h.1)

ranked_unseen : {X : Type 0} (shape : X → Shape) (xs : List X) → Ranked (λ a. a) (map shape xs) → Ranked shape xs
ranked_unseen shape [] h = tt
ranked_unseen shape (x ∷ xs) h = (all_unseen shape (shape x) xs h.0, ranked_unseen shape xs h.1)

pub known_order : (sources : List SourceData) (slices : List HeldSlice) (all : List Slice) → IsWriter sources slices → map shape_of all ≡ map raw_shape slices → in_order all ≡ all
unfolding in_order
known_order sources slices all w same =
    let held : Ranked raw_shape slices = subst (Ranked raw_shape) w.order (rank_in_order raw_shape slices w.once) in
    let seen : Ranked (λ a. a) (map shape_of all) = subst (Ranked (λ a. a)) (sym same) (ranked_seen raw_shape slices held) in
    ranked_stays shape_of all (ranked_unseen shape_of all seen)

-- -- the file

limit_by : (shapes : List Shape) (t : Bool) → nat_lt 4294967295 (layout_of (greatest_align shapes) false (sizes_of shapes)).total ≡ t
    → (if t then layout_of (greatest_align shapes) true (sizes_of shapes) else layout_of (greatest_align shapes) false (sizes_of shapes)).total < 2 ^ 63
    → FitsWide (if t then layout_of (greatest_align shapes) true (sizes_of shapes) else layout_of (greatest_align shapes) false (sizes_of shapes)).wide (if t then layout_of (greatest_align shapes) true (sizes_of shapes) else layout_of (greatest_align shapes) false (sizes_of shapes)).total
unfolding layout_of
limit_by shapes true e short = omega (arith, short)
limit_by shapes false e short = omega (arith, ltb-false 4294967295 (layout_of (greatest_align shapes) false (sizes_of shapes)).total e)

layout_limit : (shapes : List Shape) → (fat_layout shapes).total < 2 ^ 63 → FitsWide (fat_layout shapes).wide (fat_layout shapes).total
unfolding fat_layout
layout_limit shapes short = limit_by shapes (nat_lt 4294967295 (layout_of (greatest_align shapes) false (sizes_of shapes)).total) refl short

-- what is asked of slices that a file is made of
pub record MakeFile (all : List Slice) : Type 0 where
  pub order : in_order all ≡ all
  pub few : length all < 2 ^ 32
  pub fits : AllByRecursion FitsShape (map shape_of all)
  pub short : total_of (map shape_of all) < 2 ^ 63

pub stands_all : (all : List Slice) → MakeFile all → let l : FatLayout = fat_layout (map shape_of all) in FileStands (fat_bytes all l) l.wide l.align (fat_table_end l.wide (length all)) l.total all
unfolding fat_bytes
stands_all all m =
    let shapes : List Shape = map shape_of all in
    let l : FatLayout = fat_layout shapes in
    let f = layout_fits shapes in
    let count : length shapes ≡ length all = length-map all shape_of in
    let last = sym (f.total ∙ ap (λ n. end_from l.align (fat_table_end l.wide n) (sizes_of shapes)) count) in
    file_stands all l.wide l.align (fat_table_end l.wide (length all)) l.total _ refl refl last m.few m.fits (layout_limit shapes (layout_short shapes m.short))

holds_by : (all some : List Slice) (b : List ℕ) → some ≡ all → 0 < length all → HoldsAt b all (fat_layout (map shape_of all)) → HoldsOrdered b some
holds_by [] some b e more h = absurd (omega (arith, more))
holds_by (s ∷ all) some b e more h = subst (HoldsOrdered b) (sym e) h

pub file_holds : (all : List Slice) → 0 < length all → MakeFile all → FatHolds (fat_bytes all (fat_layout (map shape_of all))) all
file_holds all more m =
    let shapes : List Shape = map shape_of all in
    let l : FatLayout = fat_layout shapes in
    let f = layout_fits shapes in
    let count : length shapes ≡ length all = length-map all shape_of in
    let at = f.offsets ∙ ap (λ n. places_from l.align (fat_table_end l.wide n) (sizes_of shapes)) count in
    holds_by all (in_order all) (fat_bytes all l) m.order more (holds_at (fat_bytes all l) (fat_table_end l.wide (length all)) all l (stands_all all m) refl at)

file_table : (all : List Slice) → MakeFile all → TableIsBytes (fat_bytes all (fat_layout (map shape_of all)))
unfolding fat_bytes
file_table all m =
    let l : FatLayout = fat_layout (map shape_of all) in
    table_is_bytes all l.wide l.align (fat_table_end l.wide (length all)) l.total (fat_bytes all l) refl (stands_all all m)

-- -- what a sink took

known_make : (sources : List SourceData) (slices : List HeldSlice) (all : List Slice) → IsWriter sources slices → AllByRecursion FitsShape (map raw_shape slices) → known_slices (held_list sources slices) ≡ Some all → MakeFile all
known_make sources slices all w fits e =
    let same = known_shapes sources slices all w.lengths w.places e in
    let count : length all ≡ length slices = sym (length-map all shape_of) ∙ ap length same ∙ length-map slices raw_shape in
    record {
      order = known_order sources slices all w same;
      few = omega (arith, count, w.few);
      fits = subst (AllByRecursion FitsShape) (sym same) fits;
      short = subst (λ ss. total_of ss < 2 ^ 63) (sym same) w.short;
    }

known_some : (sources : List SourceData) (slices : List HeldSlice) (all : List Slice) → IsWriter sources slices → 0 < length slices → known_slices (held_list sources slices) ≡ Some all → 0 < length all
known_some sources slices all w more e =
    let same = known_shapes sources slices all w.lengths w.places e in
    omega (arith, sym (length-map all shape_of), ap length same, length-map slices raw_shape, more)

each_some : {A : Type 0} (o : Option A) (P : A → Type 0) → ((x : A) → o ≡ Some x → P x) → IfSome o P
each_some None P each = tt
each_some (Some x) P each = each x refl

pub takes_file : (sources : List SourceData) (slices : List HeldSlice) (x y : SinkData) → IsWriter sources slices → AllByRecursion FitsShape (map raw_shape slices) → 0 < length slices → PutsKnown (known_file sources slices) x y → TakesFile (held_list sources slices) x.written y.written
takes_file sources slices x y w fits more puts =
    record {
      file = each_some (known_slices (held_list sources slices)) _
          (λ all e.
          let b : List ℕ = fat_bytes all (fat_layout (map shape_of all)) in
          let p = puts.known b (ap (option_map (λ all. fat_bytes all (fat_layout (map shape_of all)))) e) in
          (b, p.are_bytes, file_holds all (known_some sources slices all w more e) (known_make sources slices all w fits e), p.put));
    }

pub takes_front : (sources : List SourceData) (slices : List HeldSlice) (x y : SinkData) → IsWriter sources slices → AllByRecursion FitsShape (map raw_shape slices) → 0 < length slices → FrontKnown (known_file sources slices) x y → TakesFront (held_list sources slices) x.written y.written
takes_front sources slices x y w fits more front =
    record {
      file = each_some (known_slices (held_list sources slices)) _
          (λ all e.
          let b : List ℕ = fat_bytes all (fat_layout (map shape_of all)) in
          let m = known_make sources slices all w fits e in
          (b, file_table all m, file_holds all (known_some sources slices all w more e) m, front.known b (ap (option_map (λ all. fat_bytes all (fat_layout (map shape_of all)))) e)));
    }

-- no slices have no bytes
pub takes_none : (sources : List SourceData) (slices : List HeldSlice) (x : SinkData) → length slices ≡ 0 → TakesFile (held_list sources slices) x.written x.written
unfolding in_order
takes_none sources [] x none = record { file = ([], All-nil (λ x. x < 256), refl, (puts_nothing x).put) }
takes_none sources (h ∷ slices) x none = absurd (omega (arith, none))

-- the error of a failed write tells which call failed
pub read_rose : (P Q : Type 0) (e : Error) → FailsBy P Q e → e ≡ Io Source → P
read_rose P Q e h same = rw same at h

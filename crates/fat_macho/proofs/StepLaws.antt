-- The steps of a layout.
use Rattle.std.proofs.Common.{◌≡◌, ℕ, ◌+◌, ◌^◌, ◌<◌, ◌≤◌, Bool, true, false, List, [], ◌∷◌, length, map, zip, refl, ap, sym, ◌∙◌, arith, if◌then◌else◌}
use Rattle.std.specs.Prelude.{nat_lt}
use Rattle.std.specs.Int.{next_multiple_of}
use Rattle.image_read.specs.FatFile.{fat_table_end}
use Rattle.fat_macho.specs.Layout.{FatLayout, places_from, end_from, layout_of, fat_layout, greatest_align, sizes_of, total_of}
use Rattle.fat_macho.specs.LayoutSteps.{step_at, steps_from, layout_steps}
use Rattle.fat_macho.specs.Slices.{Shape}
use Rattle.fat_macho.proofs.LayoutLaws.{next-over}
use Rattle.std.proofs.lemmas.List.{length-map}

-- no slice ends behind the last
pub end_within : (align end : ℕ) (sizes : List ℕ) → end ≤ end_from align end sizes
end_within align end [] = omega arith
end_within align end (s ∷ sizes) = omega (arith, end_within align (next_multiple_of end align + s) sizes, next-over end align)

-- the layout lies behind a table of its width
pub record FitsTable (l : FatLayout) (shapes : List Shape) : Type 0 where
  pub align : l.align ≡ greatest_align shapes
  pub offsets : l.offsets ≡ places_from l.align (fat_table_end l.wide (length shapes)) (sizes_of shapes)
  pub total : l.total ≡ end_from l.align (fat_table_end l.wide (length shapes)) (sizes_of shapes)

laid_fits : (wide : Bool) (shapes : List Shape) → FitsTable (layout_of (greatest_align shapes) wide (sizes_of shapes)) shapes
unfolding layout_of
laid_fits wide shapes =
    let len : length (sizes_of shapes) ≡ length shapes = length-map shapes (λ (a : Shape). a.size) in
    record {
      align = refl;
      offsets = ap (λ n. places_from (greatest_align shapes) (fat_table_end wide n) (sizes_of shapes)) len;
      total = ap (λ n. end_from (greatest_align shapes) (fat_table_end wide n) (sizes_of shapes)) len;
    }

fits_by : (b : Bool) (shapes : List Shape) → FitsTable (if b then layout_of (greatest_align shapes) true (sizes_of shapes) else layout_of (greatest_align shapes) false (sizes_of shapes)) shapes
fits_by true shapes = laid_fits true shapes
fits_by false shapes = laid_fits false shapes

pub layout_fits : (shapes : List Shape) → FitsTable (fat_layout shapes) shapes
unfolding fat_layout
layout_fits shapes = fits_by (nat_lt 4294967295 (layout_of (greatest_align shapes) false (sizes_of shapes)).total) shapes

-- a short file has a short layout
pub layout_short : (shapes : List Shape) → total_of shapes < 2 ^ 63 → (fat_layout shapes).total < 2 ^ 63
unfolding fat_layout layout_of
layout_short [] h = omega arith
layout_short (a ∷ shapes) h = h

-- the numbers of a layout, and where its table ends
pub record StartsAt (shapes : List Shape) (align start : ℕ) : Type 0 where
  pub end : end_from align start (sizes_of shapes) ≡ (fat_layout shapes).total
  pub offsets : places_from align start (sizes_of shapes) ≡ (fat_layout shapes).offsets

pub starts_at : (shapes : List Shape) (wide : Bool) (align count start : ℕ) → wide ≡ (fat_layout shapes).wide → align ≡ (fat_layout shapes).align → count ≡ length shapes → start ≡ fat_table_end wide count → StartsAt shapes align start
starts_at shapes wide align count start w a n s =
    let f = layout_fits shapes in
    let here : start ≡ fat_table_end (fat_layout shapes).wide (length shapes) = s ∙ ap (λ k. fat_table_end wide k) n ∙ ap (λ x. fat_table_end x (length shapes)) w in
    record {
      end = ap (λ x. end_from x start (sizes_of shapes)) a ∙ ap (λ p. end_from (fat_layout shapes).align p (sizes_of shapes)) here ∙ sym f.total;
      offsets = ap (λ x. places_from x start (sizes_of shapes)) a ∙ ap (λ p. places_from (fat_layout shapes).align p (sizes_of shapes)) here ∙ sym f.offsets;
    }

pub steps_are : (shapes : List Shape) (align start : ℕ) → StartsAt shapes align start → steps_from align start (sizes_of shapes) ≡ layout_steps shapes
unfolding layout_steps
steps_are shapes align start s = ap (λ ps. map step_at (zip ps (sizes_of shapes))) s.offsets

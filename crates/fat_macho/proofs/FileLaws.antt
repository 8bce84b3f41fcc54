-- A file is its table and its slices.
use Rattle.std.proofs.Common.{◌≡◌, ℕ, ◌^◌, ◌<◌, Bool, List, [], ◌∷◌, ◌++◌, length, map, Some, option_map, refl, ap, sym, ◌∙◌, arith, subst, append_assoc}
use Rattle.std.specs.List.{AllByRecursion}
use Rattle.std.proofs.lemmas.List.{length-map}
use Rattle.byte_core.specs.Outside.{AppendsFront}
use Rattle.byte_core.specs.Streams.{SourceData, SinkData, HasLength}
use Rattle.image_read.specs.FatFile.{fat_table_end}
use Rattle.fat_macho.specs.FatBytes.{header_bytes, rows_from, contents_from, fat_bytes}
use Rattle.fat_macho.specs.Filing.{known_contents, known_file}
use Rattle.fat_macho.specs.Held.{known_slices}
use Rattle.fat_macho.specs.HeldViews.{size_of_slice, raw_shape, held_list, IsPlaced, IsWriter}
use Rattle.fat_macho.specs.Layout.{FatLayout, fat_layout, end_from, sizes_of, total_of}
use Rattle.fat_macho.specs.LayoutView.{AreNumbersOf}
use Rattle.fat_macho.specs.Slices.{Shape, Slice, shape_of}
use Rattle.fat_macho.specs.Writing.{Puts, PutsKnown, FrontKnown}
use Rattle.fat_macho.specs.declared.held.HeldSlice.{HeldSlice}
use Rattle.fat_macho.specs.declared.layout.LayoutNumbers.{LayoutNumbers}
use Rattle.fat_macho.proofs.AddedLaws.{three}
use Rattle.fat_macho.proofs.FilingLaws.{known_length}
use Rattle.fat_macho.proofs.LaysLaws.{first_known, mapped_puts, mapped_front}
use Rattle.fat_macho.proofs.PutLaws.{puts_again, front_before, front_behind}
use Rattle.fat_macho.proofs.StepLaws.{starts_at, layout_short}

-- the shapes of known slices are those that are held
pub known_shapes : (sources : List SourceData) (slices : List HeldSlice) (all : List Slice) → AllByRecursion HasLength sources → AllByRecursion (λ h. IsPlaced sources h.bytes) slices → known_slices (held_list sources slices) ≡ Some all
    → map shape_of all ≡ map raw_shape slices
known_shapes sources [] all lengths places e = let same : [] ≡ all = cc in ap (map shape_of) (sym same)
known_shapes sources (h ∷ slices) all lengths places e =
    let f = first_known sources h slices all e in
    let one : shape_of (record { cputype = h.cputype; cpusubtype = h.cpusubtype; bytes = f.bytes }) ≡ raw_shape h = three h.cputype h.cputype h.cpusubtype h.cpusubtype (length f.bytes) (size_of_slice h.bytes) refl refl (known_length sources h.bytes f.bytes lengths places.0 f.are) in
    ap (map shape_of) f.all_is ∙ ap (λ s. s ∷ map shape_of f.rest) one ∙ ap (λ ss. raw_shape h ∷ ss) (known_shapes sources slices f.rest lengths places.1 f.rest_is)

-- the numbers of a file of these slices
pub record AreTableNumbers (shapes : List Shape) (wide : Bool) (align start count : ℕ) : Type 0 where
  pub wide_is : wide ≡ (fat_layout shapes).wide
  pub align_is : align ≡ (fat_layout shapes).align
  pub start_is : start ≡ fat_table_end wide count
  pub count_is : count ≡ length shapes

abbrev pub table_bytes : Bool → ℕ → ℕ → ℕ → List Shape → List ℕ
table_bytes wide align start count shapes = header_bytes wide count ++ rows_from wide align start shapes

file_split : (all : List Slice) (shapes : List Shape) (wide : Bool) (align start count : ℕ) → map shape_of all ≡ shapes → AreTableNumbers shapes wide align start count
    → fat_bytes all (fat_layout (map shape_of all)) ≡ table_bytes wide align start count shapes ++ contents_from align start all
unfolding fat_bytes
file_split all shapes wide align start count same n =
    let many : length all ≡ count = sym (length-map all shape_of) ∙ ap length same ∙ sym n.count_is in
    let l : FatLayout = fat_layout (map shape_of all) in
    let w : l.wide ≡ wide = ap (λ ss. (fat_layout ss).wide) same ∙ sym n.wide_is in
    let a : l.align ≡ align = ap (λ ss. (fat_layout ss).align) same ∙ sym n.align_is in
    let p : fat_table_end l.wide (length all) ≡ start = ap (λ x. fat_table_end x (length all)) w ∙ ap (fat_table_end wide) many ∙ sym n.start_is in
    ap (λ x. header_bytes x (length all) ++ (rows_from x l.align (fat_table_end l.wide (length all)) (map shape_of all) ++ contents_from l.align (fat_table_end l.wide (length all)) all)) w
    ∙ ap (λ x. header_bytes wide x ++ (rows_from wide l.align (fat_table_end l.wide (length all)) (map shape_of all) ++ contents_from l.align (fat_table_end l.wide (length all)) all)) many
    ∙ ap (λ x. header_bytes wide count ++ (rows_from wide x (fat_table_end l.wide (length all)) (map shape_of all) ++ contents_from x (fat_table_end l.wide (length all)) all)) a
    ∙ ap (λ x. header_bytes wide count ++ (rows_from wide align x (map shape_of all) ++ contents_from align x all)) p
    ∙ ap (λ x. header_bytes wide count ++ (rows_from wide align start x ++ contents_from align start all)) same
    ∙ sym (append_assoc (header_bytes wide count) (rows_from wide align start shapes) (contents_from align start all))

known_split : (sources : List SourceData) (slices : List HeldSlice) (all : List Slice) (wide : Bool) (align start count : ℕ) → IsWriter sources slices → known_slices (held_list sources slices) ≡ Some all
    → AreTableNumbers (map raw_shape slices) wide align start count → fat_bytes all (fat_layout (map shape_of all)) ≡ table_bytes wide align start count (map raw_shape slices) ++ contents_from align start all
known_split sources slices all wide align start count w e n = file_split all (map raw_shape slices) wide align start count (known_shapes sources slices all w.lengths w.places e) n

pub file_puts : (sources : List SourceData) (slices : List HeldSlice) (wide : Bool) (align start count : ℕ) (x y z : SinkData) → IsWriter sources slices → AreTableNumbers (map raw_shape slices) wide align start count
    → Puts x y (table_bytes wide align start count (map raw_shape slices)) → PutsKnown (known_contents sources align start slices) y z → PutsKnown (known_file sources slices) x z
file_puts sources slices wide align start count x y z w n table puts =
    mapped_puts (λ all. fat_bytes all (fat_layout (map shape_of all))) (known_slices (held_list sources slices)) x z
    (λ all e.
    subst (Puts x z) (sym (known_split sources slices all wide align start count w e n))
    (puts_again (table_bytes wide align start count (map raw_shape slices)) (contents_from align start all) x y z table (puts.known (contents_from align start all) (ap (option_map (contents_from align start)) e))))

pub table_fails : (sources : List SourceData) (slices : List HeldSlice) (wide : Bool) (align start count : ℕ) (x y : SinkData) → IsWriter sources slices → AreTableNumbers (map raw_shape slices) wide align start count
    → AppendsFront x.written y.written (table_bytes wide align start count (map raw_shape slices)) → FrontKnown (known_file sources slices) x y
table_fails sources slices wide align start count x y w n front =
    mapped_front (λ all. fat_bytes all (fat_layout (map shape_of all))) (known_slices (held_list sources slices)) x y
    (λ all e.
    subst (AppendsFront x.written y.written) (sym (known_split sources slices all wide align start count w e n)) (front_before (table_bytes wide align start count (map raw_shape slices)) (contents_from align start all) x y front))

pub file_fails : (sources : List SourceData) (slices : List HeldSlice) (wide : Bool) (align start count : ℕ) (x y z : SinkData) → IsWriter sources slices → AreTableNumbers (map raw_shape slices) wide align start count
    → Puts x y (table_bytes wide align start count (map raw_shape slices)) → FrontKnown (known_contents sources align start slices) y z → FrontKnown (known_file sources slices) x z
file_fails sources slices wide align start count x y z w n table front =
    mapped_front (λ all. fat_bytes all (fat_layout (map shape_of all))) (known_slices (held_list sources slices)) x z
    (λ all e.
    subst (AppendsFront x.written z.written) (sym (known_split sources slices all wide align start count w e n))
    (front_behind (table_bytes wide align start count (map raw_shape slices)) (contents_from align start all) x y z table (front.known (contents_from align start all) (ap (option_map (contents_from align start)) e))))

-- the numbers that are found
pub numbers_are : (slices : List HeldSlice) (n : LayoutNumbers) (start count : ℕ) → AreNumbersOf n (fat_layout (map raw_shape slices)) → start ≡ fat_table_end n.wide count → count ≡ length slices → AreTableNumbers (map raw_shape slices) n.wide n.align start count
numbers_are slices n start count are place many = record { wide_is = are.wide; align_is = are.align; start_is = place; count_is = many ∙ sym (length-map slices raw_shape) }

pub table_room : (slices : List HeldSlice) (n : LayoutNumbers) (start : ℕ) → AreNumbersOf n (fat_layout (map raw_shape slices)) → start ≡ fat_table_end n.wide (length slices) → total_of (map raw_shape slices) < 2 ^ 63
    → end_from n.align start (sizes_of (map raw_shape slices)) < 2 ^ 63
table_room slices n start are place short =
    let s = starts_at (map raw_shape slices) n.wide n.align (length slices) start are.wide are.align (sym (length-map slices raw_shape)) place in
    omega (arith, s.end, layout_short (map raw_shape slices) short)

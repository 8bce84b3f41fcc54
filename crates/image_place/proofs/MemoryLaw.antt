-- From the definitions that images show to the law of placed files, whatever the format.
use Rattle.std.proofs.Common.{◌≡◌, ℕ, suc, ◌+◌, List, [], ◌∷◌, length, map, refl, ap, sym, ◌∙◌, arith, Option, Some, None, slice_get, subst}
use Rattle.std.specs.Prelude.{option_and_then, find, Contains, true}
use Rattle.std.specs.List.{enumerate_from}
use Rattle.std.proofs.lemmas.Bool.{eq-eqb}
use Rattle.std.proofs.lemmas.Option.{get_or_from_slice_get}
use Rattle.byte_core.proofs.Lists.{get_map, get_map_from, get_exists, get_within}
use Rattle.cranelift_module.specs.declared.identifiers.FuncOrDataId.{FuncOrDataId}
use Rattle.cranelift_module.specs.declared.identifiers.FuncOrDataId.TheVariants.{Func, Data}
use Rattle.cranelift_module.specs.Definitions.{Definition as Made}
use Rattle.cranelift_module.specs.Refusal.{is_same_identifier}
use Rattle.cranelift_object.specs.Part.{PartData, part_state}
use Rattle.cranelift_object.proofs.CreationLaws.{same_is}
use Rattle.image_place.specs.declared.rows.DefAddress.{DefAddress as AddressRow}
use Rattle.image_place.specs.Fixups.{Piece, Addresses, memory_of}
use Rattle.image_place.specs.Memory.{piece_of, pieces_of, part_pieces, piece_named, memory}
use Rattle.image_place.specs.ObjectFile.{definition_row}
use Rattle.image_view.specs.View.{View}
use Rattle.image_place.specs.Placed.{PlacedEntry, view_pieces, all_pieces, given, placed_entries, place_fault}
use Rattle.image_place.specs.Shown.{ObjectShows, ObjectsShow}
use Rattle.image_place.specs.Laws.{AreFilesOf, HasEntry}
use Rattle.image_place.proofs.PlacedLaws.{placed-memory}
use Rattle.image_place.proofs.SoundLaws.{definitions-once}
use Rattle.image_place.proofs.Collected.{found-at, found-some}

-- the rows of the parts' identifiers
abbrev pub row_by : Option PartData → FuncOrDataId → ℕ
row_by None id = 0
row_by (Some part) id = definition_row part id

abbrev pub rows_of : List PartData → ℕ → FuncOrDataId → ℕ
rows_of parts q = row_by (slice_get parts q)

objects_show : (rows : ℕ → FuncOrDataId → ℕ) (at : Addresses FuncOrDataId) (addresses : List AddressRow) (n : ℕ) (parts : List PartData) (views : List View) → length views ≡ length parts
    → ((q : ℕ) (part : PartData) (v : View) → slice_get parts q ≡ Some part → slice_get views q ≡ Some v → ObjectShows (rows (n + q)) (at (n + q)) (given addresses (n + q)) (part_pieces part) (view_pieces addresses (n + q) v))
    → ObjectsShow rows at (given addresses) n (map part_pieces parts) (map (λ (e : ℕ × View). view_pieces addresses e.0 e.1) (enumerate_from n views))
objects_show rows at addresses n [] [] count each = tt
objects_show rows at addresses n [] (v ∷ views) count each = absurd (omega (arith, count))
objects_show rows at addresses n (part ∷ parts) [] count each = absurd (omega (arith, count))
objects_show rows at addresses n (part ∷ parts) (v ∷ views) count each =
    let start : n + 0 ≡ n = omega arith in (
      subst (λ m. ObjectShows (rows m) (at m) (given addresses m) (part_pieces part) (view_pieces addresses m v)) start (each 0 part v refl refl),
      objects_show rows at addresses (n + 1) parts views (omega (arith, count))
          (λ q x w e f. let next : n + suc q ≡ n + 1 + q = omega arith in subst (λ m. ObjectShows (rows m) (at m) (given addresses m) (part_pieces x) (view_pieces addresses m w)) next (each (suc q) x w e f)),
    )

-- each view shows the definitions of its part
abbrev pub AreShown : List PartData → Addresses FuncOrDataId → List AddressRow → List View → Type 0
AreShown parts at addresses views =
    (q : ℕ) (part : PartData) (v : View) → slice_get parts q ≡ Some part → slice_get views q ≡ Some v → ObjectShows (definition_row part) (at q) (given addresses q) (part_pieces part) (view_pieces addresses q v)

all_show : (parts : List PartData) (at : Addresses FuncOrDataId) (addresses : List AddressRow) (views : List View) → length views ≡ length parts → AreShown parts at addresses views
    → ObjectsShow (rows_of parts) at (given addresses) 0 (map part_pieces parts) (all_pieces addresses views)
all_show parts at addresses views count shown =
    objects_show (rows_of parts) at addresses 0 parts views count
    (λ q part v e f.
    let start : q ≡ 0 + q = omega arith in
    let rows : definition_row part ≡ rows_of parts q = ap row_by (sym e) in
    subst (λ m. ObjectShows (rows_of parts m) (at m) (given addresses m) (part_pieces part) (view_pieces addresses m v)) start
    (subst (λ r. ObjectShows r (at q) (given addresses q) (part_pieces part) (view_pieces addresses q v)) rows (shown q part v e f)))

same_itself : (id : FuncOrDataId) → is_same_identifier id id ≡ true
same_itself (Func k) = eq-eqb k k refl
same_itself (Data k) = eq-eqb k k refl

listed : (part : PartData) → part_pieces part ≡ map (piece_of part.settings (part_state part)) (part_state part).definitions
unfolding pieces_of
listed part = refl

-- the definition of an identifier is found by it
found_piece : (part : PartData) (k : ℕ) (d : Made) → ((i j : ℕ) (x y : Made) → slice_get (part_state part).definitions i ≡ Some x → slice_get (part_state part).definitions j ≡ Some y → x.identifier ≡ y.identifier → i ≡ j) → slice_get (part_state part).definitions k ≡ Some d
    → piece_named d.identifier (part_pieces part) ≡ Some (piece_of part.settings (part_state part) d)
found_piece part k d once e =
    let make = piece_of part.settings (part_state part) in
    let pieces = map make (part_state part).definitions in
    let test = λ (p : Piece FuncOrDataId). is_same_identifier d.identifier p.key in
    let found = found-some test pieces k (make d) (get_map make (part_state part).definitions k d e) (same_itself d.identifier) in
    let there = found-at test pieces found.element found.is in
    let from = get_map_from make (part_state part).definitions there.number found.element there.here in
    let same : d.identifier ≡ from.0.identifier = same_is d.identifier found.element.key there.passes ∙ ap (λ (p : Piece FuncOrDataId). p.key) (sym from.2) in
    let place : there.number ≡ k = once there.number k from.0 d from.1 e (sym same) in
    let one : Some found.element ≡ Some (make d) = sym there.here ∙ ap (slice_get pieces) place ∙ get_map make (part_state part).definitions k d e in
    ap (find test) (listed part) ∙ found.is ∙ one

contains_from : {A : Type 0} (xs : List A) (k : ℕ) (x : A) → slice_get xs k ≡ Some x → Contains xs x
contains_from xs k x e = (k, get_within xs k x e, get_or_from_slice_get xs k x x e)

pub placed-is-memory : (files : List (List ℕ)) (addresses : List AddressRow) (externs : List (List ℕ × ℕ)) (out : List PlacedEntry) (parts : List PartData) (at : Addresses FuncOrDataId) (views : List View) (q k : ℕ) (part : PartData) (d : Made)
    → AreFilesOf parts files → length views ≡ length parts → AreShown parts at addresses views → place_fault views addresses externs ≡ None → out ≡ placed_entries views addresses externs
    → slice_get parts q ≡ Some part → slice_get (part_state part).definitions k ≡ Some d
    → (bytes : List ℕ) × (memory parts at externs q d.identifier ≡ Some bytes) × HasEntry out q part d.identifier (at q d.identifier) bytes
placed-is-memory files addresses externs out parts at views q k part d of count shown none entries at_q at_k =
    let make = piece_of part.settings (part_state part) in
    let v = get_exists views q (omega (arith, count, get_within parts q part at_q)) in
    let piece_at : slice_get (part_pieces part) k ≡ Some (make d) = ap (λ xs. slice_get xs k) (listed part) ∙ get_map make (part_state part).definitions k d at_k in
    let has = placed-memory (map part_pieces parts) (rows_of parts) at views addresses externs q k (part_pieces part) v.0 (make d) none (all_show parts at addresses views count shown) (get_map part_pieces parts q part at_q) v.1 piece_at in
    let found = found_piece part k d (definitions-once part (of.valid q part at_q).valid) at_k in
    let named : memory parts at externs q d.identifier ≡ memory_of (map part_pieces parts) at externs q (make d) =
    ap (option_and_then (λ x. option_and_then (memory_of (map part_pieces parts) at externs q) (piece_named d.identifier (part_pieces x)))) at_q ∙ ap (option_and_then (memory_of (map part_pieces parts) at externs q)) found in
    let row : rows_of parts q d.identifier ≡ definition_row part d.identifier = ap (λ o. row_by o d.identifier) at_q in
    let entry : slice_get out has.entry.number ≡ Some (record { image = q; symbol = definition_row part d.identifier; address = at q d.identifier; bytes = has.bytes }) =
    ap (λ xs. slice_get xs has.entry.number) entries ∙ has.entry.here ∙ ap (λ n. Some (record { image = q; symbol = n; address = at q d.identifier; bytes = has.bytes })) row in
    (has.bytes, named ∙ has.memory, contains_from out has.entry.number _ entry)

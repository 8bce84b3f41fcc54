-- The names that objects define, one object after the other.
use Rattle.std.proofs.Common.{◌≡◌, ℕ, ◌+◌, ◌<◌, ◌≤◌, List, [], ◌∷◌, ◌++◌, length, map, take, get_or, Some, None, refl, ap, sym, ◌∙◌, arith, Bor, bytes_eq, slice_get, append_assoc, append-nil}
use Rattle.std.specs.Prelude.{Option, option_map, not, ◌&&◌, if◌then◌else◌}
use Rattle.std.specs.List.{filter_map, cons_option, enumerate_from}
use Rattle.std.specs.HashMap.{HashMap}
use Rattle.std.proofs.lemmas.List.{take_all, length-take-le}
use Rattle.image_place.specs.Fixups.{Piece, Addresses, exported_as, exporters_from}
use Rattle.image_view.specs.View.{View, ViewSection}
use Rattle.image_place.specs.Placed.{AddressRow, Definition, piece_in, view_pieces, all_pieces, definitions_in, given}
use Rattle.image_place.specs.Naming.{told_all, Exports, export_by, NotesAll}
use Rattle.image_place.proofs.DefinitionLaws.{enumerate_more, map_append, long_map}
use Rattle.image_place.proofs.NamingLaws.{told_append}

exporters_end : {K : Type 0} (x : List ℕ) (at : Addresses K) (q : ℕ) (os : List (List (Piece K))) (o : List (Piece K)) → exporters_from x at q (os ++ o ∷ []) ≡ exporters_from x at q os ++ filter_map (exported_as x (at (q + length os))) o
exporters_end x at q [] o = let start : q ≡ q + 0 = omega arith in append-nil (filter_map (exported_as x (at q)) o) ∙ ap (λ n. filter_map (exported_as x (at n)) o) start
exporters_end x at q (p ∷ os) o =
    let next : q + 1 + length os ≡ q + length (p ∷ os) = omega arith in
    ap (λ hs. filter_map (exported_as x (at q)) p ++ hs) (exporters_end x at (q + 1) os o ∙ ap (λ n. exporters_from x at (q + 1) os ++ filter_map (exported_as x (at n)) o) next)
    ∙ sym (append_assoc (filter_map (exported_as x (at q)) p) (exporters_from x at (q + 1) os) (filter_map (exported_as x (at (q + length (p ∷ os)))) o))

export_same : (x : List ℕ) (at : ℕ → ℕ) (v : View) (ds : List Definition) (d : Definition) (s : Option ViewSection) (us ws : List ℕ) → slice_get v.sections d.section ≡ s → us ≡ ws
    → (rest : List (Piece ℕ)) → filter_map (exported_as x at) rest ≡ us → filter_map (exported_as x at) (cons_option (option_map (piece_in v ds d) s) rest) ≡ cons_option (export_by at v x d) ws
export_same x at v ds d None us ws e same rest r = rw e (r ∙ same)
export_same x at v ds d (Some s) us ws e same rest r = rw e (ap (cons_option (if not d.symbol.is_local && bytes_eq d.symbol.name x then Some (at d.row) else None)) (r ∙ same))

exports_of_pieces : (x : List ℕ) (at : ℕ → ℕ) (v : View) (ds es : List Definition) → filter_map (exported_as x at) (filter_map (λ d. option_map (piece_in v ds d) (slice_get v.sections d.section)) es) ≡ filter_map (export_by at v x) es
exports_of_pieces x at v ds [] = refl
exports_of_pieces x at v ds (d ∷ es) =
    export_same x at v ds d (slice_get v.sections d.section) _ (filter_map (export_by at v x) es) refl (exports_of_pieces x at v ds es) (filter_map (λ e. option_map (piece_in v ds e) (slice_get v.sections e.section)) es) refl

pieces_exports : (x : List ℕ) (addresses : List AddressRow) (q : ℕ) (v : View) → filter_map (exported_as x (given addresses q)) (view_pieces addresses q v) ≡ filter_map (export_by (given addresses q) v x) (definitions_in addresses q v)
unfolding view_pieces
pieces_exports x addresses q v = exports_of_pieces x (given addresses q) v (definitions_in addresses q v) (definitions_in addresses q v)

pieces_more : (addresses : List AddressRow) (views : List View) (i : ℕ) (d : View) → i < length views → all_pieces addresses (take (i + 1) views) ≡ all_pieces addresses (take i views) ++ view_pieces addresses i (get_or views i d) ∷ []
pieces_more addresses views i d below =
    ap (map (λ (e : ℕ × View). view_pieces addresses e.0 e.1)) (enumerate_more views i d below) ∙ map_append (λ (e : ℕ × View). view_pieces addresses e.0 e.1) (enumerate_from 0 (take i views)) ((i, get_or views i d) ∷ [])

long_enumerate : {A : Type 0} (n : ℕ) (xs : List A) → length (enumerate_from n xs) ≡ length xs
long_enumerate n [] = refl
long_enumerate n (x ∷ xs) = omega (arith, long_enumerate (n + 1) xs)

-- one object more is gone over
pub exports_step : {S : Type 0} (old new : HashMap (Bor (List ℕ)) (Option ℕ) S) (addresses : List AddressRow) (views : List View) (i : ℕ) (v : View) → i < length views → v ≡ get_or views i v → Exports old (all_pieces addresses (take i views)) (given addresses)
    → NotesAll old new (given addresses i) v (definitions_in addresses i v) → Exports new (all_pieces addresses (take (i + 1) views)) (given addresses)
exports_step old new addresses views i v below is h n x =
    let long : 0 + length (all_pieces addresses (take i views)) ≡ i =
    omega (arith, below, long_map (λ (e : ℕ × View). view_pieces addresses e.0 e.1) (enumerate_from 0 (take i views)), long_enumerate 0 (take i views), length-take-le i views (omega (arith, below))) in
    n x ∙ ap (λ t. told_all t (filter_map (export_by (given addresses i) v x) (definitions_in addresses i v))) (h x)
    ∙ ap (told_all (told_all None (exporters_from x (given addresses) 0 (all_pieces addresses (take i views))))) (sym (pieces_exports x addresses i v))
    ∙ sym (told_append None (exporters_from x (given addresses) 0 (all_pieces addresses (take i views))) (filter_map (exported_as x (given addresses i)) (view_pieces addresses i v)))
    ∙ ap (λ k. told_all None (exporters_from x (given addresses) 0 (all_pieces addresses (take i views)) ++ filter_map (exported_as x (given addresses k)) (view_pieces addresses i v))) (sym long)
    ∙ ap (told_all None) (sym (exporters_end x (given addresses) 0 (all_pieces addresses (take i views)) (view_pieces addresses i v)))
    ∙ ap (λ os. told_all None (exporters_from x (given addresses) 0 os)) (ap (λ w. all_pieces addresses (take i views) ++ view_pieces addresses i w ∷ []) is ∙ sym (pieces_more addresses views i v below))

pub exports_all : {S : Type 0} (m : HashMap (Bor (List ℕ)) (Option ℕ) S) (addresses : List AddressRow) (views : List View) (i : ℕ) → length views ≤ i → Exports m (all_pieces addresses (take i views)) (given addresses) → Exports m (all_pieces addresses views) (given addresses)
exports_all m addresses views i h e x = e x ∙ ap (λ vs. told_all None (exporters_from x (given addresses) 0 (all_pieces addresses vs))) (take_all i views h)

-- Records that are written one after the other.
use Rattle.std.proofs.Common.{◌≡◌, ℕ, ◌+◌, List, [], ◌∷◌, Bool, true, false, cond, length, refl, ap, ◌∙◌}
use Rattle.std.proofs.lemmas.List.Sums.{sum_by-cons}
use Rattle.object_core.specs.declared.relocation.Relocation.{Relocation}
use Rattle.image_read.specs.MachFile.{MachRelocationRow}
use Rattle.object_macho.specs.Layout.{wants_record, records_for}
use Rattle.object_macho.specs.Rows.{relocation_with}
use Rattle.object_macho.specs.Orders.{record_count_of, record_counts}

pair_count : (b : Bool) (x y v w : MachRelocationRow) → length (cond b (x ∷ y ∷ []) (y ∷ [])) ≡ length (cond b (v ∷ w ∷ []) (w ∷ []))
pair_count true x y v w = refl
pair_count false x y v w = refl

-- a relocation has as many records whatever the row of its symbol
pub row_count : (cputype row : ℕ) (r : Relocation) → length (records_for cputype (relocation_with row r)) ≡ record_count_of cputype r
row_count cputype row r = pair_count (wants_record cputype (relocation_with 0 r)) _ _ _ _

pub counts_next : (cputype : ℕ) (left rest : List Relocation) (r : Relocation) → left ≡ r ∷ rest → record_counts cputype left ≡ record_count_of cputype r + record_counts cputype rest
counts_next cputype left rest r e = ap (record_counts cputype) e ∙ sum_by-cons (record_count_of cputype) r rest

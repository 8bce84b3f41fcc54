-- The parts of a file by the numbers of a plan.
use Rattle.std.proofs.Common.{◌≡◌, ℕ, suc, ◌+◌, ◌-◌, ◌<◌, ◌^◌, [], ◌∷◌, ◌++◌, Bool, not, cond, List, length, take, map, refl, ap, sym, ◌∙◌, arith}
use Rattle.std.specs.Prelude.{slice_get, slice_index, Some, filter, count_by, replicate, flat_map}
use Rattle.std.proofs.lemmas.List.{length-map}
use Rattle.std.proofs.lemmas.List.Sums.{sum_by-cons}
use Rattle.ir_core.specs.MachO.{is_zero_fill_type}
use Rattle.byte_core.specs.LaidOut.{laid_out}
use Rattle.byte_core.specs.Strings.{string_bytes_of}
use Rattle.object_core.specs.Object.{SectionData, SectionBody, ObjectData, body_of}
use Rattle.object_core.specs.LinkTable.{MachTable}
use Rattle.object_core.specs.MachRows.{is_mach_stored, addresses_in, mach_symbol, macho_table_of}
use Rattle.object_macho.specs.Layout.{is_stored, end_of_sections, contents_size, data_start, relocations_start, records_of, mach_names}
use Rattle.object_macho.specs.File.{aligned_contents, mach_record_bytes, mach_symbol_bytes, mach_symbol_rows_from, commands_bytes, mach_file}
use Rattle.object_macho.specs.Fitting.{FitsMach}
use Rattle.object_macho.specs.Plan.{section_order, symbol_order, plan_of, PlanData, HasNumbers}
use Rattle.object_macho.proofs.Behind.{take_next, take_all, end_of_sections-end, memory_of, front_take}
use Rattle.object_macho.proofs.CommandPieces.{join_six}
use Rattle.object_macho.proofs.ContentLoops.{stored_count}
use Rattle.object_macho.proofs.OrderLoops.{section_at}
use Rattle.object_macho.proofs.Orders.{symbol_rows, length-symbol_order}
use Rattle.object_macho.proofs.SectionLoops.{section_row, table_section_at, address_at}

pub numbers_of_plan : (plan : PlanData) (o : ObjectData) → plan ≡ plan_of o → HasNumbers plan o
unfolding plan_of
numbers_of_plan plan o e = record {
  sections = ap (λ (p : PlanData). p.sections) e;
  numbers = ap (λ (p : PlanData). p.numbers) e;
  addresses = ap (λ (p : PlanData). p.addresses) e;
  symbols = ap (λ (p : PlanData). p.symbols) e;
  rows = ap (λ (p : PlanData). p.rows) e;
  records = ap (λ (p : PlanData). p.records) e;
  length = ap (λ (p : PlanData). p.length) e;
}

-- the last of the first sections
pub record Last (o : ObjectData) (order addresses : List ℕ) (last : ℕ) : Type 0 where
  pub item : SectionData
  pub at : slice_get o.sections (slice_index order last) ≡ Some item
  pub end : end_of_sections (take (last + 1) (macho_table_of o).sections) ≡ slice_index addresses last + item.size
  pub room : slice_index addresses last + item.size < 2 ^ 64

pub last_at : (o : ObjectData) (order addresses : List ℕ) (last : ℕ) → FitsMach (macho_table_of o) → order ≡ section_order o.sections → addresses ≡ addresses_in o.sections → last < length order → Last o order addresses last
last_at o order addresses last f e g h =
    let s = section_at o order last e h in
    let t = macho_table_of o in
    let row = section_row o last s.item in
    let at = table_section_at o last s.item s.place in
    let next : last + 1 ≡ suc last = omega arith in
    let address = address_at o addresses last s.item g s.place in
    let end = ap (λ k. end_of_sections (take k t.sections)) next ∙ ap end_of_sections (take_next t.sections last row at) ∙ end_of_sections-end (take last t.sections) row in
    record { item = s.item; at = s.at; end = omega (arith, end, address); room = omega (arith, address, memory_of t f last row at, f.memory) }

pub none_end : (t : MachTable) → end_of_sections (take 0 t.sections) ≡ 0
unfolding end_of_sections
none_end t = refl

-- the stored sections end where the contents do
pub stored_end : (o : ObjectData) (count : ℕ) → FitsMach (macho_table_of o) → count ≡ count_by is_mach_stored o.sections → end_of_sections (take count (macho_table_of o).sections) ≡ contents_size (macho_table_of o)
stored_end o count f e =
    let t = macho_table_of o in
    let ss = filter is_stored t.sections in
    let whole : count ≡ length ss = e ∙ sym (stored_count o) in
    ap (λ k. end_of_sections (take k t.sections)) whole ∙ ap end_of_sections (front_take t f (length ss) (omega arith)) ∙ ap end_of_sections (take_all ss)

pub count_symbols : (o : ObjectData) → length (symbol_order o.symbols) ≡ length (macho_table_of o).symbols
unfolding macho_table_of
count_symbols o = length-symbol_order o.symbols ∙ sym (length-map (symbol_rows o.symbols) (mach_symbol o.sections))

-- all parts, one behind the other
pub join_parts : (t : MachTable) (one two three four five six : List ℕ) → one ≡ commands_bytes t → two ≡ one ++ laid_out 0 (map (aligned_contents t.cputype) (filter is_stored t.sections))
    → three ≡ two ++ replicate (relocations_start t - (data_start t + contents_size t)) 0 → four ≡ three ++ flat_map mach_record_bytes (flat_map (records_of t.cputype) t.sections)
    → five ≡ four ++ flat_map mach_symbol_bytes (mach_symbol_rows_from t 0 t.symbols) → six ≡ five ++ string_bytes_of (mach_names t) → six ≡ mach_file t
unfolding mach_file
join_parts t one two three four five six h i j k l m = join_six _ _ _ _ _ _ one two three four five six h i j k l m

-- -- counts over sections without their texts

pub count_case : {A B : Type 0} (f : A → B) (p : B → Bool) (xs : List A) → count_by p (map f xs) ≡ count_by (λ x. p (f x)) xs
count_case f p [] = refl
count_case f p (x ∷ xs) = omega (arith, sum_by-cons (λ y. cond (p y) 1 0) (f x) (map f xs), sum_by-cons (λ y. cond (p (f y)) 1 0) x xs, count_case f p xs)

pub count_stored : (ss : List SectionData) → count_by (λ (b : SectionBody). not (is_zero_fill_type b.macho_flags)) (map body_of ss) ≡ count_by is_mach_stored ss
count_stored ss = count_case body_of (λ (b : SectionBody). not (is_zero_fill_type b.macho_flags)) ss

-- Two files that hold one table are the same file.
use Rattle.std.proofs.Common.{◌≡◌, ℕ, zero, suc, ◌+◌, ◌-◌, ◌*◌, ◌<◌, ◌≤◌, List, [], ◌∷◌, length, take, refl, ap, sym, ◌∙◌, arith, Some, Bool, true, false, slice_get, inl, inr, cond, replicate, subst}
use Rattle.std.specs.Prelude.{fold}
use Rattle.std.specs.Int.{next_multiple_of}
use Rattle.std.specs.List.{All}
use Rattle.std.proofs.lemmas.List.{take_all}
use Rattle.byte_core.specs.Number.{bytes_at}
use Rattle.byte_core.proofs.Lists.{get_exists}
use Rattle.byte_core.specs.Strings.{string_bytes_of, strings_size}
use Rattle.object_core.specs.LinkTable.{ElfTable, ElfTableSection}
use Rattle.image_read.specs.ElfFile.{ElfSectionRow, has_bytes, stored_bytes, relocation_row_at, symbol_row_at}
use Rattle.object_elf.specs.Layout.{Part, symbol_table_row, section_names, symbol_names, content_part, note_part, symbol_part, parts_of, is_stored, start_after, end_after, end_of_parts, start_of, headers_start, file_length}
use Rattle.object_elf.specs.ElfHolds.{ElfHolds, row_for, row_at, part_offset, relocations_row}
use Rattle.object_elf.specs.Fitting.{FitsElf, HasContents}
use Rattle.byte_core.proofs.StringTables.{length-string_bytes_of}
use Rattle.object_elf.proofs.PartCases.{front_count, PartCase, Relocates, part_case}
use Rattle.object_elf.proofs.PartCases.PartCase.{is_content, is_note, is_relocations, is_symbols, is_symbol_strings, is_section_strings}
use Rattle.byte_core.proofs.Agreeing.{AreFiles, Agree, agree_all, agree_at, agree_told}
use Rattle.object_elf.proofs.Same.{agree_header, agree_section_row, agree_symbol_row, agree_relocation_row}

-- ---- where parts end

end_after-le : (end : ℕ) (p : Part) (b : Bool) → end ≤ cond b (next_multiple_of end p.align + p.size) end
end_after-le end p true = omega arith
end_after-le end p false = omega arith

start_after-le : (end : ℕ) (p : Part) (b : Bool) → end ≤ cond b (next_multiple_of end p.align) end
start_after-le end p true = omega arith
start_after-le end p false = omega arith

fold-le : (at : ℕ) (ps : List Part) → at ≤ fold end_after at ps
fold-le at [] = omega arith
fold-le at (p ∷ ps) = omega (arith, fold-le (end_after at p) ps, end_after-le at p (is_stored p))

fold_take-le : (at : ℕ) (ps : List Part) (k : ℕ) → fold end_after at (take k ps) ≤ fold end_after at ps
fold_take-le at ps zero = fold-le at ps
fold_take-le at [] (suc k) = omega arith
fold_take-le at (p ∷ ps) (suc k) = fold_take-le (end_after at p) ps k

fold_next : (at : ℕ) (ps : List Part) (k : ℕ) (p : Part) → slice_get ps k ≡ Some p → fold end_after at (take (suc k) ps) ≡ end_after (fold end_after at (take k ps)) p
fold_next at [] zero p e = absurd (cc)
fold_next at [] (suc k) p e = absurd (cc)
fold_next at (q ∷ ps) zero p e = let same : q ≡ p = cc in ap (end_after at) same
fold_next at (q ∷ ps) (suc k) p e = fold_next (end_after at q) ps k p e

end_next : (ps : List Part) (k : ℕ) (p : Part) → slice_get ps k ≡ Some p → end_of_parts (take (suc k) ps) ≡ end_after (end_of_parts (take k ps)) p
unfolding end_of_parts
end_next ps k p e = fold_next 64 ps k p e

end_within : (ps : List Part) (k : ℕ) → end_of_parts (take k ps) ≤ end_of_parts ps
unfolding end_of_parts
end_within ps k = fold_take-le 64 ps k

-- ---- what is held

-- both files hold the table
record Both (b c : List ℕ) (t : ElfTable) : Type 0 where
  files : AreFiles b c
  first : ElfHolds b t
  second : ElfHolds c t

length_is : (b c : List ℕ) (t : ElfTable) → Both b c t → length b ≡ file_length t
length_is b c t h = h.first.end

-- a part starts where its header tells
offset_is : (b : List ℕ) (t : ElfTable) (k row : ℕ) (p : Part) → ElfHolds b t → slice_get (parts_of t) k ≡ Some p → k + 1 ≡ row → part_offset b t row ≡ start_of (parts_of t) k p
offset_is b t k row p h e n = ap (part_offset b t) (sym n) ∙ ap (λ (r : ElfSectionRow). r.offset) (h.sections k p e)

-- it ends there, where it is stored
stored_end : (end : ℕ) (p : Part) → is_stored p ≡ true → end_after end p ≡ start_after end p + p.size
stored_end end p e = rw e refl

unstored_end : (end : ℕ) (p : Part) → is_stored p ≡ false → end_after end p ≡ start_after end p
unstored_end end p e = rw e refl

pub stored_yes : (b : List ℕ) (row : ElfSectionRow) → has_bytes row ≡ true → stored_bytes b row ≡ bytes_at b row.offset row.size
stored_yes b row h = rw h refl

stored_at : (b : List ℕ) (t : ElfTable) (k : ℕ) (s : ElfTableSection) → ElfHolds b t → slice_get t.sections k ≡ Some s → slice_get (parts_of t) k ≡ Some (content_part s) → s.sh_type ≡ 1
    → bytes_at b (start_of (parts_of t) k (content_part s)) s.size ≡ s.contents
stored_at b t k s h e at one =
    let told : row_at b t (k + 1) ≡ row_for t k (content_part s) = h.sections k (content_part s) at in
    let stored : has_bytes (row_for t k (content_part s)) ≡ true = rw one refl in
    sym (stored_yes b (row_for t k (content_part s)) stored) ∙ ap (stored_bytes b) (sym told) ∙ h.contents k s e

-- ---- the parts, one after the other

abbrev before : ElfTable → ℕ → ℕ
before t k = end_of_parts (take k (parts_of t))

content_agrees : (b c : List ℕ) (t : ElfTable) (k : ℕ) (s : ElfTableSection) → Both b c t → slice_get t.sections k ≡ Some s → slice_get (parts_of t) k ≡ Some (content_part s) → HasContents s
    → Agree b c (start_of (parts_of t) k (content_part s)) → Agree b c (end_after (before t k) (content_part s))
content_agrees b c t k s h e at (inl one) a =
    agree_told b c s.contents (start_of (parts_of t) k (content_part s)) s.size (end_after (before t k) (content_part s)) a (stored_at b t k s h.first e at one.0) (stored_at c t k s h.second e at one.0)
    (sym (stored_end (before t k) (content_part s) (rw one.0 refl)))
content_agrees b c t k s h e at (inr eight) a = agree_at b c (start_of (parts_of t) k (content_part s)) (end_after (before t k) (content_part s)) (sym (unstored_end (before t k) (content_part s) (rw eight.0 refl))) a

-- the records of a section
records_agree : (b c : List ℕ) (t : ElfTable) (n row from : ℕ) (s : ElfTableSection) → Both b c t → slice_get t.sections n ≡ Some s → relocations_row t n ≡ row → part_offset b t row ≡ from → part_offset c t row ≡ from
    → from + 24 * length s.relocations ≤ length b → Agree b c from → (m : ℕ) → m ≤ length s.relocations → Agree b c (from + 24 * m)
records_agree b c t n row from s h e here first second room a zero l = agree_at b c from (from + 24 * 0) (omega arith) a
records_agree b c t n row from s h e here first second room a (suc m) l =
    let r = get_exists s.relocations m (omega (arith, l)) in
    let at : (d : List ℕ) → ElfHolds d t → part_offset d t row ≡ from → relocation_row_at d (from + 24 * m) ≡ _ = λ d held told. ap (λ p. relocation_row_at d (p + 24 * m)) (sym told ∙ ap (part_offset d t) (sym here)) ∙ held.relocations n s e m r.0 r.1 in
    agree_relocation_row b c (from + 24 * m) (from + 24 * suc m) h.files (records_agree b c t n row from s h e here first second room a m (omega (arith, l))) (omega (arith, room, l))
    (at b h.first first ∙ sym (at c h.second second)) (omega arith)

-- the rows of symbols behind the null row
symbols_agree : (b c : List ℕ) (t : ElfTable) (from : ℕ) → Both b c t → part_offset b t (symbol_table_row t) ≡ from → part_offset c t (symbol_table_row t) ≡ from
    → from + 24 * (length t.symbols + 1) ≤ length b → Agree b c from → (m : ℕ) → m ≤ length t.symbols → Agree b c (from + 24 * (m + 1))
symbols_agree b c t from h first second room a zero l =
    let at : (d : List ℕ) → ElfHolds d t → part_offset d t (symbol_table_row t) ≡ from → symbol_row_at d from ≡ _ = λ d held told. ap (symbol_row_at d) (sym told) ∙ held.no_symbol in
    agree_symbol_row b c from (from + 24 * (0 + 1)) h.files a (omega (arith, room)) (at b h.first first ∙ sym (at c h.second second)) (omega arith)
symbols_agree b c t from h first second room a (suc m) l =
    let s = get_exists t.symbols m (omega (arith, l)) in
    let at : (d : List ℕ) → ElfHolds d t → part_offset d t (symbol_table_row t) ≡ from → symbol_row_at d (from + 24 * (m + 1)) ≡ _ = λ d held told. ap (λ p. symbol_row_at d (p + 24 * (m + 1))) (sym told) ∙ held.symbols m s.0 s.1 in
    agree_symbol_row b c (from + 24 * (m + 1)) (from + 24 * (suc m + 1)) h.files (symbols_agree b c t from h first second room a m (omega (arith, l))) (omega (arith, room, l))
    (at b h.first first ∙ sym (at c h.second second)) (omega arith)

-- the names of a string section
strings_agree : (b c : List ℕ) (names : List (List ℕ)) (p q first second : ℕ) → Agree b c p → first ≡ p → second ≡ p → bytes_at b first (length (string_bytes_of names)) ≡ string_bytes_of names
    → bytes_at c second (length (string_bytes_of names)) ≡ string_bytes_of names
    → p + strings_size names ≡ q → Agree b c q
strings_agree b c names p q first second a m n e f end =
    agree_told b c (string_bytes_of names) p (length (string_bytes_of names)) q a (rw m at e) (rw n at f) (omega (arith, length-string_bytes_of names, end))

-- the part with its room
record Here (b : List ℕ) (t : ElfTable) (k : ℕ) (p : Part) : Type 0 where
  at : slice_get (parts_of t) k ≡ Some p
  room : end_after (before t k) p ≤ length b

relocations_agree : (b c : List ℕ) (t : ElfTable) (k j : ℕ) (p : Part) → Both b c t → Here b t k p → length t.sections + (1 + j) ≡ k → Relocates t 1 t.sections j p → Agree b c (start_of (parts_of t) k p) → Agree b c (end_after (before t k) p)
relocations_agree b c t k j p h here place r a =
    let row : relocations_row t r.number ≡ k + 1 = omega (arith, place, r.place) in
    let from : ℕ = start_of (parts_of t) k p in
    let size : p.size ≡ 24 * length r.section.relocations = ap (λ (x : Part). x.size) (sym r.part) in
    let stored : is_stored p ≡ true = rw (← r.part) refl in
    let end : from + 24 * length r.section.relocations ≡ end_after (before t k) p = ap (λ n. from + n) (sym size) ∙ sym (stored_end (before t k) p stored) in
    agree_at b c (from + 24 * length r.section.relocations) (end_after (before t k) p) end
    (records_agree b c t r.number (k + 1) from r.section h r.at row (offset_is b t k (k + 1) p h.first here.at refl) (offset_is c t k (k + 1) p h.second here.at refl) (omega (arith, end, here.room)) a (length r.section.relocations) (omega arith))

-- a part of this size
sized_end : (t : ElfTable) (k size : ℕ) (p : Part) → is_stored p ≡ true → p.size ≡ size → start_of (parts_of t) k p + size ≡ end_after (before t k) p
sized_end t k size p stored e = ap (λ n. start_of (parts_of t) k p + n) (sym e) ∙ sym (stored_end (before t k) p stored)

note_agrees : (b c : List ℕ) (t : ElfTable) (k : ℕ) (p : Part) → note_part ≡ p → Agree b c (start_of (parts_of t) k p) → Agree b c (end_after (before t k) p)
note_agrees b c t k p same a =
    let end : start_of (parts_of t) k p + 0 ≡ end_after (before t k) p = sized_end t k 0 p (rw (← same) refl) (rw (← same) refl) in
    agree_at b c (start_of (parts_of t) k p) (end_after (before t k) p) (omega (arith, end)) a

table_agrees : (b c : List ℕ) (t : ElfTable) (k : ℕ) (p : Part) → Both b c t → Here b t k p → front_count t ≡ k → symbol_part t ≡ p → Agree b c (start_of (parts_of t) k p) → Agree b c (end_after (before t k) p)
table_agrees b c t k p h here place same a =
    let from : ℕ = start_of (parts_of t) k p in
    let row : k + 1 ≡ symbol_table_row t = omega (arith, place) in
    let end : from + 24 * (length t.symbols + 1) ≡ end_after (before t k) p = sized_end t k (24 * (length t.symbols + 1)) p (rw (← same) refl) (rw (← same) refl) in
    agree_at b c (from + 24 * (length t.symbols + 1)) (end_after (before t k) p) end
    (symbols_agree b c t from h (offset_is b t k (symbol_table_row t) p h.first here.at row) (offset_is c t k (symbol_table_row t) p h.second here.at row) (omega (arith, end, here.room)) a (length t.symbols) (omega arith))

part_agrees : (b c : List ℕ) (t : ElfTable) (k : ℕ) (p : Part) → FitsElf t → Both b c t → Here b t k p → PartCase t k p → Agree b c (start_of (parts_of t) k p) → Agree b c (end_after (before t k) p)
part_agrees b c t k p f h here (is_content s e same) a =
    subst (λ q. slice_get (parts_of t) k ≡ Some q → Agree b c (start_of (parts_of t) k q) → Agree b c (end_after (before t k) q)) same (λ at x. content_agrees b c t k s h e at (f.sections k s e).contents x) here.at a
part_agrees b c t k p f h here (is_note same) a = note_agrees b c t k p same a
part_agrees b c t k p f h here (is_relocations j place r) a = relocations_agree b c t k j p h here place r a
part_agrees b c t k p f h here (is_symbols place same) a = table_agrees b c t k p h here place same a
part_agrees b c t k p f h here (is_symbol_strings place same) a =
    let row : k + 1 ≡ symbol_table_row t + 1 = omega (arith, place) in
    strings_agree b c (symbol_names t) (start_of (parts_of t) k p) (end_after (before t k) p) _ _ a
    (offset_is b t k (symbol_table_row t + 1) p h.first here.at row) (offset_is c t k (symbol_table_row t + 1) p h.second here.at row) h.first.symbol_texts h.second.symbol_texts
    (sized_end t k (strings_size (symbol_names t)) p (rw (← same) refl) (rw (← same) refl))
part_agrees b c t k p f h here (is_section_strings place same) a =
    let row : k + 1 ≡ symbol_table_row t + 2 = omega (arith, place) in
    strings_agree b c (section_names t) (start_of (parts_of t) k p) (end_after (before t k) p) _ _ a
    (offset_is b t k (symbol_table_row t + 2) p h.first here.at row) (offset_is c t k (symbol_table_row t + 2) p h.second here.at row) h.first.section_texts h.second.section_texts
    (sized_end t k (strings_size (section_names t)) p (rw (← same) refl) (rw (← same) refl))

ends_inside : (b c : List ℕ) (t : ElfTable) → Both b c t → end_of_parts (parts_of t) ≤ headers_start t
ends_inside b c t h = omega arith

agree_first : (b c : List ℕ) (t : ElfTable) → Both b c t → Agree b c (end_of_parts [])
unfolding end_of_parts
agree_first b c t h = agree_header b c h.files h.first.file.header (h.first.header ∙ sym h.second.header)

agree_before : (b c : List ℕ) (t : ElfTable) → FitsElf t → Both b c t → (k : ℕ) → k ≤ length (parts_of t) → Agree b c (before t k)
agree_before b c t f h zero l = agree_first b c t h
agree_before b c t f h (suc k) l =
    let found = get_exists (parts_of t) k (omega (arith, l)) in
    let p = found.0 in
    let next : before t (suc k) ≡ end_after (before t k) p = end_next (parts_of t) k p found.1 in
    let start : before t k ≤ start_of (parts_of t) k p = start_after-le (before t k) p (is_stored p) in
    let gap : before t k + (start_of (parts_of t) k p - before t k) ≡ start_of (parts_of t) k p = omega (arith, start) in
    let here : Here b t k p = record { at = found.1; room = omega (arith, next, end_within (parts_of t) (suc k), ends_inside b c t h, length_is b c t h) } in
    let behind : Agree b c (start_of (parts_of t) k p) =
    agree_told b c (replicate (start_of (parts_of t) k p - before t k) 0) (before t k) (start_of (parts_of t) k p - before t k) (start_of (parts_of t) k p)
    (agree_before b c t f h k (omega (arith, l))) (h.first.padding k p found.1) (h.second.padding k p found.1) gap in
    agree_at b c (end_after (before t k) p) (before t (suc k)) (sym next) (part_agrees b c t k p f h here (part_case t k p found.1) behind)

-- ---- the headers behind them

agree_headers : (b c : List ℕ) (t : ElfTable) → FitsElf t → Both b c t → Agree b c (headers_start t)
agree_headers b c t f h =
    let all : before t (length (parts_of t)) ≡ end_of_parts (parts_of t) = ap end_of_parts (take_all (length (parts_of t)) (parts_of t) (omega arith)) in
    let n : ℕ = headers_start t - end_of_parts (parts_of t) in
    let ends : Agree b c (end_of_parts (parts_of t)) = agree_at b c (before t (length (parts_of t))) (end_of_parts (parts_of t)) all (agree_before b c t f h (length (parts_of t)) (omega arith)) in
    agree_told b c (replicate n 0) (end_of_parts (parts_of t)) n (headers_start t) ends h.first.padding_end h.second.padding_end (omega (arith, ends_inside b c t h))

agree_rows : (b c : List ℕ) (t : ElfTable) → FitsElf t → Both b c t → (k : ℕ) → k ≤ length (parts_of t) → Agree b c (headers_start t + 64 * (k + 1))
agree_rows b c t f h zero l =
    agree_section_row b c (headers_start t + 64 * 0) (headers_start t + 64 * (0 + 1)) h.files (agree_at b c (headers_start t) (headers_start t + 64 * 0) (omega arith) (agree_headers b c t f h)) (omega (arith, length_is b c t h))
    (h.first.no_section ∙ sym h.second.no_section) (omega arith)
agree_rows b c t f h (suc k) l =
    let found = get_exists (parts_of t) k (omega (arith, l)) in
    agree_section_row b c (headers_start t + 64 * (k + 1)) (headers_start t + 64 * (suc k + 1)) h.files (agree_rows b c t f h k (omega (arith, l))) (omega (arith, l, length_is b c t h))
    (h.first.sections k found.0 found.1 ∙ sym (h.second.sections k found.0 found.1)) (omega arith)

both_same : (b c : List ℕ) (t : ElfTable) → FitsElf t → Both b c t → b ≡ c
both_same b c t f h =
    agree_all b c (headers_start t + 64 * (length (parts_of t) + 1)) h.files (omega (arith, length_is b c t h)) (agree_rows b c t f h (length (parts_of t)) (omega arith))

-- a table that fits has one file alone
pub one_file : (t : ElfTable) (b c : List ℕ) → FitsElf t → All (λ x. x < 256) b → All (λ x. x < 256) c → ElfHolds b t → ElfHolds c t → b ≡ c
one_file t b c f first second held other = both_same b c t f (record { files = record { first = first; second = second; length = held.end ∙ sym other.end }; first = held; second = other })

-- Two files that hold one table are the same file.
use Rattle.std.proofs.Common.{◌≡◌, ℕ, zero, suc, ◌+◌, ◌-◌, ◌*◌, ◌<◌, ◌≤◌, List, Bool, true, false, cond, length, take, replicate, Option, Some, None, refl, ap, sym, ◌∙◌, arith}
use Rattle.std.specs.Prelude.{filter, slice_get}
use Rattle.std.specs.List.{All}
use Rattle.std.proofs.lemmas.List.Sums.{sum_by_push}
use Rattle.byte_core.specs.Strings.{strings_size}
use Rattle.byte_core.proofs.Lists.{get_exists, get_left, passing}
use Rattle.object_core.specs.declared.kinds.MachOBuildVersion.{MachOBuildVersion}
use Rattle.object_core.specs.LinkTable.{MachTable, MachTableSection}
use Rattle.object_macho.specs.Layout.{stored_contents, records_of, record_count, is_stored, end_of_sections, contents_size, version_size, version_place, symtab_place, data_start, relocations_start, records_start, symbols_start, strings_start, mach_names, mach_length}
use Rattle.object_macho.specs.MachHolds.{MachHolds}
use Rattle.object_macho.specs.Fitting.{FitsMach, is_unstored}
use Rattle.object_macho.proofs.Behind.{take_next, take_all, front_take, end_of_sections-end}
use Rattle.object_macho.proofs.Reading.{inside, counts_grow}
use Rattle.byte_core.proofs.Agreeing.{AreFiles, Agree, agree_all, agree_at, agree_told}
use Rattle.object_macho.proofs.Same.{agree_header, agree_command, agree_segment, agree_section, agree_version, agree_symtab, agree_symbol, agree_record}

-- both files hold the table
record Both (b c : List ℕ) (t : MachTable) : Type 0 where
  files : AreFiles b c
  first : MachHolds b t
  second : MachHolds c t

length_is : (b c : List ℕ) (t : MachTable) → Both b c t → length b ≡ mach_length t
length_is b c t h = h.first.end

-- -- header and commands

headers_agree : (b c : List ℕ) (t : MachTable) → Both b c t → (k : ℕ) → k ≤ length t.sections → Agree b c (104 + 80 * k)
headers_agree b c t h zero l =
    let i = inside t in
    let room : data_start t ≤ length b = omega (arith, length_is b c t h, i.start, i.records, i.symbols, i.strings) in
    let header = agree_header b c h.files (omega (arith, room)) (h.first.header ∙ sym h.second.header) in
    let command = agree_command b c 32 32 40 h.files header refl (omega (arith, room)) (h.first.segment_begins ∙ sym h.second.segment_begins) refl in
    agree_segment b c 32 40 104 h.files command refl (omega (arith, room)) (h.first.segment ∙ sym h.second.segment) refl
headers_agree b c t h (suc k) l =
    let i = inside t in
    let room : data_start t ≤ length b = omega (arith, length_is b c t h, i.start, i.records, i.symbols, i.strings) in
    let s = get_exists t.sections k (omega (arith, l)) in
    let row = h.first.sections k s.0 s.1 ∙ sym (h.second.sections k s.0 s.1) in
    agree_section b c (32 + 72 + 80 * k) (104 + 80 * k) (104 + 80 * suc k) h.files (headers_agree b c t h k (omega (arith, l))) (omega arith) (omega (arith, room, l)) row (omega arith)

version_by : (b c : List ℕ) (t : MachTable) (v : Option MachOBuildVersion) → t.build_version ≡ v → Both b c t → Agree b c (version_place t) → Agree b c (symtab_place t)
version_by b c t None e h a = agree_at b c (version_place t) (symtab_place t) (omega (arith, ap version_size e)) a
version_by b c t (Some v) e h a =
    let i = inside t in
    let room : data_start t ≤ length b = omega (arith, length_is b c t h, i.start, i.records, i.symbols, i.strings) in
    let place : version_place t + 24 ≡ symtab_place t = omega (arith, ap version_size e) in
    let command = agree_command b c (version_place t) (version_place t) (version_place t + 8) h.files a (omega arith) (omega (arith, room, place)) (h.first.version_begins v e ∙ sym (h.second.version_begins v e)) refl in
    agree_version b c (version_place t) (version_place t + 8) (symtab_place t) h.files command refl (omega (arith, room)) (h.first.version v e ∙ sym (h.second.version v e)) (omega (arith, place))

commands_agree : (b c : List ℕ) (t : MachTable) → Both b c t → Agree b c (data_start t)
commands_agree b c t h =
    let i = inside t in
    let room : data_start t ≤ length b = omega (arith, length_is b c t h, i.start, i.records, i.symbols, i.strings) in
    let headers = agree_at b c (104 + 80 * length t.sections) (version_place t) (omega arith) (headers_agree b c t h (length t.sections) (omega arith)) in
    let version = version_by b c t t.build_version refl h headers in
    let command = agree_command b c (symtab_place t) (symtab_place t) (symtab_place t + 8) h.files version (omega arith) (omega (arith, room)) (h.first.symtab_begins ∙ sym h.second.symtab_begins) refl in
    agree_symtab b c (symtab_place t) (symtab_place t + 8) (data_start t) h.files command refl room (h.first.symtab ∙ sym h.second.symtab) (omega arith)

-- -- contents

sized : (b : Bool) (n size : ℕ) → b ≡ true → n ≡ cond b size 0 → n ≡ size
sized true n size e h = h
sized false n size e h = absurd (cc)

contents_agree : (b c : List ℕ) (t : MachTable) → FitsMach t → Both b c t → (k : ℕ) → k ≤ length (filter is_stored t.sections) → Agree b c (data_start t + end_of_sections (take k t.sections))
unfolding end_of_sections
contents_agree b c t f h zero l = agree_at b c (data_start t) (data_start t + 0) (omega arith) (commands_agree b c t h)
contents_agree b c t f h (suc k) l =
    let ss = t.sections in
    let x = get_exists (filter is_stored ss) k (omega (arith, l)) in
    let s = x.0 in
    let stored = (passing is_stored ss k s x.1).passes in
    let at : slice_get ss k ≡ Some s = ap (λ (xs : List MachTableSection). slice_get xs k) f.order ∙ get_left (filter is_stored ss) (filter is_unstored ss) k s x.1 in
    let before = contents_agree b c t f h k (omega (arith, l)) in
    let start = f.places k s at in
    let from = data_start t + end_of_sections (take k ss) in
    let padded = agree_told b c (replicate (data_start t + s.address - from) 0) from (data_start t + s.address - from) (data_start t + s.address) before (h.first.padding k s at stored) (h.second.padding k s at stored) (omega (arith, start)) in
    let size = sized (is_stored s) (length s.contents) s.size stored (f.sections k s at).contents in
    let next : end_of_sections (take (suc k) ss) ≡ s.address + s.size = ap end_of_sections (take_next ss k s at) ∙ end_of_sections-end (take k ss) s in
    agree_told b c (stored_contents t.cputype s) (data_start t + s.address) (length s.contents) (data_start t + end_of_sections (take (suc k) ss)) padded (h.first.contents k s at) (h.second.contents k s at) (omega (arith, size, next))

-- -- records

record_counted : (cputype : ℕ) (ss : List MachTableSection) (k : ℕ) (s : MachTableSection) → slice_get ss k ≡ Some s → record_count cputype (take (suc k) ss) ≡ record_count cputype (take k ss) + length (records_of cputype s)
record_counted cputype ss k s e = ap (record_count cputype) (take_next ss k s e) ∙ sum_by_push (λ (x : MachTableSection). length (records_of cputype x)) (take k ss) s

section_agrees : (b c : List ℕ) (t : MachTable) → Both b c t → (k : ℕ) (s : MachTableSection) → slice_get t.sections k ≡ Some s → Agree b c (records_start t k) → (m : ℕ) → m ≤ length (records_of t.cputype s) → Agree b c (records_start t k + 8 * m)
section_agrees b c t h k s e a zero l = agree_at b c (records_start t k) (records_start t k + 8 * 0) (omega arith) a
section_agrees b c t h k s e a (suc m) l =
    let i = inside t in
    let r = get_exists (records_of t.cputype s) m (omega (arith, l)) in
    let room : records_start t k + 8 * suc m ≤ length b = omega (arith, l, counts_grow t.cputype t.sections k s e, length_is b c t h, i.symbols, i.strings) in
    agree_record b c (records_start t k + 8 * m) (records_start t k + 8 * suc m) h.files (section_agrees b c t h k s e a m (omega (arith, l))) room (h.first.records k s e m r.0 r.1 ∙ sym (h.second.records k s e m r.0 r.1)) (omega arith)

records_agree : (b c : List ℕ) (t : MachTable) → Both b c t → Agree b c (relocations_start t) → (k : ℕ) → k ≤ length t.sections → Agree b c (records_start t k)
records_agree b c t h a zero l = agree_at b c (relocations_start t) (records_start t 0) (omega arith) a
records_agree b c t h a (suc k) l =
    let s = get_exists t.sections k (omega (arith, l)) in
    let own = section_agrees b c t h k s.0 s.1 (records_agree b c t h a k (omega (arith, l))) (length (records_of t.cputype s.0)) (omega arith) in
    agree_at b c (records_start t k + 8 * length (records_of t.cputype s.0)) (records_start t (suc k)) (omega (arith, record_counted t.cputype t.sections k s.0 s.1)) own

-- -- symbols and names

symbols_agree : (b c : List ℕ) (t : MachTable) → Both b c t → Agree b c (symbols_start t) → (k : ℕ) → k ≤ length t.symbols → Agree b c (symbols_start t + 16 * k)
symbols_agree b c t h a zero l = agree_at b c (symbols_start t) (symbols_start t + 16 * 0) (omega arith) a
symbols_agree b c t h a (suc k) l =
    let s = get_exists t.symbols k (omega (arith, l)) in
    let room : symbols_start t + 16 * suc k ≤ length b = omega (arith, l, length_is b c t h, (inside t).strings) in
    agree_symbol b c (symbols_start t + 16 * k) (symbols_start t + 16 * k) (symbols_start t + 16 * suc k) h.files (symbols_agree b c t h a k (omega (arith, l))) (omega arith) room (h.first.symbols k s.0 s.1 ∙ sym (h.second.symbols k s.0 s.1)) (omega arith)

-- -- the whole

stored_end : (t : MachTable) → FitsMach t → end_of_sections (take (length (filter is_stored t.sections)) t.sections) ≡ contents_size t
stored_end t f = ap end_of_sections (front_take t f (length (filter is_stored t.sections)) (omega arith) ∙ take_all (filter is_stored t.sections))

both_same : (b c : List ℕ) (t : MachTable) → FitsMach t → Both b c t → b ≡ c
both_same b c t f h =
    let n = length (filter is_stored t.sections) in
    let from = data_start t + contents_size t in
    let contents = agree_at b c (data_start t + end_of_sections (take n t.sections)) from (omega (arith, stored_end t f)) (contents_agree b c t f h n (omega arith)) in
    let padded = agree_told b c (replicate (relocations_start t - from) 0) from (relocations_start t - from) (relocations_start t) contents h.first.padding_end h.second.padding_end (omega arith) in
    let all : records_start t (length t.sections) ≡ symbols_start t = ap (λ (ss : List MachTableSection). relocations_start t + 8 * record_count t.cputype ss) (take_all t.sections) in
    let records = agree_at b c (records_start t (length t.sections)) (symbols_start t) all (records_agree b c t h padded (length t.sections) (omega arith)) in
    let symbols = symbols_agree b c t h records (length t.symbols) (omega arith) in
    let strings = agree_told b c _ (strings_start t) (strings_size (mach_names t)) (mach_length t) symbols h.first.strings h.second.strings refl in
    agree_all b c (mach_length t) h.files (omega (arith, length_is b c t h)) strings

-- a table that fits has one file alone
pub one_file : (t : MachTable) (b c : List ℕ) → FitsMach t → All (λ x. x < 256) b → All (λ x. x < 256) c → MachHolds b t → MachHolds c t → b ≡ c
one_file t b c f first second held other = both_same b c t f (record { files = record { first = first; second = second; length = held.end ∙ sym other.end }; first = held; second = other })

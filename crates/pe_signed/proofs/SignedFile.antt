-- The ranges of a signed file, joined, are its signed bytes.
use Rattle.std.proofs.Common.{◌≡◌, ℕ, suc, ◌+◌, ◌-◌, ◌<◌, ◌≤◌, Bool, true, false, List, [], ◌∷◌, ◌++◌, refl, ap, arith, sym, ◌∙◌, nat_lt, nat_le, ◌==◌, ◌&&◌, not, length, drop, map, replicate, if◌then◌else◌, cond, append_assoc, append-nil, Option, Some, None, Ok}
use Rattle.std.specs.Prelude.{filter, position, sum_by}
use Rattle.std.specs.List.{concat}
use Rattle.std.proofs.Math.Seq.{take-add}
use Rattle.std.proofs.lemmas.List.{drop-drop, length-take-le, length-drop, take_all}
use Rattle.std.proofs.lemmas.List.Folds.{concat-append}
use Rattle.std.proofs.lemmas.List.Sums.{sum_by-cons}
use Rattle.byte_core.specs.Number.{bytes_at}
use Rattle.pe_core.specs.declared.section_table.SectionTable.{SectionTable}
use Rattle.pe_signed.specs.declared.authenticode.ExcludedSections.{ExcludedSections}
use Rattle.pe_core.specs.declared.pe_error.Case.TheVariants.{HeaderPlaces, CertificateRange}
use Rattle.pe_core.specs.Steps.{◌>>=◌, demand}
use Rattle.pe_core.specs.Steps.{bytes_between}
use Rattle.pe_signed.specs.SignedRanges.{is_filled, placed_among, by_pointer, section_bytes, bytes_hashed, is_outside, are_in_order, are_certificates_inside, sections_inside, extra_ranges, fill_of, fill_ranges, ranges_of, checked_ranges, signed_ranges}
use Rattle.pe_signed.specs.SignedFile.{is_between, bytes_where, signed, LieEndToEnd, FillFrom}

abbrev size_of : SectionTable → ℕ
size_of s = s.size_of_raw_data

-- ---- bytes of a file by places

pub bytes_join : (b : List ℕ) (p n m : ℕ) → bytes_at b p n ++ bytes_at b (p + n) m ≡ bytes_at b p (n + m)
unfolding bytes_at
bytes_join b p n m = rw (← drop-drop n p b) (sym (take-add n m (drop p b)))

between_join : (b : List ℕ) (p q r : ℕ) → p ≤ q → q ≤ r → bytes_between b p q ++ bytes_between b q r ≡ bytes_between b p r
between_join b p q r h k =
    let there : p + (q - p) ≡ q = omega (arith, h) in
    let whole : (q - p) + (r - q) ≡ r - p = omega (arith, h, k) in
    let joined = bytes_join b p (q - p) (r - q) in
    rw (there, whole) at joined

length_between : (b : List ℕ) (p q : ℕ) → p ≤ q → q ≤ length b → length (bytes_between b p q) ≡ q - p
unfolding bytes_at
length_between b p q h k = length-take-le (q - p) (drop p b) (rw (length-drop p b) (omega (arith, h, k)))

nothing_between : (b : List ℕ) (p q : ℕ) → q ≤ p → [] ≡ bytes_between b p q
unfolding bytes_at
nothing_between b p q h = let none : q - p ≡ 0 = omega (arith, h) in rw none refl

-- ---- sections

end_to_end : (b : List ℕ) (at : ℕ) (ss : List SectionTable) → LieEndToEnd at ss → concat (map (section_bytes b) ss) ≡ bytes_at b at (sum_by size_of ss)
unfolding bytes_at
end_to_end b at [] h = refl
end_to_end b at (s ∷ ss) h =
    rw (sum_by-cons size_of s ss, end_to_end b (at + s.size_of_raw_data) ss h.1, h.0) (bytes_join b at s.size_of_raw_data (sum_by size_of ss))

swapped : (a b c : ℕ) → a + (b + c) ≡ b + (a + c)
swapped a b c = omega arith

sum_placed_step : (s t : SectionTable) (ts : List SectionTable) (b : Bool) → sum_by size_of (placed_among s ts) ≡ size_of s + sum_by size_of ts
    → sum_by size_of (if b then s ∷ t ∷ ts else t ∷ placed_among s ts) ≡ size_of s + sum_by size_of (t ∷ ts)
sum_placed_step s t ts true h = sum_by-cons size_of s (t ∷ ts)
sum_placed_step s t ts false h = rw (sum_by-cons size_of t (placed_among s ts), sum_by-cons size_of t ts, h) (swapped (size_of t) (size_of s) (sum_by size_of ts))

sum_placed : (s : SectionTable) (ss : List SectionTable) → sum_by size_of (placed_among s ss) ≡ size_of s + sum_by size_of ss
unfolding placed_among
sum_placed s [] = sum_by-cons size_of s []
sum_placed s (t ∷ ts) = sum_placed_step s t ts (nat_le s.pointer_to_raw_data t.pointer_to_raw_data) (sum_placed s ts)

sum_ordered : (ss : List SectionTable) → sum_by size_of (by_pointer ss) ≡ sum_by size_of ss
unfolding by_pointer
sum_ordered [] = refl
sum_ordered (s ∷ ss) = rw (sum_placed s (by_pointer ss), sum_by-cons size_of s ss, sum_ordered ss) refl

sum_filled_step : (s : SectionTable) (ss : List SectionTable) (b : Bool) → is_filled s ≡ b → sum_by size_of (filter is_filled ss) ≡ sum_by size_of ss → sum_by size_of (cond b (s ∷ filter is_filled ss) (filter is_filled ss)) ≡ sum_by size_of (s ∷ ss)
sum_filled_step s ss true e h = rw (sum_by-cons size_of s (filter is_filled ss), sum_by-cons size_of s ss, h) refl
sum_filled_step s ss false e h =
    let empty : size_of s ≡ 0 = grind (arith, e) in
    rw (sum_by-cons size_of s ss, empty, h) (omega arith)

sum_filled : (ss : List SectionTable) → sum_by size_of (filter is_filled ss) ≡ sum_by size_of ss
sum_filled [] = refl
sum_filled (s ∷ ss) = sum_filled_step s ss (is_filled s) refl (sum_filled ss)

-- ---- the bytes that pass a test

append_step : (x : ℕ) (one both other : List ℕ) (b : Bool) → both ≡ one ++ other → (if b then x ∷ both else both) ≡ (if b then x ∷ one else one) ++ other
append_step x one both other true h = ap (λ xs. x ∷ xs) h
append_step x one both other false h = h

one_on : (p n : ℕ) → p + suc n ≡ p + 1 + n
one_on p n = omega arith

where_append : (test : ℕ → Bool) (p : ℕ) (xs ys : List ℕ) → bytes_where test p (xs ++ ys) ≡ bytes_where test p xs ++ bytes_where test (p + length xs) ys
unfolding bytes_where
where_append test p [] ys = let same : p + 0 ≡ p = omega arith in rw same refl
where_append test p (x ∷ xs) ys =
    rw (one_on p (length xs))
    (append_step x (bytes_where test (p + 1) xs) (bytes_where test (p + 1) (xs ++ ys)) (bytes_where test (p + 1 + length xs) ys) (test p) (where_append test (p + 1) xs ys))

where_all : (test : ℕ → Bool) (p : ℕ) (xs : List ℕ) → ((k : ℕ) → p ≤ k → k < p + length xs → test k ≡ true) → bytes_where test p xs ≡ xs
unfolding bytes_where
where_all test p [] h = refl
where_all test p (x ∷ xs) h =
    rw (h p (omega arith) (omega arith), where_all test (p + 1) xs (λ k a b. h k (omega (arith, a)) (omega (arith, b)))) refl

where_none : (test : ℕ → Bool) (p : ℕ) (xs : List ℕ) → ((k : ℕ) → p ≤ k → k < p + length xs → test k ≡ false) → bytes_where test p xs ≡ []
unfolding bytes_where
where_none test p [] h = refl
where_none test p (x ∷ xs) h =
    rw (h p (omega arith) (omega arith), where_none test (p + 1) xs (λ k a b. h k (omega (arith, a)) (omega (arith, b)))) refl

split_at : (test : ℕ → Bool) (b : List ℕ) (p q r : ℕ) → p ≤ q → q ≤ r → r ≤ length b
    → bytes_where test p (bytes_between b p r) ≡ bytes_where test p (bytes_between b p q) ++ bytes_where test q (bytes_between b q r)
split_at test b p q r h k l =
    let there : p + (q - p) ≡ q = omega (arith, h) in
    let len : length (bytes_between b p q) ≡ q - p = length_between b p q h (omega (arith, k, l)) in
    let whole = where_append test p (bytes_between b p q) (bytes_between b q r) in
    rw (between_join b p q r h k, len, there) at whole

-- all of a stretch passes, or none
pass_all : (test : ℕ → Bool) (b : List ℕ) (p q : ℕ) → p ≤ q → q ≤ length b → ((k : ℕ) → p ≤ k → k < q → test k ≡ true) → bytes_where test p (bytes_between b p q) ≡ bytes_between b p q
pass_all test b p q h k pass =
    let len = length_between b p q h k in
    where_all test p (bytes_between b p q) (λ n from before. pass n from (omega (arith, before, len, h)))

pass_none : (test : ℕ → Bool) (b : List ℕ) (p q : ℕ) → p ≤ q → q ≤ length b → ((k : ℕ) → p ≤ k → k < q → test k ≡ false) → bytes_where test p (bytes_between b p q) ≡ []
pass_none test b p q h k pass =
    let len = length_between b p q h k in
    where_none test p (bytes_between b p q) (λ n from before. pass n from (omega (arith, before, len, h)))

-- the places of a file in order, with the certificates behind them
record InOrder (cs ce es ee h size n : ℕ) : Type 0 where
  checksum : cs ≤ ce
  between : ce ≤ es
  entry : es ≤ ee
  header : ee ≤ h
  behind : h + size ≤ n

abbrev test_of : ℕ → ℕ → ℕ → ℕ → ℕ → ℕ → ℕ → Bool
test_of cs ce es ee size n p = not (is_between cs ce p) && not (is_between es ee p) && nat_lt (p + size) n

is_in : (cs ce es ee size n k : ℕ) → ((cs ≤ k → ce ≤ k) × (es ≤ k → ee ≤ k) × (k + size < n)) → test_of cs ce es ee size n k ≡ true
is_in cs ce es ee size n k h = grind (arith, h.0, h.1, h.2)

whole_between : (b : List ℕ) → bytes_between b 0 (length b) ≡ b
unfolding bytes_at
whole_between b = let same : length b - 0 ≡ length b = omega arith in rw same (take_all (length b) b (omega arith))

signed_parts : (b : List ℕ) (cs ce es ee h size : ℕ) → InOrder cs ce es ee h size (length b)
    → bytes_where (test_of cs ce es ee size (length b)) 0 b ≡ bytes_between b 0 cs ++ (bytes_between b ce es ++ bytes_between b ee (length b - size))
signed_parts b cs ce es ee h size o =
    let n = length b in
    let m = n - size in
    let t : ℕ → Bool = test_of cs ce es ee size n in
    let first : bytes_where t 0 (bytes_between b 0 cs) ≡ bytes_between b 0 cs =
    pass_all t b 0 cs (omega arith) (omega (arith, o.checksum, o.between, o.entry, o.header, o.behind))
    (λ k from before. is_in cs ce es ee size n k ((λ a. omega (arith, a, before)), (λ a. omega (arith, a, before, o.checksum, o.between)), omega (arith, before, o.checksum, o.between, o.entry, o.header, o.behind))) in
    let second : bytes_where t cs (bytes_between b cs ce) ≡ [] =
    pass_none t b cs ce o.checksum (omega (arith, o.between, o.entry, o.header, o.behind)) (λ k from before. grind (arith, from, before)) in
    let third : bytes_where t ce (bytes_between b ce es) ≡ bytes_between b ce es =
    pass_all t b ce es o.between (omega (arith, o.entry, o.header, o.behind))
    (λ k from before. is_in cs ce es ee size n k ((λ a. from), (λ a. omega (arith, a, before)), omega (arith, before, o.entry, o.header, o.behind))) in
    let fourth : bytes_where t es (bytes_between b es ee) ≡ [] =
    pass_none t b es ee o.entry (omega (arith, o.header, o.behind)) (λ k from before. grind (arith, from, before)) in
    let fifth : bytes_where t ee (bytes_between b ee m) ≡ bytes_between b ee m =
    pass_all t b ee m (omega (arith, o.header, o.behind)) (omega arith)
    (λ k from before. is_in cs ce es ee size n k ((λ a. omega (arith, from, o.between, o.entry)), (λ a. from), omega (arith, before, o.behind))) in
    let sixth : bytes_where t m (bytes_between b m n) ≡ [] =
    pass_none t b m n (omega arith) (omega arith) (λ k from before. grind (arith, from, before)) in
    let to_ce = split_at t b 0 cs ce (omega arith) o.checksum (omega (arith, o.between, o.entry, o.header, o.behind)) in
    let to_es = split_at t b 0 ce es (omega arith) o.between (omega (arith, o.entry, o.header, o.behind)) in
    let to_ee = split_at t b 0 es ee (omega arith) o.entry (omega (arith, o.header, o.behind)) in
    let to_m = split_at t b 0 ee m (omega arith) (omega (arith, o.header, o.behind)) (omega arith) in
    let to_n = split_at t b 0 m n (omega arith) (omega arith) (omega arith) in
    let whole = rw (whole_between b) at to_n in
    whole ∙ rw (sixth, append-nil, to_m, fifth, to_ee, fourth, append-nil, to_es, third, to_ce, first, second, append-nil, append_assoc) refl

-- ---- the ranges that an accepted file gives

accepted_cases : (t : Bool) (o : Option ℕ) (u : Bool) (all ranges : List (List ℕ))
    → (demand t HeaderPlaces >>= λ _. (sections_inside o >>= λ _. (demand u CertificateRange >>= λ _. Ok all))) ≡ Ok ranges → (t ≡ true) × (ranges ≡ all)
accepted_cases true None true all ranges h = (refl, cc)
accepted_cases true None false all ranges h = absurd (cc)
accepted_cases true (Some i) u all ranges h = absurd (cc)
accepted_cases false o u all ranges h = absurd (cc)

accepted : (b : List ℕ) (sections : List SectionTable) (ex : ExcludedSections) (ranges : List (List ℕ)) → signed_ranges b sections (Some ex) ≡ Ok ranges
    → (are_in_order ex (length b) ≡ true) × (ranges ≡ ranges_of b sections ex)
unfolding checked_ranges
accepted b sections ex ranges h =
    accepted_cases (are_in_order ex (length b)) (position (is_outside (length b)) sections) (are_certificates_inside sections ex (length b)) (ranges_of b sections ex) ranges h

in_order : (cs ce es ee h size n : ℕ) → (nat_le cs ce && nat_le ce es && nat_le es ee && nat_le ee h && nat_le h n) ≡ true → h + size ≤ n → InOrder cs ce es ee h size n
in_order cs ce es ee h size n t behind = record { checksum = grind (arith, t); between = grind (arith, t); entry = grind (arith, t); header = grind (arith, t); behind = behind }

extra_bytes : (b : List ℕ) (sections : List SectionTable) (ex : ExcludedSections) → bytes_hashed sections ex + ex.certificate_table_size ≤ length b
    → concat (extra_ranges b sections ex) ≡ bytes_between b (bytes_hashed sections ex) (length b - ex.certificate_table_size)
extra_bytes b sections ex h = extra_step b (bytes_hashed sections ex) ex.certificate_table_size (nat_lt (bytes_hashed sections ex) (length b)) refl h
  where
    extra_step : (b : List ℕ) (total size : ℕ) (c : Bool) → nat_lt total (length b) ≡ c → total + size ≤ length b
        → concat (if c then bytes_between b total (length b - size) ∷ [] else []) ≡ bytes_between b total (length b - size)
    extra_step b total size true e h = append-nil _
    extra_step b total size false e h = nothing_between b total (length b - size) (grind (arith, e, h))

fill_bytes : (n : ℕ) → concat (fill_ranges n) ≡ replicate (fill_of n) 0
fill_bytes n = fill_step (fill_of n) (fill_of n == 0) refl
  where
    fill_step : (k : ℕ) (c : Bool) → (k == 0) ≡ c → concat (if c then [] else replicate k 0 ∷ []) ≡ replicate k 0
    fill_step k true e = let none : k ≡ 0 = grind (arith, e) in rw none refl
    fill_step k false e = append-nil _

stretch : (b : List ℕ) (h size : ℕ) → bytes_at b h size ≡ bytes_between b h (h + size)
stretch b h size = let same : h + size - h ≡ size = omega arith in rw same refl

front_stretch : (b : List ℕ) (n : ℕ) → bytes_at b 0 n ≡ bytes_between b 0 n
front_stretch b n = let same : n - 0 ≡ n = omega arith in rw same refl

-- header, sections and what is behind are one stretch
last_stretch : (b zeros : List ℕ) (ee h sizes m : ℕ) → ee ≤ h → h + sizes ≤ m
    → bytes_between b ee h ++ (bytes_at b h sizes ++ (bytes_between b (h + sizes) m ++ zeros)) ≡ bytes_between b ee m ++ zeros
last_stretch b zeros ee h sizes m one other =
    let inner : bytes_at b h sizes ++ (bytes_between b (h + sizes) m ++ zeros) ≡ bytes_between b h m ++ zeros =
    rw (stretch b h sizes, ← append_assoc (bytes_between b h (h + sizes)) (bytes_between b (h + sizes) m) zeros, between_join b h (h + sizes) m (omega arith) other) refl in
    rw (inner, ← append_assoc (bytes_between b ee h) (bytes_between b h m) zeros, between_join b ee h m one (omega (arith, other))) refl

pub signed_law : (b : List ℕ) (sections : List SectionTable) (ex : ExcludedSections) (ranges : List (List ℕ)) → signed_ranges b sections (Some ex) ≡ Ok ranges
    → FillFrom ex sections → bytes_hashed sections ex + ex.certificate_table_size ≤ length b → concat ranges ≡ signed b ex
unfolding ranges_of
signed_law b sections ex ranges accepts fill inside =
    let both = accepted b sections ex ranges accepts in
    let h = ex.end_image_header in
    let sizes = sum_by size_of sections in
    let m = length b - ex.certificate_table_size in
    let order = in_order ex.checksum.start ex.checksum.end ex.datadir_entry_certtable.start ex.datadir_entry_certtable.end h ex.certificate_table_size (length b) both.0 (omega (arith, inside)) in
    let parts = signed_parts b ex.checksum.start ex.checksum.end ex.datadir_entry_certtable.start ex.datadir_entry_certtable.end h ex.certificate_table_size order in
    let sections_bytes : concat (map (section_bytes b) (by_pointer (filter is_filled sections))) ≡ bytes_at b h sizes =
    end_to_end b h (by_pointer (filter is_filled sections)) fill ∙ rw (sum_ordered (filter is_filled sections), sum_filled sections) refl in
    let start : bytes_at b 0 ex.checksum.start ≡ bytes_between b 0 ex.checksum.start = front_stretch b ex.checksum.start in
    rw (
      both.1,
      parts,
      concat-append,
      concat-append,
      sections_bytes,
      extra_bytes b sections ex inside,
      fill_bytes (length b),
      last_stretch b (replicate (fill_of (length b)) 0) ex.datadir_entry_certtable.end h sizes m order.header (omega (arith, inside)),
      start,
      append_assoc,
      append_assoc,
    ) refl

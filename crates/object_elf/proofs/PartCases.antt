-- Which part stands at which place.
use Rattle.std.proofs.Common.{◌≡◌, ℕ, zero, suc, ◌+◌, List, [], ◌∷◌, ◌++◌, length, take, map, refl, ap, arith, length-append, Some, Bool, true, false, slice_get, inl, inr, cond, codes}
use Rattle.std.specs.Prelude.{filter, count_by}
use Rattle.std.specs.List.{enumerate_from}
use Rattle.std.proofs.lemmas.List.{length-map, map-append}
use Rattle.std.proofs.lemmas.List.Sums.{sum_by-cons, length-filter}
use Rattle.byte_core.specs.LaidOut.{Aligned}
use Rattle.byte_core.specs.Strings.{strings_size}
use Rattle.object_core.specs.LinkTable.{ElfTable, ElfTableSection}
use Rattle.object_elf.specs.Layout.{Part, is_relocated, section_names, symbol_names, content_part, note_part, relocation_part, relocation_name, symbol_part, string_part, table_parts, parts_of}
use Rattle.object_elf.specs.File.{section_contents, relocation_contents, symbol_contents, string_contents, contents_of}
use Rattle.object_elf.specs.PartView.{part_name}
use Rattle.byte_core.proofs.Lists.{get_left, get_right, get_append, get_map, get_map_from, get_filter}

-- how many parts stand before the symbol table
abbrev pub front_count : ElfTable → ℕ
front_count t = length t.sections + (1 + count_by is_relocated t.sections)

-- a part of relocations is that of a section that has some, behind those of the sections before it
pub record Relocates (t : ElfTable) (m : ℕ) (ss : List ElfTableSection) (j : ℕ) (p : Part) : Type 0 where
  pub number : ℕ
  pub section : ElfTableSection
  pub at : slice_get ss number ≡ Some section
  pub has : is_relocated section ≡ true
  pub part : relocation_part t (m + number, section) ≡ p
  pub place : count_by is_relocated (take number ss) ≡ j

abbrev has_relocations : ℕ × ElfTableSection → Bool
has_relocations s = is_relocated s.1

count_more : (s : ElfTableSection) (ss : List ElfTableSection) (n : ℕ) → count_by is_relocated (take (suc n) (s ∷ ss)) ≡ cond (is_relocated s) 1 0 + count_by is_relocated (take n ss)
count_more s ss n = sum_by-cons (λ x. cond (is_relocated x) 1 0) s (take n ss)

relocates_later : (t : ElfTable) (m : ℕ) (s : ElfTableSection) (ss : List ElfTableSection) (j i : ℕ) (p : Part) → cond (is_relocated s) 1 0 + j ≡ i → Relocates t (m + 1) ss j p → Relocates t m (s ∷ ss) i p
relocates_later t m s ss j i p e r = record {
  number = suc r.number;
  section = r.section;
  at = r.at;
  has = r.has;
  part = let n : m + suc r.number ≡ m + 1 + r.number = omega arith in rw n r.part;
  place = omega (arith, count_more s ss r.number, r.place, e);
}

relocates_past : (t : ElfTable) (m : ℕ) (s : ElfTableSection) (ss : List ElfTableSection) (es : List (ℕ × ElfTableSection)) (b : Bool) → is_relocated s ≡ b
    → ((j : ℕ) (p : Part) → slice_get (map (relocation_part t) es) j ≡ Some p → Relocates t (m + 1) ss j p)
    → (j : ℕ) (p : Part) → slice_get (map (relocation_part t) (cond b ((m, s) ∷ es) es)) j ≡ Some p → Relocates t m (s ∷ ss) j p
relocates_past t m s ss es true e later zero p h = record {
  number = 0;
  section = s;
  at = refl;
  has = e;
  part = let n : m + 0 ≡ m = omega arith in let same : relocation_part t (m, s) ≡ p = cc in rw n same;
  place = refl;
}
relocates_past t m s ss es true e later (suc j) p h = relocates_later t m s ss j (suc j) p (rw e (omega arith)) (later j p h)
relocates_past t m s ss es false e later j p h = relocates_later t m s ss j j p (rw e (omega arith)) (later j p h)

pub relocates : (t : ElfTable) (m : ℕ) (ss : List ElfTableSection) (j : ℕ) (p : Part) → slice_get (map (relocation_part t) (filter has_relocations (enumerate_from m ss))) j ≡ Some p → Relocates t m ss j p
relocates t m [] zero p h = absurd (cc)
relocates t m [] (suc j) p h = absurd (cc)
relocates t m (s ∷ ss) j p h = relocates_past t m s ss (filter has_relocations (enumerate_from (m + 1) ss)) (is_relocated s) refl (relocates t (m + 1) ss) j p h

-- ---- all cases

pub data PartCase (t : ElfTable) (k : ℕ) (p : Part) : Type 0 where
  is_content : (s : ElfTableSection) → slice_get t.sections k ≡ Some s → content_part s ≡ p → PartCase t k p
  is_note : note_part ≡ p → PartCase t k p
  is_relocations : (j : ℕ) → length t.sections + (1 + j) ≡ k → Relocates t 1 t.sections j p → PartCase t k p
  is_symbols : front_count t ≡ k → symbol_part t ≡ p → PartCase t k p
  is_symbol_strings : front_count t + 1 ≡ k → string_part (codes ".strtab") (strings_size (symbol_names t)) ≡ p → PartCase t k p
  is_section_strings : front_count t + 2 ≡ k → string_part (codes ".shstrtab") (strings_size (section_names t)) ≡ p → PartCase t k p

length-enumerated_past : (x : ℕ × ElfTableSection) (es : List (ℕ × ElfTableSection)) (b : Bool) → length (cond b (x ∷ es) es) ≡ cond b 1 0 + length es
length-enumerated_past x es true = omega arith
length-enumerated_past x es false = omega arith

pub length-enumerated : (m : ℕ) (ss : List ElfTableSection) → length (filter has_relocations (enumerate_from m ss)) ≡ count_by is_relocated ss
length-enumerated m [] = refl
length-enumerated m (s ∷ ss) = omega (arith, length-enumerated_past (m, s) (filter has_relocations (enumerate_from (m + 1) ss)) (is_relocated s), length-enumerated (m + 1) ss, sum_by-cons (λ x. cond (is_relocated x) 1 0) s ss)

abbrev content_parts : ElfTable → List Part
content_parts t = map content_part t.sections

abbrev middle_parts : ElfTable → List Part
middle_parts t = note_part ∷ map (relocation_part t) (filter has_relocations (enumerate_from 1 t.sections))

length-front : (t : ElfTable) → length (content_parts t ++ middle_parts t) ≡ front_count t
length-front t =
    omega (
      arith,
      length-append (content_parts t) (middle_parts t),
      length-map t.sections content_part,
      length-map (filter has_relocations (enumerate_from 1 t.sections)) (relocation_part t),
      length-enumerated 1 t.sections,
    )

pub length-parts_of : (t : ElfTable) → length (parts_of t) ≡ front_count t + 3
unfolding parts_of
length-parts_of t = omega (arith, length-append (content_parts t ++ middle_parts t) (table_parts t), length-front t)

middle_case : (t : ElfTable) (j k : ℕ) (p : Part) → length (content_parts t) + j ≡ k → slice_get (middle_parts t) j ≡ Some p → PartCase t k p
middle_case t zero k p n e = is_note (cc)
middle_case t (suc j) k p n e = is_relocations j (omega (arith, n, length-map t.sections content_part)) (relocates t 1 t.sections j p e)

front_case : (t : ElfTable) (k : ℕ) (p : Part) → slice_get (content_parts t ++ middle_parts t) k ≡ Some p → PartCase t k p
front_case t k p e =
    elim (get_append (content_parts t) (middle_parts t) k p e) [
      | inl h ↦ let r = get_map_from content_part t.sections k p h in is_content r.0 r.1 r.2
      | inr r ↦ middle_case t r.0 k p r.1 r.2
    ]

table_case : (t : ElfTable) (j k : ℕ) (p : Part) → front_count t + j ≡ k → slice_get (table_parts t) j ≡ Some p → PartCase t k p
table_case t zero k p n e = is_symbols (omega (arith, n)) (cc)
table_case t (suc zero) k p n e = is_symbol_strings n (cc)
table_case t (suc (suc zero)) k p n e = is_section_strings n (cc)
table_case t (suc (suc (suc j))) k p n e = absurd (cc)

pub part_case : (t : ElfTable) (k : ℕ) (p : Part) → slice_get (parts_of t) k ≡ Some p → PartCase t k p
unfolding parts_of
part_case t k p e =
    elim (get_append (content_parts t ++ middle_parts t) (table_parts t) k p e) [
      | inl h ↦ front_case t k p h
      | inr r ↦ let n : front_count t + r.0 ≡ k = omega (arith, r.1, length-front t) in table_case t r.0 k p n r.2
    ]

pub part_at_section : (t : ElfTable) (k : ℕ) (s : ElfTableSection) → slice_get t.sections k ≡ Some s → slice_get (parts_of t) k ≡ Some (content_part s)
unfolding parts_of
part_at_section t k s e =
    get_left (content_parts t ++ middle_parts t) (table_parts t) k (content_part s)
    (get_left (content_parts t) (middle_parts t) k (content_part s) (get_map content_part t.sections k s e))

part_at_middle : (t : ElfTable) (j n : ℕ) (p : Part) → slice_get (middle_parts t) j ≡ Some p → length t.sections + j ≡ n → slice_get (parts_of t) n ≡ Some p
unfolding parts_of
part_at_middle t j n p e m =
    get_left (content_parts t ++ middle_parts t) (table_parts t) n p (get_right (content_parts t) (middle_parts t) j n p e (omega (arith, length-map t.sections content_part, m)))

pub part_at_note : (t : ElfTable) (n : ℕ) → length t.sections ≡ n → slice_get (parts_of t) n ≡ Some note_part
part_at_note t n m = part_at_middle t 0 n note_part refl (omega (arith, m))

pub part_at_relocations : (t : ElfTable) (j n : ℕ) (p : Part) → slice_get (map (relocation_part t) (filter has_relocations (enumerate_from 1 t.sections))) j ≡ Some p → length t.sections + (1 + j) ≡ n → slice_get (parts_of t) n ≡ Some p
part_at_relocations t j n p e m = part_at_middle t (suc j) n p e (omega (arith, m))

part_at_table : (t : ElfTable) (j n : ℕ) (p : Part) → slice_get (table_parts t) j ≡ Some p → front_count t + j ≡ n → slice_get (parts_of t) n ≡ Some p
unfolding parts_of
part_at_table t j n p e m = get_right (content_parts t ++ middle_parts t) (table_parts t) j n p e (omega (arith, length-front t, m))

pub part_at_symbols : (t : ElfTable) (n : ℕ) → front_count t ≡ n → slice_get (parts_of t) n ≡ Some (symbol_part t)
part_at_symbols t n m = part_at_table t 0 n (symbol_part t) refl (omega (arith, m))

pub part_at_symbol_strings : (t : ElfTable) (n : ℕ) → front_count t + 1 ≡ n → slice_get (parts_of t) n ≡ Some (string_part (codes ".strtab") (strings_size (symbol_names t)))
part_at_symbol_strings t n m = part_at_table t 1 n (string_part (codes ".strtab") (strings_size (symbol_names t))) refl m

pub part_at_section_strings : (t : ElfTable) (n : ℕ) → front_count t + 2 ≡ n → slice_get (parts_of t) n ≡ Some (string_part (codes ".shstrtab") (strings_size (section_names t)))
part_at_section_strings t n m = part_at_table t 2 n (string_part (codes ".shstrtab") (strings_size (section_names t))) refl m

-- ---- the contents at these places

abbrev no_contents : Aligned
no_contents = record { align = 1; bytes = [] }

abbrev content_contents : ElfTable → List Aligned
content_contents t = map section_contents t.sections

abbrev middle_contents : ElfTable → List Aligned
middle_contents t = no_contents ∷ map relocation_contents (filter is_relocated t.sections)

abbrev table_contents : ElfTable → List Aligned
table_contents t = symbol_contents t.symbols ∷ string_contents (symbol_names t) ∷ string_contents (section_names t) ∷ []

length-front_contents : (t : ElfTable) → length (content_contents t ++ middle_contents t) ≡ front_count t
length-front_contents t =
    omega (
      arith,
      length-append (content_contents t) (middle_contents t),
      length-map t.sections section_contents,
      length-map (filter is_relocated t.sections) relocation_contents,
      length-filter is_relocated t.sections,
    )

pub contents_at_section : (t : ElfTable) (k : ℕ) (s : ElfTableSection) → slice_get t.sections k ≡ Some s → slice_get (contents_of t) k ≡ Some (section_contents s)
unfolding contents_of
contents_at_section t k s e =
    get_left (content_contents t ++ middle_contents t) (table_contents t) k (section_contents s)
    (get_left (content_contents t) (middle_contents t) k (section_contents s) (get_map section_contents t.sections k s e))

pub contents_at_relocations : (t : ElfTable) (k n : ℕ) (s : ElfTableSection) → slice_get t.sections k ≡ Some s → is_relocated s ≡ true → length t.sections + (1 + count_by is_relocated (take k t.sections)) ≡ n
    → slice_get (contents_of t) n ≡ Some (relocation_contents s)
unfolding contents_of
contents_at_relocations t k n s e h m =
    let j = count_by is_relocated (take k t.sections) in
    let there : slice_get (middle_contents t) (suc j) ≡ Some (relocation_contents s) = get_map relocation_contents (filter is_relocated t.sections) j s (get_filter is_relocated t.sections k s e h) in
    let place : length (content_contents t) + suc j ≡ n = omega (arith, length-map t.sections section_contents, m) in
    get_left (content_contents t ++ middle_contents t) (table_contents t) n (relocation_contents s)
    (get_right (content_contents t) (middle_contents t) (suc j) n (relocation_contents s) there place)

contents_at_table : (t : ElfTable) (j n : ℕ) (c : Aligned) → slice_get (table_contents t) j ≡ Some c → front_count t + j ≡ n → slice_get (contents_of t) n ≡ Some c
unfolding contents_of
contents_at_table t j n c e m = get_right (content_contents t ++ middle_contents t) (table_contents t) j n c e (omega (arith, length-front_contents t, m))

pub contents_at_symbols : (t : ElfTable) (n : ℕ) → front_count t ≡ n → slice_get (contents_of t) n ≡ Some (symbol_contents t.symbols)
contents_at_symbols t n m = contents_at_table t 0 n (symbol_contents t.symbols) refl (omega (arith, m))

pub contents_at_symbol_strings : (t : ElfTable) (n : ℕ) → front_count t + 1 ≡ n → slice_get (contents_of t) n ≡ Some (string_contents (symbol_names t))
contents_at_symbol_strings t n m = contents_at_table t 1 n (string_contents (symbol_names t)) refl m

pub contents_at_section_strings : (t : ElfTable) (n : ℕ) → front_count t + 2 ≡ n → slice_get (contents_of t) n ≡ Some (string_contents (section_names t))
contents_at_section_strings t n m = contents_at_table t 2 n (string_contents (section_names t)) refl m

-- ---- the names at these places

relocation_names_past : (t : ElfTable) (m : ℕ) (s : ElfTableSection) (es : List (ℕ × ElfTableSection)) (ss : List ElfTableSection) (b : Bool) → map part_name (map (relocation_part t) es) ≡ map relocation_name ss
    → map part_name (map (relocation_part t) (cond b ((m, s) ∷ es) es)) ≡ map relocation_name (cond b (s ∷ ss) ss)
relocation_names_past t m s es ss true e = ap (λ names. relocation_name s ∷ names) e
relocation_names_past t m s es ss false e = e

relocation_names : (t : ElfTable) (m : ℕ) (ss : List ElfTableSection) → map part_name (map (relocation_part t) (filter has_relocations (enumerate_from m ss))) ≡ map relocation_name (filter is_relocated ss)
relocation_names t m [] = refl
relocation_names t m (s ∷ ss) = relocation_names_past t m s (filter has_relocations (enumerate_from (m + 1) ss)) (filter is_relocated ss) (is_relocated s) (relocation_names t (m + 1) ss)

content_names : (ss : List ElfTableSection) → map part_name (map content_part ss) ≡ map (λ s. s.name) ss
content_names [] = refl
content_names (s ∷ ss) = ap (λ names. s.name ∷ names) (content_names ss)

-- the names of the parts are the names of the sections
pub names_of_parts : (t : ElfTable) → map part_name (parts_of t) ≡ section_names t
unfolding parts_of section_names
names_of_parts t = rw (map-append, map-append, content_names t.sections, relocation_names t 1 t.sections) refl

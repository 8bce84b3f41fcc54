-- The table of an object that can be written fits.
use Rattle.std.proofs.Common.{◌≡◌, ℕ, ◌+◌, ◌^◌, ◌<◌, ◌≤◌, ◌⊎◌, inl, inr, List, Bool, true, false, not, cond, length, take, map, Some, refl, ap, ◌∙◌, subst, arith, lit<}
use Rattle.std.specs.Prelude.{slice_get, unwrap_or, Option, None}
use Rattle.std.proofs.lemmas.List.{length-map}
use Rattle.ir_core.specs.declared.reloc.Reloc.{Reloc}
use Rattle.ir_core.specs.MachO.{is_zero_fill_type}
use Rattle.ir_core.specs.declared.target.Architecture.{Architecture}
use Rattle.ir_core.specs.declared.target.BinaryFormat.TheVariants.{Macho}
use Rattle.byte_core.proofs.Lists.{get_within, get_map_from, one_of_sum, get_exists}
use Rattle.object_core.specs.declared.kinds.SymbolKind.{SymbolKind}
use Rattle.object_core.specs.declared.kinds.SymbolKind.TheVariants as kind
use Rattle.object_core.specs.declared.kinds.SymbolScope.{SymbolScope}
use Rattle.object_core.specs.declared.kinds.SymbolScope.TheVariants as scope
use Rattle.object_core.specs.declared.kinds.SymbolSection.{SymbolSection}
use Rattle.object_core.specs.declared.kinds.SymbolSection.TheVariants as section
use Rattle.object_core.specs.declared.relocation.Relocation.{Relocation}
use Rattle.object_core.specs.declared.relocation.RelocationFlags.{RelocationFlags}
use Rattle.object_core.specs.declared.relocation.RelocationFlags.TheVariants as flags
use Rattle.object_core.specs.declared.symbol.Symbol.{Symbol}
use Rattle.object_core.specs.Object.{SymbolData, SectionData, ObjectData, plain_symbol, is_in_section, is_local_symbol}
use Rattle.object_core.specs.Places.{end_of}
use Rattle.object_core.specs.Appending.{IsSection}
use Rattle.object_core.specs.WellFormed.{HasMachKind, IsFormedSymbol, IsFormedMachRelocation, PlaceFits, has_zero_byte}
use Rattle.object_core.specs.LinkTable.{MachTableSection, MachTableSymbol}
use Rattle.object_core.specs.MachRows.{header_order, section_extent, section_address, addresses_in, address_in, section_number_in, mach_symbol_name_of, hidden_bit, mach_type, mach_desc, mach_sect, mach_value, mach_symbol, mach_type_of, mach_length_of, mach_relocation, mach_section, macho_table_of}
use Rattle.image_read.specs.MachFile.{lies_in_section}
use Rattle.object_macho.specs.Layout.{end_of_sections}
use Rattle.object_macho.specs.Counts.{mach_counts}
use Rattle.object_macho.specs.Fitting.{FitsMachRelocation, FitsMachSection, FitsMachSymbol, FitsMach}
use Rattle.object_macho.specs.Whole.{IsWritable}
use Rattle.object_macho.proofs.Moments.{moment_at, moment_from, length-seen}
use Rattle.object_macho.proofs.SmallKinds.{small_kind}
use Rattle.object_macho.proofs.Behind.{memory_in, take_all}
use Rattle.object_macho.proofs.Orders.{section_holds, symbol_rows, symbol_holds, row_from, length-header_order}
use Rattle.object_macho.proofs.Fit.{all_at, cputype_fits, cpusubtype_fits, rows_of, ends_agree, rows_stand, rows_order, ordered_from, memory_is}

-- -- counts

few_sections : (o : ObjectData) → IsWritable o → length o.sections < 256
unfolding macho_table_of mach_counts
few_sections o w = omega (arith, w.limits.sections, length-seen (mach_section o.symbols) (header_order o.sections), length-header_order o.sections)

count_sections : (o : ObjectData) → length (rows_of o.symbols (header_order o.sections)) ≡ length o.sections
count_sections o = length-seen (mach_section o.symbols) (header_order o.sections) ∙ length-header_order o.sections

small_sum : (o : ObjectData) → IsWritable o → o.content_sum < 2 ^ 31
unfolding macho_table_of mach_counts
small_sum o w = w.limits.contents

memory_end : (o : ObjectData) → IsWritable o → end_of_sections (rows_of o.symbols (header_order o.sections)) < 2 ^ 33
memory_end o w =
    let ordered = header_order o.sections in
    let rows = rows_of o.symbols ordered in
    let agree = ends_agree o.symbols ordered (length ordered) (omega arith) in
    let count = length-seen (mach_section o.symbols) ordered in
    omega (
      arith,
      memory_is o.sections o.content_sum w.sound,
      agree,
      ap (λ n. end_of_sections (take n rows)) count,
      ap end_of_sections (take_all rows),
      ap (λ xs. end_of (map section_extent xs)) (take_all ordered),
      small_sum o w,
      few_sections o w,
    )

-- -- relocations

below : {n : ℕ} → (n ≡ 2) ⊎ (n ≡ 3) → n < 4
below (inl e) = omega (arith, e)
below (inr e) = omega (arith, e)

numbers_fit : (architecture : Architecture) (r : RelocationFlags) (kind : Reloc) → HasMachKind architecture r kind → (mach_length_of r < 4) × (mach_type_of r < 16)
numbers_fit architecture (flags.Elf n) kind h = absurd h
numbers_fit architecture (flags.MachO r_type pcrel len) kind h =
    let small = small_kind architecture kind _ h in
    (below small.0, omega (arith, small.1))

relocation_fits : (o : ObjectData) → IsWritable o → (s : SectionData) (r : Relocation) → length s.contents < 2 ^ 31 → IsFormedMachRelocation o s r → FitsMachRelocation (macho_table_of o) (mach_relocation o.symbols r)
unfolding macho_table_of
relocation_fits o w s r small g =
    let numbers = numbers_fit o.architecture r.flags g.kind.0 g.kind.1 in
    let t = g.symbol in
    let row = get_within (symbol_rows o.symbols) _ t.0 (symbol_holds o.symbols r.symbol t.0 t.1 t.2) in
    record {
      offset = omega (arith, g.field, small);
      symbol = omega (arith, row, length-map (symbol_rows o.symbols) (mach_symbol o.sections));
      length = numbers.0;
      r_type = numbers.1;
    }

-- -- sections

swapped : (b : Bool) (n size : ℕ) → n ≡ cond b 0 size → n ≡ cond (not b) size 0
swapped true n size h = h
swapped false n size h = h

at_most : (b : Bool) (n size : ℕ) → n ≡ cond b 0 size → n ≤ size
at_most true n size h = omega (arith, h)
at_most false n size h = omega (arith, h)

section_fits : (o : ObjectData) → IsWritable o → (k : ℕ) (s : SectionData) (n : ℕ) → slice_get o.sections k ≡ Some s → FitsMachSection (macho_table_of o) (mach_section o.symbols (record { before = take n (header_order o.sections); here = s }))
section_fits o w k s n e =
    let g = w.formed.sections k s e in
    let i = all_at (IsSection Macho) o.sections k s w.sound.each e in
    let size = one_of_sum (λ (x : SectionData). x.size) o.sections k s e in
    let align = one_of_sum (λ (x : SectionData). x.align) o.sections k s e in
    let contents = at_most (is_zero_fill_type s.macho_flags) (length s.contents) s.size i.contents in
    let small : length s.contents < 2 ^ 31 = omega (arith, contents, size, w.sound.sizes, small_sum o w) in
    record {
      segment = record { text = g.segment; room = g.segment_room };
      name = record { text = g.name; room = g.name_room };
      some = i.align;
      align = omega (arith, align, w.sound.aligns, small_sum o w, few_sections o w);
      flags = w.flags k s e;
      kind = g.kind;
      contents = swapped (is_zero_fill_type s.macho_flags) (length s.contents) s.size i.contents;
      relocations = λ m r h.
          let x = get_map_from (mach_relocation o.symbols) s.relocations m r h in
          subst (FitsMachRelocation (macho_table_of o)) x.2 (relocation_fits o w s x.0 small (g.relocations m x.0 x.1));
    }

sections_fit : (o : ObjectData) → IsWritable o → (k : ℕ) (r : MachTableSection) → slice_get (rows_of o.symbols (header_order o.sections)) k ≡ Some r → FitsMachSection (macho_table_of o) r
sections_fit o w k r e =
    let x = moment_from (mach_section o.symbols) (header_order o.sections) k r e in
    let from = ordered_from o.sections k x.0 x.1 in
    subst (FitsMachSection (macho_table_of o)) x.2 (section_fits o w from.0 x.0 k from.1)

-- -- symbols

text_fits : (k : SymbolKind) (name : List ℕ) → has_zero_byte name ≡ false → has_zero_byte (mach_symbol_name_of k name) ≡ false
text_fits kind.Label name h = h
text_fits kind.Text name h = h
text_fits kind.Data name h = h
text_fits kind.Tls name h = h
text_fits kind.File name h = h

hidden_fits : (s : SymbolScope) (weak : Bool) → hidden_bit s weak ≤ 16
hidden_fits scope.Linkage true = omega arith
hidden_fits scope.Linkage false = omega arith
hidden_fits scope.Unknown weak = omega arith
hidden_fits scope.Compilation weak = omega arith
hidden_fits scope.Dynamic weak = omega arith

type_by : (inside local : Bool) (hidden : ℕ) → hidden ≤ 16 → cond inside 0x0e 0 + cond local 0 (1 + hidden) < 256
type_by true true hidden h = omega arith
type_by true false hidden h = omega (arith, h)
type_by false true hidden h = omega arith
type_by false false hidden h = omega (arith, h)

type_fits : (s : Symbol) → mach_type s < 256
type_fits s = type_by (is_in_section s.section) (is_local_symbol s) (hidden_bit s.scope s.weak) (hidden_fits s.scope s.weak)

desc_by : (local weak inside keep : Bool) → cond local 0 (cond (not weak) 0 (cond inside 0x80 0x40)) + cond keep 0x20 0 < 2 ^ 16
desc_by true weak inside true = lit< tt
desc_by true weak inside false = lit< tt
desc_by false false inside true = lit< tt
desc_by false false inside false = lit< tt
desc_by false true true true = lit< tt
desc_by false true true false = lit< tt
desc_by false true false true = lit< tt
desc_by false true false false = lit< tt

desc_fits : (s : Symbol) → mach_desc s < 2 ^ 16
desc_fits s = desc_by (is_local_symbol s) s.weak (is_in_section s.section) s.no_dead_strip

none_or : (xs : List ℕ) (n bound : ℕ) → ((k a : ℕ) → slice_get xs k ≡ Some a → a ≤ bound) → (o : Option ℕ) → slice_get xs n ≡ o → unwrap_or o 0 ≤ bound
none_or xs n bound h None e = omega arith
none_or xs n bound h (Some a) e = h n a e

address_fits : (o : ObjectData) → IsWritable o → (id : ℕ) → address_in o.sections id ≤ 2 ^ 33
unfolding addresses_in
address_fits o w id =
    none_or (addresses_in o.sections) (section_number_in o.sections id) (2 ^ 33)
    (λ k a e.
    let x = moment_from section_address (header_order o.sections) k a e in
    let row = moment_at (mach_section o.symbols) (header_order o.sections) k x.0 x.1 in
    omega (arith, memory_in (rows_of o.symbols (header_order o.sections)) (rows_stand o.symbols (header_order o.sections)) k _ row, memory_end o w, x.2))
    (slice_get (addresses_in o.sections) (section_number_in o.sections id)) refl

value_fits : (o : ObjectData) → IsWritable o → (at : SymbolSection) (value : ℕ) → value ≤ o.content_sum + 4294967295 → mach_value o.sections at value < 2 ^ 64
value_fits o w section.Undefined value h = omega arith
value_fits o w section.Absolute value h = omega arith
value_fits o w (section.Section id) value h = omega (arith, address_fits o w id, h, small_sum o w)

pub inside_by : (o : ObjectData) (k : SymbolKind) (id : ℕ) → PlaceFits o k (section.Section id) → id < length o.sections
inside_by o kind.File id h = absurd h
inside_by o kind.Label id h = h
inside_by o kind.Text id h = h
inside_by o kind.Data id h = h
inside_by o kind.Tls id h = h

sect_fits : (o : ObjectData) (k : SymbolKind) (at : SymbolSection) → PlaceFits o k at → mach_sect o.sections at ≤ length o.sections
sect_fits o k section.Undefined h = omega arith
sect_fits o k section.Absolute h = omega arith
sect_fits o k (section.Section id) h =
    let s = get_exists o.sections id (inside_by o k id h) in
    omega (arith, get_within (header_order o.sections) _ s.0 (section_holds o.sections id s.0 s.1), length-header_order o.sections)

outside_type : (local : Bool) (s : SymbolScope) (weak : Bool) → lies_in_section (0 + cond local 0 (1 + hidden_bit s weak)) ≡ false
outside_type true s weak = refl
outside_type false scope.Linkage true = refl
outside_type false scope.Linkage false = refl
outside_type false scope.Unknown weak = refl
outside_type false scope.Compilation weak = refl
outside_type false scope.Dynamic weak = refl

lies_by : (o : ObjectData) (local : Bool) (s : SymbolScope) (weak : Bool) (at : SymbolSection) → lies_in_section (cond (is_in_section at) 0x0e 0 + cond local 0 (1 + hidden_bit s weak)) ≡ true → 1 ≤ mach_sect o.sections at
lies_by o local s weak section.Undefined h = absurd (let none = outside_type local s weak in cc)
lies_by o local s weak section.Absolute h = absurd (let none = outside_type local s weak in cc)
lies_by o local s weak (section.Section id) h = omega arith

symbol_fits : (o : ObjectData) → IsWritable o → (s : SymbolData) → IsFormedSymbol o s → FitsMachSymbol (macho_table_of o) (mach_symbol o.sections s)
unfolding macho_table_of
symbol_fits o w s g = record {
  name = text_fits s.kind s.name g.name;
  n_type = type_fits (plain_symbol s);
  desc = desc_fits (plain_symbol s);
  value = value_fits o w s.section s.value g.value;
  sect = omega (arith, sect_fits o s.kind s.section g.place, count_sections o);
  lies = λ h. lies_by o (is_local_symbol (plain_symbol s)) s.scope s.weak s.section h;
}

symbols_fit : (o : ObjectData) → IsWritable o → (k : ℕ) (x : MachTableSymbol) → slice_get (map (mach_symbol o.sections) (symbol_rows o.symbols)) k ≡ Some x → FitsMachSymbol (macho_table_of o) x
symbols_fit o w k x e =
    let s = get_map_from (mach_symbol o.sections) (symbol_rows o.symbols) k x e in
    let from = row_from o.symbols k s.0 s.1 in
    subst (FitsMachSymbol (macho_table_of o)) s.2 (symbol_fits o w s.0 (w.formed.symbols from.0 s.0 from.1))

-- -- all of it

pub table_fits : (o : ObjectData) → IsWritable o → FitsMach (macho_table_of o)
unfolding macho_table_of mach_counts
table_fits o w = record {
  cputype = cputype_fits o.architecture;
  cpusubtype = cpusubtype_fits o.architecture;
  version = w.version;
  sections = sections_fit o w;
  symbols = symbols_fit o w;
  order = rows_order o.symbols o.sections;
  places = rows_stand o.symbols (header_order o.sections);
  memory = omega (arith, memory_end o w);
  section_count = w.limits.sections;
  symbol_count = w.limits.symbols;
  file = w.limits.file;
}

-- The table of a formed Mach-O object fits, where a file of bytes holds it.
use Rattle.std.proofs.Common.{◌≡◌, ℕ, ◌+◌, ◌*◌, ◌^◌, ◌<◌, ◌≤◌, List, length, take, ap, sym, ◌∙◌, arith, Some, true, false, not, cond, slice_get, subst, ◌⊎◌, inl, inr}
use Rattle.std.proofs.lemmas.List.{length-map}
use Rattle.byte_core.proofs.Bytes.{AreBytes}
use Rattle.byte_core.proofs.Lists.{get_map_from, get_exists, get_within}
use Rattle.ir_core.specs.MachO.{is_zero_fill_type}
use Rattle.ir_core.specs.declared.reloc.Reloc.{Reloc}
use Rattle.ir_core.specs.declared.target.Architecture.{Architecture}
use Rattle.image_read.specs.MachFile.{MachSegment, segment_at, MachSectionRow, mach_section_row_at, MachBuildVersion, build_version_at, MachSymbolRow, mach_symbol_row_at, lies_in_section}
use Rattle.object_core.specs.declared.kinds.MachOBuildVersion.{MachOBuildVersion}
use Rattle.object_core.specs.declared.kinds.SymbolKind.{SymbolKind}
use Rattle.object_core.specs.declared.kinds.SymbolKind.TheVariants as kind
use Rattle.object_core.specs.declared.kinds.SymbolSection.{SymbolSection}
use Rattle.object_core.specs.declared.kinds.SymbolSection.TheVariants as section
use Rattle.object_core.specs.declared.relocation.RelocationFlags.{RelocationFlags}
use Rattle.object_core.specs.declared.relocation.RelocationFlags.TheVariants as flags
use Rattle.object_core.specs.declared.relocation.Relocation.{Relocation}
use Rattle.object_core.specs.Object.{SymbolData, SectionData, ObjectData, is_in_section}
use Rattle.object_core.specs.WellFormed.{HasMachKind, IsFormedMacho, IsFormedMachRelocation, PlaceFits, has_zero_byte}
use Rattle.object_core.specs.LinkTable.{MachTableSection, MachTableSymbol, MachTable}
use Rattle.object_core.specs.MachRows.{header_order, mach_symbol_name_of, mach_sect, mach_symbol, mach_type_of, mach_length_of, mach_relocation, mach_section, macho_table_of}
use Rattle.object_macho.specs.Counts.{mach_counts}
use Rattle.object_macho.specs.Layout.{end_of_sections, version_place, symbols_start}
use Rattle.object_macho.specs.MachHolds.{MachHolds}
use Rattle.object_macho.specs.Plan.{IsWithinLimits}
use Rattle.object_macho.specs.Fitting.{FitsVersion, FitsMachRelocation, FitsMachSection, FitsMachSymbol, FitsMach}
use Rattle.object_macho.proofs.Fit.{cputype_fits, cpusubtype_fits, rows_stand, rows_order, ordered_from}
use Rattle.object_macho.proofs.Moments.{moment_from, length-seen}
use Rattle.object_macho.proofs.Orders.{section_holds, symbol_rows, symbol_holds, row_from, length-header_order}
use Rattle.object_macho.proofs.SmallKinds.{small_kind}
use Rattle.object_macho.proofs.TableFits.{inside_by}
use Rattle.image_place.proofs.ElfFits.{number_bound}
use Rattle.image_place.proofs.MachSymbols.{tells-type}

-- what a section's alignment and contents are, beside its names and relocations
pub record IsSoundSection (x : SectionData) : Type 0 where
  pub some : 0 < x.align
  pub align : x.align < 2 ^ 64
  pub contents : length x.contents ≡ cond (not (is_zero_fill_type x.macho_flags)) x.size 0
  pub small : length x.contents < 2 ^ 31

abbrev pub AreSoundSections : ObjectData → Type 0
AreSoundSections o = (k : ℕ) (x : SectionData) → slice_get o.sections k ≡ Some x → IsSoundSection x

-- -- the numbers of rows that are read

version_bounds : (b : List ℕ) (p : ℕ) → AreBytes b → (((build_version_at b p).platform < 2 ^ 32) × ((build_version_at b p).minos < 2 ^ 32)) × ((build_version_at b p).sdk < 2 ^ 32)
unfolding build_version_at
version_bounds b p h = ((number_bound b (p + 8) 4 h, number_bound b (p + 12) 4 h), number_bound b (p + 16) 4 h)

flags_bound : (b : List ℕ) (p : ℕ) → AreBytes b → (mach_section_row_at b p).flags < 2 ^ 32
unfolding mach_section_row_at
flags_bound b p h = number_bound b (p + 64) 4 h

memory_bound : (b : List ℕ) (p : ℕ) → AreBytes b → (segment_at b p).vmsize < 2 ^ 64
unfolding segment_at
memory_bound b p h = number_bound b (p + 32) 8 h

symbol_bounds : (b : List ℕ) (p : ℕ) → AreBytes b → (((mach_symbol_row_at b p).n_type < 2 ^ 8) × ((mach_symbol_row_at b p).desc < 2 ^ 16)) × ((mach_symbol_row_at b p).value < 2 ^ 64)
unfolding mach_symbol_row_at
symbol_bounds b p h = ((number_bound b (p + 4) 1 h, number_bound b (p + 6) 2 h), number_bound b (p + 8) 8 h)

version_fits : (t : MachTable) (b : List ℕ) → AreBytes b → MachHolds b t → (v : MachOBuildVersion) → t.build_version ≡ Some v → FitsVersion v
version_fits t b bytes h v e =
    let row = h.version v e in
    let bounds = version_bounds b (version_place t) bytes in
    record {
      platform = omega (arith, bounds.0.0, ap (λ (r : MachBuildVersion). r.platform) row);
      minos = omega (arith, bounds.0.1, ap (λ (r : MachBuildVersion). r.minos) row);
      sdk = omega (arith, bounds.1, ap (λ (r : MachBuildVersion). r.sdk) row);
    }

-- -- relocations

few_bits : {n : ℕ} → (n ≡ 2) ⊎ (n ≡ 3) → n < 4
few_bits (inl e) = omega (arith, e)
few_bits (inr e) = omega (arith, e)

numbers_fit : (architecture : Architecture) (r : RelocationFlags) (kind : Reloc) → HasMachKind architecture r kind → (mach_length_of r < 4) × (mach_type_of r < 16)
numbers_fit architecture (flags.Elf n) kind h = absurd h
numbers_fit architecture (flags.MachO r_type pcrel len) kind h = let small = small_kind architecture kind _ h in (few_bits small.0, omega (arith, small.1))

relocation_fits : (o : ObjectData) (x : SectionData) (r : Relocation) → length x.contents < 2 ^ 31 → IsFormedMachRelocation o x r → FitsMachRelocation (macho_table_of o) (mach_relocation o.symbols r)
unfolding macho_table_of
relocation_fits o x r small g =
    let numbers = numbers_fit o.architecture r.flags g.kind.0 g.kind.1 in
    let row = get_within (symbol_rows o.symbols) _ g.symbol.0 (symbol_holds o.symbols r.symbol g.symbol.0 g.symbol.1 g.symbol.2) in
    record { offset = omega (arith, g.field, small); symbol = omega (arith, row, length-map (symbol_rows o.symbols) (mach_symbol o.sections)); length = numbers.0; r_type = numbers.1 }

-- -- sections

section_from : (o : ObjectData) (k : ℕ) (s : MachTableSection) → slice_get (macho_table_of o).sections k ≡ Some s
    → (id : ℕ) × (x : SectionData) × (slice_get o.sections id ≡ Some x) × (mach_section o.symbols (record { before = take k (header_order o.sections); here = x }) ≡ s)
unfolding macho_table_of
section_from o k s e =
    let x = moment_from (mach_section o.symbols) (header_order o.sections) k s e in
    let from = ordered_from o.sections k x.0 x.1 in
    (from.0, x.0, from.1, x.2)

section_fits : (o : ObjectData) (b : List ℕ) → IsFormedMacho o → AreSoundSections o → AreBytes b → MachHolds b (macho_table_of o) → (k : ℕ) (s : MachTableSection) → slice_get (macho_table_of o).sections k ≡ Some s → FitsMachSection (macho_table_of o) s
section_fits o b formed sound bytes h k s e =
    let from = section_from o k s e in
    let g = formed.sections from.0 from.1 from.2 in
    let i = sound from.0 from.1 from.2 in
    let same : mach_section o.symbols (record { before = take k (header_order o.sections); here = from.1 }) ≡ s = from.3 in
    let flags : s.flags < 2 ^ 32 = omega (arith, flags_bound b (32 + 72 + 80 * k) bytes, ap (λ (r : MachSectionRow). r.flags) (h.sections k s e)) in
    subst (FitsMachSection (macho_table_of o)) same
    (record {
      segment = record { text = g.segment; room = g.segment_room };
      name = record { text = g.name; room = g.name_room };
      some = i.some;
      align = i.align;
      flags = omega (arith, flags, ap (λ (y : MachTableSection). y.flags) same);
      kind = g.kind;
      contents = i.contents;
      relocations = λ m r f.
          let x = get_map_from (mach_relocation o.symbols) from.1.relocations m r f in
          subst (FitsMachRelocation (macho_table_of o)) x.2 (relocation_fits o from.1 x.0 i.small (g.relocations m x.0 x.1));
    })

-- -- symbols

text_fits : (k : SymbolKind) (name : List ℕ) → has_zero_byte name ≡ false → has_zero_byte (mach_symbol_name_of k name) ≡ false
text_fits kind.Label name h = h
text_fits kind.Text name h = h
text_fits kind.Data name h = h
text_fits kind.Tls name h = h
text_fits kind.File name h = h

sect_fits : (o : ObjectData) (k : SymbolKind) (at : SymbolSection) → PlaceFits o k at → mach_sect o.sections at ≤ length o.sections
sect_fits o k section.Undefined h = omega arith
sect_fits o k section.Absolute h = omega arith
sect_fits o k (section.Section id) h =
    let s = get_exists o.sections id (inside_by o k id h) in
    omega (arith, get_within (header_order o.sections) _ s.0 (section_holds o.sections id s.0 s.1), length-header_order o.sections)

least_sect : (o : ObjectData) (at : SymbolSection) → is_in_section at ≡ true → 1 ≤ mach_sect o.sections at
least_sect o section.Undefined h = absurd (cc)
least_sect o section.Absolute h = absurd (cc)
least_sect o (section.Section id) h = omega arith

count_sections : (o : ObjectData) → length (macho_table_of o).sections ≡ length o.sections
unfolding macho_table_of
count_sections o = length-seen (mach_section o.symbols) (header_order o.sections) ∙ length-header_order o.sections

symbol_from : (o : ObjectData) (k : ℕ) (s : MachTableSymbol) → slice_get (macho_table_of o).symbols k ≡ Some s → (id : ℕ) × (x : SymbolData) × (slice_get o.symbols id ≡ Some x) × (mach_symbol o.sections x ≡ s)
unfolding macho_table_of
symbol_from o k s e =
    let x = get_map_from (mach_symbol o.sections) (symbol_rows o.symbols) k s e in
    let from = row_from o.symbols k x.0 x.1 in
    (from.0, x.0, from.1, x.2)

symbol_fits : (o : ObjectData) (b : List ℕ) → IsFormedMacho o → AreBytes b → MachHolds b (macho_table_of o) → (k : ℕ) (s : MachTableSymbol) → slice_get (macho_table_of o).symbols k ≡ Some s → FitsMachSymbol (macho_table_of o) s
symbol_fits o b formed bytes h k s e =
    let from = symbol_from o k s e in
    let x = from.1 in
    let g = formed.symbols from.0 x from.2 in
    let row = h.symbols k s e in
    let bounds = symbol_bounds b (symbols_start (macho_table_of o) + 16 * k) bytes in
    let sect : mach_sect o.sections x.section ≡ s.sect = ap (λ (y : MachTableSymbol). y.sect) from.3 in
    record {
      name = ap (λ (y : MachTableSymbol). has_zero_byte y.name) (sym from.3) ∙ text_fits x.kind x.name g.name;
      n_type = omega (arith, bounds.0.0, ap (λ (r : MachSymbolRow). r.n_type) row);
      desc = omega (arith, bounds.0.1, ap (λ (r : MachSymbolRow). r.desc) row);
      value = omega (arith, bounds.1, ap (λ (r : MachSymbolRow). r.value) row);
      sect = omega (arith, sect, sect_fits o x.kind x.section g.place, count_sections o);
      lies = λ l.
          let inside : is_in_section x.section ≡ true = sym (tells-type x).section ∙ ap (λ (y : MachTableSymbol). lies_in_section y.n_type) from.3 ∙ l in
          omega (arith, sect, least_sect o x.section inside);
    }

-- -- the whole

parts_fit : (o : ObjectData) → IsWithinLimits (mach_counts (macho_table_of o) o.content_sum) → ((v : MachOBuildVersion) → (macho_table_of o).build_version ≡ Some v → FitsVersion v) → ((k : ℕ) (s : MachTableSection) → slice_get (macho_table_of o).sections k ≡ Some s → FitsMachSection (macho_table_of o) s)
    → ((k : ℕ) (s : MachTableSymbol) → slice_get (macho_table_of o).symbols k ≡ Some s → FitsMachSymbol (macho_table_of o) s) → end_of_sections (macho_table_of o).sections < 2 ^ 64 → FitsMach (macho_table_of o)
unfolding macho_table_of mach_counts
parts_fit o limits version sections symbols memory =
    record {
      cputype = cputype_fits o.architecture;
      cpusubtype = cpusubtype_fits o.architecture;
      version = version;
      sections = sections;
      symbols = symbols;
      order = rows_order o.symbols o.sections;
      places = rows_stand o.symbols (header_order o.sections);
      memory = memory;
      section_count = limits.sections;
      symbol_count = limits.symbols;
      file = limits.file;
    }

pub mach-held-fits : (o : ObjectData) (b : List ℕ) → IsFormedMacho o → AreSoundSections o → IsWithinLimits (mach_counts (macho_table_of o) o.content_sum) → AreBytes b → MachHolds b (macho_table_of o) → FitsMach (macho_table_of o)
mach-held-fits o b formed sound limits bytes h =
    parts_fit o limits (version_fits (macho_table_of o) b bytes h) (section_fits o b formed sound bytes h) (symbol_fits o b formed bytes h) (omega (arith, memory_bound b 32 bytes, ap (λ (g : MachSegment). g.vmsize) h.segment))

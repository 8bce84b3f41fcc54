-- The table of an ELF part fits, where a file of bytes holds it.
use Rattle.std.proofs.Common.{◌≡◌, ℕ, ◌+◌, ◌*◌, ◌^◌, ◌<◌, ◌≤◌, List, [], ◌++◌, length, map, take, refl, ap, sym, ◌∙◌, arith, Option, Some, None, Bool, true, false, not, cond, slice_get, get_or, subst, ◌⊎◌, inl, inr}
use Rattle.std.specs.Prelude.{filter, count_by, FitsSigned}
use Rattle.std.specs.List.{enumerate_from}
use Rattle.std.specs.Int.{cast_signed, w64}
use Rattle.std.proofs.Math.Facts.{sfits_to_z, Fits-below}
use Rattle.std.proofs.lemmas.List.Sums.{count_by-le-length}
use Rattle.std.proofs.lemmas.List.{get_or_past}
use Rattle.byte_core.specs.Number.{number_at}
use Rattle.byte_core.proofs.Bytes.{AreBytes}
use Rattle.byte_core.proofs.Lists.{get_map_from, get_within}
use Rattle.std.proofs.lemmas.Bool.{cases_lt}
use Rattle.byte_core.proofs.NumberBounds.{number_bound as bound_by}
use Rattle.ir_core.specs.declared.reloc.KnownSymbol.TheVariants.{ElfGlobalOffsetTable, CoffTlsIndex}
use Rattle.ir_core.specs.declared.target.BinaryFormat.TheVariants.{Elf}
use Rattle.image_read.specs.ElfFile.{ElfHeader, ElfSectionRow, ElfSymbolRow, ElfRelocationRow, header_of, section_row_at, symbol_row_at, relocation_row_at}
use Rattle.object_core.specs.declared.kinds.SectionKind.{SectionKind}
use Rattle.object_core.specs.declared.kinds.SectionKind.TheVariants as kind
use Rattle.object_core.specs.Object.{SymbolData, SectionData, ObjectData, is_local, is_global}
use Rattle.object_core.specs.Places.{joined, end_of}
use Rattle.object_core.specs.Standard.{is_zero_fill, takes_no_bytes}
use Rattle.object_core.specs.WellFormed.{has_zero_byte}
use Rattle.object_core.specs.LinkTable.{ElfTable, ElfTableSection, ElfTableSymbol, ElfRelocation}
use Rattle.object_core.specs.ElfRows.{elf_section, elf_symbol, elf_relocation, elf_table_of, elf_section_type, elf_shndx, row_in, row_of_symbol}
use Rattle.object_elf.specs.ElfHolds.{ElfHolds, part_offset, relocations_row}
use Rattle.object_elf.specs.Layout.{content_part, symbol_table_row, headers_start}
use Rattle.object_elf.specs.Fitting.{FitsElf, FitsSection, FitsSymbol, FitsRelocation, HasContents}
use Rattle.object_elf.proofs.Fit.{machine_is, machine_fits}
use Rattle.object_elf.proofs.PartCases.{part_at_section, length-parts_of}
use Rattle.object_elf.proofs.RowNumbers.{local_and_global}
use Rattle.object_elf.proofs.Tables.{symbol_count_is, section_count_is, front_count_is, symbol_names_size_is, section_names_size_is}
use Rattle.cranelift_module.specs.LinkState.{LinkState}
use Rattle.cranelift_module.specs.declared.identifiers.FuncOrDataId.{FuncOrDataId}
use Rattle.cranelift_module.specs.declared.identifiers.FuncOrDataId.TheVariants.{Func}
use Rattle.cranelift_object.specs.Settings.{Settings}
use Rattle.cranelift_object.specs.SectionClass.{Class, section_class}
use Rattle.cranelift_object.specs.Placing.{Placed, placed, sections_used, extent_of}
use Rattle.cranelift_object.specs.Targets.{RelocationTarget, identifier, library, known, label}
use Rattle.cranelift_object.specs.Linked.{defined_at, symbol_place, extra_symbol, symbols_of, section_with, sections_of, members, piece_of, object_of}
use Rattle.cranelift_object.specs.Part.{PartData, part_state}
use Rattle.cranelift_object.proofs.SectionLaws.{joined_length}
use Rattle.image_place.specs.Laws.{AreElf}
use Rattle.image_place.specs.ObjectFile.{part_object}
use Rattle.image_place.specs.Related.{IsPart}
use Rattle.image_place.proofs.Accepted.{definition-accepted}
use Rattle.image_place.proofs.FileRows.{row-from, passes-below}
use Rattle.image_place.proofs.FileSymbols.{IsSettled, SymbolCase, symbol-case, created-stands, defined-from}
use Rattle.image_place.proofs.FileSymbols.SymbolCase.{of_file, of_identifier, of_extra}
use Rattle.image_place.proofs.ElfSections.{ArePlainBodies, home_of, section-there}
use Rattle.image_place.proofs.ElfLaw.{state-elf, part-settled, elf-limits}

-- the names of symbols and sections have no zero byte
pub record AreTexts (o : ObjectData) : Type 0 where
  pub symbols : (k : ℕ) (x : SymbolData) → slice_get o.symbols k ≡ Some x → has_zero_byte x.name ≡ false
  pub sections : (k : ℕ) (x : SectionData) → slice_get o.sections k ≡ Some x → has_zero_byte x.name ≡ false

-- -- the numbers of rows that are read

byte_get : (b : List ℕ) (i : ℕ) → AreBytes b → get_or b i 0 < 256
byte_get b i h =
    elim (cases_lt i (length b)) [
      | inl low ↦ h i 0 low
      | inr high ↦ (let nothing : ℕ = 0 in let past = get_or_past b i nothing high in omega (arith, past))
    ]

pub number_bound : (b : List ℕ) (p w : ℕ) → AreBytes b → number_at b p w < 256 ^ w
number_bound b p w h = bound_by b p w (λ i. byte_get b i h)

record SectionBounds (r : ElfSectionRow) : Type 0 where
  flags : r.flags < 2 ^ 64
  align : r.align < 2 ^ 64
  size : r.size < 2 ^ 64

section_bounds : (b : List ℕ) (p : ℕ) → AreBytes b → SectionBounds (section_row_at b p)
unfolding section_row_at
section_bounds b p h = record { flags = number_bound b (p + 8) 8 h; align = number_bound b (p + 48) 8 h; size = number_bound b (p + 32) 8 h }

record SymbolBounds (r : ElfSymbolRow) : Type 0 where
  info : r.info < 2 ^ 8
  other : r.other < 2 ^ 8
  value : r.value < 2 ^ 64
  size : r.size < 2 ^ 64

symbol_bounds : (b : List ℕ) (p : ℕ) → AreBytes b → SymbolBounds (symbol_row_at b p)
unfolding symbol_row_at
symbol_bounds b p h = record { info = number_bound b (p + 4) 1 h; other = number_bound b (p + 5) 1 h; value = number_bound b (p + 8) 8 h; size = number_bound b (p + 16) 8 h }

record RelocationBounds (r : ElfRelocationRow) : Type 0 where
  offset : r.offset < 2 ^ 64
  r_type : r.r_type < 2 ^ 32
  addend : FitsSigned w64 r.addend

signed_bound : (n : ℕ) → n < 2 ^ 64 → FitsSigned w64 (cast_signed w64 n)
signed_bound n h = sfits_to_z {w = w64} {n = n} (Fits-below {w = w64} {m = n} {n = 18446744073709551615} tt (omega (arith, h)))

relocation_bounds : (b : List ℕ) (p : ℕ) → AreBytes b → RelocationBounds (relocation_row_at b p)
unfolding relocation_row_at
relocation_bounds b p h = record { offset = number_bound b p 8 h; r_type = number_bound b (p + 8) 4 h; addend = signed_bound (number_at b (p + 16) 8) (number_bound b (p + 16) 8 h) }

flags_bound : (b : List ℕ) → AreBytes b → (header_of b).flags < 2 ^ 32
unfolding header_of
flags_bound b h = number_bound b 48 4 h

header_bound : (b : List ℕ) → AreBytes b → (header_of b).shoff < 2 ^ 64
unfolding header_of
header_bound b h = number_bound b 40 8 h

-- the section headers of a file of bytes start where 8 bytes tell
pub held-headers : (t : ElfTable) (b : List ℕ) → AreBytes b → ElfHolds b t → headers_start t < 2 ^ 64
held-headers t b bytes h = omega (arith, header_bound b bytes, ap (λ (y : ElfHeader). y.shoff) h.header)

-- -- rows of relocations

row_most_by : (ss : List SymbolData) (id : ℕ) (o : Option SymbolData) (b : Bool) → slice_get ss id ≡ o → row_of_symbol ss id o ≤ length ss
row_most_by ss id None b e = omega arith
row_most_by ss id (Some x) b e = row_in_most ss id x (is_local x) e refl where
  row_in_most : (ss : List SymbolData) (id : ℕ) (x : SymbolData) (b : Bool) → slice_get ss id ≡ Some x → is_local x ≡ b → cond b (1 + count_by is_local (take id ss)) (1 + count_by is_local ss + count_by is_global (take id ss)) ≤ length ss
  row_in_most ss id x true e t = omega (arith, passes-below is_local ss id x e t, count_by-le-length is_local ss)
  row_in_most ss id x false e t = omega (arith, passes-below is_global ss id x e (ap not t), local_and_global ss)

row_most : (ss : List SymbolData) (id : ℕ) → row_in ss id ≤ length ss
unfolding row_in
row_most ss id = row_most_by ss id (slice_get ss id) true refl

-- -- sections

contents_kind : (k : SectionKind) (xs : List ℕ) (size : ℕ) → length xs ≡ size
    → ((elf_section_type k ≡ 1) × (size ≡ length (cond (is_zero_fill k) [] xs))) ⊎ ((elf_section_type k ≡ 8) × (length (cond (is_zero_fill k) [] xs) ≡ 0))
contents_kind kind.Text xs size e = inl (refl, sym e)
contents_kind kind.Data xs size e = inl (refl, sym e)
contents_kind kind.ReadOnlyData xs size e = inl (refl, sym e)
contents_kind kind.ReadOnlyDataWithRel xs size e = inl (refl, sym e)
contents_kind kind.UninitializedData xs size e = inr (refl, refl)
contents_kind kind.Tls xs size e = inl (refl, sym e)
contents_kind kind.UninitializedTls xs size e = inr (refl, refl)

class_has : (settings : Settings) (s : LinkState) (symbols : List SymbolData) (class : Class) (ms : List Placed) → s.target.triple.binary_format ≡ Elf → HasContents (elf_section symbols (section_with settings s class ms))
class_has settings s symbols class ms elf =
    let xs = joined (map (λ (p : Placed). piece_of s p.definition) ms) in
    let size = end_of (map (λ (p : Placed). extent_of s p.definition) ms) in
    subst (λ f. ((elf_section_type class.kind ≡ 1) × (size ≡ length (cond (takes_no_bytes f class.kind class.macho_flags) [] xs))) ⊎ ((elf_section_type class.kind ≡ 8) × (length (cond (takes_no_bytes f class.kind class.macho_flags) [] xs) ≡ 0))) (sym elf)
    (contents_kind class.kind xs size (joined_length s ms))

section_has : (settings : Settings) (s : LinkState) (k : ℕ) (x : SectionData) → s.target.triple.binary_format ≡ Elf → slice_get (object_of settings s).sections k ≡ Some x → HasContents (elf_section (object_of settings s).symbols x)
unfolding object_of sections_of
section_has settings s k x elf e =
    let from = get_map_from (λ (c : ℕ × Class). section_with settings s c.1 (members (placed settings s) c.0)) (enumerate_from 0 (sections_used (map (λ (p : Placed). section_class settings s p.definition) (placed settings s)))) k x e in
    subst (λ y. HasContents (elf_section (symbols_of settings s (placed settings s)) y)) from.2 (class_has settings s (symbols_of settings s (placed settings s)) from.0.1 (members (placed settings s) from.0.0) elf)

relocation_fits : (o : ObjectData) (b : List ℕ) (k m : ℕ) (s : ElfTableSection) (r : ElfRelocation) (x : SectionData) → AreBytes b → ElfHolds b (elf_table_of o) → slice_get (elf_table_of o).sections k ≡ Some s → elf_section o.symbols x ≡ s → slice_get s.relocations m ≡ Some r
    → FitsRelocation (elf_table_of o) r
relocation_fits o b k m s r x bytes h e is g =
    let row = h.relocations k s e m r g in
    let bounds = relocation_bounds b (part_offset b (elf_table_of o) (relocations_row (elf_table_of o) k) + 24 * m) bytes in
    let from = get_map_from (elf_relocation o.symbols) x.relocations m r (ap (λ (y : ElfTableSection). slice_get y.relocations m) is ∙ g) in
    record {
      offset = omega (arith, bounds.offset, ap (λ (y : ElfRelocationRow). y.offset) row);
      symbol = omega (arith, symbol_count_is o, row_most o.symbols from.0.symbol, ap (λ (y : ElfRelocation). y.symbol) from.2);
      r_type = omega (arith, bounds.r_type, ap (λ (y : ElfRelocationRow). y.r_type) row);
      addend = subst (FitsSigned w64) (ap (λ (y : ElfRelocationRow). y.addend) row) bounds.addend;
    }

table_section_from : (o : ObjectData) (k : ℕ) (s : ElfTableSection) → slice_get (elf_table_of o).sections k ≡ Some s → (x : SectionData) × (slice_get o.sections k ≡ Some x) × (elf_section o.symbols x ≡ s)
unfolding elf_table_of
table_section_from o k s e = get_map_from (elf_section o.symbols) o.sections k s e

section_fits : (settings : Settings) (state : LinkState) (b : List ℕ) (k : ℕ) (s : ElfTableSection) → state.target.triple.binary_format ≡ Elf → AreTexts (object_of settings state) → AreBytes b → ElfHolds b (elf_table_of (object_of settings state)) → slice_get (elf_table_of (object_of settings state)).sections k ≡ Some s
    → FitsSection (elf_table_of (object_of settings state)) s
section_fits settings state b k s elf texts bytes h e =
    let o = object_of settings state in
    let t = elf_table_of o in
    let from = table_section_from o k s e in
    let row = h.sections k (content_part s) (part_at_section t k s e) in
    let bounds = section_bounds b (headers_start t + 64 * (k + 1)) bytes in
    record {
      name = ap (λ (y : ElfTableSection). has_zero_byte y.name) (sym from.2) ∙ texts.sections k from.0 from.1;
      contents = subst HasContents from.2 (section_has settings state k from.0 elf from.1);
      flags = omega (arith, bounds.flags, ap (λ (y : ElfSectionRow). y.flags) row);
      align = omega (arith, bounds.align, ap (λ (y : ElfSectionRow). y.align) row);
      size = omega (arith, bounds.size, ap (λ (y : ElfSectionRow). y.size) row);
      relocations = λ m r g. relocation_fits o b k m s r from.0 bytes h e from.2 g;
    }

-- -- symbols

placed_shndx : (settings : Settings) (s : LinkState) (id : FuncOrDataId) (o : Option Placed) → ArePlainBodies s → defined_at (placed settings s) id ≡ o → elf_shndx (symbol_place o) ≤ length (object_of settings s).sections
placed_shndx settings s id None plain e = omega arith
placed_shndx settings s id (Some p) plain e =
    let there = defined-from settings s id p e in
    omega (arith, get_within (object_of settings s).sections p.section (home_of settings s p) (section-there settings s there.number p plain there.here))

extra_shndx : (settings : Settings) (s : LinkState) (t : RelocationTarget) → ArePlainBodies s → elf_shndx (extra_symbol (placed settings s) t).section ≤ length (object_of settings s).sections
extra_shndx settings s (identifier id) plain = omega arith
extra_shndx settings s (library text) plain = omega arith
extra_shndx settings s (known ElfGlobalOffsetTable) plain = omega arith
extra_shndx settings s (known CoffTlsIndex) plain = omega arith
extra_shndx settings s (label function offset) plain = placed_shndx settings s (Func function) (defined_at (placed settings s) (Func function)) plain refl

abbrev IsPlace : ObjectData → SymbolData → Type 0
IsPlace o x = (elf_shndx x.section ≤ length o.sections) ⊎ (elf_shndx x.section ≡ 0xfff1)

symbol_shndx : (settings : Settings) (s : LinkState) (n : ℕ) (x : SymbolData) → IsSettled s → ArePlainBodies s → SymbolCase settings s n x → IsPlace (object_of settings s) x
symbol_shndx settings s n x h plain (of_file is) = inr (ap (λ (y : SymbolData). elf_shndx y.section) is)
symbol_shndx settings s n x h plain (of_extra t is) = inl (omega (arith, extra_shndx settings s t plain, ap (λ (y : SymbolData). elf_shndx y.section) is))
symbol_shndx settings s n x h plain (of_identifier r id at place is) =
    let stands = created-stands settings s r id h at in
    inl (omega (arith, placed_shndx settings s id (defined_at (placed settings s) id) plain refl, ap (λ (y : SymbolData). elf_shndx y.section) (is ∙ stands.symbol)))

table_symbol_from : (o : ObjectData) (k : ℕ) (s : ElfTableSymbol) → slice_get (elf_table_of o).symbols k ≡ Some s → (x : SymbolData) × (slice_get (filter is_local o.symbols ++ filter is_global o.symbols) k ≡ Some x) × (elf_symbol x ≡ s)
unfolding elf_table_of
table_symbol_from o k s e = get_map_from elf_symbol (filter is_local o.symbols ++ filter is_global o.symbols) k s e

object_symbols : (settings : Settings) (s : LinkState) → (object_of settings s).symbols ≡ symbols_of settings s (placed settings s)
unfolding object_of
object_symbols settings s = refl

symbol_fits : (settings : Settings) (state : LinkState) (b : List ℕ) (k : ℕ) (s : ElfTableSymbol) → IsSettled state → ArePlainBodies state → AreTexts (object_of settings state) → AreBytes b → ElfHolds b (elf_table_of (object_of settings state)) → slice_get (elf_table_of (object_of settings state)).symbols k ≡ Some s
    → FitsSymbol (elf_table_of (object_of settings state)) s
symbol_fits settings state b k s settled plain texts bytes h e =
    let o = object_of settings state in
    let t = elf_table_of o in
    let from = table_symbol_from o k s e in
    let at = row-from o.symbols k from.0 from.1 in
    let place = symbol_shndx settings state at.number from.0 settled plain (symbol-case settings state at.number from.0 (ap (λ xs. slice_get xs at.number) (sym (object_symbols settings state)) ∙ at.here)) in
    let row = h.symbols k s e in
    let bounds = symbol_bounds b (part_offset b t (symbol_table_row t) + 24 * (k + 1)) bytes in
    record {
      name = ap (λ (y : ElfTableSymbol). has_zero_byte y.name) (sym from.2) ∙ texts.symbols at.number from.0 at.here;
      info = omega (arith, bounds.info, ap (λ (y : ElfSymbolRow). y.info) row);
      other = omega (arith, bounds.other, ap (λ (y : ElfSymbolRow). y.other) row);
      section = elim place [
        | inl low ↦ inl (omega (arith, low, section_count_is o, ap (λ (y : ElfTableSymbol). y.shndx) from.2))
        | inr high ↦ inr (ap (λ (y : ElfTableSymbol). y.shndx) (sym from.2) ∙ high)
      ];
      value = omega (arith, bounds.value, ap (λ (y : ElfSymbolRow). y.value) row);
      size = omega (arith, bounds.size, ap (λ (y : ElfSymbolRow). y.size) row);
    }

-- -- the whole

local_rows : (o : ObjectData) → (elf_table_of o).locals ≤ length (elf_table_of o).symbols + 1
unfolding elf_table_of
local_rows o = omega (arith, symbol_count_is o, count_by-le-length is_local o.symbols)

pub held-fits : (part : PartData) (b : List ℕ) → IsPart part → AreElf part → AreTexts (part_object part) → AreBytes b → length b < 2 ^ 64 → ElfHolds b (elf_table_of (part_object part)) → FitsElf (elf_table_of (part_object part))
held-fits part b is elf texts bytes short h =
    let o = part_object part in
    let t = elf_table_of o in
    let limits = elf-limits part is elf in
    let plain : ArePlainBodies (part_state part) = λ k d e. (definition-accepted part is.valid k d e).plain in
    record {
      machine = rw (machine_is o) (machine_fits o.architecture);
      flags = omega (arith, flags_bound b bytes, ap (λ (y : ElfHeader). y.flags) h.header);
      sections = λ k s e. section_fits part.settings (part_state part) b k s (state-elf part elf) texts bytes h e;
      symbols = λ k s e. symbol_fits part.settings (part_state part) b k s (part-settled part is) plain texts bytes h e;
      locals = local_rows o;
      section_count = omega (arith, length-parts_of t, front_count_is o, limits.sections);
      symbol_count = omega (arith, symbol_count_is o, limits.symbols);
      symbol_names_size = omega (arith, symbol_names_size_is o, limits.names);
      section_names_size = omega (arith, section_names_size_is o, limits.names);
      file = omega (arith, h.end, short);
    }

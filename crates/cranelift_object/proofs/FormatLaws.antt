-- What each format says of sections and symbols, in the words of an object.
use Rattle.std.proofs.Common.{◌≡◌, ℕ, zero, suc, ◌<◌, ◌∷◌, List, [], length, Bool, true, false, Option, Some, None, refl, ap, sym, subst, arith}
use Rattle.std.specs.Prelude.{slice_get, option_map, Result, OnOk, IfErr}
use Rattle.std.proofs.lemmas.Option.{slice_get_within}
use Rattle.ir_core.specs.declared.target.BinaryFormat.{BinaryFormat}
use Rattle.ir_core.specs.declared.target.BinaryFormat.TheVariants.{Elf, Coff, Macho, Wasm, Unknown}
use Rattle.object_core.specs.declared.kinds.StandardSection.{StandardSection}
use Rattle.object_core.specs.declared.kinds.SymbolSection.TheVariants.{Undefined}
use Rattle.object_core.specs.declared.symbol.Symbol.{Symbol}
use Rattle.object_core.specs.Object.{SectionBody, SectionData, SymbolData, ObjectData, body_of, named, plain_symbol}
use Rattle.object_core.specs.Standard.{takes_no_bytes}
use Rattle.object_core.specs.Appending.{is_unstored, with_subsection_in, subsection_number_in, with_standard_section, standard_number, with_symbol_at, changed_at, IsUndefined}
use Rattle.object_core.specs.WellFormed.{IsFormed, IsFormedIn, IsFormedElf, IsFormedMacho}
use Rattle.object_core.specs.declared.error.EmitError.{EmitError}
use Rattle.object_core.specs.ElfRows.{elf_table_of}
use Rattle.object_core.specs.MachRows.{macho_table_of}
use Rattle.object_core.specs.Tables.{table_in}
use Rattle.object_core.specs.Limits.{IsJudgedBy, TellsLimit}
use Rattle.object_elf.specs.ElfHolds.{ElfHolds}
use Rattle.object_elf.specs.Limits.{IsJudged}
use Rattle.object_macho.specs.MachHolds.{MachHolds}
use Rattle.object_macho.specs.Limits.{mach_limit_cause}
use Rattle.cranelift_object.specs.Part.{counts_of, mach_counts_of, limit_in, limit_of}
use Rattle.cranelift_object.specs.Emitted.{FileHolds, IsObjectFile, IsJudgedIn}
use Rattle.cranelift_module.specs.Call.{Contents}
use Rattle.cranelift_object.specs.SectionClass.{standard_class_in, unused_class}
use Rattle.cranelift_object.specs.Product.{with_class, class_place, with_kept, kept_symbol, with_symbol_contents}
use Rattle.cranelift_object.proofs.ChangeLaws.{changed_length}

-- a formed object of ELF is formed as one
pub formed_elf : (o : ObjectData) → IsFormed o → o.format ≡ Elf → IsFormedElf o
formed_elf o h e = subst (λ (f : BinaryFormat). IsFormedIn f o) e h.formed

-- and one of Mach-O likewise
pub formed_macho : (o : ObjectData) → IsFormed o → o.format ≡ Macho → IsFormedMacho o
formed_macho o h e = subst (λ (f : BinaryFormat). IsFormedIn f o) e h.formed

-- the file of an ELF object
pub elf_file : (o : ObjectData) (b : List ℕ) → o.format ≡ Elf → ElfHolds b (elf_table_of o) → IsObjectFile o b
elf_file o b e h = subst (λ (f : BinaryFormat). FileHolds b (table_in f o)) (sym e) h

-- the file of a Mach-O object
pub macho_file : (o : ObjectData) (b : List ℕ) → o.format ≡ Macho → MachHolds b (macho_table_of o) → IsObjectFile o b
macho_file o b e h = subst (λ (f : BinaryFormat). FileHolds b (table_in f o)) (sym e) h

pub elf_judged : {A : Type 0} (o : ObjectData) (result : Result A EmitError) → o.format ≡ Elf → IsJudged result (counts_of o) → IsJudgedIn o.format result o
elf_judged o result e h = subst (λ (f : BinaryFormat). IsJudgedIn f result o) (sym e) h

pub macho_judged : {A : Type 0} (o : ObjectData) (result : Result A EmitError) → o.format ≡ Macho → IsJudgedBy result (mach_limit_cause (mach_counts_of o)) → IsJudgedIn o.format result o
macho_judged o result e h = subst (λ (f : BinaryFormat). IsJudgedIn f result o) (sym e) h

judged_ok_in : {A : Type 0} (format : BinaryFormat) (o : ObjectData) (result : Result A EmitError) → IsJudgedIn format result o → OnOk result (limit_in format o ≡ None)
judged_ok_in Elf o result h = h.ok
judged_ok_in Coff o result h = h.ok
judged_ok_in Macho o result h = h.ok
judged_ok_in Wasm o result h = h.ok
judged_ok_in Unknown o result h = h.ok

-- an answer that is judged is Ok where no limit is reached alone
pub judged_ok : {A : Type 0} (o : ObjectData) (result : Result A EmitError) → IsJudgedIn o.format result o → OnOk result (limit_of o ≡ None)
judged_ok o result h = judged_ok_in o.format o result h

judged_err_in : {A : Type 0} (format : BinaryFormat) (o : ObjectData) (result : Result A EmitError) → IsJudgedIn format result o → IfErr result (λ e. TellsLimit e (limit_in format o))
judged_err_in Elf o result h = h.err
judged_err_in Coff o result h = h.err
judged_err_in Macho o result h = h.err
judged_err_in Wasm o result h = h.err
judged_err_in Unknown o result h = h.err

-- and its error is that limit
pub judged_err : {A : Type 0} (o : ObjectData) (result : Result A EmitError) → IsJudgedIn o.format result o → IfErr result (λ e. TellsLimit e (limit_of o))
judged_err o result h = judged_err_in o.format o result h

beside_in : (format : BinaryFormat) (o : ObjectData) (standard : StandardSection) (used : Bool) → with_subsection_in format o standard ≡ with_class o (unused_class (standard_class_in format standard true used))
beside_in Elf o standard used = refl
beside_in Coff o standard used = refl
beside_in Macho o standard used = refl
beside_in Wasm o standard used = refl
beside_in Unknown o standard used = refl

-- a section beside a standard one is that of its class
pub beside_class : (o : ObjectData) (standard : StandardSection) (used : Bool) → with_subsection_in o.format o standard ≡ with_class o (unused_class (standard_class_in o.format standard true used))
beside_class o standard used = beside_in o.format o standard used

beside_place_in : (format : BinaryFormat) (o : ObjectData) (standard : StandardSection) (used : Bool) → subsection_number_in format o standard ≡ class_place o (standard_class_in format standard true used)
beside_place_in Elf o standard used = refl
beside_place_in Coff o standard used = refl
beside_place_in Macho o standard used = refl
beside_place_in Wasm o standard used = refl
beside_place_in Unknown o standard used = refl

pub beside_place : (o : ObjectData) (standard : StandardSection) (used : Bool) → subsection_number_in o.format o standard ≡ class_place o (standard_class_in o.format standard true used)
beside_place o standard used = beside_place_in o.format o standard used

shared_in : (format : BinaryFormat) (o : ObjectData) (standard : StandardSection) (used : Bool) → with_standard_section o standard ≡ with_class o (unused_class (standard_class_in format standard false used))
shared_in Elf o standard used = refl
shared_in Coff o standard used = refl
shared_in Macho o standard used = refl
shared_in Wasm o standard used = refl
shared_in Unknown o standard used = refl

-- a standard section is that of its class
pub shared_class : (o : ObjectData) (standard : StandardSection) (used : Bool) → with_standard_section o standard ≡ with_class o (unused_class (standard_class_in o.format standard false used))
shared_class o standard used = shared_in o.format o standard used

shared_place_in : (format : BinaryFormat) (o : ObjectData) (standard : StandardSection) (used : Bool) → standard_number o standard ≡ class_place o (standard_class_in format standard false used)
shared_place_in Elf o standard used = refl
shared_place_in Coff o standard used = refl
shared_place_in Macho o standard used = refl
shared_place_in Wasm o standard used = refl
shared_place_in Unknown o standard used = refl

pub standard_place_class : (o : ObjectData) (standard : StandardSection) (used : Bool) → standard_number o standard ≡ class_place o (standard_class_in o.format standard false used)
standard_place_class o standard used = shared_place_in o.format o standard used

unstored_found : (format : BinaryFormat) (section : Option SectionData) (body : SectionBody) → option_map body_of section ≡ Some body → option_map (is_unstored format) section ≡ Some (takes_no_bytes format body.kind body.macho_flags)
unstored_found format None body h = absurd (cc)
unstored_found format (Some s) body h =
    let same : body_of s ≡ body = cc in
    ap (λ (b : SectionBody). Some (takes_no_bytes format b.kind b.macho_flags)) same

-- a section takes no bytes by what is in hand of it
pub unstored_body : (format : BinaryFormat) (sections : List SectionData) (k : ℕ) (body : SectionBody) → option_map body_of (slice_get sections k) ≡ Some body → option_map (is_unstored format) (slice_get sections k) ≡ Some (takes_no_bytes format body.kind body.macho_flags)
unstored_body format sections k body h = unstored_found format (slice_get sections k) body h

-- -- symbols that the linker keeps

changed_here : {A : Type 0} (k : ℕ) (f g : A → A) (xs : List A) (x : A) → slice_get xs k ≡ Some x → f x ≡ g x → changed_at k f xs ≡ changed_at k g xs
changed_here k f g [] x at same = refl
changed_here zero f g (y ∷ xs) x at same =
    let here : y ≡ x = cc in
    ap (λ (z : _). z ∷ xs) (rw here same)
changed_here (suc k) f g (y ∷ xs) x at same = ap (λ (ys : _). y ∷ ys) (changed_here k f g xs x at same)

written_found : (o : ObjectData) (k : ℕ) (s : Symbol) (found : Option SymbolData) → slice_get o.symbols k ≡ found → option_map plain_symbol found ≡ Some s → with_symbol_at o k (record s { no_dead_strip = true }) ≡ with_kept true o k
written_found o k s None at h = absurd (cc)
written_found o k s (Some x) at h =
    let same : plain_symbol x ≡ s = cc in
    let one : named x.name (record s { no_dead_strip = true }) ≡ kept_symbol x = ap (λ (t : Symbol). named x.name (record t { no_dead_strip = true })) (sym same) in
    ap (λ (xs : List SymbolData). record o { symbols = xs }) (changed_here k (λ (old : SymbolData). named old.name (record s { no_dead_strip = true })) kept_symbol o.symbols x at one)

-- a symbol into which the mark is written
pub kept_written : (o : ObjectData) (k : ℕ) (s : Symbol) → option_map plain_symbol (slice_get o.symbols k) ≡ Some s → with_symbol_at o k (record s { no_dead_strip = true }) ≡ with_kept true o k
kept_written o k s h = written_found o k s (slice_get o.symbols k) refl h

found_below : (symbols : List SymbolData) (k : ℕ) (found : Option SymbolData) → slice_get symbols k ≡ found → option_map (λ (s : SymbolData). s.section) found ≡ Some Undefined → k < length symbols
found_below symbols k None at h = absurd (cc)
found_below symbols k (Some x) at h = slice_get_within symbols k x at

symbols_long : (b : Bool) (o : ObjectData) (symbol section align : ℕ) (contents : Contents) → length (with_symbol_contents b o symbol section contents align).symbols ≡ length o.symbols
symbols_long true o symbol section align contents = changed_length symbol _ o.symbols
symbols_long false o symbol section align contents = changed_length symbol _ o.symbols

-- contents leave the symbols where they are
pub contents_symbol : (b : Bool) (o left : ObjectData) (symbol section align : ℕ) (contents : Contents) → left ≡ with_symbol_contents b o symbol section contents align → IsUndefined o symbol → symbol < length left.symbols
contents_symbol b o left symbol section align contents e h =
    let below = found_below o.symbols symbol (slice_get o.symbols symbol) refl h in
    omega (arith, ap (λ (x : ObjectData). length x.symbols) e, symbols_long b o symbol section align contents, below)

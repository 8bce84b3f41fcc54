-- The linkage of each declared identifier is shown by its row in a Mach-O file.
use Rattle.std.proofs.Common.{◌≡◌, ℕ, suc, ◌+◌, ◌<◌, List, ◌∷◌, ◌++◌, length, take, map, Bool, true, false, cond, ◌&&◌, not, Option, Some, None, refl, ap, sym, ◌∙◌, subst, arith, slice_get}
use Rattle.std.specs.Prelude.{filter, count_by, option_map}
use Rattle.std.specs.List.{All}
use Rattle.std.proofs.lemmas.List.Sums.{length-filter}
use Rattle.byte_core.proofs.Lists.{get_left, get_right, get_map, get_filter}
use Rattle.ir_core.specs.Target.{Target}
use Rattle.ir_core.specs.declared.target.BinaryFormat.{BinaryFormat}
use Rattle.image_read.specs.MachImage.{MachImageData, MachReads}
use Rattle.object_core.specs.declared.kinds.SymbolKind.{SymbolKind}
use Rattle.object_core.specs.declared.kinds.SymbolKind.TheVariants as kind
use Rattle.object_core.specs.declared.kinds.SymbolScope.{SymbolScope}
use Rattle.object_core.specs.Object.{SymbolData, SectionData, plain_symbol, is_local, is_global, is_in_section, has_own_scope}
use Rattle.object_core.specs.WellFormed.{is_file}
use Rattle.object_core.specs.MachRows.{is_mach_local, mach_row_in, mach_symbol, mach_symbol_name_of, mach_type, mach_desc, hidden_bit, macho_table_of}
use Rattle.object_macho.specs.MachHolds.{MachHolds}
use Rattle.object_macho.specs.Fitting.{FitsMach}
use Rattle.object_macho.specs.TableImage.{symbol_shown, image_for}
use Rattle.object_macho.proofs.OfBytes.{held_image}
use Rattle.cranelift_module.specs.declared.linkage.Linkage.{Linkage}
use Rattle.cranelift_module.specs.declared.linkage.Linkage.TheVariants.{Import, Local, Hidden, Preemptible, Export}
use Rattle.cranelift_module.specs.declared.identifiers.FuncOrDataId.{FuncOrDataId}
use Rattle.cranelift_module.specs.Call.{Call}
use Rattle.cranelift_module.specs.LinkState.{LinkState, state_of}
use Rattle.cranelift_module.specs.Marks.{linkage_held, name_held, linkage_of, name_of}
use Rattle.cranelift_module.proofs.MarkLaws.{marks-state}
use Rattle.cranelift_object.specs.Settings.{Settings}
use Rattle.cranelift_object.specs.Placing.{Placed, placed}
use Rattle.cranelift_object.specs.Linked.{is_kept, is_weak, scope_of, symbol_place, defined_at, named_symbol, identifier_symbol, symbols_of, sections_of, object_of}
use Rattle.cranelift_object.specs.ShownLinkage.{IsFinished}
use Rattle.cranelift_object.specs.ShownMach.{linkage_told, mach_table_for, mach_identifier_row, MachShowLinkages, mach_table_rows}
use Rattle.cranelift_object.proofs.StateSound.{IsSound, sound_state}
use Rattle.cranelift_object.proofs.ShownLaws.{Fits, is_of_identifier, identifier_at, identifier_number, identifier_stands}

-- ---- what a row shows

told_from : SymbolData → Linkage
told_from s = linkage_told (mach_type (plain_symbol s)) (mach_desc (plain_symbol s))

-- what the row of a symbol tells that is local or not, weak or not, in a section or not, kept or not
abbrev told_by : Bool → SymbolScope → Bool → Bool → Bool → Linkage
told_by here scope weak inside kept = linkage_told (cond inside 0x0e 0 + cond here 0 (1 + hidden_bit scope weak)) (cond here 0 (cond (not weak) 0 (cond inside 0x80 0x40)) + cond kept 0x20 0)

told_table : (linkage : Linkage) (at : Option Placed) (kept : Bool) → Fits linkage at → told_by (is_in_section (symbol_place at) && has_own_scope (scope_of linkage)) (scope_of linkage) (is_weak linkage) (is_in_section (symbol_place at)) kept ≡ linkage
told_table Import None true h = refl
told_table Import None false h = refl
told_table Import (Some p) kept h = absurd (cc)
told_table Local None kept h = absurd (cc)
told_table Local (Some p) kept h = refl
told_table Hidden None kept h = absurd (cc)
told_table Hidden (Some p) kept h = refl
told_table Preemptible None true h = refl
told_table Preemptible None false h = refl
told_table Preemptible (Some p) true h = refl
told_table Preemptible (Some p) false h = refl
told_table Export None kept h = absurd (cc)
told_table Export (Some p) true h = refl
told_table Export (Some p) false h = refl

-- a symbol shows the linkage of its identifier
kind_told : (format : BinaryFormat) (name : List ℕ) (linkage : Linkage) (k : SymbolKind) (at : Option Placed) → is_of_identifier k ≡ true → Fits linkage at → told_from (named_symbol format name linkage k at) ≡ linkage
unfolding told_from
kind_told format name linkage kind.Text at o h = told_table linkage at (is_kept format at) h
kind_told format name linkage kind.Data at o h = told_table linkage at (is_kept format at) h
kind_told format name linkage kind.Tls at o h = told_table linkage at (is_kept format at) h
kind_told format name linkage kind.Label at o h = absurd (cc)
kind_told format name linkage kind.File at o h = absurd (cc)

name_under : (k : SymbolKind) (name : List ℕ) → is_of_identifier k ≡ true → mach_symbol_name_of k name ≡ 0x5f ∷ name
name_under kind.Text name o = refl
name_under kind.Data name o = refl
name_under kind.Tls name o = refl
name_under kind.Label name o = absurd (cc)
name_under kind.File name o = absurd (cc)

no_file : (k : SymbolKind) → is_of_identifier k ≡ true → is_file k ≡ false
no_file kind.Text o = refl
no_file kind.Data o = refl
no_file kind.Tls o = refl
no_file kind.Label o = refl
no_file kind.File o = absurd (cc)

-- ---- the row of a symbol in the table

own_local : (s : SymbolData) → is_local s ≡ true → is_file s.kind ≡ false → is_mach_local s ≡ true
own_local s h f = rw (h, f) refl

row_of_local : (ss : List SymbolData) (k : ℕ) (x : SymbolData) (b : Bool) → slice_get ss k ≡ Some x → is_local x ≡ b → is_file x.kind ≡ false
    → slice_get (filter is_mach_local ss ++ filter is_global ss) (cond b (count_by is_mach_local (take k ss)) (count_by is_mach_local ss + count_by is_global (take k ss))) ≡ Some x
row_of_local ss k x true e h f = get_left (filter is_mach_local ss) (filter is_global ss) (count_by is_mach_local (take k ss)) x (get_filter is_mach_local ss k x e (own_local x h f))
row_of_local ss k x false e h f =
    let place : length (filter is_mach_local ss) + count_by is_global (take k ss) ≡ count_by is_mach_local ss + count_by is_global (take k ss) = omega (arith, length-filter is_mach_local ss) in
    get_right (filter is_mach_local ss) (filter is_global ss) (count_by is_global (take k ss)) (count_by is_mach_local ss + count_by is_global (take k ss)) x (get_filter is_global ss k x e (ap not h)) place

-- a symbol but a file's stands in the table in its row
mach_row_get : (sections : List SectionData) (ss : List SymbolData) (k : ℕ) (x : SymbolData) → slice_get ss k ≡ Some x → is_file x.kind ≡ false
    → slice_get (map symbol_shown (map (mach_symbol sections) (filter is_mach_local ss ++ filter is_global ss))) (mach_row_in ss k) ≡ Some (symbol_shown (mach_symbol sections x))
unfolding mach_row_in
mach_row_get sections ss k x e f =
    let there : slice_get (filter is_mach_local ss ++ filter is_global ss) (mach_row_in ss k) ≡ Some x = rw e (row_of_local ss k x (is_local x) e refl f) in
    get_map symbol_shown (map (mach_symbol sections) (filter is_mach_local ss ++ filter is_global ss)) (mach_row_in ss k) (mach_symbol sections x) (get_map (mach_symbol sections) (filter is_mach_local ss ++ filter is_global ss) (mach_row_in ss k) x there)

row_get : (settings : Settings) (s : LinkState) (r : ℕ) (id : FuncOrDataId) → IsSound s → slice_get s.created r ≡ Some id → is_file (identifier_symbol s (placed settings s) id).kind ≡ false
    → slice_get (map symbol_shown (macho_table_of (object_of settings s)).symbols) (mach_identifier_row settings s id) ≡ Some (symbol_shown (mach_symbol (sections_of settings s (placed settings s)) (identifier_symbol s (placed settings s) id)))
unfolding object_of macho_table_of
row_get settings s r id sound e f =
    rw (identifier_number settings s r id sound e) (mach_row_get (sections_of settings s (placed settings s)) (symbols_of settings s (placed settings s)) (suc r) (identifier_symbol s (placed settings s) id) (identifier_at settings s r id e) f)

-- ---- each identifier

pub mach_linkages_shown : (settings : Settings) (target : Target) (calls : List Call) → IsFinished target calls → MachShowLinkages settings target calls (mach_table_rows settings target calls)
unfolding told_from
mach_linkages_shown settings target calls finished id linkage h =
    let s = state_of target calls in
    let ps = placed settings s in
    let sections = sections_of settings s ps in
    let marks = marks-state target calls id 0 0 in
    let held : linkage_of calls id ≡ linkage_held s id = marks.1 in
    let named : name_of calls id ≡ name_held s id = marks.2 in
    let sound = sound_state target calls finished.accepted in
    let standing = identifier_stands settings s id linkage sound finished.ended (sym held ∙ h) in
    let file : is_file (identifier_symbol s ps id).kind ≡ false = ap (λ (x : SymbolData). is_file x.kind) standing.symbol ∙ no_file standing.symbol_kind standing.of_identifier in
    record {
      row = symbol_shown (mach_symbol sections (identifier_symbol s ps id));
      at = row_get settings s standing.place id sound standing.at file;
      name = ap (option_map (λ (name : List ℕ). 0x5f ∷ name)) (named ∙ standing.named)
          ∙ ap (λ (n : List ℕ). Some n) (sym (name_under standing.symbol_kind standing.name standing.of_identifier))
          ∙ ap (λ (x : SymbolData). Some (mach_symbol_name_of x.kind x.name)) (sym standing.symbol);
      linkage = held ∙ standing.held
          ∙ ap (λ (l : Linkage). Some l) (sym (kind_told s.target.triple.binary_format standing.name standing.linkage standing.symbol_kind (defined_at ps id) standing.of_identifier standing.fits))
          ∙ ap (λ (x : SymbolData). Some (told_from x)) (sym standing.symbol);
    }

-- ---- read back from a file

pub mach_file_read : (settings : Settings) (target : Target) (calls : List Call) (file : List ℕ) (image : MachImageData) → FitsMach (mach_table_for settings target calls) → All (λ x. x < 256) file → MachHolds file (mach_table_for settings target calls)
    → MachReads file image → image ≡ image_for (mach_table_for settings target calls)
mach_file_read settings target calls file image fits bytes holds reads = (held_image (mach_table_for settings target calls) file fits bytes holds).only image reads

pub mach_file_linkages : (settings : Settings) (target : Target) (calls : List Call) (file : List ℕ) (image : MachImageData) → IsFinished target calls → FitsMach (mach_table_for settings target calls) → All (λ x. x < 256) file
    → MachHolds file (mach_table_for settings target calls) → MachReads file image
    → MachShowLinkages settings target calls image.symbols
unfolding image_for
mach_file_linkages settings target calls file image finished fits bytes holds reads =
    let same : mach_table_rows settings target calls ≡ image.symbols = ap (λ (i : MachImageData). i.symbols) (sym (mach_file_read settings target calls file image fits bytes holds reads)) in
    subst (MachShowLinkages settings target calls) same (mach_linkages_shown settings target calls finished)

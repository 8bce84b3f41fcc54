-- The object of a state, one definition after the other.
use Rattle.std.proofs.Common.{◌≡◌, ℕ, zero, suc, ◌+◌, ◌++◌, ◌∷◌, List, [], Bool, true, false, length, map, Option, Some, None, refl, ap, sym, ◌∙◌, arith, ◌≢◌}
use Rattle.std.proofs.lemmas.List.{map-append}
use Rattle.std.proofs.lemmas.List.Sums.{sum_by_push}
use Rattle.std.proofs.lemmas.List.Elements.{All-map}
use Rattle.std.specs.Prelude.{slice_get, option_map, unwrap_or}
use Rattle.std.specs.List.{All}
use Rattle.std.specs.Int.{next_multiple_of}
use Rattle.object_core.specs.Object.{SymbolData, SectionData, ObjectData}
use Rattle.object_core.specs.Places.{end_of}
use Rattle.object_core.specs.Appending.{changed_at, next_offset, offset_in, defined_symbol, file_symbol}
use Rattle.cranelift_module.specs.declared.identifiers.FuncOrDataId.{FuncOrDataId}
use Rattle.cranelift_module.specs.Definitions.{Definition, size_of}
use Rattle.cranelift_module.specs.LinkState.{LinkState}
use Rattle.cranelift_module.specs.Refusal.{is_same_identifier}
use Rattle.cranelift_object.specs.Settings.{Settings}
use Rattle.cranelift_object.specs.SectionClass.{Class, section_class}
use Rattle.cranelift_object.specs.Placing.{Placed, placed, placed_at, sections_used, align_of, room_of}
use Rattle.cranelift_object.specs.Linked.{defined_at, identifier_symbol, extra_symbol, symbols_of, sections_of, section_with, members, object_of, object_relocation, is_unstored_class, marks_symbol}
use Rattle.cranelift_object.specs.Kept.{IsDeclared}
use Rattle.cranelift_object.specs.Product.{with_symbol_contents, with_relocations, relocated_by, with_kept, kept_symbol}
use Rattle.cranelift_object.specs.Targets.{extras}
use Rattle.cranelift_object.specs.Extras.{extra_target, AreExtras}
use Rattle.cranelift_object.specs.Adding.{with_added}
use Rattle.cranelift_object.specs.declared.extras.Extra.{Extra}
use Rattle.cranelift_object.specs.Partial.{placed_of, sections_from, partial, opened, number_behind}
use Rattle.cranelift_object.proofs.ChangeLaws.{changed_twice}
use Rattle.cranelift_object.proofs.SectionLaws.{sections_changed, contents_length, grown, relocations_at}
use Rattle.cranelift_object.proofs.ClassLaws.{placed_of-end, placed_definitions, members_extents, IsShareable, class_there}
use Rattle.cranelift_object.proofs.SymbolLaws.{identifiers_changed, kept_by}

-- -- all definitions

classes_placed : (settings : Settings) (s : LinkState) (ps : List Placed) → map (λ (p : Placed). section_class settings s p.definition) ps ≡ map (section_class settings s) (map (λ (p : Placed). p.definition) ps)
classes_placed settings s [] = refl
classes_placed settings s (p ∷ ps) = rw (classes_placed settings s ps) refl

pub sections_whole : (settings : Settings) (s : LinkState) (ds : List Definition) → sections_of settings s (placed_of settings s ds) ≡ sections_from settings s 0 (sections_used (map (section_class settings s) ds)) (placed_of settings s ds)
unfolding sections_of
sections_whole settings s ds =
    ap (λ (classes : List Class). sections_from settings s 0 (sections_used classes) (placed_of settings s ds)) (classes_placed settings s (placed_of settings s ds) ∙ ap (map (section_class settings s)) (placed_definitions settings s ds))

pub map_twice : {A B C : Type 0} (f : B → C) (g : A → B) (xs : List A) → map f (map g xs) ≡ map (λ x. f (g x)) xs
map_twice f g [] = refl
map_twice f g (x ∷ xs) = rw (map_twice f g xs) refl

symbols_whole : (settings : Settings) (s : LinkState) (ps : List Placed) (es : List Extra) → AreExtras settings s es
    → (file_symbol settings.file_name ∷ map (identifier_symbol s ps) s.created) ++ map (λ (e : Extra). extra_symbol ps (extra_target settings e)) es ≡ symbols_of settings s ps
unfolding symbols_of extras
symbols_whole settings s ps es h =
    ap (λ (ts : List SymbolData). (file_symbol settings.file_name ∷ map (identifier_symbol s ps) s.created) ++ ts) (sym (map_twice (extra_symbol ps) (extra_target settings) es) ∙ ap (map (extra_symbol ps)) h.found)

-- with all its definitions, and the symbols of what relocations add, it is the object of the state
pub partial_whole : (settings : Settings) (s : LinkState) (es : List Extra) → AreExtras settings s es → with_added settings s (partial settings s s.definitions) es ≡ object_of settings s
unfolding partial object_of placed
partial_whole settings s es h = rw (sections_whole settings s s.definitions, sym (symbols_whole settings s (placed_of settings s s.definitions) es h)) refl

-- -- one more definition

pub section_at : (settings : Settings) (s : LinkState) (ps : List Placed) (classes : List Class) (i j k : ℕ) (c : Class) → slice_get classes k ≡ Some c → j ≡ i + k → slice_get (sections_from settings s i classes ps) k ≡ Some (section_with settings s c (members ps j))
section_at settings s ps [] i j k c at e = absurd (cc)
section_at settings s ps (d ∷ classes) i j zero c at e =
    let same : d ≡ c = cc in
    let here : j ≡ i = omega arith in
    rw (same, here) refl
section_at settings s ps (d ∷ classes) i j (suc k) c at e = section_at settings s ps classes (i + 1) j k c at (omega arith)

same_object : (o : ObjectData) (a b : List SectionData) (c e : List SymbolData) (m n : ℕ) → a ≡ b → c ≡ e → m ≡ n → record o { sections = a; symbols = c; content_sum = m } ≡ record o { sections = b; symbols = e; content_sum = n }
same_object o a b c e m n p q r = rw (p, q, r) refl

-- the section of one more definition is there, and is of its class
pub section_there : (settings : Settings) (s : LinkState) (ds : List Definition) (d : Definition) → All (λ (x : Definition). IsShareable s.target.triple.binary_format (section_class settings s x)) ds → IsShareable s.target.triple.binary_format (section_class settings s d)
    → slice_get (sections_used (map (section_class settings s) ds ++ section_class settings s d ∷ [])) (number_behind settings s ds d) ≡ Some (section_class settings s d)
section_there settings s ds d all here = class_there s.target.triple.binary_format (map (section_class settings s) ds) (section_class settings s d) (All-map (IsShareable s.target.triple.binary_format) (section_class settings s) ds all) here

pub opened_section : (settings : Settings) (s : LinkState) (ds : List Definition) (d : Definition) → All (λ (x : Definition). IsShareable s.target.triple.binary_format (section_class settings s x)) ds → IsShareable s.target.triple.binary_format (section_class settings s d)
    → slice_get (opened settings s ds d).sections (number_behind settings s ds d) ≡ Some (section_with settings s (section_class settings s d) (members (placed_of settings s ds) (number_behind settings s ds d)))
unfolding opened
opened_section settings s ds d all here =
    let n : ℕ = number_behind settings s ds d in
    section_at settings s (placed_of settings s ds) (sections_used (map (section_class settings s) ds ++ section_class settings s d ∷ [])) 0 n n (section_class settings s d) (section_there settings s ds d all here) (omega arith)

-- where one more definition stands
pub offset_there : (settings : Settings) (s : LinkState) (ds : List Definition) (d : Definition) → All (λ (x : Definition). IsShareable s.target.triple.binary_format (section_class settings s x)) ds → IsShareable s.target.triple.binary_format (section_class settings s d)
    → next_offset (opened settings s ds d) (number_behind settings s ds d) (align_of s d) ≡ (placed_at settings s (record { before = ds; here = d })).offset
offset_there settings s ds d all here =
    ap (λ (o : Option SectionData). unwrap_or (option_map (offset_in (align_of s d)) o) 0) (opened_section settings s ds d all here)
    ∙ ap (λ extents. next_multiple_of (end_of extents) (align_of s d)) (members_extents settings s (number_behind settings s ds d) ds)

-- the contents of a definition behind those of its section, and its symbol there
grown_object : (b : Bool) (s : LinkState) (o : ObjectData) (d : Definition) (symbol section : ℕ) → o.format ≡ s.target.triple.binary_format
    → record o {
      sections = changed_at section (grown b s d) o.sections;
      symbols = changed_at symbol (defined_symbol section (next_offset o section (align_of s d)) (size_of d.contents)) o.symbols;
      content_sum = o.content_sum + (room_of s d + align_of s d);
    } ≡ with_symbol_contents b o symbol section d.contents (align_of s d)
grown_object true s o d symbol section e = rw e refl
grown_object false s o d symbol section e = rw (e, contents_length d.contents) refl

-- the same with the mark that the linker keeps the symbol
marked_object : (b marked : Bool) (s : LinkState) (o : ObjectData) (d : Definition) (symbol section : ℕ) → o.format ≡ s.target.triple.binary_format
    → record o {
      sections = changed_at section (grown b s d) o.sections;
      symbols = changed_at symbol (λ (x : SymbolData). kept_by marked (defined_symbol section (next_offset o section (align_of s d)) (size_of d.contents) x)) o.symbols;
      content_sum = o.content_sum + (room_of s d + align_of s d);
    } ≡ with_kept marked (with_symbol_contents b o symbol section d.contents (align_of s d)) symbol
marked_object b false s o d symbol section e = grown_object b s o d symbol section e
marked_object b true s o d symbol section e =
    let define : SymbolData → SymbolData = defined_symbol section (next_offset o section (align_of s d)) (size_of d.contents) in
    ap (λ (xs : List SymbolData). record o { sections = changed_at section (grown b s d) o.sections; symbols = xs; content_sum = o.content_sum + (room_of s d + align_of s d) }) (sym (changed_twice symbol kept_symbol define o.symbols))
    ∙ ap (λ (x : ObjectData). with_kept true x symbol) (grown_object b s o d symbol section e)

-- an object with one more definition is the opened one with its contents behind those of its section, and its relocations
pub partial-end : (b : Bool) (settings : Settings) (s : LinkState) (ds : List Definition) (d : Definition) (r : ℕ) → All (λ (x : Definition). IsShareable s.target.triple.binary_format (section_class settings s x)) ds → IsShareable s.target.triple.binary_format (section_class settings s d) → is_unstored_class s (section_class settings s d) ≡ b
    → IsDeclared (length s.functions) (length s.objects) d.identifier → defined_at (placed_of settings s ds) d.identifier ≡ None → slice_get s.created r ≡ Some d.identifier
    → ((i : ℕ) (y : FuncOrDataId) → slice_get s.created i ≡ Some y → i ≢ r → is_same_identifier y d.identifier ≡ false)
    → partial settings s (ds ++ d ∷ [])
    ≡ with_relocations (with_kept (marks_symbol s.target.triple.binary_format d.used) (with_symbol_contents b (opened settings s ds d) (suc r) (number_behind settings s ds d) d.contents (align_of s d)) (suc r)) (number_behind settings s ds d)
    (map (object_relocation settings s (next_offset (opened settings s ds d) (number_behind settings s ds d) (align_of s d))) d.relocs)
unfolding partial opened
partial-end b settings s ds d r all here kind declared undefined at apart =
    let ps : List Placed = placed_of settings s ds in
    let p : Placed = placed_at settings s (record { before = ds; here = d }) in
    let classes : List Class = sections_used (map (section_class settings s) ds ++ section_class settings s d ∷ []) in
    let n : ℕ = number_behind settings s ds d in
    let o : ObjectData = opened settings s ds d in
    let marked : Bool = marks_symbol s.target.triple.binary_format d.used in
    let define : ℕ → SymbolData → SymbolData = λ place x. kept_by marked (defined_symbol n place (size_of d.contents) x) in
    let sections =
    ap (λ (cs : List Class). sections_from settings s 0 (sections_used cs) (placed_of settings s (ds ++ d ∷ []))) (map-append (section_class settings s) ds (d ∷ []))
    ∙ ap (sections_from settings s 0 classes) (placed_of-end settings s ds d)
    ∙ sections_changed b settings s 0 n classes (section_class settings s d) ps p (omega arith) (section_there settings s ds d all here) kind
    in
    let offset = sym (offset_there settings s ds d all here) in
    let symbols =
    ap (λ (qs : List Placed). file_symbol settings.file_name ∷ map (identifier_symbol s qs) s.created) (placed_of-end settings s ds d)
    ∙ ap (λ (ts : List SymbolData). file_symbol settings.file_name ∷ ts) (identifiers_changed s ps p d.identifier r declared refl undefined at apart)
    ∙ ap (λ (place : ℕ). file_symbol settings.file_name ∷ changed_at r (define place) (map (identifier_symbol s ps) s.created)) offset
    in
    let sum = sum_by_push (λ (x : Definition). room_of s x + align_of s x) ds d in
    let whole =
    same_object o _ _ _ _ _ _ sections symbols sum
    ∙ ap (λ (xs : List SectionData). record o { sections = xs; symbols = changed_at (suc r) (define (next_offset o n (align_of s d))) o.symbols; content_sum = o.content_sum + (room_of s d + align_of s d) })
    (sym (changed_twice n (relocated_by (relocations_at settings s p)) (grown b s d) o.sections))
    in
    whole
    ∙ ap (λ (x : ObjectData). with_relocations x n (relocations_at settings s p)) (marked_object b marked s o d (suc r) n refl)
    ∙ ap (λ (place : ℕ). with_relocations (with_kept marked (with_symbol_contents b o (suc r) n d.contents (align_of s d)) (suc r)) n (map (object_relocation settings s place) d.relocs)) offset

-- the format of the object is the target's
pub partial_format : (settings : Settings) (s : LinkState) (ds : List Definition) → (partial settings s ds).format ≡ s.target.triple.binary_format
unfolding partial
partial_format settings s ds = refl

pub opened_format : (settings : Settings) (s : LinkState) (ds : List Definition) (d : Definition) → (opened settings s ds d).format ≡ s.target.triple.binary_format
unfolding opened
opened_format settings s ds d = refl

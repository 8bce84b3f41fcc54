-- The symbols and sections of an object, by their names' places.
use Rattle.std.proofs.Common.{◌≡◌, Option, None, ℕ, zero, suc, ◌<◌, ◌≤◌, ◌++◌, ◌∷◌, List, [], false, inl, inr, length, get_or, set, Some, refl, ap, sym, ◌∙◌, subst, arith, length-append, length-set, map}
use Rattle.std.proofs.lemmas.Bool.{cases_Bool}
use Rattle.std.proofs.lemmas.List.{append_assoc, map-append}
use Rattle.std.proofs.lemmas.List.Concat.{flat_map-cons}
use Rattle.std.proofs.lemmas.Grind.{flat_map-append}
use Rattle.std.proofs.lemmas.List.Elements.{All-push, All-get_or}
use Rattle.std.proofs.lemmas.Option.{slice_get-get_or, slice_get_within, get_or_from_slice_get}
use Rattle.std.specs.Prelude.{slice_get, option_map, unwrap_or, flat_map}
use Rattle.std.specs.List.{All, position_from}
use Rattle.std.specs.Str.{bytes_eq}
use Rattle.object_core.specs.declared.object.SectionNames.{SectionNames}
use Rattle.object_core.specs.declared.symbol.Symbol.{Symbol}
use Rattle.object_core.specs.declared.kinds.SectionKind.TheVariants as held
use Rattle.object_core.specs.declared.kinds.SymbolKind.TheVariants as kind
use Rattle.object_core.specs.declared.kinds.SymbolScope.TheVariants as scope
use Rattle.object_core.specs.declared.kinds.SymbolSection.TheVariants.{Undefined}
use Rattle.object_core.specs.Object.{SymbolData, SectionData, SectionBody, named, plain_symbol, with_texts, body_of, changed_symbol, changed_body}
use Rattle.object_core.specs.Appending.{changed_at}
use Rattle.object_core.specs.Names.{is_among, with_text, text_at}
use Rattle.object_core.specs.ObjectNames.{names_of, symbol_at, section_at, symbols_in, sections_in, AreWithin, AreCounted, AreNames}
use Rattle.object_core.proofs.Texts.{get_with_text}
use Rattle.object_core.proofs.Joined.{length-zip_with, map-zip_with, get-zip_with, push-zip_with, set-zip_with, same-zip_with, changed-zip_with, position-zip_with}
use Rattle.object_core.proofs.Sections.{changed_set}
use Rattle.object_core.proofs.Counted.{counted_put, counted_two}

abbrev symbol_name : SymbolData → List ℕ
symbol_name s = s.name

abbrev section_texts : SectionData → List (List ℕ)
section_texts s = s.segment ∷ s.name ∷ []

-- -- places

text_is : (texts : List (List ℕ)) (place : ℕ) (text : List ℕ) → slice_get texts place ≡ Some text → text_at texts place ≡ text
text_is texts place text h = ap (λ found. unwrap_or found []) h

-- a symbol and a section that stand for one where a list has none
no_symbol : Symbol
no_symbol = record { value = 0; size = 0; kind = kind.Text; scope = scope.Unknown; weak = false; section = Undefined; no_dead_strip = false }

no_section : SectionBody
no_section = record { kind = held.Text; macho_flags = 0; retain = false; align = 1; size = 0; contents = []; relocations = []; shared = None }

set_texts : (texts : List (List ℕ)) (places : List SectionNames) (sections : List SectionBody) (i : ℕ) (s : SectionBody) → flat_map section_texts (sections_in texts places (set sections i s)) ≡ flat_map section_texts (sections_in texts places sections)
set_texts texts [] sections i s = refl
set_texts texts (p ∷ ps) [] i s = refl
set_texts texts (p ∷ ps) (b ∷ bs) zero s = flat_map-cons section_texts (section_at texts p s) (sections_in texts ps bs) ∙ sym (flat_map-cons section_texts (section_at texts p b) (sections_in texts ps bs))
set_texts texts (p ∷ ps) (b ∷ bs) (suc i) s =
    flat_map-cons section_texts (section_at texts p b) (sections_in texts ps (set bs i s)) ∙ ap (λ names. section_texts (section_at texts p b) ++ names) (set_texts texts ps bs i s) ∙ sym (flat_map-cons section_texts (section_at texts p b) (sections_in texts ps bs))

module _ (texts : List (List ℕ)) (places : List ℕ) (symbols : List Symbol) (section_places : List SectionNames) (sections : List SectionBody) (h : AreNames texts places symbols section_places sections) where
  pub symbol_list : map plain_symbol (symbols_in texts places symbols) ≡ symbols
  symbol_list = map-zip_with (symbol_at texts) plain_symbol places symbols (λ x y. refl) h.symbol_count

  pub section_list : map body_of (sections_in texts section_places sections) ≡ sections
  section_list = map-zip_with (section_at texts) body_of section_places sections (λ x y. refl) h.section_count

  pub count_symbols : length (symbols_in texts places symbols) ≡ length symbols
  count_symbols = length-zip_with (symbol_at texts) places symbols h.symbol_count

  pub count_sections : length (sections_in texts section_places sections) ≡ length sections
  count_sections = length-zip_with (section_at texts) section_places sections h.section_count

  -- the symbol of this number
  pub symbol_here : (now : List SymbolData) (i id : ℕ) → symbols_in texts places symbols ≡ now → i ≡ id → id < length now → i < length symbols
  symbol_here now i id same is below = omega (arith, below, is, ap length same, count_symbols)

  pub symbol_place : (now : List SymbolData) (i id : ℕ) → symbols_in texts places symbols ≡ now → i ≡ id → id < length now → i < length places
  symbol_place now i id same is below = omega (arith, symbol_here now i id same is below, h.symbol_count)

  symbol_joined : (now : List SymbolData) (i id place : ℕ) (s : Symbol) → symbols_in texts places symbols ≡ now → i ≡ id → id < length now → slice_get now id ≡ Some (symbol_at texts (get_or places i place) (get_or symbols i s))
  symbol_joined now i id place s same is below = ap (λ found. slice_get found id) (sym same) ∙ ap (slice_get (symbols_in texts places symbols)) (sym is) ∙ get-zip_with (symbol_at texts) places symbols i place s (symbol_place now i id same is below) h.symbol_count

  pub symbol_plain : (now : List SymbolData) (i id : ℕ) (s : Symbol) → symbols_in texts places symbols ≡ now → i ≡ id → id < length now → s ≡ get_or symbols i s → option_map plain_symbol (slice_get now id) ≡ Some s
  symbol_plain now i id s same is below e = let place : ℕ = 0 in ap (option_map plain_symbol) (symbol_joined now i id place s same is below) ∙ ap Some (sym e)

  pub name_place : (now : List SymbolData) (i id place : ℕ) → symbols_in texts places symbols ≡ now → i ≡ id → id < length now → place ≡ get_or places i place → place < length texts
  name_place now i id place same is below e = subst (λ n. n < length texts) (sym e) (All-get_or (λ n. n < length texts) places i place (symbol_place now i id same is below) h.symbols_within)

  pub symbol_named : (now : List SymbolData) (i id place : ℕ) (name : List ℕ) → symbols_in texts places symbols ≡ now → i ≡ id → id < length now → place ≡ get_or places i place → slice_get texts place ≡ Some name → option_map symbol_name (slice_get now id) ≡ Some name
  symbol_named now i id place name same is below e at = ap (option_map symbol_name) (symbol_joined now i id place no_symbol same is below) ∙ ap (λ (n : ℕ). Some (text_at texts n)) (sym e) ∙ ap Some (text_is texts place name at)

  -- the section of this number
  pub section_here : (now : List SectionData) (i id : ℕ) → sections_in texts section_places sections ≡ now → i ≡ id → id < length now → i < length sections
  section_here now i id same is below = omega (arith, below, is, ap length same, count_sections)

  pub section_place : (now : List SectionData) (i id : ℕ) → sections_in texts section_places sections ≡ now → i ≡ id → id < length now → i < length section_places
  section_place now i id same is below = omega (arith, section_here now i id same is below, h.section_count)

  section_joined : (now : List SectionData) (i id : ℕ) (place : SectionNames) (s : SectionBody) → sections_in texts section_places sections ≡ now → i ≡ id → id < length now → slice_get now id ≡ Some (section_at texts (get_or section_places i place) (get_or sections i s))
  section_joined now i id place s same is below =
      ap (λ found. slice_get found id) (sym same) ∙ ap (slice_get (sections_in texts section_places sections)) (sym is) ∙ get-zip_with (section_at texts) section_places sections i place s (section_place now i id same is below) h.section_count

  pub texts_place : (now : List SectionData) (i id : ℕ) (place : SectionNames) → sections_in texts section_places sections ≡ now → i ≡ id → id < length now → place ≡ get_or section_places i place → AreWithin (length texts) place
  texts_place now i id place same is below e = subst (AreWithin (length texts)) (sym e) (All-get_or (AreWithin (length texts)) section_places i place (section_place now i id same is below) h.sections_within)

  pub section_named : (now : List SectionData) (i id : ℕ) (place : SectionNames) (name : List ℕ) → sections_in texts section_places sections ≡ now → i ≡ id → id < length now → place ≡ get_or section_places i place → slice_get texts place.name ≡ Some name
      → option_map (λ (x : SectionData). x.name) (slice_get now id) ≡ Some name
  section_named now i id place name same is below e at = ap (option_map (λ (x : SectionData). x.name)) (section_joined now i id place no_section same is below) ∙ ap (λ (n : SectionNames). Some (text_at texts n.name)) (sym e) ∙ ap Some (text_is texts place.name name at)

  pub section_segmented : (now : List SectionData) (i id : ℕ) (place : SectionNames) (name : List ℕ) → sections_in texts section_places sections ≡ now → i ≡ id → id < length now → place ≡ get_or section_places i place → slice_get texts place.segment ≡ Some name
      → option_map (λ (x : SectionData). x.segment) (slice_get now id) ≡ Some name
  section_segmented now i id place name same is below e at = ap (option_map (λ (x : SectionData). x.segment)) (section_joined now i id place no_section same is below) ∙ ap (λ (n : SectionNames). Some (text_at texts n.segment)) (sym e) ∙ ap Some (text_is texts place.segment name at)

  -- the first symbol of a name
  pub first_named : (now : List SymbolData) (listed : List ℕ) (name : List ℕ) (found : Option ℕ) → symbols_in texts places symbols ≡ now → listed ≡ places → found ≡ position_from (λ place. bytes_eq (text_at texts place) name) 0 listed → found ≡ position_from (λ (s : SymbolData). bytes_eq s.name name) 0 now
  first_named now listed name found same is e =
      e ∙ ap (position_from (λ place. bytes_eq (text_at texts place) name) 0) is
      ∙ sym (position-zip_with (symbol_at texts) (λ (s : SymbolData). bytes_eq s.name name) (λ place. bytes_eq (text_at texts place) name) 0 places symbols (λ place s. refl) h.symbol_count)
      ∙ ap (position_from (λ (s : SymbolData). bytes_eq s.name name) 0) same

  -- the section under its texts
  abbrev pub found_section : ℕ → SectionBody → SectionData
  found_section i s = section_at texts (get_or section_places i (record { segment = 0; name = 0 })) s

  pub found_is : (i : ℕ) (s : SectionBody) → i < length sections → s ≡ get_or sections i s → found_section i s ≡ get_or (sections_in texts section_places sections) i (found_section i s)
  found_is i s below e =
      let within : i < length section_places = omega (arith, below, h.section_count) in
      let joined = get-zip_with (section_at texts) section_places sections i (record { segment = 0; name = 0 }) s within h.section_count in
      sym (get_or_from_slice_get (sections_in texts section_places sections) i (found_section i s) (found_section i s) (joined ∙ ap (λ b. Some (found_section i b)) (sym e)))

  -- -- what changes

  pub set_section : (change : SectionData → SectionData) (i : ℕ) (s new : SectionBody) → ((segment name : List ℕ) (b : SectionBody) → with_texts segment name (changed_body change b) ≡ change (with_texts segment name b)) → i < length sections → s ≡ get_or sections i s → new ≡ changed_body change s
      → sections_in texts section_places (set sections i new) ≡ set (sections_in texts section_places sections) i (change (found_section i s))
  set_section change i s new law below e is =
      ap (λ b. sections_in texts section_places (set sections i b)) is
      ∙ changed-zip_with (section_at texts) change (changed_body change) section_places sections i s (λ q b. law (text_at texts q.segment) (text_at texts q.name) b) e
      ∙ sym (changed_set change (sections_in texts section_places sections) i (found_section i s) (found_is i s below e))

  pub set_symbol : (change : SymbolData → SymbolData) (i : ℕ) (s new : Symbol) → ((name : List ℕ) (t : Symbol) → named name (changed_symbol change t) ≡ change (named name t)) → s ≡ get_or symbols i s → new ≡ changed_symbol change s
      → symbols_in texts places (set symbols i new) ≡ changed_at i change (symbols_in texts places symbols)
  set_symbol change i s new law e is = ap (λ t. symbols_in texts places (set symbols i t)) is ∙ changed-zip_with (symbol_at texts) change (changed_symbol change) places symbols i s (λ p t. law (text_at texts p) t) e

  -- another symbol under the same name
  pub names_set_symbol : (i : ℕ) (s : Symbol) → AreNames texts places (set symbols i s) section_places sections
  names_set_symbol i s = record {
    symbols_within = h.symbols_within;
    sections_within = h.sections_within;
    symbol_count = h.symbol_count ∙ sym (length-set symbols i s);
    section_count = h.section_count;
    counted = subst (λ names. AreCounted texts (names ++ flat_map section_texts (sections_in texts section_places sections))) (sym (set-zip_with (symbol_at texts) symbol_name places symbols i s (λ x y z. refl))) h.counted;
  }

  -- another section under the same texts
  pub names_set_section : (i : ℕ) (s : SectionBody) → AreNames texts places symbols section_places (set sections i s)
  names_set_section i s = record {
    symbols_within = h.symbols_within;
    sections_within = h.sections_within;
    symbol_count = h.symbol_count;
    section_count = h.section_count ∙ sym (length-set sections i s);
    counted = subst (λ names. AreCounted texts (map symbol_name (symbols_in texts places symbols) ++ names)) (sym (set_texts texts section_places sections i s)) h.counted;
  }

-- -- what is appended

text_grows : (texts : List (List ℕ)) (text : List ℕ) (k : ℕ) → k < length texts → text_at (with_text texts text) k ≡ text_at texts k
text_grows texts text k below =
    let none : List ℕ = [] in
    let at : slice_get texts k ≡ Some (get_or texts k none) = slice_get-get_or texts k none below in
    text_is (with_text texts text) k (get_or texts k none) (get_with_text texts text k (get_or texts k none) at) ∙ sym (text_is texts k (get_or texts k none) at)

count_grows : (texts : List (List ℕ)) (text : List ℕ) → length texts ≤ length (with_text texts text)
count_grows texts text = elim (cases_Bool (is_among text texts)) [ inl there ↦ rw there (omega arith) | inr new ↦ rw new (omega (arith, length-append texts (text ∷ []))) ]

symbols_grow : (texts : List (List ℕ)) (text : List ℕ) (places : List ℕ) (symbols : List Symbol) → All (λ place. place < length texts) places → symbols_in (with_text texts text) places symbols ≡ symbols_in texts places symbols
symbols_grow texts text places symbols h =
    same-zip_with (symbol_at (with_text texts text)) (symbol_at texts) places symbols (λ k x y below. ap (λ name. named name y) (text_grows texts text (get_or places k x) (All-get_or (λ place. place < length texts) places k x below h)))

sections_grow : (texts : List (List ℕ)) (text : List ℕ) (places : List SectionNames) (sections : List SectionBody) → All (AreWithin (length texts)) places → sections_in (with_text texts text) places sections ≡ sections_in texts places sections
sections_grow texts text places sections h =
    same-zip_with (section_at (with_text texts text)) (section_at texts) places sections
    (λ k x y below. let within : AreWithin (length texts) (get_or places k x) = All-get_or (AreWithin (length texts)) places k x below h in
    ap (λ segment. with_texts segment (text_at (with_text texts text) (get_or places k x).name) y) (text_grows texts text (get_or places k x).segment within.0)
    ∙ ap (λ name. with_texts (text_at texts (get_or places k x).segment) name y) (text_grows texts text (get_or places k x).name within.1))

places_grow : (n m : ℕ) (places : List ℕ) → n ≤ m → All (λ place. place < n) places → All (λ place. place < m) places
places_grow n m places le h = λ k d below. omega (arith, le, h k d below)

section_places_grow : (n m : ℕ) (places : List SectionNames) → n ≤ m → All (AreWithin n) places → All (AreWithin m) places
section_places_grow n m places le h = λ k d below. let one = h k d below in (omega (arith, le, one.0), omega (arith, le, one.1))

-- one more symbol, under a name that is among the texts then
pub symbols_pushed : (texts new : List (List ℕ)) (places more : List ℕ) (symbols longer : List Symbol) (section_places : List SectionNames) (sections : List SectionBody) (name : List ℕ) (place : ℕ) (s : Symbol) → AreNames texts places symbols section_places sections
    → new ≡ with_text texts name → slice_get new place ≡ Some name → more ≡ places ++ place ∷ [] → longer ≡ symbols ++ s ∷ [] → symbols_in new more longer ≡ symbols_in texts places symbols ++ named name s ∷ []
symbols_pushed texts new places more symbols longer section_places sections name place s h grown at ps ss =
    rw (ps, ss) (push-zip_with (symbol_at new) places symbols place s h.symbol_count ∙ rw (text_is new place name at, grown, symbols_grow texts name places symbols h.symbols_within) refl)

pub sections_kept : (texts new : List (List ℕ)) (places : List ℕ) (symbols : List Symbol) (section_places : List SectionNames) (sections : List SectionBody) (name : List ℕ) → AreNames texts places symbols section_places sections → new ≡ with_text texts name
    → sections_in new section_places sections ≡ sections_in texts section_places sections
sections_kept texts new places symbols section_places sections name h grown = rw grown (sections_grow texts name section_places sections h.sections_within)

pub names_with_symbol : (texts new : List (List ℕ)) (places more : List ℕ) (symbols longer : List Symbol) (section_places : List SectionNames) (sections : List SectionBody) (name : List ℕ) (place : ℕ) (s : Symbol) → AreNames texts places symbols section_places sections
    → new ≡ with_text texts name → slice_get new place ≡ Some name → more ≡ places ++ place ∷ [] → longer ≡ symbols ++ s ∷ [] → AreNames new more longer section_places sections
names_with_symbol texts new places more symbols longer section_places sections name place s h grown at ps ss =
    let le : length texts ≤ length new = omega (arith, ap length grown, count_grows texts name) in
    let before : List (List ℕ) = map symbol_name (symbols_in texts places symbols) in
    let behind : List (List ℕ) = flat_map section_texts (sections_in texts section_places sections) in
    let given : names_of (symbols_in new more longer) (sections_in new section_places sections) ≡ before ++ name ∷ behind =
    ap (λ ss. names_of ss (sections_in new section_places sections)) (symbols_pushed texts new places more symbols longer section_places sections name place s h grown at ps ss)
    ∙ ap (λ xs. map symbol_name (symbols_in texts places symbols ++ named name s ∷ []) ++ flat_map section_texts xs) (sections_kept texts new places symbols section_places sections name h grown)
    ∙ ap (λ names. names ++ behind) (map-append symbol_name (symbols_in texts places symbols) (named name s ∷ []))
    ∙ append_assoc before (name ∷ []) behind
    in
    record {
      symbols_within = rw ps (All-push (λ n. n < length new) places place (places_grow (length texts) (length new) places le h.symbols_within) (slice_get_within new place name at));
      sections_within = section_places_grow (length texts) (length new) section_places le h.sections_within;
      symbol_count = rw (ps, ss) (omega (arith, length-append places (place ∷ []), length-append symbols (s ∷ []), h.symbol_count));
      section_count = h.section_count;
      counted = subst (AreCounted new) (sym given) (subst (λ ts. AreCounted ts (before ++ name ∷ behind)) (sym grown) (counted_put texts before behind name h.counted));
    }

-- one more section, under texts that are among them then
pub sections_pushed : (texts new : List (List ℕ)) (places : List ℕ) (symbols : List Symbol) (section_places more : List SectionNames) (sections longer : List SectionBody) (segment name : List ℕ) (place : SectionNames) (s : SectionBody) → AreNames texts places symbols section_places sections
    → new ≡ with_text (with_text texts segment) name → slice_get new place.segment ≡ Some segment → slice_get new place.name ≡ Some name → more ≡ section_places ++ place ∷ [] → longer ≡ sections ++ s ∷ []
    → sections_in new more longer ≡ sections_in texts section_places sections ++ with_texts segment name s ∷ []
sections_pushed texts new places symbols section_places more sections longer segment name place s h grown first second ps ss =
    let one : List (List ℕ) = with_text texts segment in
    rw (ps, ss)
    (push-zip_with (section_at new) section_places sections place s h.section_count
    ∙ rw (text_is new place.segment segment first, text_is new place.name name second, grown, sections_grow one name section_places sections (section_places_grow (length texts) (length one) section_places (count_grows texts segment) h.sections_within), sections_grow texts segment section_places sections h.sections_within) refl)

pub symbols_kept : (texts new : List (List ℕ)) (places : List ℕ) (symbols : List Symbol) (section_places : List SectionNames) (sections : List SectionBody) (segment name : List ℕ) → AreNames texts places symbols section_places sections → new ≡ with_text (with_text texts segment) name
    → symbols_in new places symbols ≡ symbols_in texts places symbols
symbols_kept texts new places symbols section_places sections segment name h grown =
    let one : List (List ℕ) = with_text texts segment in
    rw grown (symbols_grow one name places symbols (places_grow (length texts) (length one) places (count_grows texts segment) h.symbols_within) ∙ symbols_grow texts segment places symbols h.symbols_within)

pub names_with_section : (texts new : List (List ℕ)) (places : List ℕ) (symbols : List Symbol) (section_places more : List SectionNames) (sections longer : List SectionBody) (segment name : List ℕ) (place : SectionNames) (s : SectionBody) → AreNames texts places symbols section_places sections
    → new ≡ with_text (with_text texts segment) name → slice_get new place.segment ≡ Some segment → slice_get new place.name ≡ Some name → more ≡ section_places ++ place ∷ [] → longer ≡ sections ++ s ∷ [] → AreNames new places symbols more longer
names_with_section texts new places symbols section_places more sections longer segment name place s h grown first second ps ss =
    let le : length texts ≤ length new = omega (arith, ap length grown, count_grows texts segment, count_grows (with_text texts segment) name) in
    let before : List (List ℕ) = map symbol_name (symbols_in texts places symbols) in
    let middle : List (List ℕ) = flat_map section_texts (sections_in texts section_places sections) in
    let given : names_of (symbols_in new places symbols) (sections_in new more longer) ≡ (before ++ middle) ++ segment ∷ name ∷ [] =
    ap (λ ss. names_of ss (sections_in new more longer)) (symbols_kept texts new places symbols section_places sections segment name h grown)
    ∙ ap (λ xs. before ++ flat_map section_texts xs) (sections_pushed texts new places symbols section_places more sections longer segment name place s h grown first second ps ss)
    ∙ ap (λ names. before ++ names) (flat_map-append section_texts (sections_in texts section_places sections) (with_texts segment name s ∷ []))
    ∙ sym (append_assoc before middle (segment ∷ name ∷ []))
    in
    record {
      symbols_within = places_grow (length texts) (length new) places le h.symbols_within;
      sections_within = rw ps (All-push (AreWithin (length new)) section_places place (section_places_grow (length texts) (length new) section_places le h.sections_within) (slice_get_within new place.segment segment first, slice_get_within new place.name name second));
      symbol_count = h.symbol_count;
      section_count = rw (ps, ss) (omega (arith, length-append section_places (place ∷ []), length-append sections (s ∷ []), h.section_count));
      counted = subst (AreCounted new) (sym given) (subst (λ ts. AreCounted ts ((before ++ middle) ++ segment ∷ name ∷ [])) (sym grown) (counted_two texts (before ++ middle) segment name h.counted));
    }

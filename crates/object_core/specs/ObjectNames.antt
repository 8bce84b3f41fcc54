-- The names of an object's symbols and sections.
use Rattle.std.specs.Prelude.{◌≡◌, ℕ, ◌<◌, List, [], ◌∷◌, ◌++◌, map, flat_map, length, sum_by}
use Rattle.std.specs.List.{All}
use Rattle.object_core.specs.declared.object.SectionNames.{SectionNames}
use Rattle.object_core.specs.declared.symbol.Symbol.{Symbol}
use Rattle.object_core.specs.Object.{SymbolData, SectionData, SectionBody, ObjectData, named, with_texts}
use Rattle.object_core.specs.Names.{is_among, distinct, text_at}

-- every name that a symbol or a section was given
abbrev pub names_of : List SymbolData → List SectionData → List (List ℕ)
names_of symbols sections = map (λ (s : SymbolData). s.name) symbols ++ flat_map (λ (s : SectionData). s.segment ∷ s.name ∷ []) sections

-- the bytes of these texts, each counted once
abbrev pub distinct_bytes : List (List ℕ) → ℕ
distinct_bytes texts = sum_by length (distinct texts)

-- how many bytes the distinct names of the symbols and sections have
abbrev pub name_bytes : ObjectData → ℕ
name_bytes o = distinct_bytes (names_of o.symbols o.sections)

-- -- names by their places

-- the elements of two lists, joined place by place
abbrev pub zip_with : {A B C : Type 0} → (A → B → C) → List A → List B → List C
zip_with f [] ys = []
zip_with f (x ∷ xs) [] = []
zip_with f (x ∷ xs) (y ∷ ys) = f x y ∷ zip_with f xs ys

abbrev pub symbol_at : List (List ℕ) → ℕ → Symbol → SymbolData
symbol_at texts place s = named (text_at texts place) s

abbrev pub section_at : List (List ℕ) → SectionNames → SectionBody → SectionData
section_at texts places s = with_texts (text_at texts places.segment) (text_at texts places.name) s

-- symbols whose names stand at these places
abbrev pub symbols_in : List (List ℕ) → List ℕ → List Symbol → List SymbolData
symbols_in texts places symbols = zip_with (symbol_at texts) places symbols

-- sections whose segments and names stand at these places
abbrev pub sections_in : List (List ℕ) → List SectionNames → List SectionBody → List SectionData
sections_in texts places sections = zip_with (section_at texts) places sections

-- both texts of a section are there
abbrev pub AreWithin : ℕ → SectionNames → Type 0
AreWithin count places = (places.segment < count) × (places.name < count)

-- the texts are the names, each once
pub record AreCounted (texts names : List (List ℕ)) : Type 0 where
  pub among : (text : List ℕ) → is_among text texts ≡ is_among text names
  pub size : sum_by length texts ≡ distinct_bytes names

-- the texts are the names of the symbols and sections, and every place is that of a text
pub record AreNames (texts : List (List ℕ)) (symbol_places : List ℕ) (symbols : List Symbol) (section_places : List SectionNames) (sections : List SectionBody) : Type 0 where
  pub symbols_within : All (λ place. place < length texts) symbol_places
  pub sections_within : All (AreWithin (length texts)) section_places
  pub symbol_count : length symbol_places ≡ length symbols
  pub section_count : length section_places ≡ length sections
  pub counted : AreCounted texts (names_of (symbols_in texts symbol_places symbols) (sections_in texts section_places sections))

-- What a loop reads of an object's sections and symbols, whose names stand elsewhere.
use Rattle.std.proofs.Common.{◌≡◌, ℕ, ◌+◌, ◌<◌, ◌^◌, subst, arith, List, [], ◌∷◌, length, get_or, map, refl, ap, sym, ◌∙◌, Bool, cond, Option, None, Some, slice_get}
use Rattle.std.specs.Prelude.{count_by, option_map}
use Rattle.std.proofs.lemmas.List.Sums.{sum_by-cons}
use Rattle.std.proofs.lemmas.Option.{get_or_from_slice_get}
use Rattle.byte_core.proofs.Lists.{get_within, get_map, get_map_from, item_get, one_of_sum}
use Rattle.object_core.specs.declared.relocation.Relocation.{Relocation}
use Rattle.object_core.specs.declared.symbol.Symbol.{Symbol}
use Rattle.object_core.specs.Appending.{AreSections}
use Rattle.object_core.specs.Object.{SymbolData, SectionData, SectionBody, ObjectData, body_of, plain_symbol, named, with_texts, is_local, is_local_symbol}
use Rattle.object_elf.specs.Writing.{plain, contents_at, has_relocations, is_chosen, is_chosen_symbol, FitsRow}
use Rattle.object_elf.specs.File.{symbol_row_with}
use Rattle.object_core.specs.ElfRows.{elf_symbol}
use Rattle.object_elf.specs.PlainCounts.{section_name_size}
use Rattle.object_elf.specs.PartView.{content_part_of}

-- the element of a list, of which a loop reads this
pub record ItemOf {X Y : Type 0} (f : X → Y) (xs : List X) (i : ℕ) (y : Y) : Type 0 where
  pub whole : X
  pub found : slice_get xs i ≡ Some whole
  pub within : i < length xs
  pub here : whole ≡ get_or xs i whole
  pub same : f whole ≡ y

pub item_of : {X Y : Type 0} (f : X → Y) (xs : List X) (ys : List Y) (i : ℕ) (y : Y) → ys ≡ map f xs → i < length ys → y ≡ get_or ys i y → ItemOf f xs i y
item_of f xs ys i y e h is =
    let item = get_map_from f xs i y (ap (λ l. slice_get l i) (sym e) ∙ item_get ys i y h is) in
    record { whole = item.0; found = item.1; within = get_within xs i item.0 item.1; here = sym (get_or_from_slice_get xs i item.0 item.0 item.1); same = item.2 }

-- a section without its texts, as one of a list of them
pub plain_item : (bs : List SectionBody) (i : ℕ) (b : SectionBody) → i < length bs → b ≡ get_or bs i b → ItemOf body_of (map plain bs) i b
plain_item bs i b h is =
    let found = get_map plain bs i b (item_get bs i b h is) in
    record { whole = plain b; found = found; within = get_within (map plain bs) i (plain b) found; here = sym (get_or_from_slice_get (map plain bs) i (plain b) (plain b) found); same = refl }

-- the name of an element that is there
pub name_of : {X : Type 0} (f : X → List ℕ) (o : Option X) (name : List ℕ) (x : X) → option_map f o ≡ Some name → o ≡ Some x → name ≡ f x
name_of f None name x e h = absurd (cc)
name_of f (Some y) name x e h = let same : y ≡ x = cc in let told : f y ≡ name = cc in sym told ∙ ap f same

-- ---- sections

pub own_relocations : (s : SectionData) (b : SectionBody) (rs : List Relocation) → body_of s ≡ b → rs ≡ b.relocations → rs ≡ s.relocations
own_relocations s b rs same e = e ∙ ap (λ (x : SectionBody). x.relocations) (sym same)

pub records_same : (s : SectionData) (b : SectionBody) → body_of s ≡ b → length b.relocations ≡ length s.relocations
records_same s b same = ap length (own_relocations s b b.relocations same refl)

pub own_contents : (s : SectionData) (b : SectionBody) (bytes : List ℕ) → body_of s ≡ b → bytes ≡ b.contents → bytes ≡ s.contents
own_contents s b bytes same e = e ∙ ap (λ (x : SectionBody). x.contents) (sym same)

pub align_same : (s : SectionData) (b : SectionBody) → body_of s ≡ b → (contents_at (plain b)).align ≡ (contents_at s).align
align_same s b same = ap (λ x. (contents_at (plain x)).align) (sym same)

pub aligned_same : (s : SectionData) (b : SectionBody) → body_of s ≡ b → b.align < 2 ^ 64 → s.align < 2 ^ 64
aligned_same s b same h = subst (λ (x : SectionBody). x.align < 2 ^ 64) (sym same) h

pub has_same : (s : SectionData) (b : SectionBody) → body_of s ≡ b → has_relocations (plain b) ≡ has_relocations s
has_same s b same = ap (λ x. has_relocations (plain x)) (sym same)

pub content_same : (s : SectionData) (b : SectionBody) (name : List ℕ) → body_of s ≡ b → name ≡ s.name → content_part_of (with_texts [] name b) ≡ content_part_of s
content_same s b name same e = ap (λ x. content_part_of (with_texts [] name x)) (sym same) ∙ ap (λ n. content_part_of (with_texts [] n (body_of s))) e

-- a section is at most as large as all contents that were added
pub size_within : (o : ObjectData) (k : ℕ) (s : SectionData) (b : SectionBody) → AreSections o.format o.sections o.content_sum → o.content_sum < 2 ^ 63 → slice_get o.sections k ≡ Some s → body_of s ≡ b → b.size < 2 ^ 64
size_within o k s b sound limit e same = omega (arith, one_of_sum (λ (x : SectionData). x.size) o.sections k s e, sound.sizes, limit, ap (λ (x : SectionBody). x.size) same)

pub name_size_same : (s : SectionData) (b : SectionBody) (name : List ℕ) → body_of s ≡ b → name ≡ s.name → section_name_size (with_texts [] name b) ≡ section_name_size s
name_size_same s b name same e = ap (λ x. section_name_size (with_texts [] name x)) (sym same) ∙ ap (λ n. section_name_size (with_texts [] n (body_of s))) e

contents_are_same : (xs : List SectionData) → map contents_at (map plain (map body_of xs)) ≡ map contents_at xs
contents_are_same [] = refl
contents_are_same (x ∷ xs) = ap (λ l. contents_at x ∷ l) (contents_are_same xs)

pub contents_told : (xs : List SectionData) (bs : List SectionBody) → bs ≡ map body_of xs → map contents_at (map plain bs) ≡ map contents_at xs
contents_told xs bs same = ap (λ l. map contents_at (map plain l)) same ∙ contents_are_same xs

-- what holds of the alignments of sections without their texts holds of theirs
pub aligns_same : (xs : List SectionData) (bs : List SectionBody) → bs ≡ map body_of xs → ((k : ℕ) (s : SectionData) → slice_get (map plain bs) k ≡ Some s → s.align < 2 ^ 64) → (k : ℕ) (s : SectionData) → slice_get xs k ≡ Some s → s.align < 2 ^ 64
aligns_same xs bs same h k s e = h k (plain (body_of s)) (ap (λ l. slice_get (map plain l) k) same ∙ get_map plain (map body_of xs) k (body_of s) (get_map body_of xs k s e))

-- ---- symbols

pub local_same : (s : SymbolData) (b : Symbol) → plain_symbol s ≡ b → is_local_symbol b ≡ is_local s
local_same s b same = ap is_local_symbol (sym same)

pub chosen_same : (local : Bool) (s : SymbolData) (b : Symbol) → plain_symbol s ≡ b → is_chosen_symbol local b ≡ is_chosen local s
chosen_same local s b same = ap (is_chosen_symbol local) (sym same)

pub row_same : (s : SymbolData) (b : Symbol) → plain_symbol s ≡ b → FitsRow s → FitsRow (named [] b)
row_same s b same f = subst (λ x. FitsRow (named [] x)) same (record { section = f.section; value = f.value })

pub symbol_row_same : (name : ℕ) (s : SymbolData) (b : Symbol) → plain_symbol s ≡ b → symbol_row_with name (elf_symbol (named [] b)) ≡ symbol_row_with name (elf_symbol s)
symbol_row_same name s b same = ap (λ x. symbol_row_with name (elf_symbol (named [] x))) (sym same)

pub size_same : (s : SymbolData) (b : Symbol) → plain_symbol s ≡ b → b.size < 2 ^ 64 → s.size < 2 ^ 64
size_same s b same h = subst (λ (x : Symbol). x.size < 2 ^ 64) (sym same) h

-- ---- counts

count_map : {X Y : Type 0} (f : X → Y) (p : Y → Bool) (xs : List X) → count_by p (map f xs) ≡ count_by (λ x. p (f x)) xs
count_map f p [] = refl
count_map f p (x ∷ xs) = sum_by-cons (λ y. cond (p y) 1 0) (f x) (map f xs) ∙ ap (λ n. cond (p (f x)) 1 0 + n) (count_map f p xs) ∙ sym (sum_by-cons (λ y. cond (p (f y)) 1 0) x xs)

pub count_relocated : (xs : List SectionData) → count_by (λ b. has_relocations (plain b)) (map body_of xs) ≡ count_by has_relocations xs
count_relocated xs = count_map body_of (λ b. has_relocations (plain b)) xs

pub count_locals : (xs : List SymbolData) → count_by is_local_symbol (map plain_symbol xs) ≡ count_by is_local xs
count_locals xs = count_map plain_symbol is_local_symbol xs

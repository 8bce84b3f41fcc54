-- What refuses the parts of a fat file, part by part.
use Rattle.std.proofs.Common.{◌≡◌, ℕ, ◌+◌, ◌-◌, ◌<◌, ◌≤◌, Bool, true, false, List, [], ◌∷◌, ◌++◌, length, map, take, slice_get, Option, Some, None, option_map, nat_lt, zero, suc, not, refl, ap, sym, ◌∙◌, subst, arith, if◌then◌else◌}
use Rattle.std.specs.Option.{option_or, IsSome, IsSomeAnd}
use Rattle.std.specs.List.{range_with_len, filter_map, cons_option}
use Rattle.std.proofs.lemmas.Bool.{le-ltb}
use Rattle.byte_core.specs.Number.{bytes_at, number_at, big_number_at, little_number}
use Rattle.image_read.specs.FatFile.{fat_count, fat_entry, fat_table_end}
use Rattle.image_read.specs.MachFile.{MachHeader, mach_header_of}
use Rattle.ir_core.specs.declared.target.Architecture.{Architecture}
use Rattle.ir_core.specs.declared.target.BinaryFormat.{BinaryFormat}
use Rattle.ir_core.specs.declared.target.BinaryFormat.TheVariants.{Elf, Coff, Macho, Wasm, Unknown}
use Rattle.object_core.specs.LinkTable.{MachTable, mach}
use Rattle.object_core.specs.MachRows.{macho_table_of}
use Rattle.object_core.specs.Object.{ObjectData}
use Rattle.object_core.specs.Tables.{table_in}
use Rattle.object_core.specs.WellFormed.{is_supported}
use Rattle.object_macho.specs.MachHolds.{MachHolds}
use Rattle.cranelift_object.specs.Linked.{object_of}
use Rattle.cranelift_module.specs.LinkState.{state_of}
use Rattle.cranelift_module.specs.Refusal.{Refusal}
use Rattle.cranelift_module.specs.Refusal as refusals
use Rattle.cranelift_object.specs.Emitted.{FileHolds}
use Rattle.cranelift_object.specs.Part.{PartData, start_cause, part_cause, part_state}
use Rattle.fat_macho.specs.declared.error.Error.{Error as FatError}
use Rattle.fat_macho.specs.declared.error.Error.TheVariants as errors
use Rattle.fat_macho.specs.declared.error.InvalidCase.TheVariants.{SlicePastEnd, TablePastEnd, ShortFatHeader}
use Rattle.fat_macho.specs.Adding.{TellsAdd}
use Rattle.fat_macho.specs.Held.{Held, borrowed, owned, with_input, shapes_held}
use Rattle.fat_macho.specs.Input.{FatRefusal, invalid, class_cause, cause_by, refusal_told, input_slices, input_cause, entry_slices, entry_cause, entry_bytes, slice_of, duplicate_cause, first_cause, refuse_if, joining_cause, add_cause}
use Rattle.fat_macho.specs.Parse.{Class, thin, cut, fat, bitcode, archive, unknown, class_of}
use Rattle.fat_macho.specs.Parts.{Pairwise}
use Rattle.fat_macho.specs.Slices.{Shape, Slice, shape_of, share_arch}
use Rattle.fat_macho.proofs.InputLaws.{share_turn}
use Rattle.fat_macho.proofs.OrderLaws.{Differ}
use Rattle.fat_macho.proofs.Pairs.{pairs_snoc, all_map, none_passes, range_more}
use Rattle.image_build.specs.Built.{BuildPart, commands, image, Refused, of_image, of_file, refused_behind, refused_at, refusal_at, first_refused_part, shapes_of_file, slices_of_file, shapes_of_parts, table_of_part, is_elf, IsFileOf, TellsPlace, TellsFat, TellsPart, TellsBuild, BuildRefusal}
use Rattle.image_build.specs.declared.error.BuildError.{BuildError}
use Rattle.image_build.specs.declared.error.BuildCause.{BuildCause}
use Rattle.image_build.specs.declared.error.BuildCause.TheVariants.{Module, Fat, TooMany, TooLarge, Mixed, OutOfMemory}
use Rattle.image_build.specs.declared.error.Place.{Place}
use Rattle.image_build.specs.declared.error.Place.TheVariants.{Start, Command, End}
use Rattle.image_build.specs.Joined.{AddsPart, TellsRefused}
use Rattle.image_build.proofs.FatLists.{HoldsParts, held_cause}

-- -- errors

some_and : {A : Type 0} (o : Option A) (P Q : A → Type 0) → ((x : A) → P x → Q x) → IsSomeAnd o P → IsSomeAnd o Q
some_and None P Q f h = absurd h
some_and (Some x) P Q f h = f x h

-- an error that tells one thing tells what follows of it
pub tells_more : (place : Place) (cause : BuildCause) (P Q : Refused → Type 0) → ((r : Refused) → P r → Q r) → TellsPlace place cause P → TellsPlace place cause Q
tells_more Start OutOfMemory P Q f h = tt
tells_more (Command j) OutOfMemory P Q f h = tt
tells_more End OutOfMemory P Q f h = tt
tells_more Start (Module e) P Q f h = some_and _ _ _ (λ r. f _) h
tells_more (Command j) (Module e) P Q f h = some_and _ _ _ (λ r. f _) h
tells_more End (Module e) P Q f h = some_and _ _ _ (λ r. f _) h
tells_more Start (Fat e) P Q f h = some_and _ _ _ (λ r. f _) h
tells_more (Command j) (Fat e) P Q f h = absurd h
tells_more End (Fat e) P Q f h = some_and _ _ _ (λ r. f _) h
tells_more Start (TooMany what count) P Q f h = absurd h
tells_more (Command j) (TooMany what count) P Q f h = absurd h
tells_more End (TooMany what count) P Q f h = f _ h
tells_more Start (TooLarge what amount) P Q f h = absurd h
tells_more (Command j) (TooLarge what amount) P Q f h = absurd h
tells_more End (TooLarge what amount) P Q f h = f _ h
tells_more Start Mixed P Q f h = f _ h
tells_more (Command j) Mixed P Q f h = absurd h
tells_more End Mixed P Q f h = absurd h

tells_some : (e : FatError) (cause : Option FatRefusal) → IsSome (refusal_told e) → TellsAdd e cause → IsSomeAnd (refusal_told e) (λ r. cause ≡ Some r)
tells_some (errors.Io c) cause s h = h
tells_some (errors.Goblin c) cause s h = h
tells_some errors.NotFatBinary cause s h = h
tells_some (errors.InvalidMachO c) cause s h = h
tells_some (errors.DuplicatedArch c) cause s h = h
tells_some (errors.TooMany c) cause s h = h
tells_some (errors.TooLarge c) cause s h = h
tells_some errors.OutOfMemory cause s h = absurd (cc)

fat_told : (e f : FatError) (cause : Option FatRefusal) (P : FatRefusal → Type 0) → f ≡ e → IsSome (refusal_told e) → TellsAdd e cause → ((r : FatRefusal) → cause ≡ Some r → P r) → IsSomeAnd (refusal_told f) P
fat_told e f cause P same some h g = subst (λ x. IsSomeAnd (refusal_told x) P) (sym same) (some_and (refusal_told e) _ P g (tells_some e cause some h))

-- an image, a file that is not added
pub image_told : (e : FatError) (c : BuildCause) (cause : Option FatRefusal) → TellsFat e c → TellsAdd e cause → TellsPlace Start c (λ r. option_map (λ x. of_image x) cause ≡ Some r)
image_told e OutOfMemory cause t h = tt
image_told e (Fat f) cause t h = fat_told e f cause _ t.0 t.1 h (λ r k. ap (option_map (λ x. of_image x)) k)
image_told e (Module f) cause t h = absurd t
image_told e (TooMany what count) cause t h = absurd t
image_told e (TooLarge what amount) cause t h = absurd t
image_told e Mixed cause t h = absurd t

pub file_told : (e : FatError) (c : BuildCause) (cause : Option FatRefusal) → TellsFat e c → TellsAdd e cause → TellsPlace End c (λ r. option_map (λ x. of_file x) cause ≡ Some r)
file_told e OutOfMemory cause t h = tt
file_told e (Fat f) cause t h = fat_told e f cause _ t.0 t.1 h (λ r k. ap (option_map (λ x. of_file x)) k)
file_told e (Module f) cause t h = absurd t
file_told e (TooMany what count) cause t h = absurd t
file_told e (TooLarge what amount) cause t h = absurd t
file_told e Mixed cause t h = absurd t

-- -- the slices of an input

no_fault : (o : Option FatRefusal) (rest : List (Option FatRefusal)) → first_cause (o ∷ rest) ≡ None → (o ≡ None) × (first_cause rest ≡ None)
no_fault None rest e = (refl, e)
no_fault (Some r) rest e = absurd (cc)

if_none : (t : Bool) (r : FatRefusal) → refuse_if t r ≡ None → t ≡ false
if_none true r e = absurd (cc)
if_none false r e = refl

each_none : (f : ℕ → Option FatRefusal) (m n k : ℕ) → first_cause (map f (range_with_len m n)) ≡ None → k < n → f (m + k) ≡ None
each_none f m zero k e l = absurd (omega (arith, l))
each_none f m (suc n) zero e l = let same : m + 0 ≡ m = omega arith in rw same ((no_fault (f m) (map f (range_with_len (m + 1) n)) e).0)
each_none f m (suc n) (suc k) e l = let same : m + suc k ≡ (m + 1) + k = omega arith in rw same (each_none f (m + 1) n k ((no_fault (f m) (map f (range_with_len (m + 1) n)) e).1) (omega (arith, l)))

append_option : {B : Type 0} (o : Option B) (xs ys : List B) → cons_option o (xs ++ ys) ≡ cons_option o xs ++ ys
append_option None xs ys = refl
append_option (Some z) xs ys = refl

map_snoc : {A B : Type 0} (f : A → Option B) (xs : List A) (x : A) → filter_map f (xs ++ x ∷ []) ≡ filter_map f xs ++ cons_option (f x) []
map_snoc f [] x = refl
map_snoc f (y ∷ ys) x = ap (cons_option (f y)) (map_snoc f ys x) ∙ append_option (f y) (filter_map f ys) (cons_option (f x) [])

entries_more : (b : List ℕ) (wide : Bool) (n : ℕ) → entry_slices b wide (n + 1) ≡ entry_slices b wide n ++ cons_option (slice_of (entry_bytes b wide n)) []
entries_more b wide n = ap (filter_map (λ k. slice_of (entry_bytes b wide k))) (range_more n) ∙ map_snoc (λ k. slice_of (entry_bytes b wide k)) (range_with_len 0 n) n

abbrev pub Apart : List Slice → Type 0
Apart slices = Pairwise (λ s t. Differ (shape_of s) (shape_of t)) slices

apart_more : (earlier : List Slice) (o : Option Slice) → Apart earlier → duplicate_cause earlier o ≡ None → Apart (earlier ++ cons_option o [])
apart_more earlier None h e = rw (no_more earlier) h
  where
    no_more : (xs : List Slice) → xs ++ [] ≡ xs
    no_more [] = refl
    no_more (x ∷ xs) = ap (λ ys. x ∷ ys) (no_more xs)
apart_more earlier (Some s) h e =
    pairs_snoc (λ s t. Differ (shape_of s) (shape_of t)) earlier s h
    (all_map (λ x. share_arch (shape_of s) (shape_of x) ≡ false) (λ x. Differ (shape_of x) (shape_of s)) earlier (λ x d. share_turn (shape_of x) (shape_of s) ∙ d)
    (none_passes shape_of (share_arch (shape_of s)) earlier (if_none _ _ e)))

entry_free : (b : List ℕ) (wide : Bool) (k : ℕ) → entry_cause b wide k ≡ None → duplicate_cause (entry_slices b wide k) (slice_of (entry_bytes b wide k)) ≡ None
entry_free b wide k e =
    let duplicate = duplicate_cause (entry_slices b wide k) (slice_of (entry_bytes b wide k)) in
    let class = class_cause (class_of (entry_bytes b wide k)) in
    let range = refuse_if (nat_lt (length b) ((fat_entry b wide k).offset + (fat_entry b wide k).size)) (invalid SlicePastEnd) in
    (no_fault duplicate [] ((no_fault class (duplicate ∷ []) ((no_fault range (class ∷ duplicate ∷ []) e).1)).1)).0

entries_apart : (b : List ℕ) (wide : Bool) (n : ℕ) → ((k : ℕ) → k < n → entry_cause b wide k ≡ None) → Apart (entry_slices b wide n)
entries_apart b wide zero h = tt
entries_apart b wide (suc n) h =
    let more : suc n ≡ n + 1 = omega arith in
    subst Apart (sym (ap (entry_slices b wide) more ∙ entries_more b wide n))
    (apart_more (entry_slices b wide n) (slice_of (entry_bytes b wide n)) (entries_apart b wide n (λ k l. h k (omega (arith, l)))) (entry_free b wide n (h n (omega arith))))

else_of : {A : Type 0} (t : Bool) (x : A) (o : Option A) → (if t then Some x else o) ≡ None → o ≡ None
else_of true x o e = absurd (cc)
else_of false x o e = e

-- the table of an input that isn't refused lies in it, and its entries are sound
table_whole : (b : List ℕ) (wide : Bool) → cause_by b (fat wide) ≡ None → first_cause (map (entry_cause b wide) (range_with_len 0 (fat_count b))) ≡ None
table_whole b wide e =
    let entries = first_cause (map (entry_cause b wide) (range_with_len 0 (fat_count b))) in
    let past = nat_lt (length b) (fat_table_end wide (fat_count b)) in
    else_of past (invalid TablePastEnd) entries (else_of (nat_lt (length b) 8) (invalid ShortFatHeader) (if past then Some (invalid TablePastEnd) else entries) e)

apart_by : (b : List ℕ) (class : Class) → class_of b ≡ class → input_cause b ≡ None → Apart (input_slices b)
unfolding input_cause input_slices
apart_by b (fat wide) c e = rw c (entries_apart b wide (fat_count b) (λ k l. let same : 0 + k ≡ k = omega arith in subst (λ j. entry_cause b wide j ≡ None) same (each_none (entry_cause b wide) 0 (fat_count b) k (table_whole b wide (rw c at e)) l)))
apart_by b (thin t u) c e = rw c ((tt, tt))
apart_by b cut c e = rw c tt
apart_by b bitcode c e = rw c tt
apart_by b archive c e = rw c tt
apart_by b unknown c e = rw c tt

-- the slices of an input that isn't refused are of distinct architectures
pub input_apart : (b : List ℕ) → input_cause b ≡ None → Apart (input_slices b)
input_apart b e = apart_by b (class_of b) refl e

map_free : {A B : Type 0} (f : A → B) (o : Option A) → option_map f o ≡ None → o ≡ None
map_free f None e = refl
map_free f (Some x) e = absurd (cc)

or_none : {A : Type 0} (a b : Option A) → option_or a b ≡ None → (a ≡ None) × (b ≡ None)
or_none None b e = (refl, e)
or_none (Some x) b e = absurd (cc)

pub image_added : (b : List ℕ) (old new : List Held) → new ≡ with_input old borrowed 0 b → add_cause (shapes_held old) b ≡ None → AddsPart (image b) old new
unfolding with_input add_cause
image_added b old new added free =
    let none = or_none (input_cause b) _ free in
    record { slices = input_slices b; are = refl; shapes = refl; apart = input_apart b none.0; origin = borrowed; added = added; allowed = none.1 }

-- -- the file of a command part

magic_number : (b : List ℕ) → bytes_at b 0 4 ≡ 0xcf ∷ 0xfa ∷ 0xed ∷ 0xfe ∷ [] → big_number_at b 0 4 ≡ 0xcffaedfe
unfolding big_number_at little_number
magic_number b e = rw e refl

long_enough : (b : List ℕ) → 32 ≤ length b → (nat_lt (length b) 4 ≡ false) × (nat_lt (length b) 32 ≡ false)
long_enough b h = (le-ltb (length b) 4 h4, le-ltb (length b) 32 h)
  where
    h4 : 4 ≤ length b
    h4 = omega (arith, h)

-- a Mach-O file is a thin image under the numbers of its table
mach_class : (b : List ℕ) (t : MachTable) → MachHolds b t → class_of b ≡ thin t.cputype t.cpusubtype
unfolding class_of mach_header_of
mach_class b t h =
    let long = long_enough b h.file.header in
    let cputype : number_at b 4 4 ≡ t.cputype = ap (λ (x : MachHeader). x.cputype) h.header in
    let cpusubtype : number_at b 8 4 ≡ t.cpusubtype = ap (λ (x : MachHeader). x.cpusubtype) h.header in
    rw (long.0, magic_number b h.file.magic, long.1, cputype, cpusubtype) refl

pub file_slices : (b : List ℕ) (t : MachTable) → MachHolds b t → input_slices b ≡ slices_of_file (mach t) b
unfolding input_slices
file_slices b t h = rw (mach_class b t h) refl

file_sound : (b : List ℕ) (t : MachTable) → MachHolds b t → input_cause b ≡ None
unfolding input_cause
file_sound b t h = rw (mach_class b t h) refl

file_shapes : (b : List ℕ) (t : MachTable) → MachHolds b t → map shape_of (slices_of_file (mach t) b) ≡ shapes_of_file (mach t)
file_shapes b t h = rw h.end refl

file_cause : (b : List ℕ) (t : MachTable) (held : List Shape) → MachHolds b t → add_cause held b ≡ joining_cause held (shapes_of_file (mach t))
unfolding add_cause
file_cause b t held h = rw (file_sound b t h) (ap (joining_cause held) (ap (map shape_of) (file_slices b t h) ∙ file_shapes b t h))

-- a part that isn't refused and isn't of ELF is of Mach-O
supported_table : (a : Architecture) (f : BinaryFormat) (o : ObjectData) → is_elf f ≡ false → is_supported a f ≡ true → table_in f o ≡ mach (macho_table_of o)
supported_table a Elf o e s = absurd (cc)
supported_table a Macho o e s = refl
supported_table a Coff o e s = absurd (cc)
supported_table a Wasm o e s = absurd (cc)
supported_table a Unknown o e s = absurd (cc)

not_false : (t : Bool) (r : Refusal) → refusals.refuse_if (not t) r ≡ None → t ≡ true
not_false true r e = refl
not_false false r e = absurd (cc)

supported_by : (part : PartData) → part_cause part ≡ None → is_supported part.target.triple.architecture part.target.triple.binary_format ≡ true
unfolding part_cause start_cause
supported_by part e = not_false (is_supported part.target.triple.architecture part.target.triple.binary_format) _ (or_none _ _ (map_free _ _ (or_none _ _ e).0)).0

mach_table : (part : PartData) → is_elf part.target.triple.binary_format ≡ false → part_cause part ≡ None → table_of_part part ≡ mach (macho_table_of (object_of part.settings (part_state part)))
unfolding object_of state_of
mach_table part e free = supported_table part.target.triple.architecture part.target.triple.binary_format (object_of part.settings (part_state part)) e (supported_by part free)

-- the file of a part that isn't of ELF
record IsMachFile (part : PartData) (b : List ℕ) : Type 0 where
  table : MachTable
  table_is : table_of_part part ≡ mach table
  holds : MachHolds b table

mach_file : (part : PartData) (b : List ℕ) → is_elf part.target.triple.binary_format ≡ false → part_cause part ≡ None → IsFileOf part b → IsMachFile part b
mach_file part b e free file =
    let t = mach_table part e free in
    record { table = macho_table_of (object_of part.settings (part_state part)); table_is = t; holds = subst (FileHolds b) t file }

pub file_added : (part : PartData) (b : List ℕ) (old new : List Held) → is_elf part.target.triple.binary_format ≡ false → part_cause part ≡ None → IsFileOf part b → new ≡ with_input old owned 0 b
    → add_cause (shapes_held old) b ≡ None → AddsPart (commands part) old new
unfolding with_input
file_added part b old new e free file added none =
    let m = mach_file part b e free file in
    let slices = file_slices b m.table m.holds in
    record {
      slices = slices_of_file (table_of_part part) b;
      are = (b, file, refl);
      shapes = rw m.table_is (sym (file_shapes b m.table m.holds));
      apart = rw m.table_is (tt, tt);
      origin = owned;
      added = rw m.table_is (rw slices at added);
      allowed = rw (m.table_is, file_shapes b m.table m.holds) (sym (file_cause b m.table (shapes_held old) m.holds) ∙ none);
    }

pub file_free : (part : PartData) (b : List ℕ) (held : List Shape) → is_elf part.target.triple.binary_format ≡ false → part_cause part ≡ None → IsFileOf part b → add_cause held b ≡ None → refused_behind held (commands part) ≡ None
file_free part b held e free file none =
    let m = mach_file part b e free file in
    rw (free, m.table_is, sym (file_cause b m.table held m.holds), none) refl

-- what the writer says of the file of a part
pub file_refused : (part : PartData) (b : List ℕ) (held : List Shape) (error : FatError) (c : BuildCause) → is_elf part.target.triple.binary_format ≡ false → part_cause part ≡ None → IsFileOf part b → TellsAdd error (add_cause held b) → TellsFat error c
    → TellsPlace End c (λ r. refused_behind held (commands part) ≡ Some r)
file_refused part b held error c e free file told t =
    let m = mach_file part b e free file in
    tells_more End c _ _ (λ r k. rw (free, m.table_is, sym (file_cause b m.table held m.holds)) k) (file_told error c (add_cause held b) t told)

-- what refuses the commands of a part
pub part_refused : (part : PartData) (held : List Shape) (error : BuildError) → TellsPart error part → TellsRefused error (refused_behind held (commands part))
part_refused part held error h = tells_more error.place error.cause _ _ (λ r k. rw k refl) h

-- -- the parts in order

first_of : {A : Type 0} (x : Option A) (xs : List A) → slice_get (cons_option x xs) 0 ≡ option_or x (slice_get xs 0)
first_of None xs = refl
first_of (Some x) xs = refl

-- the first refusal from part k on
pub refused_from : List BuildPart → ℕ → Option BuildRefusal
refused_from parts k = slice_get (filter_map (refused_at parts) (range_with_len k (length parts - k))) 0

from_here : (parts : List BuildPart) (k : ℕ) → k < length parts → refused_from parts k ≡ option_or (refused_at parts k) (refused_from parts (k + 1))
unfolding refused_from
from_here parts k h =
    let more : length parts - k ≡ suc (length parts - (k + 1)) = omega (arith, h) in
    rw more (first_of (refused_at parts k) (filter_map (refused_at parts) (range_with_len (k + 1) (length parts - (k + 1)))))

pub refused_first : (parts : List BuildPart) → first_refused_part parts ≡ refused_from parts 0
unfolding refused_from
refused_first parts = let all : length parts - 0 ≡ length parts = omega arith in rw all refl

pub refused_no_more : (parts : List BuildPart) (k : ℕ) → length parts ≤ k → refused_from parts k ≡ None
unfolding refused_from
refused_no_more parts k h = let none : length parts - k ≡ 0 = omega (arith, h) in rw none refl

image_cause : (parts : List BuildPart) (held : List Held) (b : List ℕ) → HoldsParts parts held → add_cause (shapes_held held) b ≡ add_cause (shapes_of_parts parts) b
unfolding add_cause
image_cause parts held b h = ap (option_or (input_cause b)) (held_cause parts held (map shape_of (input_slices b)) h)

-- part k as it is judged behind what the writer holds
judged_at : (parts : List BuildPart) (k : ℕ) (part : BuildPart) (held : List Held) → slice_get parts k ≡ Some part → HoldsParts (take k parts) held → refused_at parts k ≡ refusal_at k (refused_behind (shapes_held held) part)
judged_at parts k (commands part) held at h = rw (at, held_cause (take k parts) held (shapes_of_file (table_of_part part)) h) refl
judged_at parts k (image b) held at h = rw at (ap (λ o. refusal_at k (option_map (λ x. of_image x) o)) (sym (image_cause (take k parts) held b h)))

-- a part that is added isn't the first that is refused
pub passed_at : (parts : List BuildPart) (k : ℕ) (part : BuildPart) (held : List Held) → k < length parts → slice_get parts k ≡ Some part → HoldsParts (take k parts) held → refused_behind (shapes_held held) part ≡ None → first_refused_part parts ≡ refused_from parts k
    → first_refused_part parts ≡ refused_from parts (k + 1)
passed_at parts k part held l at h none first = first ∙ from_here parts k l ∙ ap (λ o. option_or o (refused_from parts (k + 1))) (judged_at parts k part held at h ∙ ap (refusal_at k) none)

-- one that isn't added is the first
pub refused_there : (parts : List BuildPart) (k : ℕ) (part : BuildPart) (held : List Held) (error : BuildError) → k < length parts → slice_get parts k ≡ Some part → HoldsParts (take k parts) held → error.part ≡ k
    → TellsRefused error (refused_behind (shapes_held held) part) → first_refused_part parts ≡ refused_from parts k → TellsBuild error (first_refused_part parts)
refused_there parts k part held error l at h number told first =
    tells_more error.place error.cause _ _ (λ r e. first ∙ from_here parts k l ∙ ap (λ o. option_or o (refused_from parts (k + 1))) (judged_at parts k part held at h ∙ ap (refusal_at k) e ∙ ap (λ n. Some (record { part = n; refusal = r })) (sym number))) told

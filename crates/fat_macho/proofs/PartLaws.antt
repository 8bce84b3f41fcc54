-- What is found of parts of an input.
use Rattle.std.proofs.Common.{◌≡◌, ℕ, ◌+◌, ◌≤◌, Bool, true, false, List, length, take, drop, reverse, Option, Some, None, IsSomeAnd, refl, ap, sym, ◌∙◌, arith, if◌then◌else◌}
use Rattle.std.proofs.lemmas.List.{take-take, drop-take, drop-drop, length-take}
use Rattle.byte_core.specs.Number.{bytes_at, big_number_at, little_number}
use Rattle.byte_core.specs.Streams.{SourceData}
use Rattle.image_read.specs.FatFile.{fat_count, fat_entry, fat_table_end, fat_entry_size, narrow_entry_at, wide_entry_at}
use Rattle.fat_macho.specs.ClassView.{class_view}
use Rattle.fat_macho.specs.Parse.{Class, thin, class_of}
use Rattle.fat_macho.specs.Input.{FatRefusal, refusal_told, class_cause, slice_by}
use Rattle.fat_macho.specs.Parts.{IsClassAt, ReadFails, TellsCause, Fails, IsThin, IsPartAt, IsCount, IsEntryAt}
use Rattle.fat_macho.specs.Reading.{HoldsRange}
use Rattle.fat_macho.specs.declared.error.Error.{Error}
use Rattle.fat_macho.specs.declared.error.Error.TheVariants.{Io, Goblin, NotFatBinary, InvalidMachO, DuplicatedArch, TooMany, TooLarge, OutOfMemory}
use Rattle.fat_macho.specs.declared.error.IoCause.TheVariants.{Source}
use Rattle.fat_macho.specs.declared.input.Entry.{Entry}
use Rattle.fat_macho.specs.declared.input.Part.{Part}
use Rattle.fat_macho.specs.declared.parse.InputClass.{InputClass}

-- -- refusals

pub io_fails : (old new : SourceData) (cause : List ℕ → Option FatRefusal) (e : Error) → e ≡ Io Source → ReadFails old new → Fails old new cause e
io_fails old new cause e same fails = rw same fails

tells_by : (bytes : Option (List ℕ)) (cause : List ℕ → Option FatRefusal) (told : Option FatRefusal) (class : Class)
    → ((b : List ℕ) → bytes ≡ Some b → cause b ≡ class_cause class) → IsSomeAnd told (λ r. class_cause class ≡ Some r) → TellsCause bytes cause told
tells_by bytes cause None class here some = absurd (some)
tells_by bytes cause (Some r) class here some = record { known = λ b e. here b e ∙ some }

told_fails : (old new : SourceData) (cause : List ℕ → Option FatRefusal) (e : Error) (class : Class)
    → ((b : List ℕ) → old.bytes ≡ Some b → cause b ≡ class_cause class) → IsSomeAnd (refusal_told e) (λ r. class_cause class ≡ Some r) → Fails old new cause e
told_fails old new cause (Io c) class here some = absurd (some)
told_fails old new cause (Goblin c) class here some = absurd (some)
told_fails old new cause NotFatBinary class here some = absurd (some)
told_fails old new cause OutOfMemory class here some = absurd (some)
told_fails old new cause (InvalidMachO c) class here some = tells_by old.bytes cause (refusal_told (InvalidMachO c)) class here some
told_fails old new cause (DuplicatedArch c) class here some = tells_by old.bytes cause (refusal_told (DuplicatedArch c)) class here some
told_fails old new cause (TooMany c) class here some = tells_by old.bytes cause (refusal_told (TooMany c)) class here some
told_fails old new cause (TooLarge c) class here some = tells_by old.bytes cause (refusal_told (TooLarge c)) class here some

pub class_fails : (old new : SourceData) (e : Error) (class : InputClass) (offset size : ℕ) → IsClassAt old.bytes offset size class → IsSomeAnd (refusal_told e) (λ r. class_cause (class_view class) ≡ Some r)
    → Fails old new (λ b. class_cause (class_of (bytes_at b offset size))) e
class_fails old new e class offset size is some = told_fails old new (λ b. class_cause (class_of (bytes_at b offset size))) e (class_view class) (λ b h. sym (ap class_cause (is.known b h))) some

-- -- images

pub part_at : (bytes : Option (List ℕ)) (class : InputClass) (offset size : ℕ) (part : Part) → IsClassAt bytes offset size class → IsThin (class_view class) offset size part → IsPartAt bytes offset size part
part_at bytes class offset size part is thin_is =
    let class_here : (b : List ℕ) → bytes ≡ Some b → class_of (bytes_at b offset size) ≡ thin part.shape.cputype part.shape.cpusubtype = λ b e. sym (is.known b e) ∙ thin_is.class_is in
    let range_here : (b : List ℕ) → bytes_at b offset size ≡ bytes_at b part.offset part.shape.size = λ b. ap (λ p. bytes_at b p size) (sym thin_is.offset_is) ∙ ap (bytes_at b part.offset) (sym thin_is.size_is) in
    record {
      offset_is = thin_is.offset_is;
      size_is = thin_is.size_is;
      slice = λ b e. ap (slice_by (bytes_at b offset size)) (class_here b e) ∙ ap (λ xs. Some (record { cputype = part.shape.cputype; cpusubtype = part.shape.cpusubtype; bytes = xs })) (range_here b);
      none = λ b e. ap class_cause (class_here b e);
    }

-- -- the table

inner_bytes : (b : List ℕ) (p n q w m : ℕ) → q + (w + m) ≡ n → bytes_at (bytes_at b p n) q w ≡ bytes_at b (p + q) w
unfolding bytes_at
inner_bytes b p n q w m sum =
    ap (λ k. take w (drop q (take k (drop p b)))) (sym sum) ∙ ap (take w) (drop-take q (w + m) (drop p b)) ∙ take-take w (w + m) (drop q (drop p b)) (omega arith) ∙ ap (take w) (drop-drop q p b)

inner_big : (b : List ℕ) (p n q w m : ℕ) → q + (w + m) ≡ n → big_number_at (bytes_at b p n) q w ≡ big_number_at b (p + q) w
unfolding big_number_at
inner_big b p n q w m sum = ap (λ xs. little_number (reverse xs)) (inner_bytes b p n q w m sum)

pub count_at : (o : Option (List ℕ)) (header : List ℕ) (n count : ℕ) → HoldsRange o header 0 n → n ≡ 8 → count ≡ big_number_at header 4 4 → IsCount o count
count_at o header n count held eight is =
    let known : (b : List ℕ) → o ≡ Some b → count ≡ fat_count b = λ b e. is ∙ ap (λ xs. big_number_at xs 4 4) (held.range b e ∙ ap (bytes_at b 0) eight) ∙ inner_big b 0 8 4 4 0 refl in
    record { known = known }

entry_start : (wide : Bool) (k p : ℕ) → p ≡ fat_table_end wide k → (b : List ℕ) → fat_entry b wide k ≡ (if wide then wide_entry_at b p else narrow_entry_at b p)
unfolding fat_entry
entry_start wide k p here b = ap (λ q. if wide then wide_entry_at b q else narrow_entry_at b q) (sym here)

offset_by : (wide : Bool) (b : List ℕ) (p : ℕ) → (if wide then wide_entry_at (bytes_at b p (fat_entry_size wide)) 0 else narrow_entry_at (bytes_at b p (fat_entry_size wide)) 0).offset ≡ (if wide then wide_entry_at b p else narrow_entry_at b p).offset
offset_by true b p = inner_big b p 32 8 8 16 refl
offset_by false b p = inner_big b p 20 8 4 8 refl

size_by : (wide : Bool) (b : List ℕ) (p : ℕ) → (if wide then wide_entry_at (bytes_at b p (fat_entry_size wide)) 0 else narrow_entry_at (bytes_at b p (fat_entry_size wide)) 0).size ≡ (if wide then wide_entry_at b p else narrow_entry_at b p).size
size_by true b p = inner_big b p 32 16 8 8 refl
size_by false b p = inner_big b p 20 12 4 4 refl

pub entry_at : (o : Option (List ℕ)) (bytes : List ℕ) (wide : Bool) (k p n : ℕ) (entry : Entry) → HoldsRange o bytes p n → n ≡ fat_entry_size wide → p ≡ fat_table_end wide k
    → entry.offset ≡ (if wide then wide_entry_at bytes 0 else narrow_entry_at bytes 0).offset → entry.size ≡ (if wide then wide_entry_at bytes 0 else narrow_entry_at bytes 0).size → IsEntryAt o wide k entry
entry_at o bytes wide k p n entry held len place offset size =
    let range : (b : List ℕ) → o ≡ Some b → bytes ≡ bytes_at b p (fat_entry_size wide) = λ b e. held.range b e ∙ ap (bytes_at b p) len in
    record {
      offset = λ b e. offset ∙ ap (λ xs. (if wide then wide_entry_at xs 0 else narrow_entry_at xs 0).offset) (range b e) ∙ offset_by wide b p ∙ ap (λ (x : _). x.offset) (sym (entry_start wide k p place b));
      size = λ b e. size ∙ ap (λ xs. (if wide then wide_entry_at xs 0 else narrow_entry_at xs 0).size) (range b e) ∙ size_by wide b p ∙ ap (λ (x : _). x.size) (sym (entry_start wide k p place b));
    }

pub entry_room : (bytes all : List ℕ) (n m : ℕ) → length bytes ≡ length (take n all) → length all ≡ 32 → n ≤ 32 → n ≡ m → length bytes ≡ m
entry_room bytes all n m room len few same = omega (arith, room, length-take n all, len, few, same)

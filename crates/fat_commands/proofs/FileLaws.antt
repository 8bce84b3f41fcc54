-- Files that are read to their end.
use Rattle.std.proofs.Common.{◌≡◌, ℕ, ◌+◌, ◌-◌, ◌<◌, ◌≤◌, ◌⊎◌, inl, inr, List, [], ◌++◌, length, take, drop, Option, Some, None, IfSome, refl, ap, sym, ◌∙◌, subst, arith, zero-add, append-nil}
use Rattle.std.specs.Option.{IsSome}
use borrow.Rule.Slice.PartMut.{put_mid}
use Rattle.std.proofs.lemmas.List.{take_all, drop_all}
use Rattle.byte_core.specs.Count.{Rose}
use Rattle.byte_core.specs.Number.{bytes_at}
use Rattle.byte_core.specs.Outside.{Outside, FileData, KeepsStreams, ChangesFile, ReadsFile, IsFileOf, file_at}
use Rattle.fat_macho.specs.Reading.{HoldsFront, HoldsRange}
use Rattle.fat_macho.proofs.Fronts.{more_front}
use Rattle.fat_commands.specs.Files.{ReadsFiles, FilesRose, IsHeld, IsOpen, current_bytes}

-- -- what changes

keeps_same : (now : Outside) → KeepsStreams now now
keeps_same now = record { input = refl; taken = refl; read_faults = refl; output = refl; write_faults = refl; errors = refl; err_faults = refl; files = refl }

keeps_again : (a b c : Outside) → KeepsStreams a b → KeepsStreams b c → KeepsStreams a c
keeps_again a b c p q = record { input = cc; taken = cc; read_faults = cc; output = cc; write_faults = cc; errors = cc; err_faults = cc; files = cc }

pub reads_nothing : (now : Outside) → ReadsFile now now
reads_nothing now = record { streams = keeps_same now; open_faults = refl; file = refl; rises = omega arith }

pub reads_again : (a b c : Outside) → ReadsFile a b → ReadsFile b c → ReadsFile a c
reads_again a b c p q = record { streams = keeps_again a b c p.streams q.streams; open_faults = cc; file = cc; rises = omega (arith, p.rises, q.rises) }

-- a file was opened
pub opens : (a b : Outside) → ChangesFile a b → ReadsFiles a b
opens a b p = record { streams = p.streams; opens = p.rises; reads = omega (arith, p.file_faults) }

-- and then read
pub opens_and_reads : (a b c : Outside) → ChangesFile a b → ReadsFile b c → ReadsFiles a c
opens_and_reads a b c p q = record { streams = keeps_again a b c p.streams q.streams; opens = omega (arith, p.rises, q.open_faults); reads = omega (arith, p.file_faults, q.rises) }

pub files_nothing : (now : Outside) → ReadsFiles now now
files_nothing now = record { streams = keeps_same now; opens = omega arith; reads = omega arith }

pub files_again : (a b c : Outside) → ReadsFiles a b → ReadsFiles b c → ReadsFiles a c
files_again a b c p q = record { streams = keeps_again a b c p.streams q.streams; opens = omega (arith, p.opens, q.opens); reads = omega (arith, p.reads, q.reads) }

-- a count that rose later rose in all
rose_later : (a b c : ℕ) → a ≤ b → Rose b c → Rose a c
rose_later a b c low r = omega (arith, low, r)

pub opening_rose : (a b : Outside) → Rose a.open_faults b.open_faults → FilesRose a b
opening_rose a b r = inl r

pub reading_rose : (a b c : Outside) → ChangesFile a b → Rose b.file_faults c.file_faults → FilesRose a c
reading_rose a b c p r = inr (rw p.file_faults at r)

pub rose_behind : (a b c : Outside) → ReadsFiles a b → FilesRose b c → FilesRose a c
rose_behind a b c p (inl r) = inl (rose_later a.open_faults b.open_faults c.open_faults p.opens r)
rose_behind a b c p (inr r) = inr (rose_later a.file_faults b.file_faults c.file_faults p.reads r)

-- -- what is held

known_both : (o held : Option (List ℕ)) → IfSome held (λ bytes. o ≡ Some bytes) → (b : List ℕ) → held ≡ Some b → o ≡ Some b
known_both o None h b e = absurd (cc)
known_both o (Some c) h b e = h ∙ e

opened_by : (files : Option (List (List ℕ × List ℕ))) (path : List ℕ) (file : Option FileData) (n : ℕ) → IsFileOf files path file n → IsOpen file n
opened_by files path None n h = absurd h
opened_by files path (Some file) n h = (h.0, h.1)

-- a file that was opened is current
pub opened : (files : Option (List (List ℕ × List ℕ))) (path : List ℕ) (file : Option FileData) (n m : ℕ) → IsFileOf files path file n → m ≡ n → IsOpen file m
opened files path file n m h same = rw same (opened_by files path file n h)

pub is_current : (file : Option FileData) (n : ℕ) → IsOpen file n → IsSome file
is_current None n h = absurd h
is_current (Some file) n h = refl

pub more_held : (file : Option FileData) (old sub : List ℕ) (done n k : ℕ) → HoldsFront (current_bytes file) old 0 done → done < length old → k ≡ length old - done → length sub ≡ k → length (put_mid done k old sub) ≡ length old
    → IfSome file (λ f. IfSome f.bytes (λ b. take n sub ≡ bytes_at b done n)) → HoldsFront (current_bytes file) (put_mid done k old sub) 0 (done + n)
more_held None old sub done n k h left rest same len more = record { front = λ b e. absurd (cc) }
more_held (Some f) old sub done n k h left rest same len more = more_front f.bytes old sub 0 done n k h left rest same len (rw (zero-add done) more)

-- below the end of the file a read gives some bytes
pub some_more : (file : Option FileData) (size done rest n : ℕ) → IsOpen file size → done < size → (0 < rest → IfSome file (λ f. done < f.length → 0 < n)) → 0 < rest → 0 < n
some_more None size done rest n current left some room = absurd current
some_more (Some f) size done rest n current left some room = some room (omega (arith, current.0, left))

whole_bytes : (b buf : List ℕ) → length b ≡ length buf → buf ≡ bytes_at b 0 (length buf) → buf ≡ b
unfolding bytes_at
whole_bytes b buf len same = same ∙ take_all (length buf) b (omega (arith, len))

held_in : (files : Option (List (List ℕ × List ℕ))) (path buf : List ℕ) (file : FileData) → IsFileOf files path (Some file) (length buf) → HoldsRange file.bytes buf 0 (length buf) → IsHeld files path buf
held_in None path buf file h range = tt
held_in (Some held) path buf file h range = go (file_at path held) h.2
  where
    len : (b : List ℕ) → file.bytes ≡ Some b → length b ≡ length buf
    len b e = subst (λ o. IfSome o (λ bytes. length bytes ≡ length buf)) e h.1

    go : (o : Option (List ℕ)) → IfSome o (λ bytes. file.bytes ≡ Some bytes) → IfSome o (λ known. buf ≡ known)
    go None k = tt
    go (Some b) k = whole_bytes b buf (len b k) (range.range b k)

-- a file that was read to its end is that of the path
pub held : (files : Option (List (List ℕ × List ℕ))) (path : List ℕ) (file : Option FileData) (n : ℕ) (buf : List ℕ) → IsFileOf files path file n → length buf ≡ n → HoldsRange (current_bytes file) buf 0 (length buf) → IsHeld files path buf
held files path None n buf h len range = absurd h
held files path (Some file) n buf h len range = held_in files path buf file (rw len h) range

-- a buffer that was written whole is what was written
pub whole_written : (items new : List ℕ) (n : ℕ) → n ≡ length items → length new ≡ length items → take n (new ++ drop (length new) items) ≡ new
whole_written items new n len same =
    let none : drop (length new) items ≡ [] = drop_all (length new) items (omega (arith, same)) in
    ap (λ xs. take n (new ++ xs)) none ∙ ap (take n) (append-nil new) ∙ take_all n new (omega (arith, len, same))

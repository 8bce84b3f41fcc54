-- What a sink takes of a source.
use Rattle.std.proofs.Common.{◌≡◌, ℕ, ◌+◌, ◌-◌, ◌≤◌, min, List, ◌++◌, length, take, Option, Some, None, option_map, refl, ap, ◌∙◌, arith, subst}
use Rattle.std.proofs.lemmas.List.{length-take}
use Rattle.byte_core.specs.Count.{Rose}
use Rattle.byte_core.specs.Number.{bytes_at}
use Rattle.byte_core.specs.Outside.{AppendsFront}
use Rattle.byte_core.specs.Streams.{SinkData}
use Rattle.fat_macho.specs.Reading.{HoldsRange}
use Rattle.fat_macho.specs.Writing.{Puts, PutsKnown, FrontKnown, Part, Copies, FailsBy}
use Rattle.fat_macho.specs.declared.error.Error.{Error}
use Rattle.fat_macho.specs.declared.error.Error.TheVariants.{Io, Goblin, NotFatBinary, InvalidMachO, DuplicatedArch, TooMany, TooLarge, OutOfMemory}
use Rattle.fat_macho.specs.declared.error.IoCause.TheVariants.{Source, Sink, Open}
use Rattle.fat_macho.proofs.Fronts.{bytes_more}
use Rattle.fat_macho.proofs.PutLaws.{part_begins, part_goes_on, part_ends, part_fails_in, front_nothing}

-- -- what is known

mapped_by : (f : List ℕ → List ℕ) (P : List ℕ → Type 0) (o : Option (List ℕ)) → ((b : List ℕ) → o ≡ Some b → P (f b)) → (x : List ℕ) → option_map f o ≡ Some x → P x
mapped_by f P None each x e = absurd (cc)
mapped_by f P (Some b) each x e = let same : f b ≡ x = cc in subst P same (each b refl)

pub puts_mapped : (f : List ℕ → List ℕ) (o : Option (List ℕ)) (x y : SinkData) → ((b : List ℕ) → o ≡ Some b → Puts x y (f b)) → PutsKnown (option_map f o) x y
puts_mapped f o x y each = record { known = mapped_by f (Puts x y) o each }

pub front_mapped : (f : List ℕ → List ℕ) (o : Option (List ℕ)) (x y : SinkData) → ((b : List ℕ) → o ≡ Some b → AppendsFront x.written y.written (f b)) → FrontKnown (option_map f o) x y
front_mapped f o x y each = record { known = mapped_by f (AppendsFront x.written y.written) o each }

pub front_none : (o : Option (List ℕ)) (s : SinkData) → FrontKnown o s s
front_none o s = record { known = λ b e. front_nothing b s }

-- -- one block

-- what was read is written
pub block_puts : (o : Option (List ℕ)) (buf : List ℕ) (at n m : ℕ) (x y : SinkData) → HoldsRange o buf at n → n ≡ m → Puts x y buf → PutsKnown (option_map (λ b. bytes_at b at m) o) x y
block_puts o buf at n m x y held same p = puts_mapped (λ b. bytes_at b at m) o x y (λ b e. subst (Puts x y) (held.range b e ∙ ap (bytes_at b at) same) p)

pub block_front : (o : Option (List ℕ)) (buf : List ℕ) (at n m : ℕ) (x y : SinkData) → HoldsRange o buf at n → n ≡ m → AppendsFront x.written y.written buf → FrontKnown (option_map (λ b. bytes_at b at m) o) x y
block_front o buf at n m x y held same f = front_mapped (λ b. bytes_at b at m) o x y (λ b e. subst (AppendsFront x.written y.written) (held.range b e ∙ ap (bytes_at b at) same) f)

pub fails_reading : (P Q : Type 0) (e : Error) → e ≡ Io Source → P → FailsBy P Q e
fails_reading P Q e same h = rw same h

pub fails_writing : (P Q : Type 0) (e : Error) → e ≡ Io Sink → Q → FailsBy P Q e
fails_writing P Q e same h = rw same h

pub fails_as : (P Q R S : Type 0) (e : Error) → (P → R) → (Q → S) → FailsBy P Q e → FailsBy R S e
fails_as P Q R S (Io Source) f g h = f h
fails_as P Q R S (Io Sink) f g h = g h
fails_as P Q R S (Io Open) f g h = absurd h
fails_as P Q R S (Goblin c) f g h = absurd h
fails_as P Q R S NotFatBinary f g h = absurd h
fails_as P Q R S OutOfMemory f g h = absurd h
fails_as P Q R S (InvalidMachO c) f g h = absurd h
fails_as P Q R S (DuplicatedArch c) f g h = absurd h
fails_as P Q R S (TooMany c) f g h = absurd h
fails_as P Q R S (TooLarge c) f g h = absurd h

-- -- all blocks

pub copies_begin : (o : Option (List ℕ)) (x : SinkData) (offset size : ℕ) → Copies o x x offset size 0
copies_begin o x offset size =
    record {
      known = λ b e.
          let place : offset ≡ offset + 0 = omega arith in
          let all : size ≡ size - 0 = omega arith in
          subst (Part x x (bytes_at b offset size)) (ap (λ p. bytes_at b p size) place ∙ ap (bytes_at b (offset + 0)) all) (part_begins x (bytes_at b offset size));
    }

left_split : (b : List ℕ) (offset size done n : ℕ) → done + n ≤ size → bytes_at b (offset + done) (size - done) ≡ bytes_at b (offset + done) n ++ bytes_at b (offset + (done + n)) (size - (done + n))
left_split b offset size done n inside =
    let sum : size - done ≡ n + (size - (done + n)) = omega arith in
    let place : (offset + done) + n ≡ offset + (done + n) = omega arith in
    ap (bytes_at b (offset + done)) sum ∙ bytes_more b (offset + done) n (size - (done + n)) ∙ ap (λ p. bytes_at b (offset + done) n ++ bytes_at b p (size - (done + n))) place

pub copies_on : (o q : Option (List ℕ)) (x y z : SinkData) (offset size done n m : ℕ) → Copies o x y offset size done → q ≡ o → m ≡ n → done + n ≤ size → PutsKnown (option_map (λ b. bytes_at b (offset + done) m) q) y z → Copies o x z offset size (done + n)
copies_on o q x y z offset size done n m c same len inside p =
    record {
      known = λ b e.
          part_goes_on x y z (bytes_at b offset size) (bytes_at b (offset + done) (size - done)) (bytes_at b (offset + done) n) (bytes_at b (offset + (done + n)) (size - (done + n))) (c.known b e) (left_split b offset size done n inside)
          (p.known (bytes_at b (offset + done) n) (ap (option_map (λ b. bytes_at b (offset + done) m)) (same ∙ e) ∙ ap (λ k. Some (bytes_at b (offset + done) k)) len));
    }

pub copies_fail : (o q : Option (List ℕ)) (x y z : SinkData) (offset size done n m : ℕ) → Copies o x y offset size done → q ≡ o → m ≡ n → done + n ≤ size → FrontKnown (option_map (λ b. bytes_at b (offset + done) m) q) y z
    → FrontKnown (option_map (λ b. bytes_at b offset size) o) x z
copies_fail o q x y z offset size done n m c same len inside f =
    front_mapped (λ b. bytes_at b offset size) o x z
    (λ b e.
    part_fails_in x y z (bytes_at b offset size) (bytes_at b (offset + done) (size - done)) (bytes_at b (offset + done) n) (bytes_at b (offset + (done + n)) (size - (done + n))) (c.known b e) (left_split b offset size done n inside)
    (f.known (bytes_at b (offset + done) n) (ap (option_map (λ b. bytes_at b (offset + done) m)) (same ∙ e) ∙ ap (λ k. Some (bytes_at b (offset + done) k)) len)))

pub block_len : (buf : List ℕ) (n left room : ℕ) → n ≡ min left room → room ≡ length buf → length (take n buf) ≡ n
block_len buf n left room is same = omega (arith, is, same, length-take n buf)

pub copies_end : (o : Option (List ℕ)) (x y : SinkData) (offset size done : ℕ) → Copies o x y offset size done → size ≤ done → PutsKnown (option_map (λ b. bytes_at b offset size) o) x y
unfolding bytes_at
copies_end o x y offset size done c all =
    let none : size - done ≡ 0 = omega arith in
    puts_mapped (λ b. bytes_at b offset size) o x y (λ b e. part_ends x y (bytes_at b offset size) (bytes_at b (offset + done) (size - done)) (c.known b e) (ap (bytes_at b (offset + done)) none))

-- counts that rose stay so
pub rose_after : (a b c : ℕ) → a ≤ b → Rose b c → Rose a c
rose_after a b c h r = omega (arith, h, r)

pub rose_before : (a b c : ℕ) → Rose a b → b ≤ c → Rose a c
rose_before a b c r h = omega (arith, h, r)

-- Load commands, one after the other.
use Rattle.std.proofs.Common.{◌≡◌, ◌≢◌, ℕ, zero, suc, ◌+◌, ◌<◌, ◌≤◌, ◌==◌, ◌⊎◌, inl, inr, Bool, true, false, cond, List, [], ◌∷◌, ◌++◌, length, Option, Some, None, IsTrue, IfNone, refl, ap, sym, subst, ◌∙◌, arith, IsSome, find}
use Rattle.std.specs.List.{range_with_len}
use Rattle.std.specs.Option.{option_map, option_or}
use Rattle.std.proofs.lemmas.List.Folds.{find-append}
use Rattle.image_read.specs.MachFile.{mach_header_of, command_at, command_place, command, commands_end, place_of_command}
use Rattle.image_read.specs.MachImage.{is_read, IsCommand, IsMach}
use Rattle.image_read.specs.MachRows.{IsCommandAt, place_before, IsOnlyBelow, IsOnly, IsPlaceOf, IsWalked, AreSoundCommands}

-- one command more begins where the one before it ends
pub command_place-suc : (b : List ℕ) (k : ℕ) → command_place b (suc k) ≡ command_place b k + (command b k).cmdsize
unfolding command_place
command_place-suc b k = refl

pub first_place : (b : List ℕ) → command_place b 0 ≡ 32
unfolding command_place
first_place b = refl

pub next_place : (b : List ℕ) (p k : ℕ) → p ≡ command_place b k → p + (command_at b p).cmdsize ≡ command_place b (k + 1)
next_place b p k h = let next : suc k ≡ k + 1 = omega arith in rw (h, ← next) (sym (command_place-suc b k))

-- -- the conditions of a command, by its place

pub command_by_place : (b : List ℕ) (p k : ℕ) → p ≡ command_place b k → IsCommandAt b p → IsCommand b k
command_by_place b p k h c =
    let here : IsCommandAt b (command_place b k) = subst (IsCommandAt b) h c in
    record { size = here.size; inside = here.inside; segment = here.room.segment; symtab = here.room.symtab; version = here.room.version }

pub place_by_command : (b : List ℕ) (p k : ℕ) → p ≡ command_place b k → IsCommand b k → IsCommandAt b p
place_by_command b p k h c =
    subst (IsCommandAt b) (sym h) (record { size = c.size; inside = c.inside; room = record { segment = c.segment; symtab = c.symtab; version = c.version } })

-- -- the first command of a number

last_number : (a n : ℕ) → range_with_len a (suc n) ≡ range_with_len a n ++ (a + n) ∷ []
last_number a zero = let place : a + 0 ≡ a = omega arith in rw place refl
last_number a (suc n) =
    let place : a + 1 + n ≡ a + suc n = omega arith in
    ap (λ xs. a ∷ xs) (rw (← place) (last_number (a + 1) n))

find_more : (p : ℕ → Bool) (n : ℕ) → find p (range_with_len 0 (n + 1)) ≡ option_or (find p (range_with_len 0 n)) (find p (n ∷ []))
find_more p n =
    let next : suc n ≡ n + 1 = omega arith in
    let place : 0 + n ≡ n = omega arith in
    let rows : range_with_len 0 (suc n) ≡ range_with_len 0 n ++ n ∷ [] = last_number 0 n ∙ ap (λ k. range_with_len 0 n ++ k ∷ []) place in
    let whole : find p (range_with_len 0 (suc n)) ≡ option_or (find p (range_with_len 0 n)) (find p (n ∷ [])) = ap (find p) rows ∙ find-append p (range_with_len 0 n) (n ∷ []) in
    subst (λ k. find p (range_with_len 0 k) ≡ option_or (find p (range_with_len 0 n)) (find p (n ∷ []))) next whole

or_none : {X : Type 0} (o : Option X) → option_or o None ≡ o
or_none None = refl
or_none (Some x) = refl

none_of_map : {X Y : Type 0} (f : X → Y) (o : Option X) → option_map f o ≡ None → o ≡ None
none_of_map f None h = refl
none_of_map f (Some x) h = absurd (cc)

some_of_map : {X Y : Type 0} (f : X → Y) (o : Option X) (y : Y) → option_map f o ≡ Some y → (x : X) × (o ≡ Some x)
some_of_map f None y h = absurd (cc)
some_of_map f (Some x) y h = (x, refl)

no_later : (p : ℕ → Bool) (a : ℕ) (rest : Option ℕ) (t : Bool) → p a ≡ t → cond t (Some a) rest ≡ None → (p a ≡ false) × (rest ≡ None)
no_later p a rest true e h = absurd (cc)
no_later p a rest false e h = (e, h)

here_or_later : (p : ℕ → Bool) (k a : ℕ) → (a ≡ k) ⊎ (a + 1 ≤ k) → p a ≡ false → (a + 1 ≤ k → p k ≡ false) → p k ≡ false
here_or_later p k a (inl same) e later = subst (λ n. p n ≡ false) same e
here_or_later p k a (inr behind) e later = later behind

not_found : (p : ℕ → Bool) (a n : ℕ) → find p (range_with_len a n) ≡ None → (k : ℕ) → a ≤ k → k < a + n → p k ≡ false
not_found p a zero h k from below = absurd (omega arith)
not_found p a (suc n) h k from below =
    let both = no_later p a (find p (range_with_len (a + 1) n)) (p a) refl h in
    here_or_later p k a (grind arith) both.0 (λ behind. not_found p (a + 1) n both.1 k behind (omega arith))

found_or_later : (p : ℕ → Bool) (a i : ℕ) (rest : Option ℕ) (t : Bool) → p a ≡ t → cond t (Some a) rest ≡ Some i → ((a ≡ i) × (p a ≡ true)) ⊎ (rest ≡ Some i)
found_or_later p a i rest true e h = let same : a ≡ i = cc in inl (same, e)
found_or_later p a i rest false e h = inr h

found_place : (p : ℕ → Bool) (a n i : ℕ) → find p (range_with_len a n) ≡ Some i → (p i ≡ true) × (i < a + n)
found_place p a zero i h = absurd (cc)
found_place p a (suc n) i h = by (found_or_later p a i (find p (range_with_len (a + 1) n)) (p a) refl h) (found_place p (a + 1) n i)
  where
    by : ((a ≡ i) × (p a ≡ true)) ⊎ (find p (range_with_len (a + 1) n) ≡ Some i) → (find p (range_with_len (a + 1) n) ≡ Some i → (p i ≡ true) × (i < a + 1 + n)) → (p i ≡ true) × (i < a + suc n)
    by (inl here) behind = (subst (λ k. p k ≡ true) here.0 here.1, omega (arith, here.0))
    by (inr later) behind = let at = behind later in (at.0, omega (arith, at.1))

number_is : (x y : ℕ) → x ≡ y → (x == y) ≡ true
number_is x y h = grind (arith)

number_is_not : (x y : ℕ) → x ≢ y → (x == y) ≡ false
number_is_not x y h = grind (arith)

is_number : (x y : ℕ) → (x == y) ≡ true → x ≡ y
is_number x y h = grind (arith)

is_no_number : (x y : ℕ) → (x == y) ≡ false → x ≢ y
is_no_number x y h = grind (arith)

place_same : (b : List ℕ) (cmd n : ℕ) → (command b n).cmd ≢ cmd → place_before b cmd (n + 1) ≡ place_before b cmd n
place_same b cmd n h =
    let p : ℕ → Bool = λ k. (command b k).cmd == cmd in
    let here : find p (n ∷ []) ≡ None = rw (number_is_not (command b n).cmd cmd h) refl in
    ap (option_map (command_place b)) (find_more p n ∙ (ap (option_or (find p (range_with_len 0 n))) here ∙ or_none (find p (range_with_len 0 n))))

place_new : (b : List ℕ) (cmd n : ℕ) → place_before b cmd n ≡ None → (command b n).cmd ≡ cmd → place_before b cmd (n + 1) ≡ Some (command_place b n)
place_new b cmd n none h =
    let p : ℕ → Bool = λ k. (command b k).cmd == cmd in
    let here : find p (n ∷ []) ≡ Some n = rw (number_is (command b n).cmd cmd h) refl in
    let before = none_of_map (command_place b) (find p (range_with_len 0 n)) none in
    let both : option_or (find p (range_with_len 0 n)) (find p (n ∷ [])) ≡ Some n = rw (before, here) refl in
    ap (option_map (command_place b)) (find_more p n ∙ both)

earlier_or_last : (k n : ℕ) → k < n + 1 → (k < n) ⊎ (k ≡ n)
earlier_or_last k n h = grind (arith)

-- none of the commands before it has the number
pub none_before : (b : List ℕ) (cmd n : ℕ) → place_before b cmd n ≡ None → (k : ℕ) → k < n → (command b k).cmd ≢ cmd
none_before b cmd n none k below =
    let p : ℕ → Bool = λ j. (command b j).cmd == cmd in
    is_no_number (command b k).cmd cmd (not_found p 0 n (none_of_map (command_place b) (find p (range_with_len 0 n)) none) k (omega arith) (omega (arith, below)))

only_same : (b : List ℕ) (cmd n : ℕ) → IsOnlyBelow b cmd n → (command b n).cmd ≢ cmd → IsOnlyBelow b cmd (n + 1)
only_same b cmd n h other = record { only = λ j k jb kb je ke. by j k (earlier_or_last j n jb) (earlier_or_last k n kb) je ke }
  where
    by : (j k : ℕ) → (j < n) ⊎ (j ≡ n) → (k < n) ⊎ (k ≡ n) → (command b j).cmd ≡ cmd → (command b k).cmd ≡ cmd → j ≡ k
    by j k (inl jb) (inl kb) je ke = h.only j k jb kb je ke
    by j k (inr last) kb je ke = absurd (other (subst (λ i. (command b i).cmd ≡ cmd) last je))
    by j k jb (inr last) je ke = absurd (other (subst (λ i. (command b i).cmd ≡ cmd) last ke))

only_new : (b : List ℕ) (cmd n : ℕ) → place_before b cmd n ≡ None → IsOnlyBelow b cmd (n + 1)
only_new b cmd n none = record { only = λ j k jb kb je ke. by j k (earlier_or_last j n jb) (earlier_or_last k n kb) je ke }
  where
    by : (j k : ℕ) → (j < n) ⊎ (j ≡ n) → (k < n) ⊎ (k ≡ n) → (command b j).cmd ≡ cmd → (command b k).cmd ≡ cmd → j ≡ k
    by j k (inl jb) kb je ke = absurd (none_before b cmd n none j jb je)
    by j k jb (inl kb) je ke = absurd (none_before b cmd n none k kb ke)
    by j k (inr jl) (inr kl) je ke = jl ∙ sym kl

-- -- a walk over the commands for one number

pub walk_start : (b : List ℕ) (cmd : ℕ) → IsWalked b cmd 0 32 None
walk_start b cmd = record { at = sym (first_place b); place_is = refl; found = tt; only = record { only = λ j k jb kb je ke. absurd (omega (arith, jb)) } }

pub walk_other : (b : List ℕ) (cmd n p : ℕ) (o : Option ℕ) → IsWalked b cmd n p o → (command_at b p).cmd ≢ cmd → IsWalked b cmd (n + 1) (p + (command_at b p).cmdsize) o
walk_other b cmd n p o w other =
    let here : (command b n).cmd ≢ cmd = subst (λ q. (command_at b q).cmd ≢ cmd) w.at other in
    record { at = next_place b p n w.at; place_is = w.place_is ∙ sym (place_same b cmd n here); found = w.found; only = only_same b cmd n w.only here }

pub walk_first : (b : List ℕ) (cmd n p : ℕ) (o : Option ℕ) → IsWalked b cmd n p o → o ≡ None → IsCommand b n → commands_end b ≤ length b → (command_at b p).cmd ≡ cmd
    → IsWalked b cmd (n + 1) (p + (command_at b p).cmdsize) (Some p)
walk_first b cmd n p (Some q) w some c area number = absurd (cc)
walk_first b cmd n p None w some c area number =
    let met = place_by_command b p n w.at c in
    let here : (command b n).cmd ≡ cmd = subst (λ q. (command_at b q).cmd ≡ cmd) w.at number in
    record {
      at = next_place b p n w.at;
      place_is = ap Some w.at ∙ sym (place_new b cmd n (sym w.place_is) here);
      found = record { command = met; inside = omega (arith, met.inside, area); number = number };
      only = only_new b cmd n (sym w.place_is);
    }

pub walk_twice : (b : List ℕ) (cmd n p : ℕ) (o : Option ℕ) → IsWalked b cmd n p o → IsSome o → (command_at b p).cmd ≡ cmd → n < (mach_header_of b).ncmds → IsOnly b cmd → ⊥
walk_twice b cmd n p None w some number below only = absurd (cc)
walk_twice b cmd n p (Some q) w some number below only =
    let here : (command b n).cmd ≡ cmd = subst (λ r. (command_at b r).cmd ≡ cmd) w.at number in
    let test : ℕ → Bool = λ j. (command b j).cmd == cmd in
    let first = some_of_map (command_place b) (find test (range_with_len 0 n)) q (sym w.place_is) in
    let place = found_place test 0 n first.0 first.1 in
    let same = only.only first.0 n (omega (arith, place.1, below)) below (is_number (command b first.0).cmd cmd place.0) here in
    omega (arith, place.1, same)

pub walk_end : (b : List ℕ) (cmd n p : ℕ) (o : Option ℕ) → IsWalked b cmd n p o → n ≡ (mach_header_of b).ncmds → IsPlaceOf b cmd o
unfolding place_of_command
walk_end b cmd n p o w h = record { place_is = w.place_is ∙ ap (place_before b cmd) h; found = w.found }

-- -- the commands of a file that has an image

which_read : (x : ℕ) → IsTrue (is_read x) → (x ≡ 0x19) ⊎ ((x ≡ 2) ⊎ (x ≡ 0x32))
which_read x h = grind (arith)

pub only_of_sound : (b : List ℕ) → AreSoundCommands b → (j k : ℕ) → j < (mach_header_of b).ncmds → k < (mach_header_of b).ncmds
    → IsTrue (is_read (command b j).cmd) → (command b j).cmd ≡ (command b k).cmd → j ≡ k
only_of_sound b h j k jb kb read same = by (which_read (command b j).cmd read)
  where
    by : ((command b j).cmd ≡ 0x19) ⊎ (((command b j).cmd ≡ 2) ⊎ ((command b j).cmd ≡ 0x32)) → j ≡ k
    by (inl e) = h.segment.only j k jb kb e (sym same ∙ e)
    by (inr (inl e)) = h.symtab.only j k jb kb e (sym same ∙ e)
    by (inr (inr e)) = h.build_version.only j k jb kb e (sym same ∙ e)

pub sound_of_mach : (b : List ℕ) → IsMach b → AreSoundCommands b
sound_of_mach b h = record { each = record { at = λ k from below. h.commands k below }; segment = only 0x19 refl; symtab = only 2 refl; build_version = only 0x32 refl }
  where
    only : (cmd : ℕ) → IsTrue (is_read cmd) → IsOnly b cmd
    only cmd read = record { only = λ j k jb kb je ke. h.only j k jb kb (subst (λ x. IsTrue (is_read x)) (sym je) read) (je ∙ sym ke) }

pub when_none : {X : Type 0} (o : Option X) (P : Type 0) → P → IfNone o P
when_none None P p = p
when_none (Some x) P p = tt

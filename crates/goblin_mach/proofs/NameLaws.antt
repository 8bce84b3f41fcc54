-- Names and pairs are the rows of the table of architectures.
use Rattle.std.proofs.Common.{◌≡◌, ℕ, zero, suc, ◌<◌, ◌==◌, ◌&&◌, ◌↔◌, Bool, true, false, cond, List, [], ◌∷◌, ◌++◌, length, get_or, Option, Some, None, option_map, bytes_eq, refl, ap, sym, ◌∙◌, arith, Contains}
use Rattle.std.specs.List.{find, list_all}
use Rattle.std.proofs.lemmas.Bool.{eqb-true}
use Rattle.std.proofs.lemmas.Slice.Eq.{bytes_eq-Decides}
use Rattle.std.proofs.lemmas.List.Elements.{Contains-append_left}
use Rattle.goblin_mach.specs.Architectures.{Architecture, arch, architectures, aliases, is_named, is_of, pair_of, pair_named, name_of_pair}

-- ---- what is found is a row

-- a row of the list that passes
record Found {X : Type 0} (p : X → Bool) (xs : List X) (x : X) : Type 0 where
  here : Contains xs x
  passes : p x ≡ true

found_later : {X : Type 0} (p : X → Bool) (y : X) (xs : List X) (x : X) → Found p xs x → Found p (y ∷ xs) x
found_later p y xs x f = record { here = (suc f.here.0, omega (arith, f.here.1), f.here.2); passes = f.passes }

found_step : {X : Type 0} (p : X → Bool) (y : X) (xs : List X) (x : X) (t : Bool) → p y ≡ t → (find p xs ≡ Some x → Found p xs x) → cond t (Some y) (find p xs) ≡ Some x → Found p (y ∷ xs) x
found_step p y xs x true t later e =
    let same : y ≡ x = cc in
    record { here = (0, omega arith, same); passes = ap p (sym same) ∙ t }
found_step p y xs x false t later e = found_later p y xs x (later e)

found : {X : Type 0} (p : X → Bool) (xs : List X) (x : X) → find p xs ≡ Some x → Found p xs x
found p [] x e = absurd (cc)
found p (y ∷ xs) x e = found_step p y xs x (p y) refl (found p xs x) e

both : (a b : Bool) → (a && b) ≡ true → (a ≡ true) × (b ≡ true)
both true b e = (refl, e)
both false b e = absurd (cc)

named_row : (table : List Architecture) (name : List ℕ) (cputype cpusubtype : ℕ) (row : Option Architecture) → find (is_named name) table ≡ row
    → option_map pair_of row ≡ Some (cputype, cpusubtype) → Contains table (arch name cputype cpusubtype)
named_row table name cputype cpusubtype None e h = absurd (cc)
named_row table name cputype cpusubtype (Some row) e h =
    let f = found (is_named name) table row e in
    let pair : pair_of row ≡ (cputype, cpusubtype) = cc in
    let t : row.cputype ≡ cputype = ap (λ (p : ℕ × ℕ). p.0) pair in
    let s : row.cpusubtype ≡ cpusubtype = ap (λ (p : ℕ × ℕ). p.1) pair in
    let n : row.name ≡ name = (bytes_eq-Decides row.name name).0 f.passes in
    let same : row ≡ arch name cputype cpusubtype = rw (← n, ← t, ← s) refl in
    rw (← same) f.here

paired_row : (table : List Architecture) (name : List ℕ) (cputype cpusubtype : ℕ) (row : Option Architecture) → find (is_of cputype cpusubtype) table ≡ row
    → option_map (λ a. a.name) row ≡ Some name → Contains table (arch name cputype cpusubtype)
paired_row table name cputype cpusubtype None e h = absurd (cc)
paired_row table name cputype cpusubtype (Some row) e h =
    let f = found (is_of cputype cpusubtype) table row e in
    let tests = both (row.cputype == cputype) (row.cpusubtype == cpusubtype) f.passes in
    let t : row.cputype ≡ cputype = eqb-true row.cputype cputype tests.0 in
    let s : row.cpusubtype ≡ cpusubtype = eqb-true row.cpusubtype cpusubtype tests.1 in
    let n : row.name ≡ name = cc in
    let same : row ≡ arch name cputype cpusubtype = rw (← n, ← t, ← s) refl in
    rw (← same) f.here

-- ---- each row is found, by its name and by its pair

all_at : {X : Type 0} (p : X → Bool) (xs : List X) (k : ℕ) (x : X) → list_all p xs ≡ true → k < length xs → get_or xs k x ≡ x → p x ≡ true
all_at p [] k x h l e = absurd (omega arith)
all_at p (y ∷ xs) zero x h l e = rw (← e) ((both (p y) (list_all p xs) h).0)
all_at p (y ∷ xs) (suc k) x h l e = all_at p xs k x ((both (p y) (list_all p xs) h).1) (omega arith) e

abbrev is_pair : ℕ → ℕ → Option (ℕ × ℕ) → Bool
is_pair cputype cpusubtype None = false
is_pair cputype cpusubtype (Some pair) = (pair.0 == cputype) && (pair.1 == cpusubtype)

the_pair : (cputype cpusubtype : ℕ) (pair : Option (ℕ × ℕ)) → is_pair cputype cpusubtype pair ≡ true → pair ≡ Some (cputype, cpusubtype)
the_pair cputype cpusubtype None h = absurd (cc)
the_pair cputype cpusubtype (Some (t, s)) h =
    let tests = both (t == cputype) (s == cpusubtype) h in
    rw (eqb-true t cputype tests.0, eqb-true s cpusubtype tests.1) refl

abbrev is_text : List ℕ → Option (List ℕ) → Bool
is_text name None = false
is_text name (Some text) = bytes_eq text name

the_text : (name : List ℕ) (text : Option (List ℕ)) → is_text name text ≡ true → text ≡ Some name
the_text name None h = absurd (cc)
the_text name (Some text) h = ap Some ((bytes_eq-Decides text name).0 h)

-- computed over the whole table
each_name : list_all (λ a. is_pair a.cputype a.cpusubtype (pair_named a.name)) (architectures ++ aliases) ≡ true
unfolding architectures aliases
each_name = refl

each_pair : list_all (λ a. is_text a.name (name_of_pair a.cputype a.cpusubtype)) architectures ≡ true
unfolding architectures
each_pair = refl

-- ---- the laws

pub names_are_rows : (name : List ℕ) (cputype cpusubtype : ℕ) → (pair_named name ≡ Some (cputype, cpusubtype)) ↔ Contains (architectures ++ aliases) (arch name cputype cpusubtype)
names_are_rows name cputype cpusubtype = (
  named_row (architectures ++ aliases) name cputype cpusubtype (find (is_named name) (architectures ++ aliases)) refl,
  λ row. the_pair cputype cpusubtype (pair_named name) (all_at (λ a. is_pair a.cputype a.cpusubtype (pair_named a.name)) (architectures ++ aliases) row.0 (arch name cputype cpusubtype) each_name row.1 row.2),
)

pub pairs_are_rows : (name : List ℕ) (cputype cpusubtype : ℕ) → (name_of_pair cputype cpusubtype ≡ Some name) ↔ Contains architectures (arch name cputype cpusubtype)
pairs_are_rows name cputype cpusubtype = (
  paired_row architectures name cputype cpusubtype (find (is_of cputype cpusubtype) architectures) refl,
  λ row. the_text name (name_of_pair cputype cpusubtype) (all_at (λ a. is_text a.name (name_of_pair a.cputype a.cpusubtype)) architectures row.0 (arch name cputype cpusubtype) each_pair row.1 row.2),
)

pub names_lead_back : (name : List ℕ) (cputype cpusubtype : ℕ) → name_of_pair cputype cpusubtype ≡ Some name → pair_named name ≡ Some (cputype, cpusubtype)
names_lead_back name cputype cpusubtype h =
    (names_are_rows name cputype cpusubtype).1 (Contains-append_left architectures aliases (arch name cputype cpusubtype) ((pairs_are_rows name cputype cpusubtype).0 h))

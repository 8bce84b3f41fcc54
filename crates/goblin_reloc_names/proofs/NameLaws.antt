-- The laws of the names, computed over the tables of all families.
use Rattle.std.proofs.Common.{◌≡◌, ℕ, ◌==◌, Bool, true, false, not, ◌&&◌, List, [], ◌∷◌, Option, Some, None, option_map, unwrap_or, cond, is_some, refl, sym, ap, ◌∙◌}
use Rattle.std.specs.List.{find, list_all}
use Rattle.std.specs.Str.{bytes_eq}
use Rattle.std.proofs.lemmas.Bool.{and_parts, both_ways, not-true}
use Rattle.std.proofs.lemmas.Slice.Eq.{bytes_eq-Decides}
use Rattle.std.proofs.lemmas.List.Elements.{All-contains}
use Rattle.std.proofs.lemmas.List.Sums.{AllPass-from_list_all}
use Rattle.goblin_reloc.specs.X86.{x86_rows}
use Rattle.goblin_reloc.specs.X86_64.{x86_64_rows}
use Rattle.goblin_reloc.specs.Aarch64.{aarch64_rows}
use Rattle.goblin_reloc.specs.Arm.{arm_rows}
use Rattle.goblin_reloc.specs.Openrisc.{openrisc_rows}
use Rattle.goblin_reloc.specs.Mips.{mips_rows}
use Rattle.goblin_reloc.specs.Riscv.{riscv_rows}
use Rattle.goblin_reloc.specs.Powerpc.{powerpc_rows}
use Rattle.goblin_reloc.specs.Powerpc64.{powerpc64_rows}
use Rattle.goblin_reloc.specs.Loongarch.{loongarch_rows}
use Rattle.goblin_reloc_names.specs.Families.{Family, machines, family_of, x86, x86_64, aarch64, arm, openrisc, mips, riscv, powerpc, powerpc64, loongarch}
use Rattle.goblin_reloc_names.specs.Names.{named_rows, name_of, known_in, unknown_in, known_name, unknown_name, relocation_name}
use Rattle.goblin_reloc_names.specs.Laws.{NamesAreDistinct, KnownIsTold, EachRowIsTold}
use Rattle.goblin_reloc_names.proofs.Distinct.{is_named, are_apart, named, one_number}

-- no name of the family stands twice, and none is the text for unknown numbers
abbrev pub is_sound : Family → Bool
is_sound family = are_apart (named_rows family) && not (is_named family.unknown (named_rows family))

-- every family is so, by computation over its whole table
all_sound : list_all (λ entry. is_sound entry.1) machines ≡ true
unfolding named_rows x86 x86_64 aarch64 arm openrisc mips riscv powerpc powerpc64 loongarch x86_rows x86_64_rows aarch64_rows arm_rows openrisc_rows mips_rows riscv_rows powerpc_rows powerpc64_rows loongarch_rows
all_sound = refl

-- the family that is found is the first entry's, or that of a later one
entry_here : (machine : ℕ) (entry : ℕ × Family) (entries : List (ℕ × Family)) (test : Family → Bool) (family : Family) (same : Bool) → test entry.1 ≡ true → (option_map (λ e. e.1) (find (λ e. machine == e.0) entries) ≡ Some family → test family ≡ true) → option_map (λ e. e.1) (cond same (Some entry) (find (λ e. machine == e.0) entries)) ≡ Some family → test family ≡ true
entry_here machine entry entries test family true here later found = let is : entry.1 ≡ family = cc in ap test (sym is) ∙ here
entry_here machine entry entries test family false here later found = later found

-- a test that all families pass is passed by the one that is found
entry_family : (machine : ℕ) (entries : List (ℕ × Family)) (test : Family → Bool) (family : Family) → list_all (λ entry. test entry.1) entries ≡ true → option_map (λ entry. entry.1) (find (λ entry. machine == entry.0) entries) ≡ Some family → test family ≡ true
entry_family machine [] test family all found = cc
entry_family machine (entry ∷ entries) test family all found =
    let parts = and_parts (test entry.1) (list_all (λ e. test e.1) entries) all in
    entry_here machine entry entries test family (machine == entry.0) parts.0 (entry_family machine entries test family parts.1) found

sound_family : (machine : ℕ) (family : Family) → family_of machine ≡ Some family → is_sound family ≡ true
sound_family machine family is = entry_family machine machines is_sound family all_sound is

-- a name that is known is told in place of any other text
some_of : (found : Option (List ℕ)) (other : List ℕ) → is_some found ≡ true → found ≡ Some (unwrap_or found other)
some_of None other known = cc
some_of (Some name) other known = refl

distinct_in : (machine a b : ℕ) (found : Option Family) → family_of machine ≡ found → is_some (known_in found a) ≡ true → is_some (known_in found b) ≡ true → unwrap_or (known_in found a) (unknown_in found) ≡ unwrap_or (known_in found b) (unknown_in found) → a ≡ b
distinct_in machine a b None is known_a known_b same = cc
distinct_in machine a b (Some family) is known_a known_b same =
    let parts = and_parts (are_apart (named_rows family)) (not (is_named family.unknown (named_rows family))) (sound_family machine family is) in
    one_number (named_rows family) a b (unwrap_or (name_of family a) family.unknown) parts.0
    (some_of (name_of family a) family.unknown known_a)
    (some_of (name_of family b) family.unknown known_b ∙ ap Some (sym same))

pub names_are_distinct : NamesAreDistinct
unfolding known_name unknown_name relocation_name
names_are_distinct machine a b known_a known_b same = distinct_in machine a b (family_of machine) refl known_a known_b same

told_in : (machine number : ℕ) (found : Option Family) → family_of machine ≡ found → is_some (known_in found number) ≡ true → unwrap_or (known_in found number) (unknown_in found) ≡ unknown_in found → ⊥
told_in machine number None is known same = both_ways false refl known
told_in machine number (Some family) is known same =
    let parts = and_parts (are_apart (named_rows family)) (not (is_named family.unknown (named_rows family))) (sound_family machine family is) in
    both_ways (is_named family.unknown (named_rows family))
    (not-true (is_named family.unknown (named_rows family)) parts.1)
    (named number (named_rows family) family.unknown (some_of (name_of family number) family.unknown known ∙ ap Some same))

pub known_is_told : KnownIsTold
unfolding known_name unknown_name relocation_name
known_is_told machine number known same = told_in machine number (family_of machine) refl known same

-- whether the family tells the row's name for its number
abbrev pub tells : Family → ℕ × List ℕ → Bool
tells family row = bytes_eq (unwrap_or (name_of family row.0) family.unknown) row.1

-- whether it does so for each row that gives a name
abbrev pub tells_each : Family → Bool
tells_each family = list_all (tells family) (named_rows family)

-- every family does, by computation over its whole table
all_tell : list_all (λ entry. tells_each entry.1) machines ≡ true
unfolding named_rows x86 x86_64 aarch64 arm openrisc mips riscv powerpc powerpc64 loongarch x86_rows x86_64_rows aarch64_rows arm_rows openrisc_rows mips_rows riscv_rows powerpc_rows powerpc64_rows loongarch_rows
all_tell = refl

pub each_row_is_told : EachRowIsTold
unfolding known_name unknown_name relocation_name
each_row_is_told machine family row is among =
    let each = AllPass-from_list_all (tells family) (named_rows family) (entry_family machine machines tells_each family all_tell is) in
    ap (λ f. unwrap_or (known_in f row.0) (unknown_in f)) is ∙ (bytes_eq-Decides _ _).0 (All-contains (λ r. tells family r ≡ true) (named_rows family) row each among)

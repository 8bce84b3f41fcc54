-- The family of a machine by its number.
use Rattle.std.proofs.Common.{◌≡◌, ℕ, ◌⊎◌, inl, inr, Some, None, refl, ap, ne_eqb}
use Rattle.goblin_reloc_names.specs.Families.{family_of, mips}

-- three machines have the family of MIPS
pub family_of-mips : (machine : ℕ) → (machine ≡ 8) ⊎ ((machine ≡ 10) ⊎ (machine ≡ 51)) → family_of machine ≡ Some mips
family_of-mips machine (inl is) = ap family_of is
family_of-mips machine (inr (inl is)) = ap family_of is
family_of-mips machine (inr (inr is)) = ap family_of is

-- a machine that none of the twelve numbers names has no family
pub family_of-other : (machine : ℕ) → (machine ≡ 3 → ⊥) → (machine ≡ 8 → ⊥) → (machine ≡ 10 → ⊥) → (machine ≡ 20 → ⊥) → (machine ≡ 21 → ⊥) → (machine ≡ 40 → ⊥) → (machine ≡ 51 → ⊥) → (machine ≡ 62 → ⊥) → (machine ≡ 92 → ⊥) → (machine ≡ 183 → ⊥) → (machine ≡ 243 → ⊥) → (machine ≡ 258 → ⊥) → family_of machine ≡ None
family_of-other machine n3 n8 n10 n20 n21 n40 n51 n62 n92 n183 n243 n258 =
    rw (ne_eqb machine 3 n3, ne_eqb machine 8 n8, ne_eqb machine 10 n10, ne_eqb machine 20 n20, ne_eqb machine 21 n21, ne_eqb machine 40 n40, ne_eqb machine 51 n51, ne_eqb machine 62 n62, ne_eqb machine 92 n92, ne_eqb machine 183 n183, ne_eqb machine 243 n243, ne_eqb machine 258 n258) refl

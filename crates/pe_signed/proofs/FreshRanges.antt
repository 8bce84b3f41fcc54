-- The ranges with which an iterator begins.
use Rattle.std.proofs.Common.{◌≡◌, ℕ, zero, suc, ◌-◌, ◌%◌, ◌^◌, ◌<◌, ◌≤◌, Bool, true, false, List, [], ◌∷◌, refl, ap, arith, sym, ◌∙◌, nat_lt, ◌==◌, length, take, replicate, min, if◌then◌else◌}
use Rattle.pe_core.specs.declared.section_table.SectionTable.{SectionTable}
use Rattle.pe_signed.specs.declared.authenticode.ExcludedSections.{ExcludedSections}
use Rattle.pe_core.specs.Steps.{bytes_between}
use Rattle.pe_signed.specs.SignedRanges.{bytes_hashed, extra_ranges, fill_of, fill_ranges}

take_same : (z k n : ℕ) → n ≤ k → take n (replicate k z) ≡ replicate n z
take_same z k zero h = refl
take_same z zero (suc n) h = absurd (omega (arith, h))
take_same z (suc k) (suc n) h = ap (λ xs. z ∷ xs) (take_same z k n (omega (arith, h)))

fill_is : (len : ℕ) → fill_of len ≡ (8 - len % 8) % 8
fill_is len = omega arith

pub fill_some : (len n : ℕ) (zeros : List ℕ) → zeros ≡ replicate 7 0 → n ≡ (8 - len % 8) % 8 → 0 < n → take n zeros ∷ [] ≡ fill_ranges len
fill_some len n zeros all e some =
    let same : fill_of len ≡ n = fill_is len ∙ sym e in
    let few : n ≤ 7 = omega (arith, e) in
    let test : (n == 0) ≡ false = grind (arith, some) in
    rw (all, same, test, take_same 0 7 n few) refl

extra_within : (b : List ℕ) (n hashed total size : ℕ) (c : Bool) → nat_lt total (2 ^ 64) ≡ c → n < 2 ^ 64 → hashed ≡ min total (2 ^ 64 - 1)
    → (if nat_lt hashed n then bytes_between b hashed (n - size) ∷ [] else []) ≡ (if nat_lt total n then bytes_between b total (n - size) ∷ [] else [])
extra_within b n hashed total size true t fits e = let same : hashed ≡ total = grind (arith, t, e) in rw same refl
extra_within b n hashed total size false t fits e =
    let one : nat_lt hashed n ≡ false = grind (arith, t, fits, e) in
    let other : nat_lt total n ≡ false = grind (arith, t, fits) in
    rw (one, other) refl

pub extra_same : (b : List ℕ) (sections : List SectionTable) (ex : ExcludedSections) (hashed : ℕ) → length b < 2 ^ 64 → hashed ≡ min (bytes_hashed sections ex) (2 ^ 64 - 1)
    → (if nat_lt hashed (length b) then bytes_between b hashed (length b - ex.certificate_table_size) ∷ [] else []) ≡ extra_ranges b sections ex
extra_same b sections ex hashed fits e = extra_within b (length b) hashed (bytes_hashed sections ex) ex.certificate_table_size (nat_lt (bytes_hashed sections ex) (2 ^ 64)) refl fits e

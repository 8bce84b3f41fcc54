-- Two small objects that are formed.
use Rattle.std.proofs.Common.{◌≡◌, ℕ, false, Some, slice_get, refl, lit≤, lit<}
use Rattle.object_core.specs.declared.relocation.Relocation.{Relocation}
use Rattle.object_core.specs.WellFormed.{IsFormedSymbol, IsFormedRelocation, IsFormedElf, has_zero_byte}
use Rattle.image_read.proofs.Below.{each_here}
use Rattle.file_tests.specs.SmallObjects.{file_object, main_object}

pub file_object_formed : IsFormedElf file_object
file_object_formed = record {
  symbols = each_here (λ k s. IsFormedSymbol file_object s) file_object.symbols (record { name = refl; place = tt; value = lit≤ tt }, tt);
  names = each_here (λ k s. has_zero_byte s.name ≡ false) file_object.sections tt;
  relocations = each_here (λ k s. (m : ℕ) (r : Relocation) → slice_get s.relocations m ≡ Some r → IsFormedRelocation file_object s r) file_object.sections tt;
}

pub main_object_formed : IsFormedElf main_object
main_object_formed = record {
  symbols = each_here (λ k s. IsFormedSymbol main_object s) main_object.symbols (record { name = refl; place = tt; value = lit≤ tt }, (record { name = refl; place = lit< tt; value = lit≤ tt }, tt));
  names = each_here (λ k s. has_zero_byte s.name ≡ false) main_object.sections (refl, tt);
  relocations = each_here (λ k s. (m : ℕ) (r : Relocation) → slice_get s.relocations m ≡ Some r → IsFormedRelocation main_object s r) main_object.sections ((λ m r h. absurd (cc)), tt);
}

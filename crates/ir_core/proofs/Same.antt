-- Comparing signatures part by part tells whether they are equal.
use Rattle.std.proofs.Common.{◌≡◌, ℕ, zero, suc, List, [], ◌∷◌, Bool, true, false, ◌&&◌, ◌==◌, refl, ap, sym, ◌∙◌}
use lib.Pointwise.{pointwise}
use Rattle.std.specs.Bool.{Decides}
use Rattle.std.proofs.lemmas.Bool.{eqb-true}
use Rattle.std.proofs.lemmas.Slice.Eq.{slice_eq-Decides}
use Rattle.ir_core.specs.declared.types.ValueType.{ValueType}
use Rattle.ir_core.specs.declared.types.ValueType.TheVariants.{I8, I16, I32, I64, I128, F32, F64}
use Rattle.ir_core.specs.declared.types.ArgumentExtension.{ArgumentExtension}
use Rattle.ir_core.specs.declared.types.ArgumentExtension.TheVariants.{None, Uext, Sext}
use Rattle.ir_core.specs.declared.types.ArgumentPurpose.{ArgumentPurpose}
use Rattle.ir_core.specs.declared.types.ArgumentPurpose.TheVariants.{Normal, StructReturn, VMContext}
use Rattle.ir_core.specs.declared.types.CallConv.{CallConv}
use Rattle.ir_core.specs.declared.types.CallConv.TheVariants.{Fast, Tail, SystemV, WindowsFastcall, AppleAarch64}
use Rattle.ir_core.specs.declared.signature.AbiParam.{AbiParam}
use Rattle.ir_core.specs.Signature.{SignatureData, is_same_param, is_same_signature, type_rank, extension_rank, purpose_rank, convention_rank}
use Rattle.ir_core.specs.SignatureLaws.{same_param_laws, same_signature_laws}

-- tests that answer alike compare lists alike
pub pointwise-alike : {A : Type 0} (E F : A → A → Bool) → ((x y : A) → E x y ≡ F x y) → (xs ys : List A) → pointwise E xs ys ≡ pointwise F xs ys
pointwise-alike E F e [] [] = refl
pointwise-alike E F e [] (y ∷ ys) = refl
pointwise-alike E F e (x ∷ xs) [] = refl
pointwise-alike E F e (x ∷ xs) (y ∷ ys) = rw (e x y, pointwise-alike E F e xs ys) refl

-- -- a rank tells the variant

type_of : ℕ → ValueType
type_of zero = I8
type_of (suc zero) = I16
type_of (suc (suc zero)) = I32
type_of (suc (suc (suc zero))) = I64
type_of (suc (suc (suc (suc zero)))) = I128
type_of (suc (suc (suc (suc (suc zero))))) = F32
type_of (suc (suc (suc (suc (suc (suc n)))))) = F64

type_of-rank : (t : ValueType) → type_of (type_rank t) ≡ t
unfolding type_of
type_of-rank I8 = refl
type_of-rank I16 = refl
type_of-rank I32 = refl
type_of-rank I64 = refl
type_of-rank I128 = refl
type_of-rank F32 = refl
type_of-rank F64 = refl

extension_of : ℕ → ArgumentExtension
extension_of zero = None
extension_of (suc zero) = Uext
extension_of (suc (suc n)) = Sext

extension_of-rank : (e : ArgumentExtension) → extension_of (extension_rank e) ≡ e
unfolding extension_of
extension_of-rank None = refl
extension_of-rank Uext = refl
extension_of-rank Sext = refl

purpose_of : ℕ → ArgumentPurpose
purpose_of zero = Normal
purpose_of (suc zero) = StructReturn
purpose_of (suc (suc n)) = VMContext

purpose_of-rank : (p : ArgumentPurpose) → purpose_of (purpose_rank p) ≡ p
unfolding purpose_of
purpose_of-rank Normal = refl
purpose_of-rank StructReturn = refl
purpose_of-rank VMContext = refl

convention_of : ℕ → CallConv
convention_of zero = Fast
convention_of (suc zero) = Tail
convention_of (suc (suc zero)) = SystemV
convention_of (suc (suc (suc zero))) = WindowsFastcall
convention_of (suc (suc (suc (suc n)))) = AppleAarch64

convention_of-rank : (c : CallConv) → convention_of (convention_rank c) ≡ c
unfolding convention_of
convention_of-rank Fast = refl
convention_of-rank Tail = refl
convention_of-rank SystemV = refl
convention_of-rank WindowsFastcall = refl
convention_of-rank AppleAarch64 = refl

by_rank : {A : Type 0} (rank : A → ℕ) (of : ℕ → A) → ((x : A) → of (rank x) ≡ x) → (x y : A) → (rank x == rank y) ≡ true → x ≡ y
by_rank rank of e x y h = sym (e x) ∙ ap of (eqb-true (rank x) (rank y) h) ∙ e y

both : (a b : Bool) → (a && b) ≡ true → (a ≡ true) × (b ≡ true)
both true b h = (refl, h)
both false b h = absurd (cc)

-- -- values and signatures

param_from_parts : (p q : AbiParam) → p.value_type ≡ q.value_type → p.extension ≡ q.extension → p.purpose ≡ q.purpose → p ≡ q
param_from_parts p q e f g = rw (e, f, g) refl

signature_from_parts : (s t : SignatureData) → s.params ≡ t.params → s.returns ≡ t.returns → s.call_conv ≡ t.call_conv → s ≡ t
signature_from_parts s t e f g = rw (e, f, g) refl

same_param-Decides : (p q : AbiParam) → Decides (is_same_param p q) (p ≡ q)
same_param-Decides p q = (equal, λ e. ap (is_same_param p) (sym e) ∙ same_param_laws.refl p) where
  equal : is_same_param p q ≡ true → p ≡ q
  equal h =
      let front = both (type_rank p.value_type == type_rank q.value_type && extension_rank p.extension == extension_rank q.extension) (purpose_rank p.purpose == purpose_rank q.purpose) h in
      let two = both (type_rank p.value_type == type_rank q.value_type) (extension_rank p.extension == extension_rank q.extension) front.0 in
      param_from_parts p q (by_rank type_rank type_of type_of-rank p.value_type q.value_type two.0) (by_rank extension_rank extension_of extension_of-rank p.extension q.extension two.1) (by_rank purpose_rank purpose_of purpose_of-rank p.purpose q.purpose front.1)

-- two signatures are the same exactly where they are equal
pub same_signature-Decides : (s t : SignatureData) → Decides (is_same_signature s t) (s ≡ t)
same_signature-Decides s t = (equal, λ e. ap (is_same_signature s) (sym e) ∙ same_signature_laws.refl s) where
  equal : is_same_signature s t ≡ true → s ≡ t
  equal h =
      let front = both (pointwise is_same_param s.params t.params && pointwise is_same_param s.returns t.returns) (convention_rank s.call_conv == convention_rank t.call_conv) h in
      let two = both (pointwise is_same_param s.params t.params) (pointwise is_same_param s.returns t.returns) front.0 in
      signature_from_parts s t ((slice_eq-Decides same_param-Decides s.params t.params _ refl).0 two.0) ((slice_eq-Decides same_param-Decides s.returns t.returns _ refl).0 two.1)
      (by_rank convention_rank convention_of convention_of-rank s.call_conv t.call_conv front.1)

pub tells_equal : (b : Bool) (s t : SignatureData) → b ≡ is_same_signature s t → Decides b (s ≡ t)
tells_equal b s t e = rw e (same_signature-Decides s t)

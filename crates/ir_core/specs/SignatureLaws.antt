-- Being the same is an equivalence, for values and for signatures.
use Rattle.std.specs.Cmp.{IsEquivalence, and_equiv, on_equiv, nat_eq_equiv}
use Rattle.std.specs.Cmp.Lexicographic.{lists_equiv}
use Rattle.ir_core.specs.declared.signature.AbiParam.{AbiParam}
use Rattle.ir_core.specs.Signature.{SignatureData, is_same_param, is_same_signature, type_rank, extension_rank, purpose_rank, convention_rank}

pub same_param_laws : IsEquivalence is_same_param
same_param_laws =
    and_equiv (and_equiv (on_equiv (λ (p : AbiParam). type_rank p.value_type) nat_eq_equiv) (on_equiv (λ (p : AbiParam). extension_rank p.extension) nat_eq_equiv)) (on_equiv (λ (p : AbiParam). purpose_rank p.purpose) nat_eq_equiv)

pub same_signature_laws : IsEquivalence is_same_signature
same_signature_laws =
    let lists = lists_equiv same_param_laws in
    and_equiv (and_equiv (on_equiv (λ (s : SignatureData). s.params) lists) (on_equiv (λ (s : SignatureData). s.returns) lists)) (on_equiv (λ (s : SignatureData). convention_rank s.call_conv) nat_eq_equiv)

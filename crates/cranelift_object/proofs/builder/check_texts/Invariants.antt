use Rattle.std.proofs.Common.{◌≡◌, map, drop, string_bytes}
use Rattle.cranelift_module.specs.Refusal.{first_cause, zero_byte}
use Rattle.cranelift_object.proofs.builder.check_texts.Given as goal

abbrev pub invariant-loop-text : goal.invariant-loop-text
invariant-loop-text l = first_cause (map zero_byte (map string_bytes l.texts)) ≡ first_cause (map zero_byte (map string_bytes (drop l.text-index l.texts)))

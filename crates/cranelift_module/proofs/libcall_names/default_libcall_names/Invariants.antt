use Rattle.std.proofs.Common.{◌≡◌, map, take, string_bytes}
use Rattle.cranelift_module.proofs.libcall_names.default_libcall_names.Given as goal

abbrev pub invariant-taking : goal.invariant-taking
invariant-taking l = map string_bytes l.texts.items ≡ map (λ text. text.now) (take l.text-index l.text-items)

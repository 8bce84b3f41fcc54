use Rattle.std.proofs.Common.{◌≡◌, map, take, string_bytes, vec_len}
use Rattle.cranelift_module.proofs.libcall_names.copies_of.Given as goal

-- the texts so far are copied
abbrev pub invariant-loop-text : goal.invariant-loop-text
invariant-loop-text l = record {
  texts : map string_bytes l.copies.items ≡ map string_bytes (take l.text-index l.texts.items);
  len : vec_len l.copies ≡ l.text-index;
}

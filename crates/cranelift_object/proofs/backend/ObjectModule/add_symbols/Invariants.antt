use Rattle.std.proofs.Common.{◌≡◌, take}
use Rattle.cranelift_object.specs.Marking.{with_symbols, marks_of_functions, marks_of_objects}
use Rattle.cranelift_object.proofs.backend.ObjectModule.add_symbols.Given as goal

abbrev pub invariant-loop-number : goal.invariant-loop-number
invariant-loop-number l = record {
  object : l.object ≡ with_symbols l.self l.number;
  functions : l.symbols.functions.items ≡ marks_of_functions l.self.state (take l.number l.self.state.created);
  objects : l.symbols.objects.items ≡ marks_of_objects l.self.state (take l.number l.self.state.created);
}

use Rattle.std.proofs.Common.{length, ap, ◌∙◌, arith}
use Rattle.cranelift_object.proofs.DefineLaws.{data_marks_length, symbol_in_data_row}
use Rattle.cranelift_object.proofs.backend.ObjectModule.symbol_of_object.Goals as goal

pub bounds-objects-as_u32 : goal.bounds-objects-as_u32
bounds-objects-as_u32 c = omega (arith, c.requires.declared, c.as_u32.ensures, data_marks_length c.args.self.now.state, ap length c.requires.symbols, ap length c.as_slice-objects.ensures.value)

pub bounds-objects-as_u32-2 : goal.bounds-objects-as_u32-2
bounds-objects-as_u32-2 c = omega (arith, c.requires.declared, c.as_u32.ensures, data_marks_length c.args.self.now.state, ap length c.requires.symbols, ap length c.as_slice-objects.ensures.value)

pub returns : goal.returns
returns c = symbol_in_data_row c.args.self.now.state c.as_slice-objects.result.now c.as_u32.result c.args.id c.index-objects-as_u32.result (c.as_slice-objects.ensures.value ∙ c.requires.symbols) c.requires.declared c.as_u32.ensures

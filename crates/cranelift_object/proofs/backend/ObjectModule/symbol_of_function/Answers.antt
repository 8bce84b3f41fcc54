use Rattle.std.proofs.Common.{length, ap, ◌∙◌, arith}
use Rattle.cranelift_object.proofs.DefineLaws.{marks_length, symbol_in_row}
use Rattle.cranelift_object.proofs.backend.ObjectModule.symbol_of_function.Goals as goal

pub bounds-functions-as_u32 : goal.bounds-functions-as_u32
bounds-functions-as_u32 c = omega (arith, c.requires.declared, c.as_u32.ensures, marks_length c.args.self.now.state, ap length c.requires.symbols, ap length c.as_slice-functions.ensures.value)

pub bounds-functions-as_u32-2 : goal.bounds-functions-as_u32-2
bounds-functions-as_u32-2 c = omega (arith, c.requires.declared, c.as_u32.ensures, marks_length c.args.self.now.state, ap length c.requires.symbols, ap length c.as_slice-functions.ensures.value)

pub returns : goal.returns
returns c = symbol_in_row c.args.self.now.state c.as_slice-functions.result.now c.as_u32.result c.args.id c.index-functions-as_u32.result (c.as_slice-functions.ensures.value ∙ c.requires.symbols) c.requires.declared c.as_u32.ensures

use Rattle.std.proofs.Common.{arith, sym, ◌∙◌}
use Rattle.std.proofs.lemmas.Bool.{eqb-true, eq-eqb}
use Rattle.object_macho.proofs.Counting.{table_records}
use Rattle.object_macho.proofs.Planning.{few_sections, few_rows, few_contents, file_length}
use Rattle.object_macho.proofs.plan.has_plan.Goals as goal

pub has_addresses-requires-clause-sections : goal.has_addresses-requires-clause-sections
has_addresses-requires-clause-sections c = few_sections c.args.object.now c.requires

pub has_addresses-requires-clause-contents : goal.has_addresses-requires-clause-contents
has_addresses-requires-clause-contents c = few_contents c.args.object.now c.requires

pub has_rows-requires : goal.has_rows-requires
has_rows-requires c = few_rows c.args.object.now c.requires

pub record_count-requires : goal.record_count-requires
record_count-requires c = few_sections c.args.object.now c.requires

pub file_size-requires-clause-sections : goal.file_size-requires-clause-sections
file_size-requires-clause-sections c = few_sections c.args.object.now c.requires

pub file_size-requires-clause-contents : goal.file_size-requires-clause-contents
file_size-requires-clause-contents c = few_contents c.args.object.now c.requires

pub returns-then-from-record_count-clause-all : goal.returns-then-from-record_count-clause-all
returns-then-from-record_count-clause-all c = λ h. absurd (omega (arith, c.if-from-record_count.true, c.from.ensures, c.records.ensures, c.record_count.ensures.value, h.records, table_records c.args.object.now))

pub returns-clause-yes : goal.returns-clause-yes
returns-clause-yes c = λ h. record {
  sections = sym c.sections-order.ensures ∙ c.has_sections.ensures.yes c.if-not-has_sections.false;
  numbers = sym c.numbers.ensures ∙ c.has_numbers.ensures.yes c.if-not-has_numbers.false;
  addresses = sym c.addresses.ensures ∙ c.has_addresses.ensures.yes c.if-not-has_addresses.false;
  symbols = sym c.symbols.ensures ∙ c.has_symbols.ensures.yes c.if-not-has_symbols.false;
  rows = sym c.rows.ensures ∙ c.has_rows.ensures.yes c.if-not-has_rows.false;
  records = omega (arith, c.if-from-record_count.false, c.from.ensures, c.records.ensures, c.record_count.ensures.value, table_records c.args.object.now);
  length = omega (arith, eqb-true _ _ h, c.from-2.ensures, c.len.ensures, c.file_size.ensures, file_length c.args.object.now);
}

pub returns-clause-all : goal.returns-clause-all
returns-clause-all c = λ h. eq-eqb _ _ (omega (arith, h.length, c.from-2.ensures, c.len.ensures, c.file_size.ensures, file_length c.args.object.now))

use Rattle.std.proofs.Common.{arith, sym, ◌∙◌}
use Rattle.object_macho.proofs.Counting.{table_records}
use Rattle.object_macho.proofs.Planning.{few_sections, few_rows, few_contents, few_bytes, few_records, file_length, plan_is}
use Rattle.object_macho.proofs.plan.counted_plan.Goals as goal

pub addresses_of-requires-clause-sections : goal.addresses_of-requires-clause-sections
addresses_of-requires-clause-sections c = few_sections c.args.object.now c.requires

pub addresses_of-requires-clause-contents : goal.addresses_of-requires-clause-contents
addresses_of-requires-clause-contents c = few_contents c.args.object.now c.requires

pub rows_of-requires : goal.rows_of-requires
rows_of-requires c = few_rows c.args.object.now c.requires

pub record_count-records-requires : goal.record_count-records-requires
record_count-records-requires c = few_sections c.args.object.now c.requires

pub overflow_cast-records : goal.overflow_cast-records
overflow_cast-records c = omega (arith, few_records c.args.object.now c.requires, c.record_count-records.ensures.value)

pub file_size-length-requires-clause-sections : goal.file_size-length-requires-clause-sections
file_size-length-requires-clause-sections c = few_sections c.args.object.now c.requires

pub file_size-length-requires-clause-contents : goal.file_size-length-requires-clause-contents
file_size-length-requires-clause-contents c = few_contents c.args.object.now c.requires

pub overflow_cast-length : goal.overflow_cast-length
overflow_cast-length c = omega (arith, few_bytes c.args.object.now c.requires, c.file_size-length.ensures)

pub returns : goal.returns
returns c =
    let o = c.args.object.now in
    plan_is _ o (record {
      sections = c.in_ok-sections.ensures;
      numbers = c.in_ok-numbers.ensures;
      addresses = c.in_ok-addresses.ensures;
      symbols = c.in_ok-symbols.ensures;
      rows = c.in_ok-rows.ensures;
      records = c.record_count-records.ensures.value ∙ sym (table_records o);
      length = c.file_size-length.ensures ∙ file_length o;
    })

use Rattle.std.proofs.Common.{◌≡◌, ◌++◌, ◌+◌, take, drop, length}
use Rattle.byte_core.specs.Fields.{field_bytes, widths}
use Rattle.byte_core.proofs.placing.place_fields.Given as goal

abbrev pub invariant-loop-field : goal.invariant-loop-field
invariant-loop-field l = record {
  bytes : take l.end l.out ++ field_bytes (drop l.field-index l.fields) ≡ take l.at l.fn.out ++ field_bytes l.fields;
  end : l.end + widths (drop l.field-index l.fields) ≡ l.at + widths l.fields;
  len : length l.out ≡ length l.fn.out;
}

-- The numbers of a plan.
use Rattle.std.proofs.Common.{◌≡◌, ◌<◌, ◌^◌, length, ap, ◌∙◌, arith}
use Rattle.std.specs.Prelude.{count_by, sum_by}
use Rattle.ir_core.specs.MachO.{mach_cputype}
use Rattle.object_core.specs.Object.{ObjectData}
use Rattle.object_core.specs.MachRows.{addresses_in, macho_table_of}
use Rattle.object_macho.specs.Layout.{record_count, mach_length}
use Rattle.object_macho.specs.PlainCounts.{has_row, section_records, file_size, plain_counts}
use Rattle.object_macho.specs.Plan.{PlanData, HasNumbers, IsWithinLimits, section_order, section_numbers, symbol_order, rows_of, plan_of}
use Rattle.object_macho.proofs.Counting.{table_length}

-- -- what the limits say of an object

pub few_sections : (o : ObjectData) → IsWithinLimits (plain_counts o) → length o.sections < 256
unfolding plain_counts
few_sections o h = h.sections

pub few_rows : (o : ObjectData) → IsWithinLimits (plain_counts o) → count_by has_row o.symbols < 2 ^ 24
unfolding plain_counts
few_rows o h = h.symbols

pub few_contents : (o : ObjectData) → IsWithinLimits (plain_counts o) → o.content_sum < 2 ^ 31
unfolding plain_counts
few_contents o h = h.contents

pub few_bytes : (o : ObjectData) → IsWithinLimits (plain_counts o) → file_size o < 2 ^ 32
unfolding plain_counts
few_bytes o h = h.file

pub few_records : (o : ObjectData) → IsWithinLimits (plain_counts o) → sum_by (section_records (mach_cputype o.architecture)) o.sections < 2 ^ 32
few_records o h = omega (arith, few_bytes o h)

-- -- the members of a plan

pub file_length : (o : ObjectData) → file_size o ≡ mach_length (macho_table_of o)
unfolding plain_counts
file_length o = table_length o

-- a plan with these members
pub plan_is : (p : PlanData) (o : ObjectData) → HasNumbers p o → p ≡ plan_of o
unfolding plan_of
plan_is p o h =
    ap (λ x. record { sections = x; numbers = p.numbers; addresses = p.addresses; symbols = p.symbols; rows = p.rows; records = p.records; length = p.length }) h.sections
    ∙ ap (λ x. record { sections = section_order o.sections; numbers = x; addresses = p.addresses; symbols = p.symbols; rows = p.rows; records = p.records; length = p.length }) h.numbers
    ∙ ap (λ x. record { sections = section_order o.sections; numbers = section_numbers o.sections; addresses = x; symbols = p.symbols; rows = p.rows; records = p.records; length = p.length }) h.addresses
    ∙ ap (λ x. record { sections = section_order o.sections; numbers = section_numbers o.sections; addresses = addresses_in o.sections; symbols = x; rows = p.rows; records = p.records; length = p.length }) h.symbols
    ∙ ap (λ x. record { sections = section_order o.sections; numbers = section_numbers o.sections; addresses = addresses_in o.sections; symbols = symbol_order o.symbols; rows = x; records = p.records; length = p.length }) h.rows
    ∙ ap (λ x. record { sections = section_order o.sections; numbers = section_numbers o.sections; addresses = addresses_in o.sections; symbols = symbol_order o.symbols; rows = rows_of o.symbols; records = x; length = p.length }) h.records
    ∙ ap (λ x. record { sections = section_order o.sections; numbers = section_numbers o.sections; addresses = addresses_in o.sections; symbols = symbol_order o.symbols; rows = rows_of o.symbols; records = record_count (macho_table_of o).cputype (macho_table_of o).sections; length = x }) h.length

-- What a contract sees of an iterator over signed ranges: those that are left.
use Rattle.std.specs.Prelude.{ℕ, ◌+◌, ◌≤◌, List, [], ◌∷◌, ◌++◌, map}
use Rattle.std.specs.Option.{option_copied, option_to_list}
use Rattle.pe_signed.specs.declared.authenticode.ExcludedSectionsIter.TheInside.{Inside}
use Rattle.pe_core.specs.declared.section_table.SectionTable.{SectionTable}
use Rattle.pe_signed.specs.SignedRanges.{section_bytes}

-- the ranges that are still to come
abbrev pub ranges_left : Inside → List (List ℕ)
ranges_left it =
    option_to_list (option_copied it.before_checksum)
    ++ (option_to_list (option_copied it.before_entry)
    ++ (option_to_list (option_copied it.before_header_end)
    ++ (map (section_bytes it.bytes.now) it.sections
    ++ (option_to_list (option_copied it.extra)
    ++ option_to_list (option_copied it.fill)))))

-- each of these sections ends inside a file of n bytes
abbrev pub EndInside : ℕ → List SectionTable → Type 0
EndInside n [] = Unit {0}
EndInside n (s ∷ ss) = (s.pointer_to_raw_data + s.size_of_raw_data ≤ n) × EndInside n ss

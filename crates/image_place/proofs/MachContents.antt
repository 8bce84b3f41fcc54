-- The bytes of a Mach-O part's definitions in its view are theirs, outside of fields.
use Rattle.std.proofs.Common.{◌≡◌, ℕ, zero, suc, ◌+◌, ◌<◌, ◌≤◌, inl, inr, List, [], ◌∷◌, length, map, drop, replicate, refl, ap, sym, ◌∙◌, arith, Some, None, Bool, true, false, slice_get}
use Rattle.std.proofs.lemmas.Bool.{cases_lt}
use Rattle.std.proofs.lemmas.List.{length-take-le, length-drop, nil_from_length}
use Rattle.byte_core.specs.Number.{bytes_at}
use Rattle.byte_core.proofs.Lists.{get_exists, get_within}
use Rattle.ir_core.specs.declared.target.BinaryFormat.{BinaryFormat}
use Rattle.ir_core.specs.declared.target.BinaryFormat.TheVariants.{Macho}
use Rattle.ir_core.specs.MachO.{x86_64_cputype}
use Rattle.object_core.specs.Places.{joined}
use Rattle.object_core.specs.Appending.{stored_in}
use Rattle.object_core.specs.LinkTable.{MachTableSection}
use Rattle.object_macho.specs.Layout.{stored_contents}
use Rattle.object_macho.proofs.Behind.{length-stored_contents}
use Rattle.cranelift_module.specs.declared.identifiers.FuncOrDataId.{FuncOrDataId}
use Rattle.cranelift_module.specs.Call.{Contents, bytes, zeros}
use Rattle.cranelift_module.specs.Definitions.{Definition as Made, size_of, contents_of}
use Rattle.cranelift_module.specs.LinkState.{LinkState}
use Rattle.cranelift_module.specs.Refusal.{are_bytes, section_cause}
use Rattle.cranelift_object.specs.Settings.{Settings}
use Rattle.cranelift_object.specs.Placing.{Placed, placed}
use Rattle.cranelift_object.specs.SectionClass.{section_class}
use Rattle.cranelift_object.specs.Linked.{object_of, members, piece_of, stored_of, is_unstored_class}
use Rattle.cranelift_object.proofs.DefineLaws.{bytes_stored}
use Rattle.cranelift_object.proofs.SectionLaws.{contents_length}
use Rattle.image_place.specs.declared.rows.DefAddress.{DefAddress as AddressRow}
use Rattle.image_place.specs.Fixups.{Patch}
use Rattle.image_place.specs.Memory.{fixup_of}
use Rattle.image_place.specs.Shares.{Pairs}
use Rattle.image_place.specs.Shown.{HasField, Outside, AgreesOutside}
use Rattle.image_view.specs.View.{filled}
use Rattle.image_place.proofs.Applied.{AreApplied}
use Rattle.image_place.proofs.FileSymbols.{placed-from}
use Rattle.image_place.proofs.FileStanding.{member-into, room-over, member-bytes, member-end, zeros-at}
use Rattle.image_place.proofs.ElfSections.{home_of}
use Rattle.image_place.proofs.MachSymbols.{mach_shown}
use Rattle.image_place.proofs.MachSections.{table_section, section_bytes, bytes-get, filled-get, section-byte}
use Rattle.image_place.proofs.MachDefinitions.{MachPart}
use Rattle.image_place.proofs.MachBytes.{mach_home, outside_all}

-- -- lists

get_none : (xs : List ℕ) (j : ℕ) → length xs ≤ j → slice_get xs j ≡ None
get_none [] j h = refl
get_none (x ∷ xs) zero h = absurd (omega (arith, h))
get_none (x ∷ xs) (suc j) h = get_none xs j (omega (arith, h))

length_bytes : (xs : List ℕ) (k n : ℕ) → k + n ≤ length xs → length (bytes_at xs k n) ≡ n
unfolding bytes_at
length_bytes xs k n h = length-take-le n (drop k xs) (omega (arith, h, length-drop k xs))

none_stored : (s : MachTableSection) → s.contents ≡ [] → stored_contents x86_64_cputype s ≡ []
none_stored s e = nil_from_length (stored_contents x86_64_cputype s) (length-stored_contents x86_64_cputype s ∙ ap length e)

stored_same : (xs : List ℕ) (j : ℕ) → j < length xs → stored_in Macho xs ≡ xs
stored_same [] j h = absurd (omega (arith, h))
stored_same (x ∷ xs) j h = refl

-- -- sections without bytes

zeros_by : (settings : Settings) (s : LinkState) (d : Made) (c : Contents) → d.contents ≡ c → section_cause s.target.triple.binary_format (Some d.contents) d.section ≡ None → is_unstored_class s (section_class settings s d) ≡ true → contents_of c ≡ replicate (size_of c) 0
zeros_by settings s d (zeros n) e free h = refl
zeros_by settings s d (bytes xs) e free h =
    let stored = bytes_stored settings s d (ap (λ (c : Contents). are_bytes (Some c)) e) free in
    absurd (let both : true ≡ false = sym h ∙ stored in cc)

no_contents : (settings : Settings) (s : LinkState) (p : Placed) → is_unstored_class s (section_class settings s p.definition) ≡ true → (home_of settings s p).contents ≡ []
no_contents settings s p h = rw h refl

-- the bytes of all its definitions, where the section has some
abbrev joined_of : Settings → LinkState → Placed → List ℕ
joined_of settings s p = joined (map (λ (x : Placed). piece_of s x.definition) (members (placed settings s) p.section))

own_contents : (settings : Settings) (s : LinkState) (p : Placed) → is_unstored_class s (section_class settings s p.definition) ≡ false → (home_of settings s p).contents ≡ joined_of settings s p
own_contents settings s p h = rw h refl

zeros_shown : (settings : Settings) (s : LinkState) (k : ℕ) (p : Placed) → slice_get (placed settings s) k ≡ Some p → section_cause s.target.triple.binary_format (Some p.definition.contents) p.definition.section ≡ None → is_unstored_class s (section_class settings s p.definition) ≡ true
    → bytes_at (mach_home settings s p).bytes p.offset (size_of p.definition.contents) ≡ contents_of p.definition.contents
zeros_shown settings s k p e free h =
    let member = member-into settings s p.section k p e refl in
    let home = home_of settings s p in
    let none = none_stored (table_section (object_of settings s) p.section home) (no_contents settings s p h) in
    ap (λ b. bytes_at (filled home.size b) p.offset (size_of p.definition.contents)) none
    ∙ zeros-at home.size p.offset (size_of p.definition.contents) (omega (arith, member-end settings s p.section member.number p member.here, room-over s.target.triple.binary_format (size_of p.definition.contents)))
    ∙ sym (zeros_by settings s p.definition p.definition.contents refl free h)

-- -- sections with bytes

joined_byte : (settings : Settings) (s : LinkState) (k : ℕ) (p : Placed) (j y : ℕ) → s.target.triple.binary_format ≡ Macho → slice_get (placed settings s) k ≡ Some p → slice_get (contents_of p.definition.contents) j ≡ Some y → slice_get (joined_of settings s p) (p.offset + j) ≡ Some y
joined_byte settings s k p j y mach e f =
    let member = member-into settings s p.section k p e refl in
    let xs = contents_of p.definition.contents in
    let less = get_within xs j y f in
    let stored : stored_of s p.definition ≡ xs = ap (λ (b : BinaryFormat). stored_in b xs) mach ∙ stored_same xs j less in
    let there : bytes_at (joined_of settings s p) p.offset (length xs) ≡ xs = ap (λ ys. bytes_at (joined_of settings s p) p.offset (length ys)) (sym stored) ∙ member-bytes settings s p.section member.number p member.here ∙ stored in
    sym (bytes-get (joined_of settings s p) p.offset (length xs) j less) ∙ ap (λ ys. slice_get ys j) there ∙ f

-- some byte stands at each place of a definition
some_byte : (settings : Settings) (s : LinkState) (k : ℕ) (p : Placed) (j : ℕ) → s.target.triple.binary_format ≡ Macho → is_unstored_class s (section_class settings s p.definition) ≡ false → slice_get (placed settings s) k ≡ Some p → j < size_of p.definition.contents → p.offset + j < length (mach_home settings s p).bytes
some_byte settings s k p j mach h e less =
    let home = home_of settings s p in
    let row = table_section (object_of settings s) p.section home in
    let y = get_exists (contents_of p.definition.contents) j (omega (arith, less, contents_length p.definition.contents)) in
    let here : slice_get row.contents (p.offset + j) ≡ Some y.0 = ap (λ xs. slice_get xs (p.offset + j)) (own_contents settings s p h) ∙ joined_byte settings s k p j y.0 mach e y.1 in
    let there = get_exists (section_bytes (object_of settings s) p.section home) (p.offset + j) (omega (arith, get_within row.contents (p.offset + j) y.0 here, length-stored_contents x86_64_cputype row)) in
    get_within (mach_home settings s p).bytes (p.offset + j) there.0 (filled-get home.size (section_bytes (object_of settings s) p.section home) (p.offset + j) there.0 there.1)

long_by : (settings : Settings) (s : LinkState) (k : ℕ) (p : Placed) (n : ℕ) → s.target.triple.binary_format ≡ Macho → is_unstored_class s (section_class settings s p.definition) ≡ false → slice_get (placed settings s) k ≡ Some p → size_of p.definition.contents ≡ n → length (bytes_at (mach_home settings s p).bytes p.offset n) ≡ n
unfolding bytes_at
long_by settings s k p zero mach h e size = refl
long_by settings s k p (suc n) mach h e size = length_bytes (mach_home settings s p).bytes p.offset (suc n) (omega (arith, some_byte settings s k p n mach h e (omega (arith, size))))

home_by : (settings : Settings) (s : LinkState) (k : ℕ) (p : Placed) (b : Bool) → s.target.triple.binary_format ≡ Macho → section_cause s.target.triple.binary_format (Some p.definition.contents) p.definition.section ≡ None → slice_get (placed settings s) k ≡ Some p
    → is_unstored_class s (section_class settings s p.definition) ≡ b → length (bytes_at (mach_home settings s p).bytes p.offset (size_of p.definition.contents)) ≡ size_of p.definition.contents
home_by settings s k p true mach free e h = ap length (zeros_shown settings s k p e free h) ∙ contents_length p.definition.contents
home_by settings s k p false mach free e h = long_by settings s k p (size_of p.definition.contents) mach h e refl

-- a definition has all its bytes in the view
pub mach-home-long : (settings : Settings) (s : LinkState) (q : ℕ) (at : FuncOrDataId → ℕ) (addresses : List AddressRow) (k : ℕ) (p : Placed) → MachPart settings s q at addresses → slice_get (placed settings s) k ≡ Some p
    → length (bytes_at (mach_home settings s p).bytes p.offset (size_of p.definition.contents)) ≡ size_of p.definition.contents
mach-home-long settings s q at addresses k p part e =
    home_by settings s k p (is_unstored_class s (section_class settings s p.definition)) part.macho (part.texts k p.definition (placed-from settings s k p e)) e refl

byte_by : (settings : Settings) (s : LinkState) (q : ℕ) (at : FuncOrDataId → ℕ) (addresses : List AddressRow) (k : ℕ) (p : Placed) (ws : List Patch) (j : ℕ) (b : Bool) → MachPart settings s q at addresses → AreApplied (mach_shown (object_of settings s)) → slice_get (placed settings s) k ≡ Some p
    → is_unstored_class s (section_class settings s p.definition) ≡ b → Pairs HasField (map (fixup_of settings s) p.definition.relocs) ws → j < size_of p.definition.contents → ((n : ℕ) (w : Patch) → slice_get ws n ≡ Some w → Outside j w)
    → slice_get (bytes_at (mach_home settings s p).bytes p.offset (size_of p.definition.contents)) j ≡ slice_get (contents_of p.definition.contents) j
byte_by settings s q at addresses k p ws j true part applied e h fields less out = ap (λ xs. slice_get xs j) (zeros_shown settings s k p e (part.texts k p.definition (placed-from settings s k p e)) h)
byte_by settings s q at addresses k p ws j false part applied e h fields less out =
    let y = get_exists (contents_of p.definition.contents) j (omega (arith, less, contents_length p.definition.contents)) in
    let here : slice_get (home_of settings s p).contents (p.offset + j) ≡ Some y.0 = ap (λ xs. slice_get xs (p.offset + j)) (own_contents settings s p h) ∙ joined_byte settings s k p j y.0 part.macho e y.1 in
    bytes-get (mach_home settings s p).bytes p.offset (size_of p.definition.contents) j less
    ∙ section-byte (object_of settings s) p.section (home_of settings s p) (p.offset + j) y.0 here (outside_all settings s q at addresses k p ws j part applied e fields less out)
    ∙ sym y.1

-- outside of its fields they are its own
pub mach-home-agrees : (settings : Settings) (s : LinkState) (q : ℕ) (at : FuncOrDataId → ℕ) (addresses : List AddressRow) (k : ℕ) (p : Placed) (ws : List Patch) → MachPart settings s q at addresses → AreApplied (mach_shown (object_of settings s)) → slice_get (placed settings s) k ≡ Some p
    → Pairs HasField (map (fixup_of settings s) p.definition.relocs) ws → AgreesOutside ws (bytes_at (mach_home settings s p).bytes p.offset (size_of p.definition.contents)) (contents_of p.definition.contents)
mach-home-agrees settings s q at addresses k p ws part applied e fields =
    let xs = bytes_at (mach_home settings s p).bytes p.offset (size_of p.definition.contents) in
    let ys = contents_of p.definition.contents in
    let long = mach-home-long settings s q at addresses k p part e in
    let own = contents_length p.definition.contents in
    record {
      long = long ∙ sym own;
      same = λ j out.
          elim (cases_lt j (size_of p.definition.contents)) [
            | inl less ↦ byte_by settings s q at addresses k p ws j (is_unstored_class s (section_class settings s p.definition)) part applied e refl fields less out
            | inr over ↦ get_none xs j (omega (arith, over, long)) ∙ sym (get_none ys j (omega (arith, over, own)))
          ];
    }

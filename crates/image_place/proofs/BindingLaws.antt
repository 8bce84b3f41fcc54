-- Placement by what names are bound to is placement by the definitions that objects show.
use Rattle.std.proofs.Common.{◌≡◌, ℕ, suc, ◌+◌, ◌-◌, ◌==◌, List, [], ◌∷◌, ◌++◌, length, map, refl, ap, sym, ◌∙◌, arith, Some, None, Bool, true, false, slice_get}
use Rattle.std.specs.Prelude.{Option, option_map, option_and_then, is_some, not, ◌&&◌, ◌||◌, filter, flat_map, if◌then◌else◌}
use Rattle.std.specs.List.{filter_map, cons_option, enumerate_from, list_any}
use Rattle.std.specs.Option.{option_or}
use Rattle.std.specs.Borrow.{Bor}
use Rattle.std.specs.HashMap.{HashMap}
use Rattle.std.proofs.lemmas.Bool.{ne_eqb}
use Rattle.ir_core.specs.Moments.{moments}
use Rattle.byte_core.specs.Number.{bytes_at}
use Rattle.image_place.specs.Fixups.{FixKind, Goal, own, named, Fixup, Piece, bound, outside, exporters_from, address_of, resolved, value_bytes, fixed, memory_of}
use Rattle.image_view.specs.View.{View, ViewSection}
use Rattle.image_view.specs.declared.view.ViewReloc.{ViewReloc}
use Rattle.image_place.specs.Placed.{AddressRow, Definition, definitions_in, given, fixup_at, holds_field, row_goal, piece_in, view_pieces, all_pieces, entry_of, PlacedEntry, placed_entries, PlaceFault, first_fault, fault_if, other_kind, no_address, does_not_fit, goal_fault, is_too_far, holders, reloc_fault, image_faults, twice_fault, address_fault, all_definitions, place_fault}
use Rattle.image_place.specs.Leading.{Binding, led, led_name, holds_it, is_far, led_fault, kind_fault, fault_by, section_faults, numbered_faults, faults_by}
use Rattle.image_place.specs.Applying.{goal_address, resolved_by, bytes_by, entry_by, numbered_entries, entries_by}
use Rattle.image_place.specs.Applying.{AreWhole, AllHaveRanges}
use Rattle.image_place.specs.Faults.{definition_faults}
use Rattle.image_place.specs.Naming.{at_name, told_all, found_or, address_found, Exports, Outsides}
use Rattle.image_place.proofs.EntryLaws.{definition_given, fault_right}
use Rattle.image_place.proofs.FaultLaws.{place_parts}
use Rattle.image_place.proofs.NamingLaws.{bound_told}
use Rattle.image_place.proofs.WholeLaws.{all_ranges}

-- what names are bound to by the definitions of objects, and from outside
abbrev pub Binds : List View → List AddressRow → List (List ℕ × ℕ) → Binding → Type 0
Binds views addresses externs F = (x : List ℕ) → F x ≡ bound (all_pieces addresses views) (given addresses) externs x

-- -- lists

none_by : {A : Type 0} (p : A → Bool) (d : A) (ds : List A) (b : Bool) → p d ≡ b → (length (filter p ds) == 0) ≡ not (list_any p ds) → (length (filter p (d ∷ ds)) == 0) ≡ not (list_any p (d ∷ ds))
none_by p d ds true e h = rw e (ne_eqb (suc (length (filter p ds))) 0 (λ n. absurd (omega (arith, n))))
none_by p d ds false e h = rw e h

none_held : {A : Type 0} (p : A → Bool) (ds : List A) → (length (filter p ds) == 0) ≡ not (list_any p ds)
none_held p [] = refl
none_held p (d ∷ ds) = none_by p d ds (p d) refl (none_held p ds)

any_by : {A : Type 0} (p f g : A → Bool) (d : A) (ds : List A) (b : Bool) → p d ≡ b → f d ≡ g d → list_any f (filter p ds) ≡ list_any (λ x. p x && g x) ds → list_any f (filter p (d ∷ ds)) ≡ list_any (λ x. p x && g x) (d ∷ ds)
any_by p f g d ds true e same h = rw (e, same) (ap (λ c. g d || c) h)
any_by p f g d ds false e same h = rw e h

any_held : {A : Type 0} (p f g : A → Bool) (ds : List A) → ((d : A) → f d ≡ g d) → list_any f (filter p ds) ≡ list_any (λ x. p x && g x) ds
any_held p f g [] same = refl
any_held p f g (d ∷ ds) same = any_by p f g d ds (p d) refl (same d) (any_held p f g ds same)

map_same : {A B : Type 0} (f g : A → B) (xs : List A) → ((x : A) → f x ≡ g x) → map f xs ≡ map g xs
map_same f g [] same = refl
map_same f g (x ∷ xs) same = ap (λ y. y ∷ map f xs) (same x) ∙ ap (λ ys. g x ∷ ys) (map_same f g xs same)

flat_same : {A B : Type 0} (f g : A → List B) (xs : List A) → ((x : A) → f x ≡ g x) → flat_map f xs ≡ flat_map g xs
flat_same f g [] same = refl
flat_same f g (x ∷ xs) same = ap (λ ys. ys ++ flat_map f xs) (same x) ∙ ap (λ ys. g x ++ ys) (flat_same f g xs same)

-- -- refusals

map_there : {A B : Type 0} (f : A → B) (o : Option A) → is_some (option_map f o) ≡ is_some o
map_there f None = refl
map_there f (Some x) = refl

-- a goal that has an address, and the address
far_same : (objects : List (List (Piece ℕ))) (addresses : List AddressRow) (externs : List (List ℕ × ℕ)) (q : ℕ) (v : View) (ds : List Definition) (s : ViewSection) (r : ViewReloc) (kind : FixKind) (goal : Goal ℕ) (a : ℕ) → r.kind ≡ Some kind → row_goal v ds r.symbol ≡ Some goal
    → address_of objects (given addresses) externs q goal ≡ Some a → (d : Definition) → is_too_far objects addresses externs q v ds s r d ≡ is_far s.start r kind a d
far_same objects addresses externs q v ds s r kind goal a e f g d =
    rw (f, e, g) (ap not (map_there (λ bytes. record { offset = s.start + r.offset - d.symbol.address; bytes = bytes }) (value_bytes kind a r.addend (d.address + (s.start + r.offset - d.symbol.address)))))

-- the fault of a value, in the words of the definition
last_by : (b : Bool) (f : PlaceFault) → (if b then Some f else None) ≡ option_or (fault_if b f) (first_fault [])
last_by true f = refl
last_by false f = refl

far_fault : (objects : List (List (Piece ℕ))) (addresses : List AddressRow) (externs : List (List ℕ × ℕ)) (q k : ℕ) (v : View) (ds : List Definition) (s : ViewSection) (r : ViewReloc) (kind : FixKind) (goal : Goal ℕ) (a : ℕ) → r.kind ≡ Some kind → row_goal v ds r.symbol ≡ Some goal
    → address_of objects (given addresses) externs q goal ≡ Some a
    → (if list_any (λ d. holds_it k s.start r kind d && is_far s.start r kind a d) ds then Some (does_not_fit q r.offset) else None)
    ≡ option_or (fault_if (list_any (is_too_far objects addresses externs q v ds s r) (holders ds k s r)) (does_not_fit q r.offset)) (first_fault [])
far_fault objects addresses externs q k v ds s r kind goal a e f g =
    let same : list_any (is_too_far objects addresses externs q v ds s r) (holders ds k s r) ≡ list_any (λ d. holds_it k s.start r kind d && is_far s.start r kind a d) ds =
    ap (λ o. list_any (is_too_far objects addresses externs q v ds s r) (filter (λ (d : Definition). d.section == k && holds_field s.start r o d) ds)) e
    ∙ any_held (holds_it k s.start r kind) (is_too_far objects addresses externs q v ds s r) (is_far s.start r kind a) ds (far_same objects addresses externs q v ds s r kind goal a e f g) in
    rw same (last_by (list_any (λ d. holds_it k s.start r kind d && is_far s.start r kind a d) ds) (does_not_fit q r.offset))

-- what is judged behind the kind and the range
abbrev behind : List (List (Piece ℕ)) → List AddressRow → List (List ℕ × ℕ) → ℕ → ℕ → View → List Definition → ViewSection → ViewReloc → Option (Goal ℕ) → Option PlaceFault
behind objects addresses externs q k v ds s r goal =
    option_or (goal_fault objects addresses externs q r goal) (option_or (fault_if (list_any (is_too_far objects addresses externs q v ds s r) (holders ds k s r)) (does_not_fit q r.offset)) (first_fault []))

name_fault : (objects : List (List (Piece ℕ))) (addresses : List AddressRow) (externs : List (List ℕ × ℕ)) (q k : ℕ) (v : View) (ds : List Definition) (s : ViewSection) (r : ViewReloc) (kind : FixKind) (x : List ℕ) (o : Option ℕ) → r.kind ≡ Some kind → row_goal v ds r.symbol ≡ Some (named x)
    → bound objects (given addresses) externs x ≡ o → led_fault ds q k s.start r kind (led_name o) ≡ behind objects addresses externs q k v ds s r (Some (named x))
name_fault objects addresses externs q k v ds s r kind x None e f g = rw g refl
name_fault objects addresses externs q k v ds s r kind x (Some a) e f g = far_fault objects addresses externs q k v ds s r kind (named x) a e f g ∙ rw g refl

led_same : (objects : List (List (Piece ℕ))) (addresses : List AddressRow) (externs : List (List ℕ × ℕ)) (F : Binding) (q k : ℕ) (v : View) (ds : List Definition) (s : ViewSection) (r : ViewReloc) (kind : FixKind) (goal : Option (Goal ℕ)) → ((x : List ℕ) → F x ≡ bound objects (given addresses) externs x)
    → r.kind ≡ Some kind → row_goal v ds r.symbol ≡ goal → led_fault ds q k s.start r kind (led F (given addresses q) goal) ≡ behind objects addresses externs q k v ds s r goal
led_same objects addresses externs F q k v ds s r kind None h e f = refl
led_same objects addresses externs F q k v ds s r kind (Some (own key distance)) h e f = far_fault objects addresses externs q k v ds s r kind (own key distance) (given addresses q key + distance) e f refl
led_same objects addresses externs F q k v ds s r kind (Some (named x)) h e f =
    ap (λ o. led_fault ds q k s.start r kind (led_name o)) (h x) ∙ name_fault objects addresses externs q k v ds s r kind x (bound objects (given addresses) externs x) e f refl

held_by_test : (b : Bool) (f : PlaceFault) (x y : Option PlaceFault) → x ≡ y → (if b then x else Some f) ≡ option_or (fault_if (not b) f) y
held_by_test true f x y e = e
held_by_test false f x y e = refl

kind_same : (objects : List (List (Piece ℕ))) (addresses : List AddressRow) (externs : List (List ℕ × ℕ)) (F : Binding) (q k : ℕ) (v : View) (s : ViewSection) (r : ViewReloc) (kind : Option FixKind) → ((x : List ℕ) → F x ≡ bound objects (given addresses) externs x)
    → r.kind ≡ kind → kind_fault F (given addresses q) q v (definitions_in addresses q v) k s.start r kind ≡ reloc_fault objects addresses externs q v (k, s) r
kind_same objects addresses externs F q k v s r None h e = rw e refl
kind_same objects addresses externs F q k v s r (Some kind) h e =
    let ds = definitions_in addresses q v in
    let goal = row_goal v ds r.symbol in
    let rest = behind objects addresses externs q k v ds s r goal in
    let none : (length (holders ds k s r) == 0) ≡ not (list_any (holds_it k s.start r kind) ds) =
    ap (λ o. length (filter (λ (d : Definition). d.section == k && holds_field s.start r o d) ds) == 0) e ∙ none_held (holds_it k s.start r kind) ds in
    held_by_test (list_any (holds_it k s.start r kind) ds) (no_address q r.symbol) (led_fault ds q k s.start r kind (led F (given addresses q) goal)) rest (led_same objects addresses externs F q k v ds s r kind goal h e refl)
    ∙ ap (λ b. option_or (fault_if b (no_address q r.symbol)) rest) (sym none)
    ∙ ap (λ (o : Option FixKind). option_or (fault_if (not (is_some o)) (other_kind q r.number)) (option_or (fault_if (length (holders ds k s r) == 0) (no_address q r.symbol)) rest)) (sym e)

pub reloc_same : (objects : List (List (Piece ℕ))) (addresses : List AddressRow) (externs : List (List ℕ × ℕ)) (F : Binding) (q : ℕ) (v : View) (s : ℕ × ViewSection) (r : ViewReloc) → ((x : List ℕ) → F x ≡ bound objects (given addresses) externs x)
    → fault_by F (given addresses q) q v (definitions_in addresses q v) s.0 s.1.start r ≡ reloc_fault objects addresses externs q v s r
reloc_same objects addresses externs F q v s r h = kind_same objects addresses externs F q s.0 v s.1 r r.kind h refl

pub faults_same : (views : List View) (addresses : List AddressRow) (externs : List (List ℕ × ℕ)) (F : Binding) → Binds views addresses externs F → faults_by F addresses views ≡ flat_map (image_faults views addresses externs) (enumerate_from 0 views)
faults_same views addresses externs F h =
    flat_same (numbered_faults F addresses) (image_faults views addresses externs) (enumerate_from 0 views)
    (λ v. flat_same (section_faults F (given addresses v.0) v.0 v.1 (definitions_in addresses v.0 v.1)) (λ (s : ℕ × ViewSection). map (reloc_fault (all_pieces addresses views) addresses externs v.0 v.1 s) s.1.relocations) (enumerate_from 0 v.1.sections)
    (λ s. map_same (fault_by F (given addresses v.0) v.0 v.1 (definitions_in addresses v.0 v.1) s.0 s.1.start) (reloc_fault (all_pieces addresses views) addresses externs v.0 v.1 s) s.1.relocations (λ r. reloc_same (all_pieces addresses views) addresses externs F v.0 v.1 s r h)))

-- -- bytes

goal_same : (objects : List (List (Piece ℕ))) (addresses : List AddressRow) (externs : List (List ℕ × ℕ)) (F : Binding) (q : ℕ) (goal : Goal ℕ) → ((x : List ℕ) → F x ≡ bound objects (given addresses) externs x) → goal_address F (given addresses q) goal ≡ address_of objects (given addresses) externs q goal
goal_same objects addresses externs F q (own key distance) h = refl
goal_same objects addresses externs F q (named x) h = h x

resolved_same : (objects : List (List (Piece ℕ))) (addresses : List AddressRow) (externs : List (List ℕ × ℕ)) (F : Binding) (q : ℕ) (f : Fixup ℕ) → ((x : List ℕ) → F x ≡ bound objects (given addresses) externs x) → resolved_by F (given addresses q) f ≡ resolved objects (given addresses) externs q f
resolved_same objects addresses externs F q f h = ap (λ a. record { offset = f.offset; kind = f.kind; address = a; addend = f.addend }) (goal_same objects addresses externs F q f.goal h)

pub bytes_same : (objects : List (List (Piece ℕ))) (addresses : List AddressRow) (externs : List (List ℕ × ℕ)) (F : Binding) (q : ℕ) (v : View) (ds : List Definition) (d : Definition) (s : ViewSection) → ((x : List ℕ) → F x ≡ bound objects (given addresses) externs x) → given addresses q d.row ≡ d.address
    → bytes_by F (given addresses q) v ds d s ≡ memory_of objects (given addresses) externs q (piece_in v ds d s)
unfolding memory_of
bytes_same objects addresses externs F q v ds d s h e =
    let fixups = filter_map (fixup_at v ds s.start d.symbol.address) (filter (λ r. holds_field s.start r r.kind d) s.relocations) in
    let contents = bytes_at s.bytes (d.symbol.address - s.start) d.size in
    ap (fixed contents d.address) (map_same (resolved_by F (given addresses q)) (resolved objects (given addresses) externs q) fixups (λ f. resolved_same objects addresses externs F q f h))
    ∙ ap (λ p. fixed contents p (map (resolved objects (given addresses) externs q) fixups)) (sym e)

entry_same : (objects : List (List (Piece ℕ))) (addresses : List AddressRow) (externs : List (List ℕ × ℕ)) (F : Binding) (q : ℕ) (v : View) (ds : List Definition) (d : Definition) (s : ViewSection) → ((x : List ℕ) → F x ≡ bound objects (given addresses) externs x) → given addresses q d.row ≡ d.address
    → entry_of objects addresses externs q (piece_in v ds d s) ≡ option_map (λ bytes. record { image = q; symbol = d.row; address = d.address; bytes = bytes }) (bytes_by F (given addresses q) v ds d s)
entry_same objects addresses externs F q v ds d s h e =
    ap (option_map (λ bytes. record { image = q; symbol = d.row; address = given addresses q d.row; bytes = bytes })) (sym (bytes_same objects addresses externs F q v ds d s h e))
    ∙ ap (λ (a : ℕ). option_map (λ bytes. record { image = q; symbol = d.row; address = a; bytes = bytes }) (bytes_by F (given addresses q) v ds d s)) e

entries_next : (objects : List (List (Piece ℕ))) (addresses : List AddressRow) (externs : List (List ℕ × ℕ)) (F : Binding) (q : ℕ) (v : View) (ds : List Definition) (d : Definition) (o : Option ViewSection) (rest : List (Piece ℕ)) (more : List PlacedEntry) → ((x : List ℕ) → F x ≡ bound objects (given addresses) externs x)
    → given addresses q d.row ≡ d.address → filter_map (entry_of objects addresses externs q) rest ≡ more
    → filter_map (entry_of objects addresses externs q) (cons_option (option_map (piece_in v ds d) o) rest) ≡ cons_option (option_and_then (λ s. option_map (λ bytes. record { image = q; symbol = d.row; address = d.address; bytes = bytes }) (bytes_by F (given addresses q) v ds d s)) o) more
entries_next objects addresses externs F q v ds d None rest more h e same = same
entries_next objects addresses externs F q v ds d (Some s) rest more h e same =
    ap (λ o. cons_option o (filter_map (entry_of objects addresses externs q) rest)) (entry_same objects addresses externs F q v ds d s h e)
    ∙ ap (cons_option (option_map (λ bytes. record { image = q; symbol = d.row; address = d.address; bytes = bytes }) (bytes_by F (given addresses q) v ds d s))) same

entries_of_list : (objects : List (List (Piece ℕ))) (addresses : List AddressRow) (externs : List (List ℕ × ℕ)) (F : Binding) (q : ℕ) (v : View) (ds es : List Definition) → ((x : List ℕ) → F x ≡ bound objects (given addresses) externs x)
    → ((k : ℕ) (d : Definition) → slice_get es k ≡ Some d → given addresses q d.row ≡ d.address)
    → filter_map (entry_of objects addresses externs q) (filter_map (λ d. option_map (piece_in v ds d) (slice_get v.sections d.section)) es) ≡ filter_map (entry_by F (given addresses q) q v ds) es
entries_of_list objects addresses externs F q v ds [] h all = refl
entries_of_list objects addresses externs F q v ds (d ∷ es) h all =
    entries_next objects addresses externs F q v ds d (slice_get v.sections d.section) (filter_map (λ x. option_map (piece_in v ds x) (slice_get v.sections x.section)) es) (filter_map (entry_by F (given addresses q) q v ds) es) h (all 0 d refl)
    (entries_of_list objects addresses externs F q v ds es h (λ k. all (suc k)))

entries_of_view : (objects : List (List (Piece ℕ))) (addresses : List AddressRow) (externs : List (List ℕ × ℕ)) (F : Binding) (q : ℕ) (v : View) → ((x : List ℕ) → F x ≡ bound objects (given addresses) externs x)
    → filter_map (entry_of objects addresses externs q) (view_pieces addresses q v) ≡ numbered_entries F addresses (q, v)
unfolding view_pieces
entries_of_view objects addresses externs F q v h =
    entries_of_list objects addresses externs F q v (definitions_in addresses q v) (definitions_in addresses q v) h (λ k d e. (definition_given addresses q v k d e).address)

entries_from : (objects : List (List (Piece ℕ))) (addresses : List AddressRow) (externs : List (List ℕ × ℕ)) (F : Binding) (n : ℕ) (views : List View) → ((x : List ℕ) → F x ≡ bound objects (given addresses) externs x)
    → flat_map (numbered_entries F addresses) (enumerate_from n views)
    ≡ flat_map (λ (e : ℕ × List (Piece ℕ)). filter_map (entry_of objects addresses externs e.0) e.1) (enumerate_from n (map (λ (e : ℕ × View). view_pieces addresses e.0 e.1) (enumerate_from n views)))
entries_from objects addresses externs F n [] h = refl
entries_from objects addresses externs F n (v ∷ views) h =
    ap (λ xs. xs ++ flat_map (numbered_entries F addresses) (enumerate_from (n + 1) views)) (sym (entries_of_view objects addresses externs F n v h))
    ∙ ap (λ xs. filter_map (entry_of objects addresses externs n) (view_pieces addresses n v) ++ xs) (entries_from objects addresses externs F (n + 1) views h)

pub entries_same : (views : List View) (addresses : List AddressRow) (externs : List (List ℕ × ℕ)) (F : Binding) → Binds views addresses externs F → entries_by F addresses views ≡ placed_entries views addresses externs
unfolding placed_entries
entries_same views addresses externs F h = entries_from (all_pieces addresses views) addresses externs F 0 views h

-- -- the maps of names, and all refusals

pub binds : {S T : Type 0} (exports : HashMap (Bor (List ℕ)) (Option ℕ) S) (outsides : HashMap (Bor (List ℕ)) ℕ T) (views : List View) (addresses : List AddressRow) (externs : List (List ℕ × ℕ)) → Exports exports (all_pieces addresses views) (given addresses) → Outsides outsides externs
    → Binds views addresses externs (address_found exports outsides)
binds exports outsides views addresses externs e o x =
    ap (λ t. found_or t (at_name outsides x)) (e x) ∙ ap (found_or (told_all None (exporters_from x (given addresses) 0 (all_pieces addresses views)))) (o x) ∙ bound_told (exporters_from x (given addresses) 0 (all_pieces addresses views)) (outside x externs)

-- where definitions have a fault it is the first, and else the first is that of a relocation
pub definitions_first : (views : List View) (addresses : List AddressRow) (externs : List (List ℕ × ℕ)) (fault : PlaceFault) → first_fault (definition_faults views addresses) ≡ Some fault → place_fault views addresses externs ≡ Some fault
definitions_first views addresses externs fault e = place_parts views addresses externs ∙ ap (λ o. option_or o (first_fault (flat_map (image_faults views addresses externs) (enumerate_from 0 views)))) e

pub relocations_first : (views : List View) (addresses : List AddressRow) (externs : List (List ℕ × ℕ)) (F : Binding) → Binds views addresses externs F → first_fault (definition_faults views addresses) ≡ None → place_fault views addresses externs ≡ first_fault (faults_by F addresses views)
relocations_first views addresses externs F h e =
    place_parts views addresses externs ∙ ap (λ o. option_or o (first_fault (flat_map (image_faults views addresses externs) (enumerate_from 0 views)))) e ∙ ap first_fault (sym (faults_same views addresses externs F h))

pub ranges_there : (views : List View) (addresses : List AddressRow) → AreWhole views → first_fault (definition_faults views addresses) ≡ None → AllHaveRanges addresses views
ranges_there views addresses whole none = all_ranges views addresses whole (fault_right (map twice_fault (moments (all_definitions views))) (map (address_fault views addresses) (all_definitions views)) none)

-- Relocations that are applied one after the other.
use Rattle.std.proofs.Common.{◌≡◌, ℕ, ◌+◌, ◌-◌, List, [], ◌∷◌, ◌++◌, take, drop, true, false, Some, None, refl, ap, sym, ◌∙◌, Bool, cond, map}
use Rattle.std.specs.Prelude.{Option, option_map, filter}
use Rattle.std.specs.List.{filter_map}
use Rattle.byte_core.specs.Number.{little_bytes}
use Rattle.byte_core.proofs.Numbers.{length-little_bytes}
use Rattle.image_place.specs.Fixups.{FixKind, Goal, own, named, Patch, Resolved, patch_of, with_patch, with_patches, value_bytes, fixed, each_some}
use Rattle.image_view.specs.View.{View}
use Rattle.image_view.specs.declared.view.ViewReloc.{ViewReloc}
use Rattle.image_place.specs.Placed.{Definition, fixup_at, holds_field, row_goal}
use Rattle.image_place.specs.Leading.{Binding, led, led_name}
use Rattle.image_place.specs.declared.leading.Led.TheVariants.{Loose, Unbound, At}
use Rattle.image_place.specs.Applying.{goal_address, resolved_by, held_by, Applies}

some_by : (old : List ℕ) (w : Patch) (os : Option (List Patch)) → option_map (λ ws. with_patches old ws) (option_map (λ ys. w ∷ ys) os) ≡ option_map (λ ws. with_patches (with_patch old w) ws) os
unfolding with_patches
some_by old w None = refl
some_by old w (Some ws) = refl

fixed_some : (old : List ℕ) (p : ℕ) (x : Resolved) (xs : List Resolved) (w : Patch) → patch_of p x ≡ Some w → fixed old p (x ∷ xs) ≡ fixed (with_patch old w) p xs
fixed_some old p x xs w e = rw e (some_by old w (each_some (patch_of p) xs))

fixed_none : (old : List ℕ) (p : ℕ) (x : Resolved) (xs : List Resolved) → patch_of p x ≡ None → fixed old p (x ∷ xs) ≡ None
fixed_none old p x xs e = rw e refl

pub fixed_end : (old : List ℕ) (p : ℕ) → fixed old p [] ≡ Some old
unfolding with_patches
fixed_end old p = refl

pub skips : (F : Binding) (at : ℕ → ℕ) (v : View) (ds : List Definition) (d : Definition) (start : ℕ) (r : ViewReloc) (old : List ℕ) → holds_field start r r.kind d ≡ false → Applies F at v ds d start r old true old
skips F at v ds d start r old h rs = rw h refl

pub skips_kind : (F : Binding) (at : ℕ → ℕ) (v : View) (ds : List Definition) (d : Definition) (start : ℕ) (r : ViewReloc) (old : List ℕ) → r.kind ≡ None → Applies F at v ds d start r old true old
skips_kind F at v ds d start r old h = skips F at v ds d start r old (rw h refl)

name_loose : (o : Option ℕ) → led_name o ≡ Loose → ⊥
name_loose None h = absurd (cc)
name_loose (Some a) h = absurd (cc)

led_loose : (F : Binding) (at : ℕ → ℕ) (o : Option (Goal ℕ)) → led F at o ≡ Loose → o ≡ None
led_loose F at None e = refl
led_loose F at (Some (own k d)) e = absurd (cc)
led_loose F at (Some (named x)) e = absurd (name_loose (F x) e)

pub skips_loose : (F : Binding) (at : ℕ → ℕ) (v : View) (ds : List Definition) (d : Definition) (start : ℕ) (r : ViewReloc) (old : List ℕ) → holds_field start r r.kind d ≡ true → led F at (row_goal v ds r.symbol) ≡ Loose → Applies F at v ds d start r old true old
skips_loose F at v ds d start r old h e rs = rw (h, led_loose F at (row_goal v ds r.symbol) e) refl

pub record Reaches (F : Binding) (at : ℕ → ℕ) (o : Option (Goal ℕ)) (a : Option ℕ) : Type 0 where
  pub goal : Goal ℕ
  pub is : o ≡ Some goal
  pub address : goal_address F at goal ≡ a

name_unbound : (o : Option ℕ) → led_name o ≡ Unbound → o ≡ None
name_unbound None e = refl
name_unbound (Some a) e = absurd (cc)

led_unbound : (F : Binding) (at : ℕ → ℕ) (o : Option (Goal ℕ)) → led F at o ≡ Unbound → Reaches F at o None
led_unbound F at None e = absurd (cc)
led_unbound F at (Some (own k d)) e = absurd (cc)
led_unbound F at (Some (named x)) e = record { goal = named x; is = refl; address = name_unbound (F x) e }

name_at : (o : Option ℕ) (a : ℕ) → led_name o ≡ At a → o ≡ Some a
name_at None a e = absurd (cc)
name_at (Some b) a e = let same : b ≡ a = cc in ap Some same

led_at : (F : Binding) (at : ℕ → ℕ) (o : Option (Goal ℕ)) (a : ℕ) → led F at o ≡ At a → Reaches F at o (Some a)
led_at F at None a e = absurd (cc)
led_at F at (Some (own k d)) a e = let same : at k + d ≡ a = cc in record { goal = own k d; is = refl; address = ap Some same }
led_at F at (Some (named x)) a e = record { goal = named x; is = refl; address = name_at (F x) a e }

-- the relocation as it is resolved
abbrev there : Binding → (ℕ → ℕ) → Definition → ℕ → ViewReloc → Goal ℕ → Resolved
there F at d start r goal = record { offset = start + r.offset - d.symbol.address; kind = r.kind; address = goal_address F at goal; addend = r.addend }

held_next : (F : Binding) (at : ℕ → ℕ) (v : View) (ds : List Definition) (d : Definition) (start : ℕ) (r : ViewReloc) (goal : Goal ℕ) (rs : List ViewReloc) → holds_field start r r.kind d ≡ true → row_goal v ds r.symbol ≡ Some goal
    → held_by F at v ds d start (r ∷ rs) ≡ there F at d start r goal ∷ held_by F at v ds d start rs
held_next F at v ds d start r goal rs h e = rw (h, e) refl

no_address_patch : (x : Resolved) (p : ℕ) (k : Option FixKind) → x.kind ≡ k → x.address ≡ None → patch_of p x ≡ None
no_address_patch x p None e f = rw e refl
no_address_patch x p (Some kind) e f = rw (e, f) refl

pub fails_unbound : (F : Binding) (at : ℕ → ℕ) (v : View) (ds : List Definition) (d : Definition) (start : ℕ) (r : ViewReloc) (old new : List ℕ) → holds_field start r r.kind d ≡ true → led F at (row_goal v ds r.symbol) ≡ Unbound → Applies F at v ds d start r old false new
fails_unbound F at v ds d start r old new h e rs =
    let far = led_unbound F at (row_goal v ds r.symbol) e in
    ap (fixed old d.address) (held_next F at v ds d start r far.goal rs h far.is)
    ∙ fixed_none old d.address (there F at d start r far.goal) (held_by F at v ds d start rs) (no_address_patch (there F at d start r far.goal) d.address r.kind refl far.address)

patch_is : (x : Resolved) (p : ℕ) (kind : FixKind) (s : ℕ) → x.kind ≡ Some kind → x.address ≡ Some s → patch_of p x ≡ option_map (λ bytes. record { offset = x.offset; bytes = bytes }) (value_bytes kind s x.addend (p + x.offset))
patch_is x p kind s e f = rw (e, f) refl

pub fails_value : (F : Binding) (at : ℕ → ℕ) (v : View) (ds : List Definition) (d : Definition) (start : ℕ) (r : ViewReloc) (kind : FixKind) (s : ℕ) (old new : List ℕ) → r.kind ≡ Some kind → holds_field start r r.kind d ≡ true → led F at (row_goal v ds r.symbol) ≡ At s
    → value_bytes kind s r.addend (d.address + (start + r.offset - d.symbol.address)) ≡ None → Applies F at v ds d start r old false new
fails_value F at v ds d start r kind s old new k h e none rs =
    let far = led_at F at (row_goal v ds r.symbol) s e in
    let x = there F at d start r far.goal in
    ap (fixed old d.address) (held_next F at v ds d start r far.goal rs h far.is)
    ∙ fixed_none old d.address x (held_by F at v ds d start rs) (patch_is x d.address kind s k far.address ∙ ap (option_map (λ bytes. record { offset = x.offset; bytes = bytes })) none)

pub applies_value : (F : Binding) (at : ℕ → ℕ) (v : View) (ds : List Definition) (d : Definition) (start : ℕ) (r : ViewReloc) (kind : FixKind) (s : ℕ) (old new bytes : List ℕ) → r.kind ≡ Some kind → holds_field start r r.kind d ≡ true → led F at (row_goal v ds r.symbol) ≡ At s
    → value_bytes kind s r.addend (d.address + (start + r.offset - d.symbol.address)) ≡ Some bytes → new ≡ with_patch old (record { offset = start + r.offset - d.symbol.address; bytes = bytes }) → Applies F at v ds d start r old true new
applies_value F at v ds d start r kind s old new bytes k h e some is rs =
    let far = led_at F at (row_goal v ds r.symbol) s e in
    let x = there F at d start r far.goal in
    ap (fixed old d.address) (held_next F at v ds d start r far.goal rs h far.is)
    ∙ fixed_some old d.address x (held_by F at v ds d start rs) (record { offset = x.offset; bytes = bytes }) (patch_is x d.address kind s k far.address ∙ ap (option_map (λ ys. record { offset = x.offset; bytes = ys })) some)
    ∙ ap (λ ys. fixed ys d.address (held_by F at v ds d start rs)) (sym is)

-- a number that is written into a field is a patch
pub patched : (old new : List ℕ) (o at w width n : ℕ) → new ≡ take o old ++ (little_bytes w n ++ drop (o + w) old) → o ≡ at → w ≡ width → new ≡ with_patch old (record { offset = at; bytes = little_bytes width n })
patched old new o at w width n h eo ew =
    h ∙ ap (λ k. take k old ++ (little_bytes w n ++ drop (k + w) old)) eo ∙ ap (λ k. take at old ++ (little_bytes k n ++ drop (at + k) old)) ew
    ∙ ap (λ k. take at old ++ (little_bytes width n ++ drop (at + k) old)) (sym (length-little_bytes width n))

-- -- the relocations that a definition holds are held again

again_by : (p : ViewReloc → Bool) (r : ViewReloc) (rs : List ViewReloc) (b : Bool) → p r ≡ b → filter p (filter p rs) ≡ filter p rs → filter p (cond b (r ∷ filter p rs) (filter p rs)) ≡ cond b (r ∷ filter p rs) (filter p rs)
again_by p r rs true e h = rw e (ap (λ xs. r ∷ xs) h)
again_by p r rs false e h = h

filter_again : (p : ViewReloc → Bool) (rs : List ViewReloc) → filter p (filter p rs) ≡ filter p rs
filter_again p [] = refl
filter_again p (r ∷ rs) = again_by p r rs (p r) refl (filter_again p rs)

pub held_again : (F : Binding) (at : ℕ → ℕ) (v : View) (ds : List Definition) (d : Definition) (start : ℕ) (rs fields : List ViewReloc) → fields ≡ filter (λ r. holds_field start r r.kind d) rs → held_by F at v ds d start fields ≡ held_by F at v ds d start rs
held_again F at v ds d start rs fields e =
    ap (held_by F at v ds d start) e ∙ ap (λ xs. map (resolved_by F at) (filter_map (fixup_at v ds start d.symbol.address) xs)) (filter_again (λ r. holds_field start r r.kind d) rs)

-- What a loop over values has read so far, before what the rest gives. It is stated over what is read,
-- `read`, and how a contract sees what the code keeps of it, `seen`.
use Rattle.std.proofs.Common.{◌≡◌, ℕ, ◌+◌, ◌<◌, ◌≤◌, List, [], ◌∷◌, ◌++◌, map, length, drop, get_or, Option, Some, None, option_map, refl, ap, sym, add-one, append_assoc, append-nil, drop-cons}
use Rattle.std.proofs.lemmas.List.{map-append, drop_all}
use Rattle.serde_json.specs.Data.{Data, Items, item, no_items}
use Rattle.serde_json.specs.View.{view, items_view}
use Rattle.serde_json.specs.declared.value.Value.{Value}
use Rattle.json_form.specs.declared.form_error.FormError.{FormError}
use Rattle.json_form.specs.declared.form_error.FormError.TheVariants.{NotForm, OutOfMemory}
use Rattle.json_form.specs.Form.{Fails, each_of, ◌>>=◌}

abbrev pub with_front : {A : Type 0} → List A → Option (List A) → Option (List A)
with_front front rest = option_map (λ more. front ++ more) rest

with_front_again : {A : Type 0} (front : List A) (a : A) (rest : Option (List A)) → with_front front (rest >>= λ more. Some (a ∷ more)) ≡ with_front (front ++ a ∷ []) rest
with_front_again front a None = refl
with_front_again front a (Some more) = ap Some (sym (append_assoc front (a ∷ []) more))

each_fails : {A : Type 0} (read : Data → Option A) (e : FormError) (front : List A) (d : Data) (ds : Items) → Fails e (read d) → Fails e (with_front front (each_of read (item d ds)))
unfolding each_of
each_fails read NotForm front d ds h = rw h refl
each_fails read OutOfMemory front d ds h = tt

each_more : {A : Type 0} (read : Data → Option A) (front : List A) (d : Data) (ds : Items) (a : A) → read d ≡ Some a → with_front front (each_of read (item d ds)) ≡ with_front (front ++ a ∷ []) (each_of read ds)
unfolding each_of
each_more read front d ds a h = rw h (with_front_again front a (each_of read ds))

each_none : {A : Type 0} (read : Data → Option A) (front : List A) → with_front front (each_of read no_items) ≡ Some (front ++ [])
unfolding each_of
each_none read front = refl

-- the values from a place on
items_from : (vs : List Value) (i : ℕ) (v : Value) → i < length vs → v ≡ get_or vs i v → items_view (drop i vs) ≡ item (view v) (items_view (drop (i + 1) vs))
items_from vs i v h e = rw (add-one, drop-cons vs i v, ← e) refl

-- one more was read
pub each_step : {A X : Type 0} (read : Data → Option A) (seen : X → A) (vs : List Value) (i : ℕ) (v : Value) (old new : List X) (x : X) (all : Option (List A)) → i < length vs → v ≡ get_or vs i v → new ≡ old ++ x ∷ []
    → all ≡ with_front (map seen old) (each_of read (items_view (drop i vs))) → read (view v) ≡ Some (seen x)
    → all ≡ with_front (map seen new) (each_of read (items_view (drop (i + 1) vs)))
each_step read seen vs i v old new x all h e n a o =
    rw (a, items_from vs i v h e, n, map-append) (each_more read (map seen old) (view v) (items_view (drop (i + 1) vs)) (seen x) o)

-- a value gives nothing
pub each_stop : {A : Type 0} (read : Data → Option A) (vs : List Value) (i : ℕ) (v : Value) (front : List A) (e : FormError) (all : Option (List A)) → i < length vs → v ≡ get_or vs i v
    → all ≡ with_front front (each_of read (items_view (drop i vs))) → Fails e (read (view v)) → Fails e all
each_stop read vs i v front e all h is a f = rw (a, items_from vs i v h is) (each_fails read e front (view v) (items_view (drop (i + 1) vs)) f)

-- all was read
pub each_end : {A : Type 0} (read : Data → Option A) (vs : List Value) (i : ℕ) (front : List A) (all : Option (List A)) → length vs ≤ i
    → all ≡ with_front front (each_of read (items_view (drop i vs))) → all ≡ Some front
each_end read vs i front all h a = rw (a, drop_all, each_none read front, append-nil) refl

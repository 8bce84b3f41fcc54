-- Items of a list that were written, before those that are still to be written.
use Rattle.std.proofs.Common.{◌≡◌, ℕ, ◌+◌, ◌<◌, ◌≤◌, Bool, true, false, List, [], ◌∷◌, ◌++◌, length, drop, get_or, refl, ap, sym, ◌∙◌, append_assoc}
use Rattle.std.proofs.lemmas.List.{drop_more, drop_all}
use Rattle.serde_json.specs.Data.{Data, Items, item, no_items}
use Rattle.serde_json.specs.Written.{compact_text, items_text, comma_if}

-- each element of a list is an item
pub record AreItems {X : Type 0} (items : List X → Items) (value : X → Data) : Type 0 where
  pub none : items [] ≡ no_items
  pub more : (x : X) (xs : List X) → items (x ∷ xs) ≡ item (value x) (items xs)

pub next_item : {X : Type 0} (items : List X → Items) (value : X → Data) → AreItems items value
    → (xs : List X) (i : ℕ) (d : X) (later : Bool) (out mid new all : List ℕ) → i < length xs
    → mid ≡ out ++ comma_if later → new ≡ mid ++ compact_text (value (get_or xs i d))
    → out ++ items_text later (items (drop i xs)) ≡ all
    → new ++ items_text true (items (drop (i + 1) xs)) ≡ all
next_item items value are xs i d later out mid new all h e f a =
    let rest = items_text true (items (drop (i + 1) xs)) in
    let text = compact_text (value (get_or xs i d)) in
    let here : items (drop i xs) ≡ item (value (get_or xs i d)) (items (drop (i + 1) xs)) = ap items (drop_more xs i d h) ∙ are.more (get_or xs i d) (drop (i + 1) xs) in
    let whole : new ++ rest ≡ out ++ (comma_if later ++ (text ++ rest)) = rw (f, e, append_assoc, append_assoc) refl in
    whole ∙ sym (ap (λ left. out ++ items_text later left) here) ∙ a

pub last_item : {X : Type 0} (items : List X → Items) (value : X → Data) → AreItems items value
    → (xs : List X) (i : ℕ) (later : Bool) (out new all : List ℕ) → length xs ≤ i
    → new ≡ out ++ 93 ∷ [] → out ++ items_text later (items (drop i xs)) ≡ all → new ≡ all
last_item items value are xs i later out new all h e a =
    let here : items (drop i xs) ≡ no_items = ap items (drop_all i xs h) ∙ are.none in
    e ∙ sym (ap (λ left. out ++ items_text later left) here) ∙ a

-- behind the bracket that opens them
pub first_item : (out new : List ℕ) (items : Items) → new ≡ out ++ 91 ∷ [] → new ++ items_text false items ≡ out ++ 91 ∷ items_text false items
first_item out new items e = rw (e, append_assoc) refl

-- Names of architectures.
use Rattle.std.proofs.Common.{◌≡◌, ℕ, List, Option, Some, None, option_map, refl, ap, sym, ◌∙◌}
use Rattle.std.specs.Option.{option_or}
use Rattle.std.specs.List.{find}
use Rattle.std.proofs.lemmas.List.Folds.{find-append}
use Rattle.goblin_mach.specs.Architectures.{architectures, aliases, is_named, pair_of, pair_in, pair_named}

either_map : {X Y : Type 0} (f : X → Y) (o p : Option X) → option_map f (option_or o p) ≡ option_or (option_map f o) (option_map f p)
either_map f None p = refl
either_map f (Some x) p = refl

-- a name is sought among the architectures, then among the other names
pub pair_either : (name : List ℕ) (first second pair : Option (ℕ × ℕ)) → first ≡ pair_in architectures name → second ≡ pair_in aliases name → pair ≡ option_or first second → pair ≡ pair_named name
pair_either name first second pair a b e =
    rw (e, a, b) (sym (ap (option_map pair_of) (find-append (is_named name) architectures aliases) ∙ either_map pair_of (find (is_named name) architectures) (find (is_named name) aliases)))

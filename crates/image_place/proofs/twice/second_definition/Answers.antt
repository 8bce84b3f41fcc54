use Rattle.std.proofs.Common.{List, ℕ, refl, ap, sym, ◌∙◌, Bor, bytes_eq}
use Rattle.std.specs.Prelude.{is_some}
use Rattle.std.specs.Map.{lookup}
use Rattle.std.specs.HashMap as hash
use Rattle.std.proofs.lemmas.Map.Text.{hash_map_updates_str}
use Rattle.ir_core.specs.Moments.{moments}
use Rattle.image_place.proofs.TwiceLaws.{twice_names, twice_rest}
use Rattle.image_place.proofs.twice.second_definition.Goals as goal

pub loop-definition-init : goal.loop-definition-init
unfolding moments
loop-definition-init c = record { names = λ x. ap (λ es. is_some (lookup (λ (w : Bor (List ℕ)). bytes_eq x w.now) es)) c.new-names.ensures.empty; rest = refl }

pub loop-definition-preserved : goal.loop-definition-preserved
loop-definition-preserved c =
    record {
      names =
          twice_names c.args.definitions.now c.loop-definition.definition-index _ (λ x. hash.get_by (λ w. bytes_eq x w.now) c.loop-definition.names) (λ x. hash.get_by (λ w. bytes_eq x w.now) c.insert.new.self) c.loop-definition-test.true c.if-definition.false c.loop-definition.invariant.names
          (hash_map_updates_str _ c.loop-definition.names c.insert.new.self _ c.in_ok-insert.ensures.updates);
      rest =
          c.loop-definition.invariant.rest
          ∙ twice_rest c.args.definitions.now c.loop-definition.definition-index _ (λ x. hash.get_by (λ w. bytes_eq x w.now) c.loop-definition.names) c.loop-definition-test.true c.if-definition.false c.loop-definition.invariant.names (sym c.contains_key.ensures ∙ c.if-contains_key.false);
    }

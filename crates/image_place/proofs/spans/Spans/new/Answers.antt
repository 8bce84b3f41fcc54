use Rattle.std.proofs.Common.{rules, List, length, subst}
use Rattle.std.proofs.lemmas.List.Sorted.{IsNonDecreasingBy-from_sort_by_key}
use Rattle.image_place.specs.Spanning.{Span, AreWider}
use Rattle.image_place.proofs.spans.Spans.new.Goals as goal

pub invariant_of-result : goal.invariant_of-result
invariant_of-result c =
    record {
      order = IsNonDecreasingBy-from_sort_by_key (λ (p : Span). p.low) _ c.sort_unstable_by_key.ensures.sorted (λ a r q k. search rules);
      wider = subst (λ (ps : List Span). AreWider ps c.in_ok-wider.wider.items (length ps)) c.deref.ensures.value c.in_ok-wider.ensures;
    }

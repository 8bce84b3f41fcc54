use Rattle.std.proofs.Common.{◌∙◌, Err, option_map, ap, sym, refl}
use Rattle.objtool_run.specs.Asked.{asked}
use Rattle.objtool_run.proofs.Endings.{same_fault, not_an_error, ends_fault, ends_written, ends_unwritten}
use Rattle.objtool_run.proofs.program.work.Goals as goal

pub returns-in-Err-clause-ends : goal.returns-in-Err-clause-ends
returns-in-Err-clause-ends g c =
    let e = c.in-Err.ensures in
    ends_fault _ (asked c.in-Some.request) (g.H.Host.outside c.args.host.now) (g.H.Host.outside c.respond.new.host) c.in-Err.fault (sym c.request_of.ensures.named ∙ ap (option_map asked) c.in-Some.is) e.of_response e.explained e.judged
    (λ is. e.reading (ap (λ f. Err f) is))
    (λ below. ((λ is. (e.too_long below).0 (ap (λ f. Err f) is)), (λ h. same_fault _ _ _ refl ((e.too_long below).1 h))))
    (λ is. e.long (ap (λ f. Err f) is))
    e.at_most
    e.others

pub returns-in-Ok-write_output-clause-ends : goal.returns-in-Ok-write_output-clause-ends
returns-in-Ok-write_output-clause-ends g c =
    let e = c.in-Ok.ensures in
    ends_written _ (asked c.in-Some.request) (g.H.Host.outside c.args.host.now) (g.H.Host.outside c.respond.new.host) (g.H.Host.outside c.write_output.new.host) c.in-Ok.text.items (sym c.request_of.ensures.named ∙ ap (option_map asked) c.in-Some.is) e.ok e.end
    (λ below h. not_an_error _ _ _ refl ((e.too_long below).1 h))
    e.at_most
    e.others
    (rw c.deref.ensures.value at c.in-Ok-write_output.ensures.ok)
    c.in-Ok-write_output.ensures.others

pub returns-clause-ends : goal.returns-clause-ends
returns-clause-ends g c =
    let e = c.in-Ok.ensures in
    ends_unwritten _ (asked c.in-Some.request) (g.H.Host.outside c.args.host.now) (g.H.Host.outside c.respond.new.host) (g.H.Host.outside c.write_output.new.host) c.in-Ok.text.items (sym c.request_of.ensures.named ∙ ap (option_map asked) c.in-Some.is) e.ok e.end
    (λ below h. not_an_error _ _ _ refl ((e.too_long below).1 h))
    e.at_most
    e.others
    (rw c.deref.ensures.value at c.in-Err-write_output.ensures.front)
    c.in-Err-write_output.ensures.failed
    c.in-Err-write_output.ensures.others

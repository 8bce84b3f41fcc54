use Rattle.place_json.proofs.Outcomes.{placed_is_read, placed_is_no_fault, text_is_no_refusal, text_has_form, refusal_has_form, one_text, one_refusal}
use Rattle.place_json.proofs.laws.outcomes_exclude.Goals as goal

pub returns-clause-unread : goal.returns-clause-unread
returns-clause-unread c = placed_is_read

pub returns-clause-faulty : goal.returns-clause-faulty
returns-clause-faulty c = placed_is_no_fault

pub returns-clause-refused : goal.returns-clause-refused
returns-clause-refused c = text_is_no_refusal

pub returns-clause-no_text : goal.returns-clause-no_text
returns-clause-no_text c = text_has_form

pub returns-clause-no_refusal : goal.returns-clause-no_refusal
returns-clause-no_refusal c = refusal_has_form

pub returns-clause-one_text : goal.returns-clause-one_text
returns-clause-one_text c = one_text

pub returns-clause-one_refusal : goal.returns-clause-one_refusal
returns-clause-one_refusal c = one_refusal

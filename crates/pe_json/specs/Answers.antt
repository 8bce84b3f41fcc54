-- What is answered to a value of the form: the text of what a reader gives, or the text of its refusal.
use Rattle.std.specs.Prelude.{◌≡◌, ℕ, List, Option, Some, None, Result, Ok, Err}
use Rattle.serde_json.specs.Data.{Data}
use Rattle.serde_json.specs.Written.{compact_text}
use Rattle.json_form.specs.declared.form_error.FormError.{FormError}
use Rattle.json_form.specs.declared.form_error.FormError.TheVariants as forms
use Rattle.json_form.specs.Reply.{Reply, told, refusal}
use Rattle.pe_core.specs.declared.pe_error.Error.{Error}
use Rattle.pe_core.specs.declared.pe_error.Error.TheVariants as errors
use Rattle.pe_core.specs.Texts.{error_text}
use Rattle.pe_json.specs.declared.unanswered.Unanswered.{Unanswered}
use Rattle.pe_json.specs.declared.unanswered.Unanswered.TheVariants.{NotForm, Refused, OutOfMemory}

-- a reader's value is told as this text, and its refusal by the refusal's
abbrev pub text_reply : Result (List ℕ) Error → Reply
text_reply (Ok text) = told text
text_reply (Err error) = refusal (error_text error)

-- a reader's value is told as JSON without white space
abbrev pub json_reply : Result Data Error → Reply
json_reply (Ok d) = told (compact_text d)
json_reply (Err error) = refusal (error_text error)

-- why a value that has no form is unanswered
abbrev pub form_cause : FormError → Unanswered
form_cause forms.NotForm = NotForm
form_cause forms.OutOfMemory = OutOfMemory

-- why a value that a reader refuses is unanswered
abbrev pub reader_cause : Error → Unanswered
reader_cause (errors.Malformed case) = Refused (errors.Malformed case)
reader_cause errors.BufferTooShort = Refused errors.BufferTooShort
reader_cause errors.OutOfMemory = OutOfMemory

-- a text, seen by view, is what is told; each cause is what there is in its place, and want of memory says nothing
abbrev pub Answers : {X : Type 0} → (X → List ℕ) → Result X Unanswered → Option Reply → Type 0
Answers view (Ok text) reply = reply ≡ Some (told (view text))
Answers view (Err NotForm) reply = reply ≡ None
Answers view (Err (Refused error)) reply = reply ≡ Some (refusal (error_text error))
Answers view (Err OutOfMemory) reply = Unit {0}

-- How the causes of a JSON value print, and which of them a value that is not of a form has.
use Rattle.std.specs.Prelude.{ℕ, List, codes}
use Rattle.cranelift_module.specs.declared.declaration_json.cause.JsonCause.{JsonCause}
use Rattle.cranelift_module.specs.declared.declaration_json.cause.JsonCause.TheVariants.{MissingKey, WrongShape, OtherVersion, DuplicateName, Allocation}
use Rattle.json_form.specs.declared.form_error.FormError.{FormError}
use Rattle.json_form.specs.declared.form_error.FormError.TheVariants.{NotForm, OutOfMemory}

-- what is not of a form has the wrong shape
abbrev pub cause_of : FormError → JsonCause
cause_of NotForm = WrongShape
cause_of OutOfMemory = Allocation

abbrev pub json_cause_text : JsonCause → List ℕ
json_cause_text MissingKey = codes "missing key"
json_cause_text WrongShape = codes "wrong shape"
json_cause_text OtherVersion = codes "other version"
json_cause_text DuplicateName = codes "duplicate name"
json_cause_text Allocation = codes "out of memory"

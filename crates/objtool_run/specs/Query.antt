-- What a library answers to a JSON value.
use Rattle.std.specs.Prelude.{◌≡◌, ℕ, ◌⊎◌, List, Option, Some, None, Result, Ok, Err, string_bytes}
use Rattle.serde_json.specs.Data.{Data}
use Rattle.serde_json.specs.Written.{compact_text}
use Rattle.cranelift_module.specs.Declarations.{DeclarationLists}
use Rattle.cranelift_module.specs.DeclarationJson.{value_of, from_json}
use Rattle.cranelift_module.specs.JsonTexts.{json_cause_text}
use Rattle.cranelift_module.specs.declared.declaration_json.cause.JsonCause.{JsonCause}
use Rattle.json_form.specs.Reply.{Reply, told, refusal}
use Rattle.pe_json.specs.Signed.{signed_reply}
use Rattle.pe_json.specs.Clr.{clr_reply}
use Rattle.pe_json.specs.LoadConfig.{load_config_reply}
use Rattle.pe_json.specs.Tls.{tls_reply}
use Rattle.objtool_run.specs.Fault.{line}
use Rattle.objtool_run.specs.Script.{HasJson}
use Rattle.objtool_run.specs.declared.fault.Fault.{Fault}
use Rattle.objtool_run.specs.declared.fault.Fault.TheVariants.{Refused, BadWords, ReadFailed, WriteFailed, OutOfMemory, NotUnderstood, TooLong}
use Rattle.objtool_run.specs.declared.words.Query.{Query}
use Rattle.objtool_run.specs.declared.words.Query.TheVariants.{Declarations, Signed, Clr, LoadConfig, Tls}

-- declarations are written again, or their first cause is told
abbrev pub declarations_reply : Result DeclarationLists JsonCause → Reply
declarations_reply (Ok lists) = told (compact_text (value_of lists))
declarations_reply (Err cause) = refusal (json_cause_text cause)

-- what is answered to a value; none where it isn't of the query's form. Every value is of the form of declarations.
abbrev pub reply_of : Query → Data → Option Reply
reply_of Declarations d = Some (declarations_reply (from_json d))
reply_of Signed d = signed_reply d
reply_of Clr d = clr_reply d
reply_of LoadConfig d = load_config_reply d
reply_of Tls d = tls_reply d

-- the line is that of a told text
abbrev pub IsToldLine : List ℕ → Option Reply → Type 0
IsToldLine text None = ⊥
IsToldLine text (Some (told t)) = text ≡ line t
IsToldLine text (Some (refusal t)) = ⊥

-- the line is that of a refusal
abbrev pub IsRefusalLine : List ℕ → Option Reply → Type 0
IsRefusalLine text None = ⊥
IsRefusalLine text (Some (told t)) = ⊥
IsRefusalLine text (Some (refusal t)) = text ≡ line t

-- what a fault says of the answer
abbrev pub FaultTells : Fault → Option Reply → Type 0
FaultTells (Refused text) reply = IsRefusalLine (string_bytes text) reply
FaultTells BadWords reply = ⊥
FaultTells ReadFailed reply = ⊥
FaultTells WriteFailed reply = ⊥
FaultTells OutOfMemory reply = Unit {0}
FaultTells NotUnderstood reply = reply ≡ None
FaultTells TooLong reply = ⊥

-- -- over the bytes of an input

-- the line is what is told of the input's value
pub record IsTold (query : Query) (input text : List ℕ) : Type 0 where
  pub value : Data
  pub json : HasJson input value
  pub line_is : IsToldLine text (reply_of query value)

-- the line is the refusal of the input's value
pub record IsRefusedQuery (query : Query) (input text : List ℕ) : Type 0 where
  pub value : Data
  pub json : HasJson input value
  pub line_is : IsRefusalLine text (reply_of query value)

-- the input has no JSON reading, or one that isn't of the query's form
abbrev pub IsUnreadQuery : Query → List ℕ → Type 0
IsUnreadQuery query input = (d : Data) → HasJson input d → reply_of query d ≡ None

-- what a fault says of the input of a query; those of the words, the streams and memory say nothing of it
abbrev pub ExplainsQuery : Query → List ℕ → Fault → Type 0
ExplainsQuery query input (Refused text) = IsRefusedQuery query input (string_bytes text)
ExplainsQuery query input BadWords = Unit {0}
ExplainsQuery query input ReadFailed = Unit {0}
ExplainsQuery query input WriteFailed = Unit {0}
ExplainsQuery query input OutOfMemory = Unit {0}
ExplainsQuery query input NotUnderstood = IsUnreadQuery query input
ExplainsQuery query input TooLong = Unit {0}

-- how a query over an input may end, apart from failed reads, want of memory and the limit of its length
pub record JudgesQuery (query : Query) (input : List ℕ) (status : ℕ) : Type 0 where
  pub unread : IsUnreadQuery query input → status ≡ 6
  pub refused : (d : Data) (t : List ℕ) → HasJson input d → reply_of query d ≡ Some (refusal t) → status ≡ 1
  pub told : (d : Data) (t : List ℕ) → HasJson input d → reply_of query d ≡ Some (told t) → (status ≡ 0) ⊎ (status ≡ 4)

-- the input's value is answered with a text
pub record IsAnswered (query : Query) (input : List ℕ) : Type 0 where
  pub value : Data
  pub text : List ℕ
  pub json : HasJson input value
  pub reply : reply_of query value ≡ Some (told text)

-- What each end of a run says of its input.
use Rattle.std.proofs.Common.{◌≡◌, ℕ, ◌<◌, ◌≤◌, ◌⊎◌, List, length, Option, Some, None, IfSome, String, Global, string_bytes, refl, ap, sym, ◌∙◌, arith}
use Rattle.serde_json.specs.Data.{Data}
use Rattle.byte_core.specs.Outside.{Outside}
use Rattle.image_build.specs.Built.{BuildPart, BuildRefusal, build_cause}
use Rattle.objtool_run.specs.Fault.{code_of}
use Rattle.objtool_run.specs.Script.{HasJson, HasNoParts, StandsFor}
use Rattle.image_read.specs.Image.{HasNoImage}
use Rattle.objtool_run.specs.Reading.{IsImage, IsImageLine, IsUnreadImage, JudgesRead}
use Rattle.objtool_run.specs.Run.{input_limit, IsOutput, IsLong, Explains, Judges, JudgesBuild, IsAnswerable, IsGiven, IsJudged, IsValid}
use Rattle.objtool_run.specs.Asked.{Asked, build, raw, read, names, ask, place, extract, join, gen}
use Rattle.objtool_run.proofs.JudgingFiles.{judges_placed, judges_unplaced, judges_unread_place, judges_extracted, judges_unextracted, judges_joined, judges_unjoined, joinable_ends}
use Rattle.objtool_run.specs.Placing.{IsPlacedInput, IsUnplacedInput, HasNoPlacement, JudgesPlace, IsPlaceable}
use Rattle.objtool_run.specs.Extracted.{IsUnextracted, JudgesExtract, IsExtractable}
use Rattle.fat_commands.specs.Extracting.{IsExtracted}
use Rattle.objtool_run.specs.declared.words.Query.{Query}
use Rattle.json_form.specs.Reply.{Reply, told, refusal}
use Rattle.objtool_run.specs.Query.{reply_of, IsTold, IsRefusedQuery, IsUnreadQuery, IsAnswered, JudgesQuery, IsToldLine, IsRefusalLine}
use Rattle.objtool_run.specs.declared.fault.Fault.{Fault}
use Rattle.objtool_run.specs.declared.fault.Fault.TheVariants.{Refused, BadWords, ReadFailed, WriteFailed, OutOfMemory, NotUnderstood, TooLong}

-- some bytes have one JSON value at most
one_value : (b : List ℕ) (d e : Data) → HasJson b d → HasJson b e → d ≡ e
one_value b d e h k = let p = h.value in let q = k.value in cc

-- and stand for one list of parts at most
one_list : (b : List ℕ) (xs ys : List BuildPart) → StandsFor b xs → StandsFor b ys → xs ≡ ys
one_list b xs ys (d, h, p) (e, k, q) = let same = one_value b d e h k in cc

not_unread : (b : List ℕ) (xs : List BuildPart) → StandsFor b xs → HasNoParts b → ⊥
not_unread b xs (d, h, p) none = let z : Some xs ≡ None = sym p ∙ none d h in absurd (cc)

judges_valid : (input : List ℕ) (parts : List BuildPart) (status : ℕ) → StandsFor input parts → build_cause parts ≡ None → (status ≡ 0) ⊎ (status ≡ 4) → JudgesBuild input status
judges_valid input parts status stands valid ends = record {
  unread = λ h. absurd (not_unread input parts stands h);
  refused = λ others r also cause. let same = one_list input parts others stands also in absurd (cc);
  valid = λ others also none. ends;
}

judges_refused : (input : List ℕ) (parts : List BuildPart) (r : BuildRefusal) → StandsFor input parts → build_cause parts ≡ Some r → JudgesBuild input 1
judges_refused input parts r stands refused = record {
  unread = λ h. absurd (not_unread input parts stands h);
  refused = λ others s also cause. refl;
  valid = λ others also none. let same = one_list input parts others stands also in absurd (cc);
}

judges_unread : (input : List ℕ) → HasNoParts input → JudgesBuild input 6
judges_unread input none = record {
  unread = λ h. refl;
  refused = λ parts r stands cause. absurd (not_unread input parts stands none);
  valid = λ parts stands cause. absurd (not_unread input parts stands none);
}

-- -- queries

told_is : (text : List ℕ) (o : Option Reply) → IsToldLine text o → (t : List ℕ) × (o ≡ Some (told t))
told_is text None h = absurd h
told_is text (Some (told t)) h = (t, refl)
told_is text (Some (refusal t)) h = absurd h

refusal_is : (text : List ℕ) (o : Option Reply) → IsRefusalLine text o → (t : List ℕ) × (o ≡ Some (refusal t))
refusal_is text None h = absurd h
refusal_is text (Some (told t)) h = absurd h
refusal_is text (Some (refusal t)) h = (t, refl)

reply_same : (q : Query) (b : List ℕ) (d e : Data) (o : Option Reply) → HasJson b d → HasJson b e → reply_of q d ≡ o → reply_of q e ≡ o
reply_same q b d e o h k r = ap (reply_of q) (sym (one_value b d e h k)) ∙ r

judges_told : (q : Query) (input : List ℕ) (d : Data) (t : List ℕ) (status : ℕ) → HasJson input d → reply_of q d ≡ Some (told t) → (status ≡ 0) ⊎ (status ≡ 4) → JudgesQuery q input status
judges_told q input d t status json reply ends = record {
  unread = λ none. let z : Some (told t) ≡ None = sym reply ∙ none d json in absurd (cc);
  refused = λ e s also other. let z : Some (told t) ≡ Some (refusal s) = sym (reply_same q input d e (Some (told t)) json also reply) ∙ other in absurd (cc);
  told = λ e s also other. ends;
}

judges_refusal : (q : Query) (input : List ℕ) (d : Data) (t : List ℕ) → HasJson input d → reply_of q d ≡ Some (refusal t) → JudgesQuery q input 1
judges_refusal q input d t json reply = record {
  unread = λ none. let z : Some (refusal t) ≡ None = sym reply ∙ none d json in absurd (cc);
  refused = λ e s also other. refl;
  told = λ e s also other. let z : Some (refusal t) ≡ Some (told s) = sym (reply_same q input d e (Some (refusal t)) json also reply) ∙ other in absurd (cc);
}

judges_unread_query : (q : Query) (input : List ℕ) → IsUnreadQuery q input → JudgesQuery q input 6
judges_unread_query q input none = record {
  unread = λ h. refl;
  refused = λ d t json reply. let z : Some (refusal t) ≡ None = sym reply ∙ none d json in absurd (cc);
  told = λ d t json reply. let z : Some (told t) ≡ None = sym reply ∙ none d json in absurd (cc);
}

-- -- images

judges_image : (input : List ℕ) (status : ℕ) → IsImage input → (status ≡ 0) ⊎ (status ≡ 4) → JudgesRead input status
judges_image input status image ends = record { unread = λ none. absurd (none.none image.image image.reads); read = λ also. ends }

judges_no_image : (input : List ℕ) → HasNoImage input → JudgesRead input 1
judges_no_image input none = record { unread = λ h. refl; read = λ image. absurd (none.none image.image image.reads) }

if_known : (P Q : List ℕ → Type 0) → ((input : List ℕ) → P input → Q input) → (o : Option (List ℕ)) → IfSome o P → IfSome o Q
if_known P Q f None h = tt
if_known P Q f (Some x) h = f x h

-- a request that has an output is judged by its writing
pub judges_output : (r : Asked) (old : Outside) (text : List ℕ) (status : ℕ) → IsOutput r old text → (status ≡ 0) ⊎ (status ≡ 4) → Judges r old status
judges_output (names machine number) old text status h ends = ends
judges_output (gen seed count) old text status h ends = ends
judges_output (ask q) old text status h ends =
    if_known (λ known. IsTold q known text) (λ known. JudgesQuery q known status) (λ known a. let is = told_is text (reply_of q a.value) a.line_is in judges_told q known a.value is.0 status a.json is.1 ends) old.input h
judges_output build old text status h ends = if_known _ (λ known. JudgesBuild known status) (λ known a. judges_valid known a.parts status a.stands a.valid ends) old.input h
judges_output raw old text status h ends = if_known _ (λ known. JudgesBuild known status) (λ known a. judges_valid known a.parts status a.stands a.valid ends) old.input h
judges_output read old text status h ends = if_known (λ known. IsImageLine known text) (λ known. JudgesRead known status) (λ known a. judges_image known status (record { image = a.image; reads = a.reads }) ends) old.input h
judges_output place old text status h ends = if_known (λ known. IsPlacedInput known text) (λ known. JudgesPlace known status) (λ known a. judges_placed known text status a ends) old.input h
judges_output (extract name) old text status h ends = if_known (λ known. IsExtracted known name text) (λ known. JudgesExtract name known status) (λ known a. judges_extracted name known text status a ends) old.input h
judges_output (join paths) old text status h ends = judges_joined old.files paths text status h ends

-- a fault that comes of what a whole input says is a refusal, or says that there is no reading
judged_cases : (P : Fault → Type 0) (fault : Fault) → IsJudged fault → ((text : String Global) → P (Refused text)) → P NotUnderstood → P fault
judged_cases P (Refused text) j refused unread = refused text
judged_cases P BadWords j refused unread = absurd j
judged_cases P ReadFailed j refused unread = absurd j
judged_cases P WriteFailed j refused unread = absurd j
judged_cases P OutOfMemory j refused unread = absurd j
judged_cases P NotUnderstood j refused unread = unread
judged_cases P TooLong j refused unread = absurd j

refused_ends : (r : Asked) (old : Outside) (text : String Global) → Explains r old (Refused text) → Judges r old 1
refused_ends (ask q) old text h =
    if_known (λ known. IsRefusedQuery q known (string_bytes text)) (λ known. JudgesQuery q known 1) (λ known a. let is = refusal_is (string_bytes text) (reply_of q a.value) a.line_is in judges_refusal q known a.value is.0 a.json is.1) old.input h
refused_ends (names machine number) old text h = absurd h
refused_ends (gen seed count) old text h = absurd h
refused_ends build old text h = if_known _ (λ known. JudgesBuild known 1) (λ known a. judges_refused known a.parts a.refusal.refusal a.stands a.refusal.refused) old.input h
refused_ends raw old text h = if_known _ (λ known. JudgesBuild known 1) (λ known a. judges_refused known a.parts a.refusal.refusal a.stands a.refusal.refused) old.input h
refused_ends read old text h = if_known (λ known. IsUnreadImage known (string_bytes text)) (λ known. JudgesRead known 1) (λ known a. judges_no_image known a.no_image) old.input h.1
refused_ends place old text h = if_known (λ known. IsUnplacedInput known (string_bytes text)) (λ known. JudgesPlace known 1) (λ known a. judges_unplaced known (string_bytes text) a) old.input h
refused_ends (extract name) old text h = if_known (λ known. IsUnextracted known name (string_bytes text)) (λ known. JudgesExtract name known 1) (λ known a. judges_unextracted name known (string_bytes text) a) old.input h.1
refused_ends (join paths) old text h = judges_unjoined old.files paths (string_bytes text) h

unread_ends : (r : Asked) (old : Outside) → Explains r old NotUnderstood → Judges r old 6
unread_ends (ask q) old h = if_known (λ known. IsUnreadQuery q known) (λ known. JudgesQuery q known 6) (λ known none. judges_unread_query q known none) old.input h
unread_ends (names machine number) old h = absurd h
unread_ends (gen seed count) old h = absurd h
unread_ends build old h = if_known HasNoParts (λ known. JudgesBuild known 6) judges_unread old.input h
unread_ends raw old h = if_known HasNoParts (λ known. JudgesBuild known 6) judges_unread old.input h
unread_ends read old h = absurd h.0
unread_ends place old h = if_known HasNoPlacement (λ known. JudgesPlace known 6) judges_unread_place old.input h
unread_ends (extract name) old h = absurd h.0
unread_ends (join paths) old h = absurd h

-- a request with a fault that its input has
pub judges_fault : (r : Asked) (old : Outside) (fault : Fault) → IsJudged fault → Explains r old fault → Judges r old (code_of fault)
judges_fault r old fault j h = judged_cases (λ f. Explains r old f → Judges r old (code_of f)) fault j (λ text e. refused_ends r old text e) (λ e. unread_ends r old e) h

given_ends : (P Q : List ℕ → Type 0) (R : Type 0) → ((input : List ℕ) → P input → Q input → R) → (o : Option (List ℕ)) → IsGiven P o → IfSome o Q → R
given_ends P Q R f None v j = absurd v
given_ends P Q R f (Some input) v j = f input v.0 j

-- what nothing refuses is done or fails at its writing
pub valid_ends : (r : Asked) (old : Outside) (status : ℕ) → IsAnswerable r old → Judges r old status → (status ≡ 0) ⊎ (status ≡ 4)
valid_ends (names machine number) old status v j = j
valid_ends (gen seed count) old status v j = j
valid_ends (ask q) old status v j = given_ends (IsAnswered q) (λ known. JudgesQuery q known status) _ (λ input a k. k.told a.value a.text a.json a.reply) old.input v j
valid_ends build old status v j = given_ends IsValid (λ known. JudgesBuild known status) _ (λ input a k. k.valid a.parts a.stands a.valid) old.input v j
valid_ends raw old status v j = given_ends IsValid (λ known. JudgesBuild known status) _ (λ input a k. k.valid a.parts a.stands a.valid) old.input v j
valid_ends read old status v j = given_ends IsImage (λ known. JudgesRead known status) _ (λ input a k. k.read a) old.input v j
valid_ends place old status v j = given_ends IsPlaceable (λ known. JudgesPlace known status) _ (λ input a k. k.placed a.value a.text a.json a.placed) old.input v j
valid_ends (extract name) old status v j = given_ends (IsExtractable name) (λ known. JudgesExtract name known status) _ (λ input a k. k.found a.0 a.1) old.input v j
valid_ends (join paths) old status v j = joinable_ends paths old.files status v j

given_short : (P : List ℕ → Type 0) (o : Option (List ℕ)) → IsGiven P o → IfSome o (λ known. input_limit < length known) → ⊥
given_short P None v h = v
given_short P (Some input) v h = let low = v.1 in omega (arith, h, low)

pub not_long : (r : Asked) (old : Outside) → IsAnswerable r old → IsLong r old → ⊥
not_long (names machine number) old v h = h
not_long (gen seed count) old v h = h
not_long (join paths) old v h = h
not_long (ask q) old v h = given_short (IsAnswered q) old.input v h
not_long build old v h = given_short IsValid old.input v h
not_long raw old v h = given_short IsValid old.input v h
not_long read old v h = given_short IsImage old.input v h
not_long place old v h = given_short IsPlaceable old.input v h
not_long (extract name) old v h = given_short (IsExtractable name) old.input v h

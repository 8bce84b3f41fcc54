-- The ends of a run, from what its steps say.
use Rattle.std.proofs.Common.{◌≡◌, ◌≢◌, ◌↔◌, ℕ, zero, suc, ◌+◌, ◌-◌, ◌<◌, ◌≤◌, ◌⊎◌, inl, inr, ⊎_elim, Bool, true, false, List, Option, Some, None, IfSome, Result, Ok, Err, String, Global, string_bytes, refl, ap, sym, ◌∙◌, arith}
use Rattle.byte_core.specs.Count.{Rose, risen, last_count}
use Rattle.byte_core.specs.Outside.{Outside, IsAtEnd, ChangesOutput, ChangesErrors, Appends, AppendsFront}
use Rattle.objtool_run.specs.Fault.{code_of}
use Rattle.objtool_run.specs.Words.{request_of}
use Rattle.objtool_run.specs.Run.{input_limit, IsOutput, IsRefused, IsUnread, has_input, ByInput, IsTaken, IsLong, Explains, Judges, IsAnswerable, IsJudged, IsOfResponse}
use Rattle.objtool_run.specs.Ends.{Answers, AnswersFront, ReadsRose, ReadsAlone, Ends}
use Rattle.objtool_run.specs.declared.fault.Fault.{Fault}
use Rattle.objtool_run.specs.declared.fault.Fault.TheVariants.{Refused, BadWords, ReadFailed, WriteFailed, OutOfMemory, NotUnderstood, TooLong}
use Rattle.objtool_run.specs.Asked.{Asked, build, raw, read, names, ask, place, extract, join, gen}
use Rattle.objtool_run.proofs.Judging.{judges_output, judges_fault, valid_ends, not_long}

-- words that name no request
pub ends_unknown : (line : List (List ℕ)) (now : Outside) → request_of line ≡ None → Ends line now now 2
ends_unknown line now e = record {
  statuses = omega arith;
  words = ((λ _. e), (λ _. refl));
  reading = λ h. absurd (omega (arith, h));
  writing = λ h. absurd (omega (arith, h));
  too_long = λ _. ((λ h. absurd (omega (arith, h))), (λ h. absurd (omega (arith, h))));
  long = λ h. absurd (omega (arith, h));
  at_most = omega arith;
  done = λ h. absurd (omega (arith, h));
  front = λ h. absurd (omega (arith, h));
  unread = λ h. absurd (omega (arith, h));
  nothing = λ _ _. refl;
  whole = λ _. rw e tt;
  judged = λ two _ _ _. absurd (two refl);
  complete = rw e tt;
}

-- The end of a known request. What the last two fields say follows from the others.
record Known (line : List (List ℕ)) (r : Asked) (old new : Outside) (status : ℕ) : Type 0 where
  is : request_of line ≡ Some r
  statuses : status ≤ 7
  words : status ≢ 2
  reading : status ≡ 3 → ReadsRose old new
  writing : status ≡ 4 → Rose old.write_faults new.write_faults
  too_long : new.taken < last_count → ((status ≡ 7) ↔ (input_limit < new.taken - old.taken))
  long : status ≡ 7 → IsLong r old
  at_most : new.taken ≤ risen old.taken (input_limit + 1)
  done : status ≡ 0 → Answers r old new
  front : status ≡ 4 → AnswersFront r old new
  unread : status ≡ 6 → IsUnread r old
  nothing : status ≢ 0 → status ≢ 4 → new.output ≡ old.output
  whole : (status ≡ 0) ⊎ (status ≡ 1) ⊎ (status ≡ 4) ⊎ (status ≡ 6) → IsTaken r new
  judged : status ≢ 2 → status ≢ 3 → status ≢ 5 → status ≢ 7 → Judges r old status

none_some : {A : Type 0} (o : Option A) (x : A) → o ≡ Some x → o ≡ None → ⊥
none_some o x e n = let z : Some x ≡ None = sym e ∙ n in absurd (cc)

completes : (line : List (List ℕ)) (r : Asked) (old new : Outside) (status : ℕ) → Known line r old new status → IsAnswerable r old
    → (ReadsRose old new → ⊥) → (Rose old.write_faults new.write_faults → ⊥) → (status ≡ 0) ⊎ (status ≡ 5)
completes line r old new zero k v reads writes = inl refl
completes line r old new (suc zero) k v reads writes = let z = valid_ends r old 1 v (k.judged (λ h. absurd (omega (arith, h))) (λ h. absurd (omega (arith, h))) (λ h. absurd (omega (arith, h))) (λ h. absurd (omega (arith, h)))) in absurd (⊎_elim (λ h. absurd (omega (arith, h))) (λ h. absurd (omega (arith, h))) z)
completes line r old new (suc (suc zero)) k v reads writes = absurd (k.words refl)
completes line r old new (suc (suc (suc zero))) k v reads writes = absurd (reads (k.reading refl))
completes line r old new (suc (suc (suc (suc zero)))) k v reads writes = absurd (writes (k.writing refl))
completes line r old new (suc (suc (suc (suc (suc zero))))) k v reads writes = inr refl
completes line r old new (suc (suc (suc (suc (suc (suc zero)))))) k v reads writes = let z = valid_ends r old 6 v (k.judged (λ h. absurd (omega (arith, h))) (λ h. absurd (omega (arith, h))) (λ h. absurd (omega (arith, h))) (λ h. absurd (omega (arith, h)))) in absurd (⊎_elim (λ h. absurd (omega (arith, h))) (λ h. absurd (omega (arith, h))) z)
completes line r old new (suc (suc (suc (suc (suc (suc (suc zero))))))) k v reads writes = absurd (not_long r old v (k.long refl))
completes line r old new (suc (suc (suc (suc (suc (suc (suc (suc n)))))))) k v reads writes = let high = k.statuses in absurd (omega (arith, high))

ends_known : (line : List (List ℕ)) (r : Asked) (old new : Outside) (status : ℕ) → Known line r old new status → Ends line old new status
ends_known line r old new status k = record {
  statuses = k.statuses;
  words = ((λ h. absurd (k.words h)), (λ h. absurd (none_some (request_of line) r k.is h)));
  reading = k.reading;
  writing = k.writing;
  too_long = k.too_long;
  long = λ h. rw k.is (k.long h);
  at_most = k.at_most;
  done = λ h. rw k.is (k.done h);
  front = λ h. rw k.is (k.front h);
  unread = λ h. rw k.is (k.unread h);
  nothing = k.nothing;
  whole = λ h. rw k.is (k.whole h);
  judged = λ two three five seven. rw k.is (k.judged two three five seven);
  complete = rw k.is (completes line r old new status k);
}

-- -- a request whose output isn't there

at_least_one : (fault : Fault) → 1 ≤ code_of fault
at_least_one (Refused text) = omega arith
at_least_one BadWords = omega arith
at_least_one ReadFailed = omega arith
at_least_one WriteFailed = omega arith
at_least_one OutOfMemory = omega arith
at_least_one NotUnderstood = omega arith
at_least_one TooLong = omega arith

at_most_seven : (fault : Fault) → code_of fault ≤ 7
at_most_seven (Refused text) = omega arith
at_most_seven BadWords = omega arith
at_most_seven ReadFailed = omega arith
at_most_seven WriteFailed = omega arith
at_most_seven OutOfMemory = omega arith
at_most_seven NotUnderstood = omega arith
at_most_seven TooLong = omega arith

-- an answer's code is none of those of the words and of writing
answer_code : (fault : Fault) → IsOfResponse fault → (code_of fault ≢ 2) × (code_of fault ≢ 4)
answer_code (Refused text) h = ((λ e. absurd (omega (arith, e))), (λ e. absurd (omega (arith, e))))
answer_code BadWords h = absurd h
answer_code ReadFailed h = ((λ e. absurd (omega (arith, e))), (λ e. absurd (omega (arith, e))))
answer_code WriteFailed h = absurd h
answer_code OutOfMemory h = ((λ e. absurd (omega (arith, e))), (λ e. absurd (omega (arith, e))))
answer_code NotUnderstood h = ((λ e. absurd (omega (arith, e))), (λ e. absurd (omega (arith, e))))
answer_code TooLong h = ((λ e. absurd (omega (arith, e))), (λ e. absurd (omega (arith, e))))

-- a fault is judged by the input, or has a code of its own
judged_fault : (fault : Fault) → IsOfResponse fault → code_of fault ≢ 3 → code_of fault ≢ 5 → code_of fault ≢ 7 → IsJudged fault
judged_fault (Refused text) h a b c = tt
judged_fault BadWords h a b c = h
judged_fault ReadFailed h a b c = absurd (a refl)
judged_fault WriteFailed h a b c = h
judged_fault OutOfMemory h a b c = absurd (b refl)
judged_fault NotUnderstood h a b c = tt
judged_fault TooLong h a b c = absurd (c refl)

IsWhole : ℕ → Type 0
IsWhole status = (status ≡ 0) ⊎ (status ≡ 1) ⊎ (status ≡ 4) ⊎ (status ≡ 6)

not_partial : (status n : ℕ) → (n ≡ 3) ⊎ (n ≡ 5) ⊎ (n ≡ 7) → IsWhole status → status ≢ n
unfolding IsWhole
not_partial status n (inl e) (inl h) same = absurd (omega (arith, e, h, same))
not_partial status n (inl e) (inr (inl h)) same = absurd (omega (arith, e, h, same))
not_partial status n (inl e) (inr (inr (inl h))) same = absurd (omega (arith, e, h, same))
not_partial status n (inl e) (inr (inr (inr h))) same = absurd (omega (arith, e, h, same))
not_partial status n (inr (inl e)) (inl h) same = absurd (omega (arith, e, h, same))
not_partial status n (inr (inl e)) (inr (inl h)) same = absurd (omega (arith, e, h, same))
not_partial status n (inr (inl e)) (inr (inr (inl h))) same = absurd (omega (arith, e, h, same))
not_partial status n (inr (inl e)) (inr (inr (inr h))) same = absurd (omega (arith, e, h, same))
not_partial status n (inr (inr e)) (inl h) same = absurd (omega (arith, e, h, same))
not_partial status n (inr (inr e)) (inr (inl h)) same = absurd (omega (arith, e, h, same))
not_partial status n (inr (inr e)) (inr (inr (inl h))) same = absurd (omega (arith, e, h, same))
not_partial status n (inr (inr e)) (inr (inr (inr h))) same = absurd (omega (arith, e, h, same))

of_code : (P : Fault → Type 0) (fault : Fault) → IsOfResponse fault → P fault → (code_of fault ≡ 3 → P ReadFailed) × (code_of fault ≡ 6 → P NotUnderstood) × (code_of fault ≡ 7 → P TooLong)
of_code P (Refused text) h p = ((λ e. absurd (omega (arith, e))), (λ e. absurd (omega (arith, e))), (λ e. absurd (omega (arith, e))))
of_code P BadWords h p = absurd h
of_code P ReadFailed h p = ((λ e. p), (λ e. absurd (omega (arith, e))), (λ e. absurd (omega (arith, e))))
of_code P WriteFailed h p = absurd h
of_code P OutOfMemory h p = ((λ e. absurd (omega (arith, e))), (λ e. absurd (omega (arith, e))), (λ e. absurd (omega (arith, e))))
of_code P NotUnderstood h p = ((λ e. absurd (omega (arith, e))), (λ e. p), (λ e. absurd (omega (arith, e))))
of_code P TooLong h p = ((λ e. absurd (omega (arith, e))), (λ e. absurd (omega (arith, e))), (λ e. p))

explained_unread : (r : Asked) (old : Outside) → Explains r old NotUnderstood → IsUnread r old
explained_unread build old h = h
explained_unread raw old h = h
explained_unread read old h = absurd h.0
explained_unread (names machine number) old h = absurd h
explained_unread (ask q) old h = h
explained_unread place old h = h
explained_unread (extract name) old h = absurd h.0
explained_unread (join paths) old h = absurd h
explained_unread (gen seed count) old h = absurd h

-- a refusal that is told is one that the request's input has, or its files
pub explained_refused : (r : Asked) (old : Outside) (text : String Global) → Explains r old (Refused text) → IsRefused r old (string_bytes text)
explained_refused build old text h = h
explained_refused raw old text h = h
explained_refused read old text h = h.1
explained_refused (names machine number) old text h = absurd h
explained_refused (ask q) old text h = h
explained_refused place old text h = h
explained_refused (extract name) old text h = h.1
explained_refused (join paths) old text h = h
explained_refused (gen seed count) old text h = absurd h

-- the request has a fault before its output is written
pub ends_fault : (line : List (List ℕ)) (r : Asked) (old new : Outside) (fault : Fault) → request_of line ≡ Some r → IsOfResponse fault → Explains r old fault → (IsJudged fault → IsTaken r new)
    → (fault ≡ ReadFailed → ReadsRose old new) → (new.taken < last_count → ((fault ≡ TooLong) ↔ (input_limit < new.taken - old.taken))) → (fault ≡ TooLong → IsLong r old)
    → new.taken ≤ risen old.taken (input_limit + 1) → ReadsAlone old new → Ends line old new (code_of fault)
unfolding IsWhole
ends_fault line r old new fault is of explained taken reading too_long long at_most others =
    let codes = answer_code fault of in
    let same = of_code (λ f. fault ≡ f) fault of refl in
    let says = of_code (λ f. Explains r old f) fault of explained in
    let low = at_least_one fault in
    ends_known line r old new (code_of fault) (record {
      is = is;
      statuses = at_most_seven fault;
      words = codes.0;
      reading = λ e. reading (same.0 e);
      writing = λ e. absurd (codes.1 e);
      too_long = λ below. ((λ e. (too_long below).0 (same.2 e)), (λ h. ap code_of ((too_long below).1 h)));
      long = λ e. long (same.2 e);
      at_most = at_most;
      done = λ e. absurd (omega (arith, e, low));
      front = λ e. absurd (codes.1 e);
      unread = λ e. explained_unread r old (says.1 e);
      nothing = λ _ _. others.output;
      whole = λ w. taken (judged_fault fault of (not_partial (code_of fault) 3 (inl refl) w) (not_partial (code_of fault) 5 (inr (inl refl)) w) (not_partial (code_of fault) 7 (inr (inr refl)) w));
      judged = λ two three five seven. judges_fault r old fault (judged_fault fault of three five seven) explained;
    })

-- -- a request whose output is there

taken_if : (t : Bool) (mid new : Outside) → new.input ≡ mid.input → ByInput t (IsAtEnd mid) (Unit {0}) → ByInput t (IsAtEnd new) (Unit {0})
taken_if true mid new e h = rw e h
taken_if false mid new e h = tt

taken_kept : (r : Asked) (mid new : Outside) → new.input ≡ mid.input → IsTaken r mid → IsTaken r new
taken_kept r mid new e h = taken_if (has_input r) mid new e h

-- the output was written whole
pub ends_written : (line : List (List ℕ)) (r : Asked) (old mid new : Outside) (text : List ℕ) → request_of line ≡ Some r → IsOutput r old text → IsTaken r mid
    → (mid.taken < last_count → input_limit < mid.taken - old.taken → ⊥) → mid.taken ≤ risen old.taken (input_limit + 1) → ReadsAlone old mid
    → Appends mid.output new.output text → ChangesOutput mid new → Ends line old new 0
ends_written line r old mid new text is output taken short at_most first written others =
    ends_known line r old new 0 (record {
      is = is;
      statuses = omega arith;
      words = λ e. absurd (omega (arith, e));
      reading = λ e. absurd (omega (arith, e));
      writing = λ e. absurd (omega (arith, e));
      too_long = λ below. ((λ e. absurd (omega (arith, e))), (λ h. absurd (short (rw others.taken at below) (rw others.taken at h))));
      long = λ e. absurd (omega (arith, e));
      at_most = rw others.taken at_most;
      done = λ _. record { text = text; output = output; written = rw first.output at written };
      front = λ e. absurd (omega (arith, e));
      unread = λ e. absurd (omega (arith, e));
      nothing = λ z _. absurd (z refl);
      whole = λ _. taken_kept r mid new others.input taken;
      judged = λ _ _ _ _. judges_output r old text 0 output (inl refl);
    })

-- a write failed
pub ends_unwritten : (line : List (List ℕ)) (r : Asked) (old mid new : Outside) (text : List ℕ) → request_of line ≡ Some r → IsOutput r old text → IsTaken r mid
    → (mid.taken < last_count → input_limit < mid.taken - old.taken → ⊥) → mid.taken ≤ risen old.taken (input_limit + 1) → ReadsAlone old mid
    → AppendsFront mid.output new.output text → Rose mid.write_faults new.write_faults → ChangesOutput mid new → Ends line old new 4
ends_unwritten line r old mid new text is output taken short at_most first written rose others =
    ends_known line r old new 4 (record {
      is = is;
      statuses = omega arith;
      words = λ e. absurd (omega (arith, e));
      reading = λ e. absurd (omega (arith, e));
      writing = λ _. rw first.write_faults at rose;
      too_long = λ below. ((λ e. absurd (omega (arith, e))), (λ h. absurd (short (rw others.taken at below) (rw others.taken at h))));
      long = λ e. absurd (omega (arith, e));
      at_most = rw others.taken at_most;
      done = λ e. absurd (omega (arith, e));
      front = λ _. record { text = text; output = output; written = rw first.output at written };
      unread = λ e. absurd (omega (arith, e));
      nothing = λ _ z. absurd (z refl);
      whole = λ _. taken_kept r mid new others.input taken;
      judged = λ _ _ _ _. judges_output r old text 4 output (inr refl);
    })

-- -- the fault text changes nothing of this

if_request : (P Q : Asked → Type 0) → ((r : Asked) → P r → Q r) → (o : Option Asked) → IfSome o P → IfSome o Q
if_request P Q f None h = tt
if_request P Q f (Some r) h = f r h

told_reads : (old mid new : Outside) → ReadsRose old mid → ChangesErrors mid new → ReadsRose old new
told_reads old mid new (inl r) c = inl (rw c.read_faults r)
told_reads old mid new (inr (inl r)) c = inr (inl (rw c.files.open_faults r))
told_reads old mid new (inr (inr r)) c = inr (inr (rw c.files.file_faults r))

pub ends_told : (line : List (List ℕ)) (old mid new : Outside) (status : ℕ) → Ends line old mid status → ChangesErrors mid new → Ends line old new status
ends_told line old mid new status h c = record {
  statuses = h.statuses;
  words = h.words;
  reading = λ e. told_reads old mid new (h.reading e) c;
  writing = λ e. rw c.write_faults (h.writing e);
  too_long = rw c.taken h.too_long;
  long = h.long;
  at_most = rw c.taken h.at_most;
  done = λ e. if_request (λ r. Answers r old mid) (λ r. Answers r old new) (λ r a. record { text = a.text; output = a.output; written = c.output ∙ a.written }) (request_of line) (h.done e);
  front = λ e. if_request (λ r. AnswersFront r old mid) (λ r. AnswersFront r old new) (λ r a. record { text = a.text; output = a.output; written = record { count = a.written.count; front = c.output ∙ a.written.front } }) (request_of line) (h.front e);
  unread = h.unread;
  nothing = λ a b. c.output ∙ h.nothing a b;
  whole = λ w. if_request (λ r. IsTaken r mid) (λ r. IsTaken r new) (λ r t. taken_kept r mid new c.input t) (request_of line) (h.whole w);
  judged = h.judged;
  complete = if_request (λ r. IsAnswerable r old → (ReadsRose old mid → ⊥) → (Rose old.write_faults mid.write_faults → ⊥) → (status ≡ 0) ⊎ (status ≡ 5)) (λ r. IsAnswerable r old → (ReadsRose old new → ⊥) → (Rose old.write_faults new.write_faults → ⊥) → (status ≡ 0) ⊎ (status ≡ 5))
      (λ r f v reads writes. f v (λ e. reads (told_reads old mid new e c)) (λ e. writes (rw c.write_faults e))) (request_of line) h.complete;
}

-- -- answers and errors

pub same_fault : {A : Type 0} (result : Result A Fault) (f g : Fault) → result ≡ Err f → result ≡ Err g → f ≡ g
same_fault result f g h k = cc

pub not_an_error : {A : Type 0} (result : Result A Fault) (x : A) (f : Fault) → result ≡ Ok x → result ≡ Err f → ⊥
not_an_error result x f h k = absurd (cc)

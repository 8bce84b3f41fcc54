-- What each end of a run says of images that are placed, of a fat file, and of files.
use Rattle.std.proofs.Common.{◌≡◌, ℕ, ◌⊎◌, List, [], ◌∷◌, map, Option, Some, None, IfSome, refl, ap, sym, ◌∙◌, subst}
use Rattle.std.specs.List.{AllZip}
use Rattle.serde_json.specs.Data.{Data}
use Rattle.byte_core.specs.Outside.{file_at}
use Rattle.goblin_mach.specs.FatTable.{fat_table}
use Rattle.fat_macho.specs.Reader.{reader_cause, extract_of}
use Rattle.image_build.specs.Built.{BuildPart, commands, image, BuildRefusal, build_cause}
use Rattle.image_place.specs.declared.error.PlaceError.{PlaceError}
use Rattle.place_json.specs.Outcomes.{IsPlacedText, IsPlaceRefusal}
use Rattle.place_json.proofs.Outcomes.{text_is_no_refusal, text_has_form, refusal_has_form}
use Rattle.fat_commands.specs.Extracting.{IsExtracted, TellsUnextracted}
use Rattle.fat_commands.specs.declared.extract.Unextracted.{Unextracted}
use Rattle.fat_commands.specs.declared.extract.Unextracted.TheVariants.{Refused, Absent}
use Rattle.fat_commands.specs.Files.{IsHeld}
use Rattle.fat_commands.specs.Joining.{IsRead, AreRead, IsJoined, IsUnjoined}
use Rattle.objtool_run.specs.Script.{HasJson}
use Rattle.objtool_run.specs.Placing.{IsPlacedInput, IsUnplacedInput, HasNoPlacement, JudgesPlace}
use Rattle.objtool_run.specs.Extracted.{IsUnextracted, JudgesExtract}
use Rattle.objtool_run.specs.Joined.{IsUnjoinedLine, HasFiles, JudgesJoin, IsJoinable}

-- some bytes have one JSON value at most
one_value : (b : List ℕ) (d e : Data) → HasJson b d → HasJson b e → d ≡ e
one_value b d e h k = let p = h.value in let q = k.value in cc

-- -- images that are placed

pub judges_placed : (input text : List ℕ) (status : ℕ) → IsPlacedInput input text → (status ≡ 0) ⊎ (status ≡ 4) → JudgesPlace input status
judges_placed input text status a ends = record {
  unread = λ none. absurd (text_has_form a.value text (none a.value a.json) a.placed);
  refused = λ d e json refused. absurd (text_is_no_refusal a.value text e a.placed (subst (λ x. IsPlaceRefusal x e) (one_value input d a.value json a.json) refused));
  placed = λ d t json placed. ends;
}

pub judges_unplaced : (input text : List ℕ) → IsUnplacedInput input text → JudgesPlace input 1
judges_unplaced input text a = record {
  unread = λ none. absurd (refusal_has_form a.value a.error (none a.value a.json) a.refused);
  refused = λ d e json refused. refl;
  placed = λ d t json placed. absurd (text_is_no_refusal d t a.error placed (subst (λ x. IsPlaceRefusal x a.error) (one_value input a.value d a.json json) a.refused));
}

pub judges_unread_place : (input : List ℕ) → HasNoPlacement input → JudgesPlace input 6
judges_unread_place input none = record {
  unread = λ h. refl;
  refused = λ d e json refused. absurd (refusal_has_form d e (none d json) refused);
  placed = λ d t json placed. absurd (text_has_form d t (none d json) placed);
}

-- -- a slice

not_both : {A : Type 0} (o : Option A) (x : A) → o ≡ None → o ≡ Some x → ⊥
not_both o x n s = let z : Some x ≡ None = sym s ∙ n in absurd (cc)

found_not_refused : (input name slice : List ℕ) (e : Unextracted) → IsExtracted input name slice → TellsUnextracted input name e → ⊥
found_not_refused input name slice (Refused error) a t = not_both (reader_cause input) error a.reader t
found_not_refused input name slice Absent a t = not_both (extract_of (fat_table input) name) slice t.1 a.found

pub judges_extracted : (name input slice : List ℕ) (status : ℕ) → IsExtracted input name slice → (status ≡ 0) ⊎ (status ≡ 4) → JudgesExtract name input status
judges_extracted name input slice status a ends = record { refused = λ e t. absurd (found_not_refused input name slice e a t); found = λ s f. ends }

pub judges_unextracted : (name input text : List ℕ) → IsUnextracted input name text → JudgesExtract name input 1
judges_unextracted name input text a = record { refused = λ e t. refl; found = λ slice f. absurd (found_not_refused input name slice a.error f a.tells) }

-- -- files

-- the images of known files are those that the paths have
known_read : (held : List (List ℕ × List ℕ)) (paths files : List (List ℕ)) (parts : List BuildPart) → HasFiles held paths files → AreRead (Some held) paths parts → parts ≡ map (λ b. image b) files
known_read held [] [] [] h r = refl
known_read held [] [] (p ∷ parts) h r = absurd r
known_read held [] (f ∷ files) parts h r = absurd h
known_read held (p ∷ paths) [] parts h r = absurd h
known_read held (p ∷ paths) (f ∷ files) [] h r = absurd r
known_read held (p ∷ paths) (f ∷ files) (commands part ∷ parts) h r = absurd r.0
known_read held (p ∷ paths) (f ∷ files) (image b ∷ parts) h r =
    let same : b ≡ f = subst (λ o. IfSome o (λ known. b ≡ known)) h.0 r.0 in
    let rest : parts ≡ map (λ x. image x) files = known_read held paths files parts h.1 r.1 in
    rw (same, rest) refl

pub judges_joined : (files : Option (List (List ℕ × List ℕ))) (paths : List (List ℕ)) (text : List ℕ) (status : ℕ) → IsJoined files paths text → (status ≡ 0) ⊎ (status ≡ 4) → IfSome files (λ held. JudgesJoin held paths status)
judges_joined None paths text status a ends = tt
judges_joined (Some held) paths text status a ends = record {
  refused = λ known r has cause. absurd (not_both (build_cause (map (λ b. image b) known)) r (ap build_cause (sym (known_read held paths known a.parts has a.read)) ∙ a.valid) cause);
  valid = λ known has none. ends;
}

pub judges_unjoined : (files : Option (List (List ℕ × List ℕ))) (paths : List (List ℕ)) (text : List ℕ) → IsUnjoinedLine files paths text → IfSome files (λ held. JudgesJoin held paths 1)
judges_unjoined None paths text a = tt
judges_unjoined (Some held) paths text a = record {
  refused = λ known r has cause. refl;
  valid = λ known has none. absurd (not_both (build_cause (map (λ b. image b) known)) a.refused.refusal none (ap build_cause (sym (known_read held paths known a.refused.parts has a.refused.read)) ∙ a.refused.refused));
}

pub joinable_ends : (paths : List (List ℕ)) (files : Option (List (List ℕ × List ℕ))) (status : ℕ) → IsJoinable paths files → IfSome files (λ held. JudgesJoin held paths status) → (status ≡ 0) ⊎ (status ≡ 4)
joinable_ends paths None status v j = absurd v
joinable_ends paths (Some held) status v j = j.valid v.files v.has v.valid

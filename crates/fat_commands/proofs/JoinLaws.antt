-- Files that are read and joined.
use Rattle.std.proofs.Common.{◌≡◌, ◌≢◌, ℕ, ◌+◌, ◌<◌, ◌≤◌, List, [], ◌∷◌, ◌++◌, length, map, take, get_or, Option, Some, None, IfSome, String, Global, Vec, string_bytes, refl, ap, sym, ◌∙◌, subst, arith}
use Rattle.std.specs.List.{All, AllZip}
use Rattle.std.proofs.lemmas.List.{map_more, map_push, take_all}
use Rattle.std.proofs.lemmas.List.Elements.{All-nil, All-cons}
use Rattle.image_build.specs.declared.error.BuildError.{BuildError}
use Rattle.image_build.specs.declared.error.BuildCause.TheVariants as causes
use Rattle.image_build.specs.declared.part.Part.{Part}
use Rattle.image_build.specs.declared.part.Part.TheVariants as parts
use Rattle.image_build.specs.Parts.{part_view, HasFewCalls}
use Rattle.image_build.proofs.FatLists.{zip_snoc}
use Rattle.image_build.proofs.Told.{told_some}
use Rattle.image_build.specs.Built.{BuildPart, commands, image, Built, BuildRefusal, TellsBuild, TellsPlace, build_cause}
use Rattle.fat_commands.specs.Files.{IsHeld}
use Rattle.fat_commands.specs.Joining.{IsRead, AreRead, IsJoined, IsUnjoined, KeepsRefusal}

-- images have no commands
pub few_read : (files : Option (List (List ℕ × List ℕ))) (paths : List (List ℕ)) (views : List BuildPart) → AreRead files paths views → All HasFewCalls views
few_read files [] [] h = All-nil HasFewCalls
few_read files [] (v ∷ views) h = absurd h
few_read files (p ∷ paths) [] h = absurd h
few_read files (p ∷ paths) (commands part ∷ views) h = absurd h.0
few_read files (p ∷ paths) (image b ∷ views) h = All-cons HasFewCalls (image b) views tt (few_read files paths views h.1)

pub joins : (files : Option (List (List ℕ × List ℕ))) (paths : List (List ℕ)) (views : List BuildPart) (b : List ℕ) → AreRead files paths views → Built views b → build_cause views ≡ None → IsJoined files paths b
joins files paths views b read built valid = record { parts = views; read = read; valid = valid; built = built }

-- a build's error that is kept tells what refuses the files
pub refuses : (files : Option (List (List ℕ × List ℕ))) (paths : List (List ℕ)) (views : List BuildPart) (error kept : BuildError) → AreRead files paths views → TellsBuild error (build_cause views) → kept ≡ error
    → error.cause ≢ causes.OutOfMemory → IsUnjoined files paths kept
refuses files paths views error kept read tells same none =
    let r = told_some error (build_cause views) tells none in
    rw same (record { parts = views; read = read; refusal = r.0; refused = r.1; no_memory = none; tells = tells })

pub nothing_read : (files : Option (List (List ℕ × List ℕ))) → AreRead files [] []
nothing_read files = tt

-- one file more
pub read_on : (files : Option (List (List ℕ × List ℕ))) (paths : List (String Global)) (k : ℕ) (path : String Global) (old new : List Part) (bytes : Vec ℕ Global) → k < length paths → path ≡ get_or paths k path
    → new ≡ old ++ parts.Image bytes ∷ [] → AreRead files (map string_bytes (take k paths)) (map part_view old) → IsHeld files (string_bytes path) bytes.items
    → AreRead files (map string_bytes (take (k + 1) paths)) (map part_view new)
read_on files paths k path old new bytes l is pushed read held =
    let more : map string_bytes (take (k + 1) paths) ≡ map string_bytes (take k paths) ++ string_bytes path ∷ [] = map_more string_bytes paths k path l ∙ ap (λ p. map string_bytes (take k paths) ++ string_bytes p ∷ []) (sym is) in
    let views : map part_view new ≡ map part_view old ++ image bytes.items ∷ [] = ap (map part_view) pushed ∙ map_push part_view old (parts.Image bytes) in
    rw (more, views) (zip_snoc (IsRead files) (map string_bytes (take k paths)) (map part_view old) (string_bytes path) (image bytes.items) read held)

pub read_to_end : (files : Option (List (List ℕ × List ℕ))) (paths : List (String Global)) (k : ℕ) (views : List BuildPart) → length paths ≤ k → AreRead files (map string_bytes (take k paths)) views → AreRead files (map string_bytes paths) views
read_to_end files paths k views past read = subst (λ xs. AreRead files (map string_bytes xs) views) (take_all k paths past) read

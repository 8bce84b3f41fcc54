-- What the words of a command line ask for.
use Rattle.std.specs.Prelude.{ℕ, ◌<◌, ◌≤◌, List, map, string_bytes}
use Rattle.objtool_run.specs.declared.words.Request.{Request}
use Rattle.objtool_run.specs.declared.words.Request.TheVariants as requests
use Rattle.objtool_run.specs.declared.words.Query.{Query}

-- a request, without where its names lie
pub data Asked : Type 0 where
  build : Asked
  raw : Asked
  read : Asked
  names : ℕ → ℕ → Asked
  ask : Query → Asked
  place : Asked
  extract : List ℕ → Asked
  join : List (List ℕ) → Asked
  gen : ℕ → ℕ → Asked

abbrev pub asked : Request → Asked
asked requests.Build = build
asked requests.Raw = raw
asked requests.Read = read
asked (requests.Names machine number) = names machine number
asked (requests.Ask query) = ask query
asked requests.Place = place
asked (requests.Extract name) = extract name.now
asked (requests.Join paths) = join (map string_bytes paths.now)
asked (requests.Gen seed count) = gen seed count

-- a generated part has 1 to 100,000 functions
abbrev pub IsInRange : Asked → Type 0
IsInRange (gen seed count) = (0 < count) × (count ≤ 100000)
IsInRange _ = Unit {0}

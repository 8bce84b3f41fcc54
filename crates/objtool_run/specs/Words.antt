-- What the words of a command line ask for.
use Rattle.std.specs.Prelude.{ℕ, ◌==◌, Bool, false, not, ◌&&◌, nat_le, List, [], ◌∷◌, codes, if◌then◌else◌, Option, Some, None}
use Rattle.std.specs.List.{list_all}
use Rattle.std.specs.Str.{bytes_eq}
use Rattle.std.specs.Str.Parse.{digits_value}
use Rattle.objtool_run.specs.Asked.{Asked, build, raw, read, names, ask, place, extract, join, gen}
use Rattle.objtool_run.specs.declared.words.Query.TheVariants.{Declarations, Signed, Clr, LoadConfig, Tls}

-- a decimal digit
abbrev pub is_digit : ℕ → Bool
is_digit c = nat_le 48 c && nat_le c 57

-- decimal digits, without a leading zero where there is more than one
abbrev pub is_number : List ℕ → Bool
is_number [] = false
is_number (c ∷ []) = is_digit c
is_number (c ∷ d ∷ rest) = is_digit c && not (c == 48) && list_all is_digit (d ∷ rest)

-- the number that a word writes, where it is one up to this limit
abbrev pub number_up_to : ℕ → List ℕ → Option ℕ
number_up_to limit word = if is_number word && nat_le (digits_value 10 word) limit then Some (digits_value 10 word) else None

abbrev pub names_of : Option ℕ → Option ℕ → Option Asked
names_of (Some machine) (Some number) = Some (names machine number)
names_of _ _ = None

-- a part has one function at least
abbrev pub gen_of : Option ℕ → Option ℕ → Option Asked
gen_of (Some seed) (Some count) = if count == 0 then None else Some (gen seed count)
gen_of _ _ = None

-- what the word of a command alone asks for
unfoldable pub request_named : List ℕ → Option Asked
request_named command =
    if bytes_eq command (codes "build") then Some build
    else if bytes_eq command (codes "read") then Some read
    else if bytes_eq command (codes "place") then Some place
    else if bytes_eq command (codes "declarations") then Some (ask Declarations)
    else if bytes_eq command (codes "signed") then Some (ask Signed)
    else if bytes_eq command (codes "clr") then Some (ask Clr)
    else if bytes_eq command (codes "loadconfig") then Some (ask LoadConfig)
    else if bytes_eq command (codes "tls") then Some (ask Tls)
    else None

-- a command with one word: `build --raw`, or `extract` with the name of an architecture
abbrev pub request_with : List ℕ → List ℕ → Option Asked
request_with command word =
    if bytes_eq command (codes "build") && bytes_eq word (codes "--raw") then Some raw
    else if bytes_eq command (codes "extract") then Some (extract word)
    else None

-- a command with two numbers: `names` with a machine's and a relocation's, or `gen` with a seed and a count
abbrev pub request_of_two : List ℕ → List ℕ → List ℕ → Option Asked
request_of_two command first second =
    if bytes_eq command (codes "names") then names_of (number_up_to 65535 first) (number_up_to 4294967295 second)
    else if bytes_eq command (codes "gen") then gen_of (number_up_to 2147483647 first) (number_up_to 100000 second)
    else None

-- a command with other words than paths
abbrev pub request_by : List ℕ → List (List ℕ) → Option Asked
request_by command (word ∷ []) = request_with command word
request_by command (first ∷ second ∷ []) = request_of_two command first second
request_by command words = None

-- a command with words; `join` takes one path or more
abbrev pub request_over : List ℕ → List (List ℕ) → Option Asked
request_over command words = if bytes_eq command (codes "join") then Some (join words) else request_by command words

-- the request that the words name, if any
abbrev pub request_of : List (List ℕ) → Option Asked
request_of [] = None
request_of (command ∷ []) = request_named command
request_of (command ∷ word ∷ words) = request_over command (word ∷ words)

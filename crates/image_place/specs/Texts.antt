-- How an error of placement prints.
use Rattle.std.specs.Prelude.{ℕ, List, ◌++◌, codes, decimal}
use Rattle.image_place.specs.declared.error.PlaceError.{PlaceError}
use Rattle.image_place.specs.declared.error.PlaceError.TheVariants.{NoReading, DefinedTwice, NoAddress, OtherKind, LooseLabel, DoesNotFit, OutOfMemory}

abbrev pub place_text : PlaceError → List ℕ
place_text (NoReading q) = codes "image " ++ (decimal q ++ codes ": no reading")
place_text (DefinedTwice q row) = codes "image " ++ (decimal q ++ (codes " symbol " ++ (decimal row ++ codes ": defined twice")))
place_text (NoAddress q row) = codes "image " ++ (decimal q ++ (codes " symbol " ++ (decimal row ++ codes ": no address")))
place_text (OtherKind q number) = codes "image " ++ (decimal q ++ (codes " kind " ++ (decimal number ++ codes ": not applied")))
place_text (LooseLabel q row) = codes "image " ++ (decimal q ++ (codes " symbol " ++ (decimal row ++ codes ": loose label")))
place_text (DoesNotFit q offset) = codes "image " ++ (decimal q ++ (codes " offset " ++ (decimal offset ++ codes ": does not fit")))
place_text OutOfMemory = codes "out of memory"

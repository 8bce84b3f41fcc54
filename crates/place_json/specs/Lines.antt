-- How an entry of placement prints.
use Rattle.std.specs.Prelude.{ℕ, List, ◌++◌, codes, decimal}
use Rattle.hex.specs.Hex.{encode_lower}
use Rattle.image_place.specs.Placed.{PlacedEntry}

-- the image, the row of the symbol and the address in decimal, and the bytes in lower-case hexadecimal
abbrev pub entry_line : PlacedEntry → List ℕ
entry_line e = decimal e.image ++ (codes " " ++ (decimal e.symbol ++ (codes " " ++ (decimal e.address ++ (codes " " ++ (encode_lower e.bytes ++ codes "\n"))))))

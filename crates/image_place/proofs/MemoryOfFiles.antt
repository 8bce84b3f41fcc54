-- Of the files of parts, placement gives each definition exactly its memory.
use Rattle.std.proofs.Common.{◌≡◌, ℕ, List, length, map, Vec, Global, Result, Ok, Err, None, IfOk, OnOk}
use Rattle.image_place.specs.declared.error.PlaceError.{PlaceError}
use Rattle.image_place.specs.declared.rows.DefAddress.{DefAddress as AddressRow}
use Rattle.image_place.specs.declared.rows.PlacedBytes.{PlacedBytes}
use Rattle.image_place.specs.Laws.{PlacedIsMemory}
use Rattle.image_place.specs.Placed.{AreOfBytes, AreViewed, place_fault, placed_entries}
use Rattle.image_view.specs.View.{View}
use Rattle.image_place.specs.Views.{placed_view}
use Rattle.image_place.proofs.FileFormats.{placed-by-formats}
use Rattle.image_place.proofs.MachFormed.{mach-files-show}

pub memory-where-placed : (files : List (List ℕ)) (addresses : List AddressRow) (externs : List (List ℕ × ℕ)) (views : List View) (r : Result (Vec PlacedBytes Global) PlaceError)
    → AreOfBytes files (length files) → AreViewed files views → OnOk r (place_fault views addresses externs ≡ None) → IfOk r (λ out. map placed_view out.items ≡ placed_entries views addresses externs)
    → IfOk r (λ out. PlacedIsMemory files addresses externs (map placed_view out.items))
memory-where-placed files addresses externs views (Ok out) bytes viewed none entries =
    placed-by-formats files addresses externs (map placed_view out.items) mach-files-show bytes (record { views = views; viewed = viewed; none = none; entries = entries })
memory-where-placed files addresses externs views (Err e) bytes viewed none entries = tt

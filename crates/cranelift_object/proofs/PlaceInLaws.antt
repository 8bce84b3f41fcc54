-- What is defined stays what has a place in its format.
use Rattle.std.proofs.Common.{◌≡◌, ℕ, zero, suc, ◌++◌, ◌∷◌, List, [], Bool, true, false, cond, Option, Some, None, refl, ap, ◌∙◌}
use Rattle.std.specs.Prelude.{slice_get, option_map}
use Rattle.byte_core.proofs.Lists.{get_left}
use Rattle.ir_core.specs.declared.target.BinaryFormat.{BinaryFormat}
use Rattle.ir_core.specs.declared.target.BinaryFormat.TheVariants.{Elf, Coff, Macho, Wasm, Unknown}
use Rattle.cranelift_module.specs.declared.identifiers.FuncOrDataId.{FuncOrDataId}
use Rattle.cranelift_module.specs.declared.identifiers.FuncOrDataId.TheVariants.{Func, Data}
use Rattle.cranelift_module.specs.Rows.{DataRow}
use Rattle.cranelift_module.specs.LinkState.{with_first}
use Rattle.cranelift_object.specs.Kept.{IsPlain, HasPlaceIn}

-- a function has a place in each format
pub function_placed : (format : BinaryFormat) (objects : List DataRow) (k : ℕ) → HasPlaceIn format objects (Func k)
function_placed Elf objects k = tt
function_placed Coff objects k = tt
function_placed Macho objects k = tt
function_placed Wasm objects k = tt
function_placed Unknown objects k = tt

plain_first_from : (test : DataRow → Bool) (change : DataRow → DataRow) (new x : DataRow) (rows : List DataRow) (k : ℕ) (b : Bool) → ((y : DataRow) → (change y).tls ≡ y.tls) → IsPlain (x ∷ rows) (Data k)
    → ((j : ℕ) → IsPlain rows (Data j) → IsPlain (with_first test change new rows) (Data j)) → IsPlain (cond b (change x ∷ rows) (x ∷ with_first test change new rows)) (Data k)
plain_first_from test change new x rows zero true same h later = ap Some (same x) ∙ h
plain_first_from test change new x rows (suc k) true same h later = h
plain_first_from test change new x rows zero false same h later = h
plain_first_from test change new x rows (suc k) false same h later = later k h

plain_first : (test : DataRow → Bool) (change : DataRow → DataRow) (new : DataRow) (rows : List DataRow) (k : ℕ) → ((y : DataRow) → (change y).tls ≡ y.tls) → IsPlain rows (Data k) → IsPlain (with_first test change new rows) (Data k)
plain_first test change new [] k same h = absurd (cc)
plain_first test change new (x ∷ rows) k same h = plain_first_from test change new x rows k (test x) same h (λ j g. plain_first test change new rows j same g)

-- a row that is declared again keeps the place of its data
pub placed_first : (format : BinaryFormat) (test : DataRow → Bool) (change : DataRow → DataRow) (new : DataRow) (rows : List DataRow) (id : FuncOrDataId) → ((y : DataRow) → (change y).tls ≡ y.tls) → HasPlaceIn format rows id
    → HasPlaceIn format (with_first test change new rows) id
placed_first Elf test change new rows id same h = tt
placed_first Coff test change new rows id same h = tt
placed_first Macho test change new rows (Func k) same h = tt
placed_first Macho test change new rows (Data k) same h = plain_first test change new rows k same h
placed_first Wasm test change new rows id same h = tt
placed_first Unknown test change new rows id same h = tt

plain_more : (rows : List DataRow) (new : DataRow) (k : ℕ) (row : Option DataRow) → slice_get rows k ≡ row → option_map (λ (r : DataRow). r.tls) row ≡ Some false → IsPlain (rows ++ new ∷ []) (Data k)
plain_more rows new k None e h = absurd (cc)
plain_more rows new k (Some row) e h = ap (option_map (λ (r : DataRow). r.tls)) (get_left rows (new ∷ []) k row e) ∙ h

-- and so does each where one more is declared
pub placed_more : (format : BinaryFormat) (rows : List DataRow) (new : DataRow) (id : FuncOrDataId) → HasPlaceIn format rows id → HasPlaceIn format (rows ++ new ∷ []) id
placed_more Elf rows new id h = tt
placed_more Coff rows new id h = tt
placed_more Macho rows new (Func k) h = tt
placed_more Macho rows new (Data k) h = plain_more rows new k (slice_get rows k) refl h
placed_more Wasm rows new id h = tt
placed_more Unknown rows new id h = tt

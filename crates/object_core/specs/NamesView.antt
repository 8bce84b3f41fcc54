-- What contracts see of stored texts.
use Rattle.std.specs.Prelude.{ℕ, ◌-◌, min, List, nat_eq, vec_len, vec_capacity}
use Rattle.std.specs.HashMap.{get, spare}
use Rattle.object_core.specs.declared.names.Names.TheInside.{Inside}
use Rattle.object_core.specs.Names.{texts_in, AreStored}

-- the texts in order, and for how many more of them, and of their bytes, there is room
pub record NamesData : Type 0 where
  pub texts : List (List ℕ)
  pub spare_texts : ℕ
  pub spare_bytes : ℕ

abbrev pub names_view : Inside → NamesData
names_view n =
    record {
      texts = texts_in n.bytes.items n.spans.items;
      spare_texts = min (vec_capacity n.spans - vec_len n.spans) (min (vec_capacity n.older - vec_len n.older) (spare n.index));
      spare_bytes = vec_capacity n.bytes - vec_len n.bytes;
    }

abbrev pub IsStored : Inside → Type 0
IsStored n = AreStored n.bytes.items n.spans.items (λ number. get nat_eq n.index number) n.older.items

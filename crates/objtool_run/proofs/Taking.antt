-- What was taken and written over several calls.
use Rattle.std.proofs.Common.{◌≡◌, ℕ, ◌+◌, ◌-◌, ◌<◌, List, [], ◌++◌, length, take, drop, Option, Some, None, option_map, IfSome, refl, ap, sym, arith, length-append, append-nil, append_assoc}
use Rattle.std.proofs.Math.Seq.{take-add}
use Rattle.std.proofs.lemmas.List.{take_rest}
use Rattle.byte_core.specs.Outside.{Outside, KeepsFiles, ChangesInput, ChangesOutput, ChangesErrors, TakesInput, Appends, IsAtEnd}

input_nothing : (i : Option (List ℕ)) → i ≡ option_map (λ rest. [] ++ rest) i
input_nothing None = refl
input_nothing (Some x) = refl

input_again : (a b : List ℕ) (x y z : Option (List ℕ)) → x ≡ option_map (λ rest. a ++ rest) y → y ≡ option_map (λ rest. b ++ rest) z → x ≡ option_map (λ rest. (a ++ b) ++ rest) z
input_again a b x y None p q = rw (p, q) refl
input_again a b x y (Some rest) p q = rw (p, q) (ap Some (sym (append_assoc a b rest)))

-- nothing was taken
pub taken_nothing : (now : Outside) → TakesInput now now []
taken_nothing now = record { input = input_nothing now.input; taken = omega arith }

-- what two reads took stands one behind the other
pub taken_again : (first mid now : Outside) (a b : List ℕ) → TakesInput first mid a → TakesInput mid now b → TakesInput first now (a ++ b)
taken_again first mid now a b p q = record {
  input = input_again a b first.input mid.input now.input p.input q.input;
  taken = omega (arith, length-append a b, p.taken, q.taken);
}

keeps_files_again : (first mid now : Outside) → KeepsFiles first mid → KeepsFiles mid now → KeepsFiles first now
keeps_files_again first mid now p q = record { files = cc; open_faults = cc; file = cc; file_faults = cc }

pub changes_input_again : (first mid now : Outside) → ChangesInput first mid → ChangesInput mid now → ChangesInput first now
changes_input_again first mid now p q = record { output = cc; write_faults = cc; errors = cc; err_faults = cc; files = keeps_files_again first mid now p.files q.files; rises = omega arith }

pub changes_output_again : (first mid now : Outside) → ChangesOutput first mid → ChangesOutput mid now → ChangesOutput first now
changes_output_again first mid now p q = record { input = cc; taken = cc; read_faults = cc; errors = cc; err_faults = cc; files = keeps_files_again first mid now p.files q.files; rises = omega arith }

pub changes_errors_again : (first mid now : Outside) → ChangesErrors first mid → ChangesErrors mid now → ChangesErrors first now
changes_errors_again first mid now p q = record { input = cc; taken = cc; read_faults = cc; output = cc; write_faults = cc; files = keeps_files_again first mid now p.files q.files; rises = omega arith }

-- nothing was written
pub appends_nothing : (x : Option (List ℕ)) → Appends x x []
appends_nothing None = refl
appends_nothing (Some x) = ap Some (sym (append-nil x))

-- what two writes put stands one behind the other
pub appends_again : (a b : List ℕ) (x y z : Option (List ℕ)) → Appends x y a → Appends y z b → Appends x z (a ++ b)
appends_again a b None y z p q = rw (q, p) refl
appends_again a b (Some before) y z p q = rw (q, p) (ap Some (append_assoc before a b))

-- a front of the rest was put behind the front
pub appends_further : (bytes : List ℕ) (i n : ℕ) (x y z : Option (List ℕ)) → Appends x y (take i bytes) → Appends y z (take n (take (length bytes - i) (drop i bytes))) → Appends x z (take (i + n) bytes)
appends_further bytes i n x y z p q =
    rw take-add (appends_again (take i bytes) (take n (drop i bytes)) x y z p (rw take_rest at q))

whole_at : (bytes : List ℕ) (x y : Option (List ℕ)) → x ≡ option_map (λ rest. bytes ++ rest) y → y ≡ option_map (λ _. []) y → IfSome x (λ input. bytes ≡ input)
whole_at bytes x None e n = rw e tt
whole_at bytes x (Some rest) e n = let r : rest ≡ [] = cc in rw (e, r, append-nil) refl

-- what was taken to the end is the known input
pub taken_whole : (old now : Outside) (bytes : List ℕ) → TakesInput old now bytes → IsAtEnd now → IfSome old.input (λ input. bytes ≡ input)
taken_whole old now bytes t n = whole_at bytes old.input now.input t.input n

long_at : (bytes : List ℕ) (n : ℕ) (x y : Option (List ℕ)) → x ≡ option_map (λ rest. bytes ++ rest) y → n < length bytes → IfSome x (λ input. n < length input)
long_at bytes n x None e h = rw e tt
long_at bytes n x (Some rest) e h = rw e (omega (arith, length-append bytes rest))

-- a known input has all that was taken
pub taken_long : (old now : Outside) (bytes : List ℕ) (n : ℕ) → TakesInput old now bytes → n < length bytes → IfSome old.input (λ input. n < length input)
taken_long old now bytes n t h = long_at bytes n old.input now.input t.input h

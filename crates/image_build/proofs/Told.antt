-- An error that isn't want of memory tells a refusal.
use Rattle.std.proofs.Common.{◌≡◌, ◌≢◌, Option, Some, None, refl}
use Rattle.std.specs.Option.{IsSomeAnd}
use Rattle.object_core.specs.declared.error.EmitError.TheVariants as limits
use Rattle.cranelift_module.specs.Refusal.{refusal_told}
use Rattle.cranelift_object.specs.Part.{at_start, at_call, at_end, over}
use Rattle.fat_macho.specs.Input as fat
use Rattle.image_build.specs.declared.error.BuildError.{BuildError}
use Rattle.image_build.specs.declared.error.BuildCause.{BuildCause}
use Rattle.image_build.specs.declared.error.BuildCause.TheVariants.{Module, Fat, TooMany, TooLarge, Mixed, OutOfMemory}
use Rattle.image_build.specs.declared.error.Place.{Place}
use Rattle.image_build.specs.declared.error.Place.TheVariants.{Start, Command, End}
use Rattle.image_build.specs.Built.{Refused, by_module, of_image, of_file, mixed, BuildRefusal, TellsPlace, TellsBuild}

some_and : {A : Type 0} (o : Option A) (P : A → Type 0) → IsSomeAnd o P → (x : A) × P x
some_and None P h = absurd h
some_and (Some x) P h = (x, h)

told_here : (place : Place) (cause : BuildCause) (is : Refused → Type 0) → TellsPlace place cause is → cause ≢ OutOfMemory → (r : Refused) × is r
told_here place OutOfMemory is t none = absurd (none refl)
told_here Start (Module e) is t none = let s = some_and (refusal_told e) (λ r. is (by_module (at_start r))) t in (by_module (at_start s.0), s.1)
told_here (Command j) (Module e) is t none = let s = some_and (refusal_told e) (λ r. is (by_module (at_call j r))) t in (by_module (at_call j s.0), s.1)
told_here End (Module e) is t none = let s = some_and (refusal_told e) (λ r. is (by_module (at_end r))) t in (by_module (at_end s.0), s.1)
told_here Start (Fat e) is t none = let s = some_and (fat.refusal_told e) (λ r. is (of_image r)) t in (of_image s.0, s.1)
told_here (Command j) (Fat e) is t none = absurd t
told_here End (Fat e) is t none = let s = some_and (fat.refusal_told e) (λ r. is (of_file r)) t in (of_file s.0, s.1)
told_here Start (TooMany what count) is t none = absurd t
told_here (Command j) (TooMany what count) is t none = absurd t
told_here End (TooMany what count) is t none = (by_module (over (limits.TooMany what count)), t)
told_here Start (TooLarge what amount) is t none = absurd t
told_here (Command j) (TooLarge what amount) is t none = absurd t
told_here End (TooLarge what amount) is t none = (by_module (over (limits.TooLarge what amount)), t)
told_here Start Mixed is t none = (mixed, t)
told_here (Command j) Mixed is t none = absurd t
told_here End Mixed is t none = absurd t

-- an error that isn't want of memory tells what there is
pub told_some : (error : BuildError) (o : Option BuildRefusal) → TellsBuild error o → error.cause ≢ OutOfMemory → (r : BuildRefusal) × (o ≡ Some r)
told_some error o t none =
    let s = told_here error.place error.cause (λ r. o ≡ Some (record { part = error.part; refusal = r })) t none in
    (record { part = error.part; refusal = s.0 }, s.1)

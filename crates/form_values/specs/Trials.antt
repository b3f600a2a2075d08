-- Calculations that may be refused: a part of a formula isn't affine, or an argument decides it whose value is open.
use Rattle.std.specs.Prelude.{◌≡◌, ℕ, List, [], ◌∷◌, Some, None, Result, Ok, Err}
use Rattle.affine_forms.specs.FromCalculations.{Calculation, done, narrow, followed_by, turned_into}
use Rattle.cell_refs.specs.declared.error_kind.ErrorKind.{ErrorKind}
use Rattle.sheet_model.specs.declared.value.Value.TheVariants.{Error}
use Rattle.form_values.specs.declared.abs.Abs.{Abs}
use Rattle.form_values.specs.declared.abs.Abs.TheVariants.{Known}
use Rattle.form_values.specs.declared.abs.AbsArg.{AbsArg}
use Rattle.form_values.specs.declared.abs.AbsArg.TheVariants.{One}
use Rattle.form_values.specs.declared.refusal.OpRefusal.{OpRefusal}
use Rattle.form_values.specs.declared.refusal.OpRefusal.TheVariants as refusal

-- why there is no value: the part isn't affine, or the argument at a place, from 0, is open where that decides
pub data Refusal : Type 0 where
  Breaks : Refusal
  Undecided : (argument : ℕ) → Refusal

-- a calculation that gives something or is refused
abbrev pub Trial : Type 0 → Type 0
Trial A = Calculation (Result A Refusal)

-- what is given, and the two refusals, without a calculation
abbrev pub given : {A : Type 0} → A → Trial A
given a = done (Ok a)

abbrev pub breaks : {A : Type 0} → Trial A
breaks = done (Err Breaks)

abbrev pub undecided : {A : Type 0} → ℕ → Trial A
undecided i = done (Err (Undecided i))

-- what is calculated, turned into a value
abbrev pub made : {A B : Type 0} → (A → B) → Calculation A → Trial B
made f c = turned_into (λ a. Ok (f a)) c

-- an error as the value
abbrev pub fault : ErrorKind → Trial Abs
fault k = given (Known (Error k))

abbrev pub on_given : {A B : Type 0} → Result A Refusal → (A → Trial B) → Trial B
on_given (Ok a) f = f a
on_given (Err r) f = done (Err r)

-- one trial, and then one that depends on its value
abbrev pub and_then : {A B : Type 0} → Trial A → (A → Trial B) → Trial B
and_then c f = followed_by c (λ r. on_given r f)

-- a trial for each, in their order, up to the first that is refused
abbrev pub each_tried : {A B : Type 0} → (A → Trial B) → List A → Trial (List B)
each_tried f [] = given []
each_tried f (a ∷ others) = and_then (f a) (λ b. and_then (each_tried f others) (λ bs. given (b ∷ bs)))

-- a trial that goes through some with a value so far
abbrev pub through_tried : {A B : Type 0} → (B → A → Trial B) → B → List A → Trial B
through_tried f so_far [] = given so_far
through_tried f so_far (a ∷ others) = and_then (f so_far a) (λ next. through_tried f next others)

-- a single value as an argument
abbrev pub one : Trial Abs → Trial AbsArg
one c = and_then c (λ a. given (One a))

-- what code answers on narrow numbers
abbrev pub Answers : {A : Type 0} → Trial A → Result A OpRefusal → Type 0
Answers c (Ok a) = narrow c ≡ Some (Ok a)
Answers c (Err refusal.Break) = narrow c ≡ Some (Err Breaks)
Answers c (Err (refusal.Undecided i)) = narrow c ≡ Some (Err (Undecided i))
Answers c (Err refusal.Wide) = narrow c ≡ None
Answers c (Err refusal.Memory) = Unit {0}

-- A calculation that goes through items with an answer so far.
use Rattle.std.proofs.Common.{◌≡◌, ap, ◌∙◌, List, ◌∷◌, Option, Some, None}
use Rattle.std.specs.Option.{option_and_then}
use Rattle.calculations.specs.Calculation.{Calculation, narrow, through}
use Rattle.calculations.proofs.CalculationLaws.{narrow-followed_by}

-- the first item, and then the others
first_item : {A B : Type 0} (f : B → A → Calculation B) (so_far : B) (x : A) (others : List A) (o : Option B) → narrow (f so_far x) ≡ o
    → narrow (through f so_far (x ∷ others)) ≡ option_and_then (λ next. narrow (through f next others)) o
first_item f so_far x others o e =
    narrow-followed_by (f so_far x) (λ next. through f next others) ∙ ap (option_and_then (λ next. narrow (through f next others))) e

-- one item more
pub through_goes : {A B : Type 0} (f : B → A → Calculation B) (whole : Option B) (so_far : B) (rest : List A) (x : A) (others : List A) (next : B) → rest ≡ x ∷ others
    → whole ≡ narrow (through f so_far rest) → narrow (f so_far x) ≡ Some next → whole ≡ narrow (through f next others)
through_goes f whole so_far rest x others next e all h =
    all ∙ ap (λ xs. narrow (through f so_far xs)) e ∙ first_item f so_far x others (Some next) h

-- an item whose calculation isn't narrow
pub through_stops : {A B : Type 0} (f : B → A → Calculation B) (whole : Option B) (so_far : B) (rest : List A) (x : A) (others : List A) → rest ≡ x ∷ others
    → whole ≡ narrow (through f so_far rest) → narrow (f so_far x) ≡ None → whole ≡ None
through_stops f whole so_far rest x others e all h =
    all ∙ ap (λ xs. narrow (through f so_far xs)) e ∙ first_item f so_far x others None h

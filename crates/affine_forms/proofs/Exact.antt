-- Exact answers of calculations behind one another.
use Rattle.std.proofs.Common.{◌≡◌, refl}
use Rattle.calculations.specs.Calculation.{Calculation, done, after, exact, followed_by, turned_into, result_of}

pub exact-followed_by : {A B : Type 0} (c : Calculation A) (f : A → Calculation B) → exact (followed_by c f) ≡ exact (f (exact c))
exact-followed_by (done a) f = refl
exact-followed_by (after o rest) f = exact-followed_by (rest (result_of o)) f

pub exact-turned_into : {A B : Type 0} (f : A → B) (c : Calculation A) → exact (turned_into f c) ≡ f (exact c)
exact-turned_into f (done a) = refl
exact-turned_into f (after o rest) = exact-turned_into f (rest (result_of o))

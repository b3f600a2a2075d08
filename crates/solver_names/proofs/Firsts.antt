-- The first fault of several lists.
use Rattle.std.proofs.Common.{◌≡◌, List, [], ◌∷◌, ◌++◌, Some, None, refl}
use Rattle.solver_names.specs.declared.faults.Fault.{Fault}
use Rattle.solver_names.specs.Faults.{first}

-- ---- one list behind another
pub first_here : (a b : List Fault) (f : Fault) → first a ≡ Some f → first (a ++ b) ≡ Some f
first_here [] b f e = absurd cc
first_here (x ∷ a) b f e = e

pub first_later : (a b : List Fault) → first a ≡ None → first (a ++ b) ≡ first b
first_later [] b e = refl
first_later (x ∷ a) b e = absurd cc

pub none_later : (a b : List Fault) → first (a ++ b) ≡ None → first b ≡ None
none_later [] b e = e
none_later (x ∷ a) b e = absurd cc

pub none_first : (a b : List Fault) → first (a ++ b) ≡ None → first a ≡ None
none_first [] b e = refl
none_first (x ∷ a) b e = absurd cc

pub none_empty : (a : List Fault) → first a ≡ None → a ≡ []
none_empty [] e = refl
none_empty (x ∷ a) e = absurd cc

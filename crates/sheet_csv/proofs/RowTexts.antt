-- Records made of texts, and the text in a column.
use Rattle.std.proofs.Common.{◌≡◌, ◌∷◌, [], ℕ, zero, suc, List, refl}
use Rattle.std.specs.Prelude.{slice_get}
use Rattle.csv.specs.Records.{field_at}

-- the field at a place is the element there
pub field_at-slice_get : (fields : List (List ℕ)) (i : ℕ) → field_at fields i ≡ slice_get fields i
unfolding field_at
field_at-slice_get [] i = refl
field_at-slice_get (f ∷ fs) zero = refl
field_at-slice_get (f ∷ fs) (suc i) = field_at-slice_get fs i

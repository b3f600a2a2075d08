-- The test of two texts in any case of letters.
use Rattle.std.proofs.Common.{◌≡◌, ℕ, List, Bool, true, false, refl, sym, map}
use Rattle.std.specs.Prelude.{IsTrue, ◌↔◌}
use Rattle.std.specs.Char.{to_ascii_lowercase}
use Rattle.cell_refs.specs.Names.{same_letters}
use Rattle.cell_refs.proofs.Places.{other, same}

pub tested : (a b : List ℕ) (r : Bool) → (IsTrue r ↔ (map to_ascii_lowercase a ≡ map to_ascii_lowercase b)) → r ≡ same_letters a b
tested a b true h = sym (same a b (h.0 refl))
tested a b false h = by (same_letters a b) refl
  where
    by : (t : Bool) → same_letters a b ≡ t → false ≡ same_letters a b
    by true e = let k = h.1 (other a b e) in cc
    by false e = sym e

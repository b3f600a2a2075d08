-- What tests and comparisons say.
use Rattle.std.proofs.Common.{◌≡◌, ◌≢◌, Bool, true, false, refl, ap}
use Rattle.std.specs.Ordering.{is_eq, is_lt}
use Rattle.std.specs.declared.cmp.Ordering.{Ordering}
use Rattle.std.specs.declared.cmp.Ordering.TheVariants.{Less, Equal, Greater}

-- what can't be true is false
pub refused : (b : Bool) → (b ≡ true → ⊥) → b ≡ false
refused true h = absurd (h refl)
refused false h = refl

pub is_less : (o : Ordering) → is_lt o ≡ true → o ≡ Less
is_less Less h = refl
is_less Equal h = cc
is_less Greater h = cc

pub is_no_less : (o : Ordering) → is_lt o ≡ false → o ≢ Less
is_no_less o h e = let f = ap is_lt e in cc

pub is_equal : (o : Ordering) → is_eq o ≡ true → o ≡ Equal
is_equal Less h = cc
is_equal Equal h = refl
is_equal Greater h = cc

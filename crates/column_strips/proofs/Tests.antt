-- What tests and comparisons say.
use Rattle.std.proofs.Common.{◌≡◌, ◌≢◌, Bool, true, false, ◌&&◌, refl, ap}
use Rattle.std.specs.Prelude.{not, ◌||◌}
use Rattle.std.specs.Ordering.{is_eq, is_lt, ordering_then}
use Rattle.std.specs.declared.cmp.Ordering.{Ordering}
use Rattle.std.specs.declared.cmp.Ordering.TheVariants.{Less, Equal, Greater}

-- what can't be true is false
pub refused : (b : Bool) → (b ≡ true → ⊥) → b ≡ false
refused true h = absurd (h refl)
refused false h = refl

pub is_less : (o : Ordering) → is_lt o ≡ true → o ≡ Less
is_less Less h = refl
is_less Equal h = cc
is_less Greater h = cc

pub is_no_less : (o : Ordering) → is_lt o ≡ false → o ≢ Less
is_no_less o h e = let f = ap is_lt e in cc

pub is_equal : (o : Ordering) → is_eq o ≡ true → o ≡ Equal
is_equal Less h = cc
is_equal Equal h = refl
is_equal Greater h = cc

-- a tie in two steps is a tie in both
pub tie_of_both : (a b : Ordering) → is_eq (ordering_then a b) ≡ (is_eq a && is_eq b)
tie_of_both Less b = refl
tie_of_both Equal b = refl
tie_of_both Greater b = refl

pub or_swap : (a b c : Bool) → (a || (b || c)) ≡ (b || (a || c))
or_swap true true c = refl
or_swap true false c = refl
or_swap false b c = refl

-- one more, where it is there already
pub there_already : (a b : Bool) → (a ≡ true → b ≡ true) → b ≡ (a || b)
there_already true b h = h refl
there_already false b h = refl

-- one less, where it isn't there
pub not_there : (a b : Bool) → (a ≡ true → b ≡ false) → b ≡ (not a && b)
not_there true b h = h refl
not_there false b h = refl

-- one less, where it is there and nowhere among the others
pub taken_out : (a others : Bool) → (a ≡ true → others ≡ false) → others ≡ (not a && (a || others))
taken_out true others h = h refl
taken_out false others h = refl

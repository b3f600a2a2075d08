-- Relations to 0 by the order of a number and 0.
use Rattle.std.specs.Prelude.{not, ◌&&◌}
use Rattle.std.specs.Ordering.{is_eq, is_ne, is_lt, is_le, is_gt, is_ge}
use Rattle.std.specs.declared.cmp.Ordering.{Ordering}
use Rattle.std.specs.declared.cmp.Ordering.TheVariants.{Less, Equal, Greater}
use Rattle.std.proofs.Common.{◌≡◌, refl, sym, ◌∙◌, Bool, true, false, true≢false, if◌then◌else◌, ◌⊎◌, inl, inr}
use Rattle.fractions.specs.Rational.{ℚ, zero_ℚ, le_ℚ, ◌≤ℚ◌, eq_ℚ}
use Rattle.fractions.proofs.Order.{le_total}
use Rattle.fractions.proofs.Tests.{le_iff}
use Rattle.sheet_model.specs.Tests.{number_cmp}
use Rattle.affine_forms.specs.Relations.{holds}
use Rattle.affine_forms.specs.declared.rel.Rel.{Rel}
use Rattle.affine_forms.specs.declared.rel.Rel.TheVariants as rel

-- whether an order is one of the relation
abbrev pub takes : Rel → Ordering → Bool
takes rel.Lt o = is_lt o
takes rel.Le o = is_le o
takes rel.Eq o = is_eq o
takes rel.Ne o = is_ne o
takes rel.Ge o = is_ge o
takes rel.Gt o = is_gt o

-- the relation by two tests: at most 0, and at least 0
abbrev tested : Rel → Bool → Bool → Bool
tested rel.Lt p q = not q
tested rel.Le p q = p
tested rel.Eq p q = p && q
tested rel.Ne p q = not (p && q)
tested rel.Ge p q = q
tested rel.Gt p q = not p

holds_tested : (r : Rel) (x : ℚ) → holds r x ≡ tested r (le_ℚ x zero_ℚ) (le_ℚ zero_ℚ x)
unfolding eq_ℚ
holds_tested rel.Lt x = refl
holds_tested rel.Le x = refl
holds_tested rel.Eq x = refl
holds_tested rel.Ne x = refl
holds_tested rel.Ge x = refl
holds_tested rel.Gt x = refl

tested_takes : (r : Rel) (p q : Bool) → (p ≡ false → q ≡ true) → tested r p q ≡ takes r (if p then (if q then Equal else Less) else Greater)
tested_takes r false false h = absurd (true≢false (sym (h refl)))
tested_takes rel.Lt true true h = refl
tested_takes rel.Lt true false h = refl
tested_takes rel.Lt false true h = refl
tested_takes rel.Le true true h = refl
tested_takes rel.Le true false h = refl
tested_takes rel.Le false true h = refl
tested_takes rel.Eq true true h = refl
tested_takes rel.Eq true false h = refl
tested_takes rel.Eq false true h = refl
tested_takes rel.Ne true true h = refl
tested_takes rel.Ne true false h = refl
tested_takes rel.Ne false true h = refl
tested_takes rel.Ge true true h = refl
tested_takes rel.Ge true false h = refl
tested_takes rel.Ge false true h = refl
tested_takes rel.Gt true true h = refl
tested_takes rel.Gt true false h = refl
tested_takes rel.Gt false true h = refl

one_side : (x : ℚ) → (x ≤ℚ zero_ℚ) ⊎ (zero_ℚ ≤ℚ x) → le_ℚ x zero_ℚ ≡ false → le_ℚ zero_ℚ x ≡ true
one_side x (inl h) e = absurd (true≢false (sym ((le_iff x zero_ℚ).1 h) ∙ e))
one_side x (inr h) e = (le_iff zero_ℚ x).1 h

pub holds_takes : (r : Rel) (x : ℚ) → holds r x ≡ takes r (number_cmp x zero_ℚ)
holds_takes r x = holds_tested r x ∙ tested_takes r (le_ℚ x zero_ℚ) (le_ℚ zero_ℚ x) (one_side x (le_total x zero_ℚ))

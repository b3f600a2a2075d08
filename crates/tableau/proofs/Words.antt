-- Sums and products of small numbers in 64 bits.
use Rattle.std.proofs.Common.{◌≡◌, ◌≢◌, ◌*◌, ◌^◌, ◌<◌, ◌≤◌, sym, ap, ap₂, subst, ◌∙◌, arith, mul-le-mul, ℤ, pos, negsuc, ◌+ℤ◌, ◌*ℤ◌, to_z, of_z, w64}
use Rattle.std.specs.Prelude.{FitsSigned, unsigned_abs, IfSome, Option, Some, None}
use Rattle.std.proofs.lemmas.Int.{to_z-of_z, fits_signed_from_abs, unsigned_abs-mul}
use Rattle.std.proofs.Math.Nat.{mul-pos}
use Rattle.fractions.specs.Rational.{ℚ, frac, inv_ℚ, numerator, denominator, ◌+ℚ◌, ◌*ℚ◌, ◌/ℚ◌}
use Rattle.fractions.specs.Whole.{whole_ℚ}
use Rattle.fractions.proofs.Laws.{add-mul}
use Rattle.fractions.proofs.Parts.{frac_self, den_pos}
use Rattle.fractions.proofs.School.{frac-add}
use Rattle.fractions.proofs.Whole.{whole-add}
use Rattle.frac128.specs.Narrow.{IsNarrow, IsNarrowWhole}
use Rattle.frac128.proofs.NarrowLaws.{narrow-whole}
use Rattle.frac128.proofs.Tens.{quotient-is}
use Rattle.dictionaries.specs.Narrow.{IsNarrowStep}
use Rattle.tableau.proofs.Small.{IsSmall, abs-sum, product_is, small_step_narrow}

abbrev pub Little : ℤ → Type 0
Little x = unsigned_abs x < 2 ^ 20

same_word : (x : ℤ) → unsigned_abs x < 2 ^ 63 → to_z w64 (of_z w64 x) ≡ x
same_word x h = to_z-of_z w64 x (fits_signed_from_abs w64 x h)

little_word : (x : ℤ) → Little x → to_z w64 (of_z w64 x) ≡ x
little_word x h = same_word x (omega (arith, h))

pub product_size : (x y : ℤ) → Little x → Little y → unsigned_abs (x *ℤ y) ≤ 2 ^ 40
product_size x y h k =
    let a : unsigned_abs x ≤ 2 ^ 20 = omega (arith, h) in
    let b : unsigned_abs y ≤ 2 ^ 20 = omega (arith, k) in
    omega (arith, unsigned_abs-mul x y, mul-le-mul a b)

-- a product of 40 bits times a number of 20
long_size : (x y : ℤ) → unsigned_abs x ≤ 2 ^ 40 → Little y → unsigned_abs (x *ℤ y) ≤ 2 ^ 60
long_size x y h k =
    let b : unsigned_abs y ≤ 2 ^ 20 = omega (arith, k) in
    omega (arith, unsigned_abs-mul x y, mul-le-mul h b)

-- a number of 20 bits times a product of 40
wide_size : (x y : ℤ) → Little x → unsigned_abs y ≤ 2 ^ 40 → unsigned_abs (x *ℤ y) ≤ 2 ^ 60
wide_size x y h k =
    let a : unsigned_abs x ≤ 2 ^ 20 = omega (arith, h) in
    omega (arith, unsigned_abs-mul x y, mul-le-mul a k)

sum_size : (x y : ℤ) → unsigned_abs x ≤ 2 ^ 60 → unsigned_abs y ≤ 2 ^ 60 → unsigned_abs (x +ℤ y) < 2 ^ 63
sum_size x y h k = omega (arith, h, k, abs-sum x y)

fits : (x t : ℤ) → t ≡ x → unsigned_abs x < 2 ^ 63 → FitsSigned w64 t
fits x t e h = subst (FitsSigned w64) (sym e) (fits_signed_from_abs w64 x h)

word_of : (x t : ℤ) → t ≡ x → unsigned_abs x < 2 ^ 63 → to_z w64 (of_z w64 t) ≡ x
word_of x t e h = ap (λ s. to_z w64 (of_z w64 s)) e ∙ same_word x h

-- numbers of the same bits
pub same_bits : (x t y : ℤ) → Little x → of_z w64 x ≡ of_z w64 t → to_z w64 (of_z w64 t) ≡ y → x ≡ y
same_bits x t y h e f = sym (little_word x h) ∙ ap (to_z w64) e ∙ f

-- ---- what is read of two small numbers, multiplied
factors : (x y : ℤ) → Little x → Little y → to_z w64 (of_z w64 x) *ℤ to_z w64 (of_z w64 y) ≡ x *ℤ y
factors x y h k = ap₂ ◌*ℤ◌ (little_word x h) (little_word y k)

pub fits_product : (x y : ℤ) → Little x → Little y → FitsSigned w64 (to_z w64 (of_z w64 x) *ℤ to_z w64 (of_z w64 y))
fits_product x y h k = fits (x *ℤ y) _ (factors x y h k) (omega (arith, product_size x y h k))

pub product_word : (x y : ℤ) → Little x → Little y → to_z w64 (of_z w64 (to_z w64 (of_z w64 x) *ℤ to_z w64 (of_z w64 y))) ≡ x *ℤ y
product_word x y h k = word_of (x *ℤ y) _ (factors x y h k) (omega (arith, product_size x y h k))

-- ---- three of them
short_sum : (e x y : ℤ) → Little e → Little x → Little y
    → to_z w64 (of_z w64 e) +ℤ to_z w64 (of_z w64 (to_z w64 (of_z w64 x) *ℤ to_z w64 (of_z w64 y))) ≡ e +ℤ x *ℤ y
short_sum e x y g h k = ap₂ ◌+ℤ◌ (little_word e g) (product_word x y h k)

short_size : (e x y : ℤ) → Little e → Little x → Little y → unsigned_abs (e +ℤ x *ℤ y) < 2 ^ 63
short_size e x y g h k = sum_size e (x *ℤ y) (omega (arith, g)) (omega (arith, product_size x y h k))

pub fits_short_sum : (e x y : ℤ) → Little e → Little x → Little y
    → FitsSigned w64 (to_z w64 (of_z w64 e) +ℤ to_z w64 (of_z w64 (to_z w64 (of_z w64 x) *ℤ to_z w64 (of_z w64 y))))
fits_short_sum e x y g h k = fits (e +ℤ x *ℤ y) _ (short_sum e x y g h k) (short_size e x y g h k)

pub short_sum_word : (e x y : ℤ) → Little e → Little x → Little y
    → to_z w64 (of_z w64 (to_z w64 (of_z w64 e) +ℤ to_z w64 (of_z w64 (to_z w64 (of_z w64 x) *ℤ to_z w64 (of_z w64 y))))) ≡ e +ℤ x *ℤ y
short_sum_word e x y g h k = word_of (e +ℤ x *ℤ y) _ (short_sum e x y g h k) (short_size e x y g h k)

before : (e x y : ℤ) → Little e → Little x → Little y
    → to_z w64 (of_z w64 e) *ℤ to_z w64 (of_z w64 (to_z w64 (of_z w64 x) *ℤ to_z w64 (of_z w64 y))) ≡ e *ℤ (x *ℤ y)
before e x y g h k = ap₂ ◌*ℤ◌ (little_word e g) (product_word x y h k)

before_size : (e x y : ℤ) → Little e → Little x → Little y → unsigned_abs (e *ℤ (x *ℤ y)) ≤ 2 ^ 60
before_size e x y g h k = wide_size e (x *ℤ y) g (product_size x y h k)

pub fits_before : (e x y : ℤ) → Little e → Little x → Little y
    → FitsSigned w64 (to_z w64 (of_z w64 e) *ℤ to_z w64 (of_z w64 (to_z w64 (of_z w64 x) *ℤ to_z w64 (of_z w64 y))))
fits_before e x y g h k = fits (e *ℤ (x *ℤ y)) _ (before e x y g h k) (omega (arith, before_size e x y g h k))

pub before_word : (e x y : ℤ) → Little e → Little x → Little y
    → to_z w64 (of_z w64 (to_z w64 (of_z w64 e) *ℤ to_z w64 (of_z w64 (to_z w64 (of_z w64 x) *ℤ to_z w64 (of_z w64 y))))) ≡ e *ℤ (x *ℤ y)
before_word e x y g h k = word_of (e *ℤ (x *ℤ y)) _ (before e x y g h k) (omega (arith, before_size e x y g h k))

behind : (x y e : ℤ) → Little x → Little y → Little e
    → to_z w64 (of_z w64 (to_z w64 (of_z w64 x) *ℤ to_z w64 (of_z w64 y))) *ℤ to_z w64 (of_z w64 e) ≡ (x *ℤ y) *ℤ e
behind x y e h k g = ap₂ ◌*ℤ◌ (product_word x y h k) (little_word e g)

behind_size : (x y e : ℤ) → Little x → Little y → Little e → unsigned_abs ((x *ℤ y) *ℤ e) ≤ 2 ^ 60
behind_size x y e h k g = long_size (x *ℤ y) e (product_size x y h k) g

pub fits_behind : (x y e : ℤ) → Little x → Little y → Little e
    → FitsSigned w64 (to_z w64 (of_z w64 (to_z w64 (of_z w64 x) *ℤ to_z w64 (of_z w64 y))) *ℤ to_z w64 (of_z w64 e))
fits_behind x y e h k g = fits ((x *ℤ y) *ℤ e) _ (behind x y e h k g) (omega (arith, behind_size x y e h k g))

behind_word : (x y e : ℤ) → Little x → Little y → Little e
    → to_z w64 (of_z w64 (to_z w64 (of_z w64 (to_z w64 (of_z w64 x) *ℤ to_z w64 (of_z w64 y))) *ℤ to_z w64 (of_z w64 e))) ≡ (x *ℤ y) *ℤ e
behind_word x y e h k g = word_of ((x *ℤ y) *ℤ e) _ (behind x y e h k g) (omega (arith, behind_size x y e h k g))

-- ---- six of them
both : (e u v x y w : ℤ) → Little e → Little u → Little v → Little x → Little y → Little w
    → to_z w64 (of_z w64 (to_z w64 (of_z w64 e) *ℤ to_z w64 (of_z w64 (to_z w64 (of_z w64 u) *ℤ to_z w64 (of_z w64 v)))))
    +ℤ to_z w64 (of_z w64 (to_z w64 (of_z w64 (to_z w64 (of_z w64 x) *ℤ to_z w64 (of_z w64 y))) *ℤ to_z w64 (of_z w64 w)))
    ≡ e *ℤ (u *ℤ v) +ℤ (x *ℤ y) *ℤ w
both e u v x y w g h i k l m = ap₂ ◌+ℤ◌ (before_word e u v g h i) (behind_word x y w k l m)

both_size : (e u v x y w : ℤ) → Little e → Little u → Little v → Little x → Little y → Little w → unsigned_abs (e *ℤ (u *ℤ v) +ℤ (x *ℤ y) *ℤ w) < 2 ^ 63
both_size e u v x y w g h i k l m = sum_size (e *ℤ (u *ℤ v)) ((x *ℤ y) *ℤ w) (before_size e u v g h i) (behind_size x y w k l m)

pub fits_both : (e u v x y w : ℤ) → Little e → Little u → Little v → Little x → Little y → Little w
    → FitsSigned w64 (to_z w64 (of_z w64 (to_z w64 (of_z w64 e) *ℤ to_z w64 (of_z w64 (to_z w64 (of_z w64 u) *ℤ to_z w64 (of_z w64 v)))))
    +ℤ to_z w64 (of_z w64 (to_z w64 (of_z w64 (to_z w64 (of_z w64 x) *ℤ to_z w64 (of_z w64 y))) *ℤ to_z w64 (of_z w64 w))))
fits_both e u v x y w g h i k l m = fits (e *ℤ (u *ℤ v) +ℤ (x *ℤ y) *ℤ w) _ (both e u v x y w g h i k l m) (both_size e u v x y w g h i k l m)

pub both_word : (e u v x y w : ℤ) → Little e → Little u → Little v → Little x → Little y → Little w
    → to_z w64 (of_z w64 (to_z w64 (of_z w64 (to_z w64 (of_z w64 e) *ℤ to_z w64 (of_z w64 (to_z w64 (of_z w64 u) *ℤ to_z w64 (of_z w64 v)))))
    +ℤ to_z w64 (of_z w64 (to_z w64 (of_z w64 (to_z w64 (of_z w64 x) *ℤ to_z w64 (of_z w64 y))) *ℤ to_z w64 (of_z w64 w)))))
    ≡ e *ℤ (u *ℤ v) +ℤ (x *ℤ y) *ℤ w
both_word e u v x y w g h i k l m = word_of (e *ℤ (u *ℤ v) +ℤ (x *ℤ y) *ℤ w) _ (both e u v x y w g h i k l m) (both_size e u v x y w g h i k l m)

-- ---- the fraction of what is read
-- the parts of a small fraction
abbrev pub AreParts : ℚ → ℤ × ℤ → Type 0
AreParts x p = (p.0 ≡ numerator x) × (p.1 ≡ pos (denominator x)) × (unsigned_abs p.0 < 2 ^ 20) × (denominator x < 2 ^ 20)

pub small : (x : ℚ) (n d : ℤ) → AreParts x (n, d) → IsSmall x
small x n d p = record { num = subst (λ t. unsigned_abs t < 2 ^ 20) p.0 p.2; den = p.3 }

pub little_below : (x : ℚ) (n d : ℤ) → AreParts x (n, d) → Little d
little_below x n d p = subst (λ t. unsigned_abs t < 2 ^ 20) (sym p.1) p.3

is_step : (a b c : ℚ) (n d : ℤ) (r : Option ℚ) → IsSmall a → IsSmall b → IsSmall c → whole_ℚ n /ℚ whole_ℚ d ≡ a +ℚ b *ℚ c
    → IfSome r (λ f. (f ≡ whole_ℚ n /ℚ whole_ℚ d) × IsNarrow f) → IfSome r (λ f. (f ≡ a +ℚ b *ℚ c) × IsNarrowStep a b c)
is_step a b c n d None h k l e f = tt
is_step a b c n d (Some x) h k l e f = let i : x ≡ a +ℚ b *ℚ c = f.0 ∙ e in (i, small_step_narrow a b c h k l (subst IsNarrow i f.1))

-- over one denominator
over_one : (a b c : ℚ) → denominator a ≡ denominator b * denominator c
    → whole_ℚ (numerator a +ℤ numerator b *ℤ numerator c) /ℚ whole_ℚ (pos (denominator b * denominator c)) ≡ a +ℚ b *ℚ c
over_one a b c e =
    let p : 0 < denominator b * denominator c = mul-pos (den_pos b) (den_pos c) in
    let w = whole_ℚ (pos (denominator b * denominator c)) in
    ap (λ t. t /ℚ w) (whole-add (numerator a) (numerator b *ℤ numerator c))
    ∙ add-mul (whole_ℚ (numerator a)) (whole_ℚ (numerator b *ℤ numerator c)) (inv_ℚ w)
    ∙ ap₂ ◌+ℚ◌ (quotient-is (numerator a) (denominator b * denominator c) p ∙ ap (frac (numerator a)) (sym e) ∙ frac_self a)
    (quotient-is (numerator b *ℤ numerator c) (denominator b * denominator c) p ∙ sym (product_is b c))

-- over the product of all three
over_all : (a b c : ℚ) → whole_ℚ (numerator a *ℤ pos (denominator b * denominator c) +ℤ (numerator b *ℤ numerator c) *ℤ pos (denominator a))
    /ℚ whole_ℚ (pos (denominator a * (denominator b * denominator c))) ≡ a +ℚ b *ℚ c
over_all a b c =
    let p : 0 < denominator b * denominator c = mul-pos (den_pos b) (den_pos c) in
    quotient-is (numerator a *ℤ pos (denominator b * denominator c) +ℤ (numerator b *ℤ numerator c) *ℤ pos (denominator a)) (denominator a * (denominator b * denominator c)) (mul-pos (den_pos a) p)
    ∙ sym (frac-add (numerator a) (numerator b *ℤ numerator c) (denominator a) (denominator b * denominator c) (den_pos a) p)
    ∙ ap₂ ◌+ℚ◌ (frac_self a) (sym (product_is b c))

pub step_over_one : (a b c : ℚ) (e u x v y w n d : ℤ) (r : Option ℚ) → AreParts a (e, u) → AreParts b (x, v) → AreParts c (y, w) → u ≡ v *ℤ w
    → n ≡ e +ℤ x *ℤ y → d ≡ v *ℤ w → IfSome r (λ f. (f ≡ whole_ℚ n /ℚ whole_ℚ d) × IsNarrow f) → IfSome r (λ f. (f ≡ a +ℚ b *ℚ c) × IsNarrowStep a b c)
step_over_one a b c e u x v y w n d r p q s one top below f =
    let over : v *ℤ w ≡ pos (denominator b * denominator c) = ap₂ ◌*ℤ◌ q.1 s.1 in
    let same : pos (denominator a) ≡ pos (denominator b * denominator c) = sym p.1 ∙ one ∙ over in
    is_step a b c n d r (small a e u p) (small b x v q) (small c y w s)
    (ap₂ (λ s t. whole_ℚ s /ℚ whole_ℚ t) (top ∙ ap₂ ◌+ℤ◌ p.0 (ap₂ ◌*ℤ◌ q.0 s.0)) (below ∙ over) ∙ over_one a b c (ap unsigned_abs same)) f

pub step_over_all : (a b c : ℚ) (e u x v y w n d : ℤ) (r : Option ℚ) → AreParts a (e, u) → AreParts b (x, v) → AreParts c (y, w)
    → n ≡ e *ℤ (v *ℤ w) +ℤ (x *ℤ y) *ℤ u → d ≡ u *ℤ (v *ℤ w)
    → IfSome r (λ f. (f ≡ whole_ℚ n /ℚ whole_ℚ d) × IsNarrow f) → IfSome r (λ f. (f ≡ a +ℚ b *ℚ c) × IsNarrowStep a b c)
step_over_all a b c e u x v y w n d r p q s top below f =
    let over : v *ℤ w ≡ pos (denominator b * denominator c) = ap₂ ◌*ℤ◌ q.1 s.1 in
    is_step a b c n d r (small a e u p) (small b x v q) (small c y w s)
    (ap₂ (λ s t. whole_ℚ s /ℚ whole_ℚ t)
    (top ∙ ap₂ ◌+ℤ◌ (ap₂ ◌*ℤ◌ p.0 over) (ap₂ ◌*ℤ◌ (ap₂ ◌*ℤ◌ q.0 s.0) p.1))
    (below ∙ ap₂ ◌*ℤ◌ p.1 over) ∙ over_all a b c) f

pub not_over_zero : (a b c : ℚ) (e u x v y w t : ℤ) → AreParts a (e, u) → AreParts b (x, v) → AreParts c (y, w) → t ≡ u *ℤ (v *ℤ w) → t ≢ pos 0
not_over_zero a b c e u x v y w t p q s i z =
    let above : 0 < denominator a * (denominator b * denominator c) = mul-pos (den_pos a) (mul-pos (den_pos b) (den_pos c)) in
    let value : pos (denominator a * (denominator b * denominator c)) ≡ pos 0 = sym (ap₂ ◌*ℤ◌ p.1 (ap₂ ◌*ℤ◌ q.1 s.1)) ∙ sym i ∙ z in
    let none : denominator a * (denominator b * denominator c) ≡ 0 = ap unsigned_abs value in
    omega (arith, above, none)

-- ---- a whole number of 64 bits
abs_of_word : (n : ℤ) → FitsSigned w64 n → unsigned_abs n ≤ 2 ^ 63
abs_of_word (pos n) f = let h : n < 2 ^ 63 = f.sfits in omega (arith, h)
abs_of_word (negsuc n) f = let h : n < 2 ^ 63 = f.sfits in omega (arith, h)

pub whole_over_one : (n d : ℤ) (x : ℚ) → FitsSigned w64 n → FitsSigned w64 d → of_z w64 d ≡ 1 → x ≡ whole_ℚ (to_z w64 (of_z w64 n)) → (x ≡ whole_ℚ n /ℚ whole_ℚ d) × IsNarrow x
whole_over_one n d x f g e i =
    let one : 0 < 1 = omega arith in
    let w : x ≡ whole_ℚ n = i ∙ ap whole_ℚ (to_z-of_z w64 n f) in
    let narrow : IsNarrowWhole n = omega (arith, abs_of_word n f) in
    (w ∙ sym (ap (λ t. whole_ℚ n /ℚ whole_ℚ t) (sym (to_z-of_z w64 d g) ∙ ap (to_z w64) e) ∙ quotient-is n 1 one), subst IsNarrow (sym w) ((narrow-whole n).0 narrow))

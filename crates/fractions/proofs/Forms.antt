-- Values of affine forms.
use Rattle.std.proofs.Common.{◌≡◌, ℕ, refl, sym, ap, ap₂, ◌∙◌, List, [], ◌∷◌}
use Rattle.fractions.specs.Rational.{ℚ, ◌+ℚ◌, ◌*ℚ◌, zero_ℚ, ◌<ℚ◌, one_ℚ}
use Rattle.fractions.specs.Vectors.{dot, plus, at, without}
use Rattle.fractions.specs.Forms.{Affine, eval, affine_add, affine_scale, affine_put}
use Rattle.fractions.proofs.Laws.{ring_laws, add_assoc, add_right_cancel}
use Rattle.fractions.proofs.Vectors.{dot-plus, dot_comm, dot-times, dot-without}
use Rattle.fractions.proofs.Signs.{some_positive}
use Rattle.fractions.proofs.Quote.{quotes, by_ring, by_equation}

pub eval-add : (a b : Affine) (x : List ℚ) → eval (affine_add a b) x ≡ eval a x +ℚ eval b x
eval-add a b x = simp (dot-plus, ring_laws)

pub eval-scale : (k : ℚ) (a : Affine) (x : List ℚ) → eval (affine_scale k a) x ≡ k *ℚ eval a x
eval-scale k a x = simp (dot-times, ring_laws)

pub eval-put : (a b : Affine) (i : ℕ) (x : List ℚ) → at x i ≡ eval b x → eval (affine_put a i b) x ≡ eval a x
eval-put a b i x e =
    eval-add record { constant = a.constant; coefficients = without a.coefficients i } (affine_scale (at a.coefficients i) b) x
    ∙ ap (λ t. (a.constant +ℚ dot (without a.coefficients i) x) +ℚ t) (eval-scale (at a.coefficients i) b x ∙ ap (λ t. at a.coefficients i *ℚ t) (sym e))
    ∙ add_assoc _ _ _
    ∙ ap (λ t. a.constant +ℚ t) (sym (dot-without a.coefficients x i))

-- a step along a direction adds the direction's part
pub eval-plus : (a : Affine) (x d : List ℚ) → eval a (plus x d) ≡ eval a x +ℚ dot a.coefficients d
eval-plus a x d =
    by_equation one_ℚ (dot_comm a.coefficients (plus x d) ∙ dot-plus x d a.coefficients ∙ ap₂ ◌+ℚ◌ (dot_comm x a.coefficients) (dot_comm d a.coefficients))
    (a.constant ∷ dot a.coefficients (plus x d) ∷ dot a.coefficients x ∷ dot a.coefficients d ∷ []) (search quotes depth 20) (search quotes depth 20) refl

-- two forms that agree at a point and one step further agree along the step
pub agree_along : (f g : Affine) (x d : List ℚ) → eval f x ≡ eval g x → eval f (plus x d) ≡ eval g (plus x d) → dot f.coefficients d ≡ dot g.coefficients d
agree_along f g x d h i =
    add_right_cancel _ _ (eval f x)
    (by_ring (eval f x ∷ dot f.coefficients d ∷ []) (search quotes depth 20) (search quotes depth 20) refl
    ∙ sym (eval-plus f x d) ∙ i ∙ eval-plus g x d ∙ ap (λ t. t +ℚ dot g.coefficients d) (sym h)
    ∙ by_ring (eval f x ∷ dot g.coefficients d ∷ []) (search quotes depth 20) (search quotes depth 20) refl)

-- so where the one grows along the step, the other has a variable whose coefficient and step have one sign
pub some_agreeing : (f g : Affine) (x d : List ℚ) → eval f x ≡ eval g x → eval f (plus x d) ≡ eval g (plus x d) → zero_ℚ <ℚ dot f.coefficients d
    → (i : ℕ) × (zero_ℚ <ℚ at g.coefficients i *ℚ at d i)
some_agreeing f g x d h i p = some_positive g.coefficients d (rw (agree_along f g x d h i) at p)

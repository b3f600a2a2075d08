use Rattle.std.proofs.Common.{◌≡◌, ◌∙◌, ap, sym, Some}
use Rattle.std.specs.Prelude.{◌&&◌}
use Rattle.fractions.specs.Rational.{eq_ℚ, ◌/ℚ◌, ◌*ℚ◌}
use Rattle.affine_forms.specs.Forms.{coefficient}
use Rattle.affine_forms.specs.Steps.{multiple_of}
use Rattle.affine_forms.proofs.Stepping.{is_wide}
use Rattle.affine_forms.proofs.Ratios.{first_there, terms_stop, terms_give}
use Rattle.affine_forms.proofs.form.Form.multiple_of.Goals as goal

pub returns-in_err-same : goal.returns-in_err-same
returns-in_err-same c =
    let t = c.args.other.now in
    let f = c.args.self.now in
    let u = c.index-terms-0.result in
    let first = first_there t.terms u c.requires (rw c.terms.ensures.terms at c.index-terms-0.is) in
    let coefficient_is : c.coefficient_of.result ≡ coefficient f.terms u.0 = c.coefficient_of.ensures ∙ ap (λ ts. coefficient ts u.0) c.terms-2.ensures.terms in
    is_wide (multiple_of f t) c.from_residual-in_err-same.result c.from_residual-in_err-same.ensures.0
    (terms_stop f t u first.0 first.1 c.in_ok-k.k (c.in_ok-k.ensures.0 ∙ ap (λ x. x /ℚ u.1) coefficient_is) (rw coefficient_is at c.in_ok-k.ensures.1) c.in_ok-base.base
    (c.in_ok-base.ensures.0 ∙ ap (λ x. x *ℚ c.in_ok-k.k) c.base.ensures) (rw c.base.ensures at c.in_ok-base.ensures.1) (rw (c.terms-3.ensures.terms, c.terms-4.ensures.terms) at c.in_err-same.ensures))

pub returns-then-equal : goal.returns-then-equal
returns-then-equal c =
    let t = c.args.other.now in
    let f = c.args.self.now in
    let u = c.index-terms-0.result in
    let first = first_there t.terms u c.requires (rw c.terms.ensures.terms at c.index-terms-0.is) in
    let coefficient_is : c.coefficient_of.result ≡ coefficient f.terms u.0 = c.coefficient_of.ensures ∙ ap (λ ts. coefficient ts u.0) c.terms-2.ensures.terms in
    terms_give f t u first.0 first.1 c.in_ok-k.k (c.in_ok-k.ensures.0 ∙ ap (λ x. x /ℚ u.1) coefficient_is) (rw coefficient_is at c.in_ok-k.ensures.1) c.in_ok-base.base
    (c.in_ok-base.ensures.0 ∙ ap (λ x. x *ℚ c.in_ok-k.k) c.base.ensures) (rw c.base.ensures at c.in_ok-base.ensures.1) c.in_ok-same.same (rw (c.terms-3.ensures.terms, c.terms-4.ensures.terms) at c.in_ok-same.ensures)
    ∙ ap (λ b. Some (b && c.in_ok-same.same)) (sym (c.equal.ensures ∙ ap (λ x. eq_ℚ x c.in_ok-base.base) c.base-2.ensures) ∙ c.if-equal.true)

pub returns-else-equal : goal.returns-else-equal
returns-else-equal c =
    let t = c.args.other.now in
    let f = c.args.self.now in
    let u = c.index-terms-0.result in
    let first = first_there t.terms u c.requires (rw c.terms.ensures.terms at c.index-terms-0.is) in
    let coefficient_is : c.coefficient_of.result ≡ coefficient f.terms u.0 = c.coefficient_of.ensures ∙ ap (λ ts. coefficient ts u.0) c.terms-2.ensures.terms in
    terms_give f t u first.0 first.1 c.in_ok-k.k (c.in_ok-k.ensures.0 ∙ ap (λ x. x /ℚ u.1) coefficient_is) (rw coefficient_is at c.in_ok-k.ensures.1) c.in_ok-base.base
    (c.in_ok-base.ensures.0 ∙ ap (λ x. x *ℚ c.in_ok-k.k) c.base.ensures) (rw c.base.ensures at c.in_ok-base.ensures.1) c.in_ok-same.same (rw (c.terms-3.ensures.terms, c.terms-4.ensures.terms) at c.in_ok-same.ensures)
    ∙ ap (λ b. Some (b && c.in_ok-same.same)) (sym (c.equal.ensures ∙ ap (λ x. eq_ℚ x c.in_ok-base.base) c.base-2.ensures) ∙ c.if-equal.false) ∙ ap Some (sym c.if-equal.false)

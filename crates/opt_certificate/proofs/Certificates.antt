-- What a certificate claims is true.
use Rattle.std.proofs.Common.{◌≡◌, sym, Option, Some, None, subst}
use Rattle.fractions.specs.Rational.{ℚ, neg_ℚ, ◌≤ℚ◌}
use Rattle.fractions.proofs.Order.{neg_le}
use Rattle.fractions.proofs.Tests.{lt_iff}
use Rattle.fractions.proofs.Laws.{neg-neg}
use Rattle.optimality.specs.Problem.{Assignment, Goal, greatest, least, reach}
use Rattle.optimality.specs.Optimal.{IsBetter}
use Rattle.affine_forms.specs.Forms.{AffineForm}
use Rattle.linear_models.specs.Worths.{form_at}
use Rattle.linear_models.specs.Model.{Model, IsPoint, maximised, objective_of, IsValid}
use Rattle.opt_certificate.specs.Certificate.{Tree, optimal, infeasible, unbounded, CertificatesHold, Proves}
use Rattle.affine_forms.specs.Assigned.{assigned}
use Rattle.affine_forms.proofs.Worths.{negated_worth}
use Rattle.linear_models.proofs.Permits.{points_are_permitted}
use Rattle.opt_certificate.proofs.Trees.{tree_proves, Below}
use Rattle.opt_certificate.proofs.WaysOut.{way_out}

some_is : {x y : ℚ} → Some x ≡ Some y → x ≡ y
some_is e = cc

-- what is better has a greater maximised form
not_better : (g : Goal) (f : AffineForm) (a b : Assignment) (x y : ℚ) → Some x ≡ objective_of g f b → Some y ≡ objective_of g f a → form_at (maximised g f) b ≤ℚ form_at (maximised g f) a → IsBetter g x y → ⊥
not_better greatest f a b x y e q h w = (lt_iff _ _).0 w (subst (λ t. t ≤ℚ y) (sym (some_is e)) (subst (λ t. form_at f b ≤ℚ t) (sym (some_is q)) h))
not_better least f a b x y e q h w =
    let k : form_at f a ≤ℚ form_at f b = rw (neg-neg, neg-neg) at (neg_le _ _ (subst (λ t. t ≤ℚ neg_ℚ (form_at f a)) (negated_worth (assigned b) f) (subst (λ t. form_at (maximised least f) b ≤ℚ t) (negated_worth (assigned a) f) h))) in
    (lt_iff _ _).0 w (subst (λ t. t ≤ℚ x) (sym (some_is q)) (subst (λ t. form_at f a ≤ℚ t) (sym (some_is e)) k))
not_better (reach v) f a b x y e q h w = w

tree_holds : (m : Model) (target : Option ℚ) (t : Tree) (a : Assignment) → IsValid m → IsPoint m a → Proves m target m.bounds t → Below target (form_at (maximised m.goal m.objective) a)
tree_holds m target t a v p h = tree_proves m target m.bounds t a v record { least = v.least; greatest = v.greatest } p.one_each p.rows p.whole p.different p.bounds h

pub certificates_hold : CertificatesHold
certificates_hold m tree (optimal a) v h = record {
  permitted = (points_are_permitted m a).1 h.0;
  best = λ b pb w. not_better m.goal m.objective a b w.mine w.other (sym w.mine_is) (sym w.other_is) (tree_holds m (Some (form_at (maximised m.goal m.objective) a)) h.1.0 b v ((points_are_permitted m b).0 pb) h.1.2) w.better;
}
certificates_hold m tree infeasible v h = λ a p. tree_holds m None h.0 a v ((points_are_permitted m a).0 p) h.2
certificates_hold m tree (unbounded a d) v h = way_out m a d v h.0 h.1

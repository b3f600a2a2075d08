use Rattle.std.proofs.Common.{sym, subst, length}
use Rattle.affine_forms.specs.Forms.{AffineForm}
use Rattle.affine_forms.specs.Assigned.{ReachTo}
use Rattle.linear_models.proofs.Reach.{reach_negated}
use Rattle.lin_model.proofs.standard.opposite_row.Goals as goal

pub form_row-requires : goal.form_row-requires
form_row-requires c = record {
  below = subst (λ (f : AffineForm). ReachTo f.terms (length c.args.splits.now)) (sym c.in_ok-form.ensures.ok) (reach_negated _ _ c.requires.below);
}

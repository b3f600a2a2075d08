use Rattle.std.proofs.Common.{ap, ◌∙◌, List, [], ◌∷◌, ◌++◌}
use Rattle.optimality.specs.Problem.{Relation}
use Rattle.affine_forms.specs.Forms.{AffineForm}
use Rattle.std.specs.Option.{option_map}
use Rattle.calculations.proofs.CalculationLaws.{narrow-turned_into}
use Rattle.affine_forms.specs.Steps.{subtracted}
use Rattle.optimality.specs.Kinds.{relation_of}
use Rattle.lin_model.proofs.rows.push_difference.Goals as goal

pub returns-in_ok-push-in-Ok : goal.returns-in_ok-push-in-Ok
returns-in_ok-push-in-Ok c =
    let f : AffineForm → List (AffineForm × Relation) = λ d. (d, relation_of c.args.relation) ∷ [] in
    (f c.in-Ok.difference, narrow-turned_into f (subtracted c.args.left.now c.args.right.now) ∙ ap (option_map f) c.in-Ok.ensures.answer, c.in_ok-push-in-Ok.ensures.items ∙ ap (λ row. c.args.rows.now.items ++ row ∷ []) c.new.ensures)

pub returns-in-Err-Wide : goal.returns-in-Err-Wide
returns-in-Err-Wide c =
    let f : AffineForm → List (AffineForm × Relation) = λ d. (d, relation_of c.args.relation) ∷ [] in
    narrow-turned_into f (subtracted c.args.left.now c.args.right.now) ∙ ap (option_map f) (rw c.in-Err-Wide.field-0-is at c.in-Err-Wide.ensures.answer)

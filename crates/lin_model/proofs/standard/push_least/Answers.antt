use Rattle.std.proofs.lemmas.Bool.{false≢true}
use Rattle.std.proofs.Common.{sym, ap, ◌∙◌, ◌++◌, ◌∷◌, [], map, append-nil, arith}
use Rattle.fractions.specs.Rational.{neg_ℚ}
use Rattle.linear_models.specs.Standard.{limits_of_least, program_row}
use Rattle.lin_model.proofs.Signs.{is_minus_one, least_none, least_some}
use Rattle.lin_model.proofs.standard.push_least.Goals as goal

pub returns-then-is_zero : goal.returns-then-is_zero
returns-then-is_zero c =
    sym (append-nil _)
    ∙ ap (λ fs. c.args.rows.now.items ++ map (program_row c.args.splits.now) fs) (sym (ap (limits_of_least c.args.decision) c.in-Some.is ∙ least_none c.args.decision c.in-Some.least (c.is_zero.ensures.0 c.if-is_zero.true)))

pub row-requires-clause-rising : goal.row-requires-clause-rising
row-requires-clause-rising c = (omega arith, is_minus_one _ _ c.one.ensures c.neg-minus_one.ensures, tt)

pub returns : goal.returns
returns c =
    c.in_ok-push.ensures.items
    ∙ ap (λ r. c.args.rows.now.items ++ r ∷ []) (c.in_ok-row.ensures ∙ ap (λ x. program_row c.args.splits.now record { constant = c.in-Some.least; terms = (c.args.decision, x) ∷ [] }) (c.neg-minus_one.ensures ∙ ap neg_ℚ c.one.ensures))
    ∙ ap (λ fs. c.args.rows.now.items ++ map (program_row c.args.splits.now) fs) (sym (ap (limits_of_least c.args.decision) c.in-Some.is ∙ least_some c.args.decision c.in-Some.least (λ e. absurd (false≢true (sym c.if-is_zero.false ∙ c.is_zero.ensures.1 e)))))

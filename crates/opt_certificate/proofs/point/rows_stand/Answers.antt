use Rattle.std.proofs.Common.{sym, subst, arith, List}
use Rattle.std.specs.Prelude.{All}
use Rattle.std.proofs.lemmas.List.{take_all}
use Rattle.std.proofs.lemmas.List.Elements.{All-more}
use Rattle.std.proofs.lemmas.Result.{err_from_is_err_and}
use Rattle.optimality.specs.Problem.{Relation}
use Rattle.affine_forms.specs.Forms.{AffineForm}
use Rattle.opt_certificate.specs.Rows.{RowIsNarrow, RowStands}
use Rattle.opt_certificate.proofs.point.rows_stand.Goals as goal

pub returns-in_err-row_stands : goal.returns-in_err-row_stands
returns-in_err-row_stands c =
    let p = err_from_is_err_and c.from_residual.result c.from_residual.ensures.1 in
    rw p.1 (λ n. c.in_err-row_stands.ensures (subst (RowIsNarrow c.args.with_constant c.args.point.now) (sym c.row-item.is) (n c.loop-row.row-index c.row-item.result (omega arith))))

pub loop-row-preserved : goal.loop-row-preserved
loop-row-preserved c =
    let j = rw c.if-not-branch.false at c.in_ok-row_stands.ensures in
    record {
      stand = All-more (RowStands c.args.with_constant c.args.point.now) c.args.rows.now c.loop-row.row-index c.row-item.result (omega arith) c.loop-row.invariant.stand (subst (RowStands c.args.with_constant c.args.point.now) c.row-item.is j.0);
      narrow = All-more (RowIsNarrow c.args.with_constant c.args.point.now) c.args.rows.now c.loop-row.row-index c.row-item.result (omega arith) c.loop-row.invariant.narrow (subst (RowIsNarrow c.args.with_constant c.args.point.now) c.row-item.is j.1);
    }

pub returns : goal.returns
returns c =
    let e = take_all c.loop-row.row-index c.args.rows.now (omega arith) in
    (subst (λ (rs : List (AffineForm × Relation)). All (RowStands c.args.with_constant c.args.point.now) rs) e c.loop-row.invariant.stand, subst (λ (rs : List (AffineForm × Relation)). All (RowIsNarrow c.args.with_constant c.args.point.now) rs) e c.loop-row.invariant.narrow)

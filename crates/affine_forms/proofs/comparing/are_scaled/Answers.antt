use Rattle.std.proofs.Common.{◌≡◌, ◌∙◌, ◌≤◌, ◌+◌, Bool, true, false, true≢false, Some, ap, sym, length, arith}
use Rattle.std.specs.Prelude.{◌&&◌, leb}
use Rattle.calculations.specs.Calculation.{turned_into}
use Rattle.calculations.proofs.CalculationLaws.{narrow-turned_into}
use Rattle.affine_forms.specs.Forms.{same_terms}
use Rattle.affine_forms.specs.Steps.{scaled_terms}
use Rattle.affine_forms.proofs.Stepping.{is_wide}
use Rattle.affine_forms.proofs.TermSteps.{rest_from}
use Rattle.affine_forms.proofs.SideBySide.{compared_stop, compared_next, compared_on, compared_end, and_true, and_false}
use Rattle.affine_forms.proofs.comparing.are_scaled.Goals as goal
use Rattle.affine_forms.proofs.comparing.are_scaled.Goals.{then-not-is_zero, then-same, else-same, else-not-is_zero}

pub returns-in_err-product : goal.returns-in_err-product
returns-in_err-product c =
    let rest = rest_from c.args.others.now c.loop-j.j-index c.loop-j-item.result (omega arith) c.loop-j-item.is in
    is_wide (turned_into (same_terms c.args.terms.now) (scaled_terms c.args.k c.args.others.now)) c.from_residual.result c.from_residual.ensures.0
    (narrow-turned_into (same_terms c.args.terms.now) (scaled_terms c.args.k c.args.others.now)
    ∙ compared_stop _ c.loop-j.same _ _ _ c.loop-j-item.result c.args.k rest c.loop-j.invariant.narrow c.in_err-product.ensures)

not_both : (b : Bool) → b ≡ false → b ≡ true → ⊥
not_both b e f = true≢false (sym f ∙ e)

pub loop-j-preserved : goal.loop-j-preserved
loop-j-preserved c =
    let rest = rest_from c.args.others.now c.loop-j.j-index c.loop-j-item.result (omega arith) c.loop-j-item.is in
    elim c.if-not-is_zero.branch [
      | then-not-is_zero w ↦
          let n : c.if-not-is_zero.same ≡ (c.loop-j.same && w.is_at-here.result) =
          elim w.if-same.branch [
            | then-same v ↦ and_true _ _ _ v.if-same.true (w.same-is ∙ v.same-is)
            | else-same v ↦ and_false _ _ _ v.if-same.false (w.same-is ∙ v.same-is ∙ v.if-same.false)
          ]
          in
          record {
            behind = let e : c.if-not-is_zero.i ≡ c.loop-j.i + 1 = w.i-is in let b : c.loop-j.i ≤ c.loop-j.j-index = c.loop-j.invariant.behind in omega arith;
            narrow =
                compared_next _ c.loop-j.same _ w.is_at-here.result c.args.terms.now _ _ c.loop-j.i _ c.loop-j-item.result c.args.k c.in_ok-product.product rest c.loop-j.invariant.narrow
                c.in_ok-product.ensures.0 c.in_ok-product.ensures.1 (λ z. not_both c.is_zero.result w.if-not-is_zero.true (c.is_zero.ensures.1 z)) w.is_at-here.ensures n w.i-is;
          }
      | else-not-is_zero w ↦
          record {
            behind = let e : c.if-not-is_zero.i ≡ c.loop-j.i = w.i-is in let b : c.loop-j.i ≤ c.loop-j.j-index = c.loop-j.invariant.behind in omega arith;
            narrow =
                compared_on _ c.loop-j.same _ c.args.terms.now _ _ c.loop-j.i _ c.loop-j-item.result c.args.k c.in_ok-product.product rest c.loop-j.invariant.narrow
                c.in_ok-product.ensures.0 c.in_ok-product.ensures.1 (c.is_zero.ensures.0 w.if-not-is_zero.false) w.same-is w.i-is;
          }
    ]

pub returns-then-same-2 : goal.returns-then-same-2
returns-then-same-2 c =
    narrow-turned_into (same_terms c.args.terms.now) (scaled_terms c.args.k c.args.others.now)
    ∙ compared_end _ c.loop-j.same c.args.terms.now c.args.others.now c.loop-j.i _ c.args.k (omega arith) c.loop-j.invariant.narrow
    ∙ ap (λ b. Some (b && leb (length c.args.terms.now) c.loop-j.i)) c.if-same-2.true

pub returns-else-same-2 : goal.returns-else-same-2
returns-else-same-2 c =
    narrow-turned_into (same_terms c.args.terms.now) (scaled_terms c.args.k c.args.others.now)
    ∙ compared_end _ c.loop-j.same c.args.terms.now c.args.others.now c.loop-j.i _ c.args.k (omega arith) c.loop-j.invariant.narrow
    ∙ ap (λ b. Some (b && leb (length c.args.terms.now) c.loop-j.i)) c.if-same-2.false ∙ ap Some (sym c.if-same-2.false)

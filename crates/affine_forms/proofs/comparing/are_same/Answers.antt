use Rattle.std.proofs.Common.{◌∙◌, ap, sym, drop, arith}
use Rattle.std.specs.Prelude.{◌&&◌, ◌+◌}
use Rattle.affine_forms.specs.Forms.{same_terms}
use Rattle.affine_forms.proofs.SideBySide.{same_step, same_end}
use Rattle.affine_forms.proofs.comparing.are_same.Goals as goal

pub loop-i-preserved : goal.loop-i-preserved
loop-i-preserved c =
    same_step _ c.args.left.now c.args.right.now c.loop-i.i c.index-right-i.result c.is_at.result c.loop-i.invariant c.loop-i-test.true c.index-right-i.is c.is_at.ensures
    ∙ ap (λ b. b && same_terms (drop (c.loop-i.i + 1) c.args.left.now) (drop (c.loop-i.i + 1) c.args.right.now)) c.if-not-is_at.false

pub returns : goal.returns
returns c = sym (same_end _ c.args.left.now c.args.right.now _ c.loop-i.invariant (omega arith))

use Rattle.affine_forms.proofs.SideBySide.{told_behind, some_there, first_empty, second_empty}
use Rattle.affine_forms.proofs.comparing.lie_behind.Goals as goal
use Rattle.affine_forms.proofs.comparing.lie_behind.Goals.{then-is_empty-via-then-is_empty, then-is_empty-via-else-is_empty+then-is_empty-2}

pub returns-then-is_empty : goal.returns-then-is_empty
returns-then-is_empty c = λ h.
    elim c.then-is_empty.branch [
      | then-is_empty-via-then-is_empty w ↦ first_empty c.args.left.now c.args.right.now c.is_empty.result c.is_empty.ensures w.if-is_empty.true
      | then-is_empty-via-else-is_empty+then-is_empty-2 w ↦
          second_empty c.args.left.now c.args.right.now w.is_empty-else-is_empty.result w.is_empty-else-is_empty.ensures w.if-is_empty-2.true
    ]

pub returns : goal.returns
returns c =
    told_behind c.args.left.now c.args.right.now c.index-left-left.result c.index-right-0.result c.requires
    (some_there c.args.left.now c.is_empty.result c.is_empty.ensures c.if-is_empty.false) c.index-left-left.is c.index-right-0.is

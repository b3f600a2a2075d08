use Rattle.affine_forms.proofs.SideBySide.{some_there, no_terms_reach, told_reach}
use Rattle.affine_forms.proofs.comparing.are_below.Goals as goal

pub returns-then-is_empty : goal.returns-then-is_empty
returns-then-is_empty c = no_terms_reach c.args.terms.now c.args.bound c.is_empty.result c.is_empty.ensures c.if-is_empty.true

pub returns : goal.returns
returns c = told_reach c.args.terms.now c.index-terms-terms.result c.args.bound c.requires (some_there c.args.terms.now c.is_empty.result c.is_empty.ensures c.if-is_empty.false) c.index-terms-terms.is

use Rattle.affine_forms.proofs.SideBySide.{at_place}
use Rattle.affine_forms.proofs.comparing.is_at.Goals as goal

pub returns-then-term-j : goal.returns-then-term-j
returns-then-term-j c = at_place c.args.terms.now c.args.i c.args.j c.args.c c.index-terms-i.result c.equal.result c.if-i-terms.true c.index-terms-i.is c.equal.ensures c.if-term-j.true

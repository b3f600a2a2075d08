use Rattle.std.proofs.Common.{subst, sym}
use Rattle.frac128.specs.Narrow.{IsNarrowWhole}
use Rattle.frac128.proofs.ShortProducts.{short_is_narrow, short_reads_back}
use Rattle.frac128.proofs.integers.short_product.Goals as goal

pub returns-clause-value : goal.returns-clause-value
returns-clause-value c = short_reads_back c.args.a c.args.b c.requires.left c.requires.right

pub returns-clause-narrow : goal.returns-clause-narrow
returns-clause-narrow c = subst IsNarrowWhole (sym (short_reads_back c.args.a c.args.b c.requires.left c.requires.right)) (short_is_narrow c.args.a c.args.b c.requires.left c.requires.right)

use Rattle.std.proofs.Common.{◌∙◌, suc, sym}
use Rattle.tableau.proofs.Zeros.{row_stays, narrow_row}
use Rattle.tableau.proofs.numbers.change.Goals as goal

pub returns-then-is_zero-clause-made : goal.returns-then-is_zero-clause-made
returns-then-is_zero-clause-made c =
    let z = sym c.entry-factor.ensures ∙ c.is_zero.ensures.0 c.if-is_zero.true in
    record {
      value = row_stays c.args.row.now (suc c.args.col) c.args.by.now c.requires.other z;
      numbers = c.row_is_narrow.ensures;
      narrow = narrow_row c.args.row.now (suc c.args.col) c.args.by.now z c.row_is_narrow.ensures;
    }

pub returns-clause-made : goal.returns-clause-made
returns-clause-made c = record {
  value = c.swap.ensures.x_after ∙ c.in-Ok.ensures.made.0;
  numbers = c.row_is_narrow.ensures;
  narrow = c.in-Ok.ensures.made.1;
}

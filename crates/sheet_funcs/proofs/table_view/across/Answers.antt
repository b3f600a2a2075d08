use Rattle.std.proofs.Common.{◌∙◌, ap, sym, arith, get_or}
use Rattle.sheet_model.specs.declared.value.Value.TheVariants.{Empty}
use Rattle.sheet_funcs.specs.Arguments.{grid_of}
use Rattle.sheet_funcs.proofs.Across.{transposed_at}
use Rattle.sheet_funcs.proofs.table_view.across.Goals as goal

pub returns-clause-records : goal.returns-clause-records
returns-clause-records c = record {
  keys = c.columns_of.ensures;
  fields = c.rows_of.ensures;
  same = λ row column h l.
      rw (c.full_elements.ensures.items, c.columns_of-2.ensures)
      (ap (λ i. get_or (grid_of c.args.arg.now).items i Empty) (omega arith) ∙ sym (transposed_at (grid_of c.args.arg.now) row column h l));
}

use Rattle.std.proofs.Common.{subst, sym}
use Rattle.workbook.specs.Users.{AllAreCovered}
use Rattle.workbook.proofs.Keeping.{kept_empty}
use Rattle.workbook.proofs.workbook.Workbook.empty.Goals as goal

pub invariant_of-result : goal.invariant_of-result
invariant_of-result c = record {
  kept = kept_empty c.args.sheets c.args.names c.new.result.entries c.requires c.new.ensures.empty;
  covered = subst (AllAreCovered c.new-2.result) (sym c.new.ensures.empty) (λ q g e. absurd cc);
}

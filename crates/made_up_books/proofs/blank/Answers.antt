use Rattle.std.proofs.Common.{[], subst, ◌∙◌, arith}
use Rattle.std.specs.Prelude.{Err}
use Rattle.workbook.specs.Opening.{Opens}
use Rattle.made_up_books.proofs.Opening.{one_empty, one_file_is, only_memory}
use Rattle.made_up_books.proofs.Whole.{blank_is}
use Rattle.made_up_books.proofs.blank.Goals as goal

pub returns-in-Ok : goal.returns-in-Ok
returns-in-Ok c =
    blank_is _ _ _ _ _ c.in-Ok.book (c.deref.ensures.value ∙ c.in_ok-push.ensures.items) c.new-files.ensures.items c.new-2.ensures
    c.in_ok-from_str.ensures.ok c.new.ensures.items c.in-Ok.ensures.2

pub unreachable-requires : goal.unreachable-requires
unreachable-requires c =
    let files =
    one_file_is c.deref.result.now _ _ _ _ (c.deref.ensures.value ∙ c.in_ok-push.ensures.items) c.new-files.ensures.items c.new-2.ensures
    c.in_ok-from_str.ensures.ok c.new.ensures.items in
    let opens : Opens one_empty [] (Err c.in-Err.field-0) = subst (λ fs. Opens fs [] (Err c.in-Err.field-0)) files c.in-Err.ensures in
    let fault = only_memory c.in-Err.field-0 opens in
    grind (arith, fault)

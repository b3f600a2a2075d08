use Rattle.std.specs.Prelude.{not}
use Rattle.std.proofs.Common.{◌+◌, cond, drop, Some, sym, ap, ◌∙◌, arith}
use Rattle.kept_tables.specs.Tables.{first_idle}
use Rattle.kept_forms.specs.Tables.{is_searching, sheets_in}
use Rattle.kept_forms.proofs.Placed.{at_place, idle_more}
use Rattle.kept_forms.proofs.places.first_idle.Goals as goal

pub returns-then-not-is_searching-clause-found : goal.returns-then-not-is_searching-clause-found
returns-then-not-is_searching-clause-found c =
    let t = c.index-tables-place.result in
    let tables = c.args.tables.now in
    let i = c.loop-place.place in
    let searching = c.args.searching.now in (
      t,
      at_place tables i t (omega arith) c.index-tables-place.is,
      c.loop-place.invariant
          ∙ idle_more (is_searching searching) tables i t (omega arith) c.index-tables-place.is
          ∙ ap (λ b. cond (not b) (Some t.sheet) (first_idle (is_searching searching) (sheets_in (drop (i + 1) tables))))
          (ap (is_searching searching) (sym c.sheet.ensures) ∙ sym c.is_searching.ensures ∙ c.if-not-is_searching.true),
    )

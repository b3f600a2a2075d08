use Rattle.std.proofs.Common.{◌≡◌, length, ap, sym, subst, ◌∙◌, arith}
use Rattle.std.specs.Prelude.{Vec}
use Rattle.std.specs.Global.{Global}
use Rattle.column_strips.specs.declared.strip.Strip.{Strip}
use Rattle.column_strips.specs.Columns.{Columns, strips_at, strips_in}
use Rattle.column_strips.specs.Formulas.{References}
use Rattle.column_strips.specs.Strips.{AreStrips}
use Rattle.column_strips.proofs.KeptLaws.{kept_strips, past_columns, past_limits, within_limits}
use Rattle.column_strips.proofs.Places.{read_strips}
use Rattle.column_strips.proofs.table.ReferenceTable.strips.Goals as goal

pub returns-then-col-ge-COLUMNS : goal.returns-then-col-ge-COLUMNS
returns-then-col-ge-COLUMNS c =
    let columns : Columns = c.self.inside.columns.items in
    let are = subst (λ (r : References). AreStrips r c.args.sheet.0 c.args.col (strips_in columns c.args.sheet.0 c.args.col)) c.self.view_is
    (kept_strips c.self.inside.formulas.items columns c.self.invariant c.args.sheet.0 c.args.col) in
    subst (AreStrips c.args.self.now c.args.sheet.0 c.args.col) (past_limits columns c.args.sheet.0 c.args.col (omega (arith, c.if-col-ge-COLUMNS.true))) are

pub returns-then-place-columns : goal.returns-then-place-columns
returns-then-place-columns c =
    let columns : Columns = c.self.inside.columns.items in
    let are = subst (λ (r : References). AreStrips r c.args.sheet.0 c.args.col (strips_in columns c.args.sheet.0 c.args.col)) c.self.view_is
    (kept_strips c.self.inside.formulas.items columns c.self.invariant c.args.sheet.0 c.args.col) in
    subst (AreStrips c.args.self.now c.args.sheet.0 c.args.col)
    (past_columns columns c.args.sheet.0 c.args.col (omega (arith, c.if-place-columns.true, c.place_of-place.ensures, ap length c.as_slice-columns.ensures.value))) are

pub returns : goal.returns
returns c =
    let columns : Columns = c.self.inside.columns.items in
    let are = subst (λ (r : References). AreStrips r c.args.sheet.0 c.args.col (strips_in columns c.args.sheet.0 c.args.col)) c.self.view_is
    (kept_strips c.self.inside.formulas.items columns c.self.invariant c.args.sheet.0 c.args.col) in
    let same : strips_in columns c.args.sheet.0 c.args.col ≡ c.as_slice.result.now
    = within_limits columns c.args.sheet.0 c.args.col (omega (arith, c.if-col-ge-COLUMNS.false))
    ∙ ap (strips_at columns) (sym c.place_of-place.ensures)
    ∙ ap (λ (cs : Columns). strips_at cs c.place_of-place.result) (sym c.as_slice-columns.ensures.value)
    ∙ read_strips c.as_slice-columns.result.now c.place_of-place.result c.index-columns-place.result (omega (arith, c.if-place-columns.false))
    ∙ ap (λ (v : Vec Strip Global). v.items) (sym c.index-columns-place.is) ∙ sym c.as_slice.ensures.value in
    subst (AreStrips c.args.self.now c.args.sheet.0 c.args.col) same are

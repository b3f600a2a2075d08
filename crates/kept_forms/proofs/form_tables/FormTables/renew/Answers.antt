use Rattle.std.specs.Prelude.{slice_set}
use Rattle.std.proofs.Common.{◌≡◌, ◌<◌, List, length, get_or, sym, ap, ◌∙◌, subst, true, false}
use Rattle.kept_forms.specs.Tables.{AreTables, SheetKept, parts_of}
use Rattle.extract_incr.specs.Keeping.{Kept}
use Rattle.kept_forms.proofs.Renewed.{put_tables, renewed_anew, renewed_same}
use Rattle.kept_forms.proofs.form_tables.FormTables.renew.Goals as goal

pub returns-then-is_for-clause-begun : goal.returns-then-is_for-clause-begun
returns-then-is_for-clause-begun c = λ t at s.
    let was = c.index-table.result.now in
    let h = c.is_for.ensures.0 c.if-is_for.true in
    renewed_same c.args.self.now c.args.place was (subst AreTables c.self.view_is c.self.invariant).one_each c.requires.there
    (subst (λ (xs : List SheetKept). was ≡ get_or xs c.args.place was) c.self.view_is c.index-table.ensures) t at s
    (record { decisions = c.args.adj.now; sides = c.args.sides.items }) (h.0, h.1 ∙ c.deref.ensures.value)

pub invariant_of-self : goal.invariant_of-self
invariant_of-self c =
    put_tables c.self.inside.tables.items c.args.place c.index-table.result.now c.new.result c.self.invariant (subst (λ (xs : List SheetKept). c.args.place < length xs) (sym c.self.view_is) c.requires.there) c.index-table.ensures
    (ap (λ (t : SheetKept). t.sheet) c.new.ensures ∙ c.sheet-sheet.ensures)

pub returns-clause-begun : goal.returns-clause-begun
returns-clause-begun c = λ t at s.
    let was = c.index-table.result.now in
    renewed_anew c.args.self.now c.args.place was (subst AreTables c.self.view_is c.self.invariant).one_each c.requires.there
    (subst (λ (xs : List SheetKept). was ≡ get_or xs c.args.place was) c.self.view_is c.index-table.ensures) t at s
    (record { decisions = c.args.adj.now; sides = c.args.sides.items }) c.new.result (slice_set c.self.inside.tables.items c.args.place c.new.result)
    (λ p.
    let e : c.is_for.result ≡ true = c.is_for.ensures.1 (p.0, p.1 ∙ sym c.deref.ensures.value) in
    let n : true ≡ false = sym e ∙ c.if-is_for.false in
    cc)
    (ap (λ (t : SheetKept). t.sheet) c.new.ensures ∙ c.sheet-sheet.ensures)
    (ap (λ (t : SheetKept). parts_of t.kept) c.new.ensures ∙ ap parts_of c.in_ok-forms.ensures)
    (ap (λ (t : SheetKept). t.kept.table) c.new.ensures ∙ ap (λ (k : Kept). k.table) c.in_ok-forms.ensures)
    (ap (λ xs. slice_set xs c.args.place c.new.result) c.self.view_is)

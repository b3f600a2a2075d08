use Rattle.std.proofs.Common.{◌≡◌, ◌∙◌, Some, ap, false, get_or, slice_get, subst, sym, true, ℕ}
use Rattle.std.specs.FinMap.{get}
use Rattle.std.specs.FinSet as set
use Rattle.recalculation.proofs.Lists.{first_true}
use Rattle.column_strips.specs.declared.formulas.Formula.{Formula}
use Rattle.dep_table.specs.Edges.{edge}
use Rattle.dep_table.specs.Formulas.{references_in}
use Rattle.dep_table.specs.References.{AreReferencesOf}
use Rattle.dep_table.specs.Spreading.{IsClosed}
use Rattle.dep_table.proofs.CircularLaws.{reached_wanted}
use Rattle.dep_table.proofs.Tables.{are_flags, table_of}
use Rattle.dep_table.proofs.deps.Deps.tour_from.Goals as goal

pub returns-clause-circular : goal.returns-clause-circular
returns-clause-circular c = λ book refs.
    let formulas = c.formulas-formulas.result.now in
    let there : AreReferencesOf (references_in formulas) book = λ a. ap (λ r. get r a) (c.formulas-formulas.ensures.all ∙ c.self.view_is) ∙ refs a in
    let flags = c.deref.ensures.value ∙ c.in_ok-flags.ensures in
    let same = c.deref-2.ensures.value ∙ c.in_ok-flags.ensures in
    let table = table_of formulas book c.formulas-formulas.ensures.sorted there in
    let reached = reached_wanted formulas book (set.contains c.args.leaves.now) c.deref.result.now c.deref-3.result.now c.args.from table
    (are_flags formulas (set.contains c.args.leaves.now) c.deref.result.now flags)
    (subst (λ ws. (i : ℕ) (f : Formula) → slice_get formulas i ≡ Some f → f.cell ≡ c.args.from → get_or ws i false ≡ true) (sym c.deref-3.ensures.value) c.in_ok-wanted.ensures.from) (subst (IsClosed (edge formulas c.deref.result.now)) (sym c.deref-3.ensures.value) c.in_ok-wanted.ensures.closed) in
    let are = c.in_ok-tour.ensures.circular book (set.contains c.args.leaves.now) there same in
    record { circular = are.circular; all = λ a from h. are.all a (reached a from (first_true _ _ h)) h }

pub returns-clause-all : goal.returns-clause-all
returns-clause-all c = λ book refs a from formula free.
    let formulas = c.formulas-formulas.result.now in
    let there : AreReferencesOf (references_in formulas) book = λ a. ap (λ r. get r a) (c.formulas-formulas.ensures.all ∙ c.self.view_is) ∙ refs a in
    let flags = c.deref.ensures.value ∙ c.in_ok-flags.ensures in
    let same = c.deref-2.ensures.value ∙ c.in_ok-flags.ensures in
    let table = table_of formulas book c.formulas-formulas.ensures.sorted there in
    let reached = reached_wanted formulas book (set.contains c.args.leaves.now) c.deref.result.now c.deref-3.result.now c.args.from table
    (are_flags formulas (set.contains c.args.leaves.now) c.deref.result.now flags)
    (subst (λ ws. (i : ℕ) (f : Formula) → slice_get formulas i ≡ Some f → f.cell ≡ c.args.from → get_or ws i false ≡ true) (sym c.deref-3.ensures.value) c.in_ok-wanted.ensures.from) (subst (IsClosed (edge formulas c.deref.result.now)) (sym c.deref-3.ensures.value) c.in_ok-wanted.ensures.closed) in
    (c.in_ok-tour.ensures.order book (set.contains c.args.leaves.now) there same).1 a (reached a from formula) formula free

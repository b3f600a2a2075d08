use Rattle.std.proofs.Common.{◌∙◌, ap, length, subst, sym}
use Rattle.std.specs.FinMap.{get}
use Rattle.std.specs.FinSet as set
use Rattle.dep_table.specs.Formulas.{references_in}
use Rattle.dep_table.specs.References.{AreReferencesOf}
use Rattle.dep_table.proofs.CircularLaws.{all_true, all_wanted, same_answer}
use Rattle.dep_table.proofs.Tables.{table_of}
use Rattle.dep_table.proofs.deps.Deps.tour.Goals as goal

pub returns-clause-circular : goal.returns-clause-circular
returns-clause-circular c = λ book refs.
    let formulas = c.formulas-formulas.result.now in
    let there : AreReferencesOf (references_in formulas) book = λ a. ap (λ r. get r a) (c.formulas-formulas.ensures.all ∙ c.self.view_is) ∙ refs a in
    let same = c.deref.ensures.value ∙ c.in_ok-flags.ensures in
    let table = table_of formulas book c.formulas-formulas.ensures.sorted there in
    same_answer formulas c.deref-2.result.now book (set.contains c.args.leaves.now) (set.contains c.in_ok-tour.tour.circular) table (all_true (length formulas) c.deref-2.result.now (c.deref-2.ensures.value ∙ c.in_ok-wanted.ensures.items_if_clones_equal (λ y e. e)))
    (c.in_ok-tour.ensures.circular book (set.contains c.args.leaves.now) there same)

pub returns-clause-all : goal.returns-clause-all
returns-clause-all c = λ book refs a any formula free.
    let formulas = c.formulas-formulas.result.now in
    let there : AreReferencesOf (references_in formulas) book = λ a. ap (λ r. get r a) (c.formulas-formulas.ensures.all ∙ c.self.view_is) ∙ refs a in
    let same = c.deref.ensures.value ∙ c.in_ok-flags.ensures in
    let table = table_of formulas book c.formulas-formulas.ensures.sorted there in
    (c.in_ok-tour.ensures.order book (set.contains c.args.leaves.now) there same).1 a (all_wanted formulas c.deref-2.result.now book table (all_true (length formulas) c.deref-2.result.now (c.deref-2.ensures.value ∙ c.in_ok-wanted.ensures.items_if_clones_equal (λ y e. e))) a formula) formula free

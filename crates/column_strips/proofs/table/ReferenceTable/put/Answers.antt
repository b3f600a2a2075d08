use Rattle.std.proofs.Common.{◌≡◌, ◌≤◌, ◌<◌, ◌∙◌, ap, subst, sym}
use Rattle.std.specs.FinMap as map
use Rattle.cell_refs.specs.declared.limits.TheConstants.{TEXTS}
use Rattle.column_strips.specs.Formulas.{References, references_in}
use Rattle.column_strips.proofs.Finding.{put_again}
use Rattle.column_strips.proofs.KeptLaws.{few_left, gone}
use Rattle.column_strips.proofs.table.ReferenceTable.put.Goals as goal

pub put_formula-requires-clause-absent : goal.put_formula-requires-clause-absent
put_formula-requires-clause-absent c =
    ap (λ (r : References). map.get r c.args.cell) c.take_formula.ensures.taken ∙ gone (references_in c.reserve.new.self.items) c.args.cell

pub put_formula-requires-clause-few : goal.put_formula-requires-clause-few
put_formula-requires-clause-few c =
    let same : references_in c.reserve.new.self.items ≡ c.args.self.now = ap references_in c.in_ok-reserve.ensures.items ∙ c.self.view_is in
    let taken = c.take_formula.ensures.taken ∙ ap (λ (r : References). map.remove r c.args.cell) same in
    let few : map.len c.args.self.now ≤ TEXTS = subst (λ (r : References). map.len r ≤ TEXTS) c.self.view_is c.self.invariant.few in
    subst (λ (r : References). map.len r < TEXTS) (sym taken) (few_left c.args.self.now c.args.cell few c.requires)

pub returns-clause-ok : goal.returns-clause-ok
returns-clause-ok c =
    let same : references_in c.reserve.new.self.items ≡ c.args.self.now = ap references_in c.in_ok-reserve.ensures.items ∙ c.self.view_is in
    let taken = c.take_formula.ensures.taken ∙ ap (λ (r : References). map.remove r c.args.cell) same in
    c.put_formula.ensures.put ∙ ap (λ (r : References). map.insert r c.args.cell c.args.areas.items) taken ∙ put_again c.args.self.now c.args.cell c.args.areas.items

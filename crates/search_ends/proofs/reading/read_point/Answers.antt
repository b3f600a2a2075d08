use Rattle.std.proofs.Common.{arith, length, sym, ap, ◌∙◌}
use Rattle.std.proofs.lemmas.List.{length-map}
use Rattle.linear_programs.specs.Program.{cell_number}
use Rattle.dictionaries.specs.Reading.{point_of, basic_solution}
use Rattle.search_ends.proofs.Lists.{same_list}
use Rattle.search_ends.proofs.reading.read_point.Goals as goal

pub returns : goal.returns
returns c =
    let e = c.loop-decision-test.false in
    let k = c.loop-decision.auto.into in
    let h = c.requires.one_each in
    let w = ap length c.columns-columns.ensures.value in
    same_list c.loop-decision.into _ (k ∙ h ∙ sym (length-map c.args.of.now.columns (cell_number (point_of c.args.of.now (basic_solution c.args.dict.now))))) (λ i l. c.loop-decision.invariant i (omega (arith, e, l, k, h, w)))

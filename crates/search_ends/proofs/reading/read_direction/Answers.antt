use Rattle.std.proofs.Common.{ℕ, List, arith, length, map, sym, ap, ◌∙◌, get_or}
use Rattle.std.specs.Prelude.{Option, None}
use Rattle.fractions.specs.Rational.{ℚ}
use Rattle.std.proofs.lemmas.List.{length-map}
use Rattle.linear_programs.specs.Program.{cell_number}
use Rattle.dictionaries.specs.Reading.{point_of, change_along}
use Rattle.search_ends.proofs.Lists.{same_list, written, at_map}
use Rattle.search_ends.proofs.reading.read_direction.Goals as goal

pub returns : goal.returns
returns c =
    let e = c.loop-decision-test.false in
    let k = c.loop-decision.auto.into in
    let h = c.requires.one_each in
    let w = ap length c.columns-columns.ensures.value in
    same_list c.loop-decision.into _ (k ∙ h ∙ sym (length-map c.args.of.now.columns (cell_number (point_of c.args.of.now (change_along c.args.dict.now c.args.col))))) (λ i l. c.loop-decision.invariant i (omega (arith, e, l, k, h, w)))

pub loop-decision-preserved : goal.loop-decision-preserved
loop-decision-preserved c =
    let p = c.args.of.now in
    let k = c.loop-decision.decision in
    let w = c.columns-columns.ensures.value in
    let n = ap length w in
    let t = c.loop-decision-test.true in
    let l = c.loop-decision.auto.into in
    let h = c.requires.one_each in
    let f : ℕ × Option ℕ → ℚ = cell_number (point_of p (change_along c.args.dict.now c.args.col)) in
    written c.loop-decision.into (map f p.columns) k c.cell_change.result (omega (arith, n, t, l, h)) c.loop-decision.invariant
    (c.cell_change.ensures ∙ ap (λ (cs : List (ℕ × Option ℕ)). f (get_or cs k (0, None))) w ∙ at_map f p.columns k (0, None) (omega (arith, n, t)))

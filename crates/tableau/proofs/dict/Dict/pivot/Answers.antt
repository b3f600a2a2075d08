use Rattle.std.proofs.Common.{◌≡◌, ◌∙◌, ◌<◌, ◌^◌, suc, refl, sym, ap, subst, length, set, ◌+◌}
use Rattle.std.proofs.lemmas.List.{length-set, get_or_read}
use Rattle.dictionaries.specs.Dictionary.{Dictionary, IsPlace, pivoted}
use Rattle.dictionaries.specs.Narrow.{IsNarrowPivot}
use Rattle.tableau.specs.Fields.{dictionary_of}
use Rattle.tableau.proofs.Pivoted.{shaped_after, pivot_made, with_numbers}
use Rattle.tableau.proofs.dict.Dict.pivot.Goals as goal

pub invariant_of-self-2 : goal.invariant_of-self-2
invariant_of-self-2 c =
    let i = c.self.inside in
    let wide : length c.solve_for.new.into ≡ length i.nonbasic.items + 1 = c.in-Ok.ensures.size ∙ c.self.invariant.solved in
    let place : IsPlace (dictionary_of i) c.args.row c.args.col = subst (λ d. IsPlace d c.args.row c.args.col) (sym c.self.view_is) c.requires in
    record {
      shaped = shaped_after (dictionary_of i) c.args.row c.args.col (suc c.args.col) _ _ c.row.result.now c.solve_for.new.into c.change.new.self
          c.self.invariant.shaped place refl c.row.ensures c.in-Ok.ensures.made.0 c.in-Ok-change.ensures.made.0;
      solved = c.in-Ok-change.ensures.size ∙ wide ∙ ap (λ n. n + 1) (sym (length-set i.nonbasic.items c.args.col _));
      spare = c.in-Ok-change.ensures.room ∙ wide ∙ ap (λ n. n + 1) (sym (length-set i.nonbasic.items c.args.col _));
      height = subst (λ n. n < 2 ^ 16) (sym (length-set i.basic.items c.args.row _)) c.self.invariant.height;
      width = subst (λ n. n < 2 ^ 16) (sym (length-set i.nonbasic.items c.args.col _)) c.self.invariant.width;
    }

pub returns : goal.returns
returns c =
    let i = c.self.inside in
    let row = c.args.row in
    let col = c.args.col in
    let place : IsPlace (dictionary_of i) row col = subst (λ d. IsPlace d row col) (sym c.self.view_is) c.requires in
    let entering = get_or_read i.nonbasic.items col c.index.result.now place.column c.index.ensures 0 in
    let leaving = get_or_read i.basic.items row c.index-leaving.result.now place.row c.index-leaving.ensures 0 in
    subst (λ (d : Dictionary). (with_numbers (set i.basic.items row c.index.result.now) (set i.nonbasic.items col c.index-leaving.result.now) c.change.new.self ≡ pivoted d row col) × IsNarrowPivot d row col)
    c.self.view_is
    (pivot_made (dictionary_of i) row col c.index.result.now c.index-leaving.result.now c.row.result.now c.solve_for.new.into c.change.new.self entering leaving
    c.row.ensures c.in-Ok.ensures.made.0 c.in-Ok.ensures.made.1 c.in-Ok-change.ensures.made.0 c.in-Ok-change.ensures.made.1)

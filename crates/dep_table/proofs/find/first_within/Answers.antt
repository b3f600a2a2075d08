use Rattle.std.proofs.Common.{◌≡◌, ◌∙◌, Some, arith, ap, get_or, inl, inr, slice_get, ℕ, sym, false}
use Rattle.std.proofs.lemmas.Bool.{cases_lt}
use Rattle.std.proofs.lemmas.Option.{slice_get-get_or, slice_get_past}
use Rattle.column_strips.specs.declared.formulas.Formula.{Formula}
use Rattle.dep_table.specs.Edges.{reaches}
use Rattle.dep_table.proofs.Searching.{none_behind, none_between}
use Rattle.dep_table.proofs.find.first_within.Goals as goal

pub returns-in_default-clause-none : goal.returns-in_default-clause-none
returns-in_default-clause-none c =
    let i : ℕ = c.loop-place.place in
    let f : Formula = get_or c.args.formulas.now i c.index-formulas-place.result in
    let at : slice_get c.args.formulas.now i ≡ Some f = slice_get-get_or c.args.formulas.now i c.index-formulas-place.result c.loop-place-test.true in
    λ k h. elim (cases_lt k i) as (λ _. reaches c.args.area.now (slice_get c.args.formulas.now k) ≡ false) [
      | inl l ↦ c.loop-place.invariant.past k h l
      | inr l ↦ none_behind c.args.formulas.now c.requires c.args.area.now i f at c.in_default.ensures.none k l
    ]

pub loop-place-preserved : goal.loop-place-preserved
loop-place-preserved c =
    let i : ℕ = c.loop-place.place in
    let f : Formula = get_or c.args.formulas.now i c.index-formulas-place.result in
    let at : slice_get c.args.formulas.now i ≡ Some f = slice_get-get_or c.args.formulas.now i c.index-formulas-place.result c.loop-place-test.true in
    record {
      from = omega (arith, c.loop-place.invariant.from, c.first_not_before-place.ensures.within.0);
      past = λ k h l. elim (cases_lt k i) as (λ _. reaches c.args.area.now (slice_get c.args.formulas.now k) ≡ false) [
        | inl b ↦ c.loop-place.invariant.past k h b
        | inr b ↦ none_between c.args.formulas.now c.requires c.args.area.now i f at c.in-Some.target c.first_not_before-place.result
            (sym c.has.ensures ∙ c.if-has.false) c.in-Some.ensures.first c.first_not_before-place.ensures.before k b l
      ];
    }

pub returns-clause-none : goal.returns-clause-none
returns-clause-none c = λ k h. elim (cases_lt k c.loop-place.place) as (λ _. reaches c.args.area.now (slice_get c.args.formulas.now k) ≡ false) [
  | inl l ↦ c.loop-place.invariant.past k h l
  | inr l ↦ ap (reaches c.args.area.now) (slice_get_past c.args.formulas.now k (omega (arith, c.loop-place-test.false, l)))
]

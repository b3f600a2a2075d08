use Rattle.std.proofs.Common.{◌≡◌, ◌∙◌, List, ap, slice_set, sym}
use Rattle.fractions.specs.Rational.{ℚ}
use Rattle.workbook.specs.Edits.{after_set}
use Rattle.solver_names.specs.Answers.{statement_of}
use Rattle.sheet_quick.specs.Giving.{IsGivenTo}
use Rattle.sheet_quick.specs.Opened.{quick_of}
use Rattle.sheet_quick.proofs.GivenValues.{open_whole}
use Rattle.sheet_quick.proofs.Gives.{can_be_written, cell_there, decisions_there, found_in, gives, kept_as, not_given, partly_open, stays}
use Rattle.sheet_quick.proofs.giving.give.Goals as goal

pub returns-in_err-model-clause-gives : goal.returns-in_err-model-clause-gives
returns-in_err-model-clause-gives g c =
    let given : IsGivenTo (quick_of c.args.quick.now) c.args.cell c.args.text.now c.in-Some.place c.in-Some-number_given.number =
    record { parameter = sym c.in-Some.ensures; number = sym c.in-Some-number_given.ensures } in
    let put : c.deref-2.result.now ≡ slice_set c.args.quick.now.values.items c.in-Some.place c.in-Some-number_given.number =
    c.deref-2.ensures.value ∙ c.in_ok-values.ensures ∙ ap (λ (v : List ℚ). slice_set v c.in-Some.place c.in-Some-number_given.number) c.deref.ensures.value in
    not_given c.args.book.now (quick_of c.args.quick.now) c.args.cell c.args.text.now c.in-Some.place c.in-Some-number_given.number c.requires.open given c.deref-2.result.now put _
    c.in_err-model.field-0.0 c.from_residual-in_err-model.result c.from_residual-in_err-model.ensures.1 c.in_err-model.ensures

pub tell_found-requires-clause-parameter : goal.tell_found-requires-clause-parameter
tell_found-requires-clause-parameter g c = (cell_there c.args.book.now (quick_of c.args.quick.now) c.requires.open c.args.cell c.in-Some.place (sym c.in-Some.ensures)).sheet

pub tell_found-requires-clause-can : goal.tell_found-requires-clause-can
tell_found-requires-clause-can g c =
    let given : IsGivenTo (quick_of c.args.quick.now) c.args.cell c.args.text.now c.in-Some.place c.in-Some-number_given.number =
    record { parameter = sym c.in-Some.ensures; number = sym c.in-Some-number_given.ensures } in
    let put : c.deref-2.result.now ≡ slice_set c.args.quick.now.values.items c.in-Some.place c.in-Some-number_given.number =
    c.deref-2.ensures.value ∙ c.in_ok-values.ensures ∙ ap (λ (v : List ℚ). slice_set v c.in-Some.place c.in-Some-number_given.number) c.deref.ensures.value in
    can_be_written _ (after_set c.args.book.now c.args.cell c.args.text.now) (statement_of c.args.quick.now.statement) _ c.in_ok-found.found
    (found_in c.args.book.now (quick_of c.args.quick.now) c.args.cell c.args.text.now c.in-Some.place c.in-Some-number_given.number c.requires.open given c.deref-2.result.now put c.in_ok-model.model c.in_ok-model.ensures _ c.in_ok-found.found c.in_ok-found.ensures.finds)

pub tell_found-requires-clause-listed : goal.tell_found-requires-clause-listed
tell_found-requires-clause-listed g c = (open_whole c.args.book.now (quick_of c.args.quick.now) c.requires.open).decisions

pub tell_found-requires-clause-distinct : goal.tell_found-requires-clause-distinct
tell_found-requires-clause-distinct g c = (open_whole c.args.book.now (quick_of c.args.quick.now) c.requires.open).distinct

pub returns-in_err-answer-clause-open : goal.returns-in_err-answer-clause-open
returns-in_err-answer-clause-open g c = partly_open c.args.book.now (quick_of c.args.quick.now) c.tell_found.new.book c.requires.open c.in_err-answer.ensures.memory

pub returns-clause-gives : goal.returns-clause-gives
returns-clause-gives g c =
    let given : IsGivenTo (quick_of c.args.quick.now) c.args.cell c.args.text.now c.in-Some.place c.in-Some-number_given.number =
    record { parameter = sym c.in-Some.ensures; number = sym c.in-Some-number_given.ensures } in
    let put : c.deref-2.result.now ≡ slice_set c.args.quick.now.values.items c.in-Some.place c.in-Some-number_given.number =
    c.deref-2.ensures.value ∙ c.in_ok-values.ensures ∙ ap (λ (v : List ℚ). slice_set v c.in-Some.place c.in-Some-number_given.number) c.deref.ensures.value in
    gives c.args.book.now (quick_of c.args.quick.now) c.args.cell c.args.text.now c.in-Some.place c.in-Some-number_given.number c.requires.open given c.deref-2.result.now put c.in_ok-model.model c.in_ok-model.ensures _ c.in_ok-found.found
    (found_in c.args.book.now (quick_of c.args.quick.now) c.args.cell c.args.text.now c.in-Some.place c.in-Some-number_given.number c.requires.open given c.deref-2.result.now put c.in_ok-model.model c.in_ok-model.ensures _ c.in_ok-found.found c.in_ok-found.ensures.finds) c.in_ok-answer.answer c.tell_found.new.book c.in_ok-answer.ensures.tells (quick_of c.keep_values.new.quick)
    (kept_as (quick_of c.args.quick.now) (quick_of c.keep_values.new.quick) c.in_ok-answer.answer c.in_ok-values.values.items c.deref-2.result.now (sym c.deref-2.ensures.value) c.keep_values.ensures)

pub returns-clause-open : goal.returns-clause-open
returns-clause-open g c =
    let given : IsGivenTo (quick_of c.args.quick.now) c.args.cell c.args.text.now c.in-Some.place c.in-Some-number_given.number =
    record { parameter = sym c.in-Some.ensures; number = sym c.in-Some-number_given.ensures } in
    let put : c.deref-2.result.now ≡ slice_set c.args.quick.now.values.items c.in-Some.place c.in-Some-number_given.number =
    c.deref-2.ensures.value ∙ c.in_ok-values.ensures ∙ ap (λ (v : List ℚ). slice_set v c.in-Some.place c.in-Some-number_given.number) c.deref.ensures.value in
    stays c.args.book.now (quick_of c.args.quick.now) c.args.cell c.args.text.now c.in-Some.place c.in-Some-number_given.number c.requires.open given c.deref-2.result.now put c.in_ok-model.model c.in_ok-model.ensures _ c.in_ok-found.found
    (found_in c.args.book.now (quick_of c.args.quick.now) c.args.cell c.args.text.now c.in-Some.place c.in-Some-number_given.number c.requires.open given c.deref-2.result.now put c.in_ok-model.model c.in_ok-model.ensures _ c.in_ok-found.found c.in_ok-found.ensures.finds) c.in_ok-answer.answer c.tell_found.new.book c.in_ok-answer.ensures.tells (quick_of c.keep_values.new.quick)
    (kept_as (quick_of c.args.quick.now) (quick_of c.keep_values.new.quick) c.in_ok-answer.answer c.in_ok-values.values.items c.deref-2.result.now (sym c.deref-2.ensures.value) c.keep_values.ensures)

pub returns-clause-said : goal.returns-clause-said
returns-clause-said g c =
    let given : IsGivenTo (quick_of c.args.quick.now) c.args.cell c.args.text.now c.in-Some.place c.in-Some-number_given.number =
    record { parameter = sym c.in-Some.ensures; number = sym c.in-Some-number_given.ensures } in
    let put : c.deref-2.result.now ≡ slice_set c.args.quick.now.values.items c.in-Some.place c.in-Some-number_given.number =
    c.deref-2.ensures.value ∙ c.in_ok-values.ensures ∙ ap (λ (v : List ℚ). slice_set v c.in-Some.place c.in-Some-number_given.number) c.deref.ensures.value in
    c.in_ok-answer.ensures.said
    (c.in_ok-found.ensures.said c.args.book.now (open_whole c.args.book.now (quick_of c.args.quick.now) c.requires.open)
    (decisions_there c.args.book.now (quick_of c.args.quick.now) c.args.cell c.args.text.now c.in-Some.place c.in-Some-number_given.number c.requires.open given c.deref-2.result.now put c.in_ok-model.model c.in_ok-model.ensures))

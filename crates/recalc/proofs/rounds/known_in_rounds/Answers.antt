use Rattle.std.proofs.Common.{◌≡◌, ◌+◌, ◌++◌, ℕ, List, Some, suc, true, ap, arith, subst, sym, ◌∙◌}
use Rattle.std.specs.Prelude.{slice_get, ⊤}
use Rattle.cell_refs.specs.declared.cell.Cell.{Cell}
use Rattle.dep_table.specs.Order.{HasFree, IsOrder}
use Rattle.recalculation.specs.Entries.{entry, no_overriding, nothing}
use Rattle.recalculation.specs.Narrow.{bounded_known}
use Rattle.recalculation.specs.Walks.{is_circular, is_formula}
use Rattle.recalc.specs.Rows.{seen_in}
use Rattle.workbook.specs.Kinds.{book_of}
use Rattle.recalc.proofs.Answering.{no_leaves}
use Rattle.recalc.proofs.Rounding.{all_formulas, at_start, enough, found_formula, round_seen}
use Rattle.recalc.proofs.rounds.known_in_rounds.Goals as goal

pub round-requires-clause-circular : goal.round-requires-clause-circular
round-requires-clause-circular c a =
    c.in_ok-tour.ensures.circular (book_of c.args.book.now) c.requires a ∙ ap (λ l. is_circular (book_of c.args.book.now) l a) (no_leaves c.new.result c.new.ensures)

pub round-requires-clause-formulas : goal.round-requires-clause-formulas
round-requires-clause-formulas c =
    let book = book_of c.args.book.now in
    let right : (a : Cell) → _ = λ a. c.in_ok-tour.ensures.circular book c.requires a ∙ ap (λ l. is_circular book l a) (no_leaves c.new.result c.new.ensures) in
    let ordered : IsOrder book nothing c.in_ok-tour.tour.order.items = subst (λ l. IsOrder book l c.in_ok-tour.tour.order.items) (no_leaves c.new.result c.new.ensures) (c.in_ok-tour.ensures.order book c.requires) in
    let free : HasFree book nothing (λ a. ⊤) c.in_ok-tour.tour.order.items = subst (λ l. HasFree book l (λ a. ⊤) c.in_ok-tour.tour.order.items) (no_leaves c.new.result c.new.ensures) (c.in_ok-tour.ensures.all book c.requires) in
    let items : c.deref-2.result.now ≡ c.in_ok-formulas.formulas.items ++ c.in_ok-tour.tour.order.items =
    c.deref-2.ensures.value ∙ c.in_ok-extend_from_slice.ensures.items ∙ ap (λ l. c.in_ok-formulas.formulas.items ++ l) c.deref.ensures.value in
    subst (λ (l : List Cell). (p : ℕ) (a : Cell) → slice_get l p ≡ Some a → is_formula (entry book a) ≡ true) (sym items)
    (all_formulas book c.in_ok-tour.tour.circular c.in_ok-formulas.formulas.items c.in_ok-tour.tour.order.items c.in_ok-formulas.ensures.all right ordered free)

pub round-requires-clause-all : goal.round-requires-clause-all
round-requires-clause-all c =
    let book = book_of c.args.book.now in
    let right : (a : Cell) → _ = λ a. c.in_ok-tour.ensures.circular book c.requires a ∙ ap (λ l. is_circular book l a) (no_leaves c.new.result c.new.ensures) in
    let ordered : IsOrder book nothing c.in_ok-tour.tour.order.items = subst (λ l. IsOrder book l c.in_ok-tour.tour.order.items) (no_leaves c.new.result c.new.ensures) (c.in_ok-tour.ensures.order book c.requires) in
    let free : HasFree book nothing (λ a. ⊤) c.in_ok-tour.tour.order.items = subst (λ l. HasFree book l (λ a. ⊤) c.in_ok-tour.tour.order.items) (no_leaves c.new.result c.new.ensures) (c.in_ok-tour.ensures.all book c.requires) in
    let items : c.deref-2.result.now ≡ c.in_ok-formulas.formulas.items ++ c.in_ok-tour.tour.order.items =
    c.deref-2.ensures.value ∙ c.in_ok-extend_from_slice.ensures.items ∙ ap (λ l. c.in_ok-formulas.formulas.items ++ l) c.deref.ensures.value in
    subst (λ (l : List Cell). (a : Cell) → is_formula (entry book a) ≡ true → (p : ℕ) × (slice_get l p ≡ Some a)) (sym items)
    (found_formula book c.in_ok-tour.tour.circular c.in_ok-formulas.formulas.items c.in_ok-tour.tour.order.items c.in_ok-formulas.ensures.all right ordered free)

pub loop-init : goal.loop-init
loop-init c = round_seen (book_of c.args.book.now) 0 _ c.in_ok-rows.rows.entries (at_start (book_of c.args.book.now)) c.in_ok-rows.ensures

pub round-requires-in-loop-clause-circular : goal.round-requires-in-loop-clause-circular
round-requires-in-loop-clause-circular c a =
    c.in_ok-tour.ensures.circular (book_of c.args.book.now) c.requires a ∙ ap (λ l. is_circular (book_of c.args.book.now) l a) (no_leaves c.new.result c.new.ensures)

pub round-requires-in-loop-clause-formulas : goal.round-requires-in-loop-clause-formulas
round-requires-in-loop-clause-formulas c =
    let book = book_of c.args.book.now in
    let right : (a : Cell) → _ = λ a. c.in_ok-tour.ensures.circular book c.requires a ∙ ap (λ l. is_circular book l a) (no_leaves c.new.result c.new.ensures) in
    let ordered : IsOrder book nothing c.in_ok-tour.tour.order.items = subst (λ l. IsOrder book l c.in_ok-tour.tour.order.items) (no_leaves c.new.result c.new.ensures) (c.in_ok-tour.ensures.order book c.requires) in
    let free : HasFree book nothing (λ a. ⊤) c.in_ok-tour.tour.order.items = subst (λ l. HasFree book l (λ a. ⊤) c.in_ok-tour.tour.order.items) (no_leaves c.new.result c.new.ensures) (c.in_ok-tour.ensures.all book c.requires) in
    let items : c.deref-in-loop.result.now ≡ c.in_ok-formulas.formulas.items ++ c.in_ok-tour.tour.order.items =
    c.deref-in-loop.ensures.value ∙ c.in_ok-extend_from_slice.ensures.items ∙ ap (λ l. c.in_ok-formulas.formulas.items ++ l) c.deref.ensures.value in
    subst (λ (l : List Cell). (p : ℕ) (a : Cell) → slice_get l p ≡ Some a → is_formula (entry book a) ≡ true) (sym items)
    (all_formulas book c.in_ok-tour.tour.circular c.in_ok-formulas.formulas.items c.in_ok-tour.tour.order.items c.in_ok-formulas.ensures.all right ordered free)

pub round-requires-in-loop-clause-all : goal.round-requires-in-loop-clause-all
round-requires-in-loop-clause-all c =
    let book = book_of c.args.book.now in
    let right : (a : Cell) → _ = λ a. c.in_ok-tour.ensures.circular book c.requires a ∙ ap (λ l. is_circular book l a) (no_leaves c.new.result c.new.ensures) in
    let ordered : IsOrder book nothing c.in_ok-tour.tour.order.items = subst (λ l. IsOrder book l c.in_ok-tour.tour.order.items) (no_leaves c.new.result c.new.ensures) (c.in_ok-tour.ensures.order book c.requires) in
    let free : HasFree book nothing (λ a. ⊤) c.in_ok-tour.tour.order.items = subst (λ l. HasFree book l (λ a. ⊤) c.in_ok-tour.tour.order.items) (no_leaves c.new.result c.new.ensures) (c.in_ok-tour.ensures.all book c.requires) in
    let items : c.deref-in-loop.result.now ≡ c.in_ok-formulas.formulas.items ++ c.in_ok-tour.tour.order.items =
    c.deref-in-loop.ensures.value ∙ c.in_ok-extend_from_slice.ensures.items ∙ ap (λ l. c.in_ok-formulas.formulas.items ++ l) c.deref.ensures.value in
    subst (λ (l : List Cell). (a : Cell) → is_formula (entry book a) ≡ true → (p : ℕ) × (slice_get l p ≡ Some a)) (sym items)
    (found_formula book c.in_ok-tour.tour.circular c.in_ok-formulas.formulas.items c.in_ok-tour.tour.order.items c.in_ok-formulas.ensures.all right ordered free)

pub loop-preserved : goal.loop-preserved
loop-preserved c a =
    let more : suc (suc c.loop.counter) ≡ suc (c.loop.counter + 1) = omega arith in
    round_seen (book_of c.args.book.now) (suc c.loop.counter) (seen_in (book_of c.args.book.now) c.loop.rows.entries) c.in_ok-after.after.entries c.loop.invariant c.in_ok-after.ensures a
    ∙ ap (λ n. bounded_known (book_of c.args.book.now) no_overriding n a) more

pub returns : goal.returns
returns c =
    let end = c.loop-test.false in
    let upto = c.loop.auto.counter-end in
    rw (c.loop.invariant c.args.cell ∙ enough (book_of c.args.book.now) c.loop.counter c.args.cell (omega (arith, end, upto, c.texts-end.ensures))) at c.value.ensures

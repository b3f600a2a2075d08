-- Memory is wanted for the references of a formula alone, and so for a text.
use Rattle.std.specs.Prelude.{Contains, Err, Ok, OnErr, Result, option_map}
use Rattle.std.proofs.Common.{◌≡◌, ◌∙◌, ℕ, zero, suc, true≢false, cond, List, [], ◌∷◌, None, ap, arith, sym}
use Rattle.std.specs.FinMap.{get, get-remove}
use Rattle.std.specs.Ordering.{is_eq}
use Rattle.std.proofs.lemmas.Cmp.{tied_itself}
use Rattle.cell_refs.specs.declared.cell.Cell.{Cell}
use Rattle.cell_refs.proofs.Order.{cells_total}
use Rattle.recalculation.specs.Entries.{entry}
use Rattle.recalculation.specs.Walks.{is_formula}
use Rattle.workbook.specs.Edits.{after_set}
use Rattle.workbook.specs.Kinds.{book_of, says}
use Rattle.workbook.specs.State.{State}
use Rattle.kept_book.specs.References.{HasFormula}

-- the one cell of a list of one
the_one : (cell a : Cell) → Contains (cell ∷ []) a → cell ≡ a
the_one cell a (zero, i, e) = e
the_one cell a (suc k, i, e) = absurd (omega (arith, i))

-- a cell that is cleared says nothing
cleared : (before : State) (cell : Cell) → entry (book_of (after_set before cell [])) cell ≡ None
cleared before cell =
    ap (option_map (says before.sheets before.names cell))
    (get-remove cells_total before.contents cell cell ∙ ap (λ b. cond b None (get before.contents cell)) (ap is_eq (tied_itself cells_total cell)))

pub no_formula : (before after : State) (cell : Cell) → after ≡ after_set before cell [] → ¬ (HasFormula (cell ∷ []) after)
no_formula before after cell e (a, h, f) =
    let none : entry (book_of after) a ≡ None = ap (λ (c : Cell). entry (book_of after) c) (sym (the_one cell a h)) ∙ ap (λ (s : State). entry (book_of s) cell) e ∙ cleared before cell in
    true≢false (sym f ∙ ap is_formula none)

-- so a text that is put is none that is empty
pub has_text : (before after : State) (cell : Cell) (text : List ℕ) → after ≡ after_set before cell text → HasFormula (cell ∷ []) after → ¬ (text ≡ [])
has_text before after cell text e h empty = no_formula before after cell (e ∙ ap (after_set before cell) empty) h

pub wants_text : {E : Type 0} (kept : Result (Unit {0}) E) (before after : State) (cell : Cell) (text : List ℕ) → after ≡ after_set before cell text → OnErr kept (HasFormula (cell ∷ []) after)
    → OnErr kept (¬ (text ≡ []))
wants_text (Ok _) before after cell text e h = tt
wants_text (Err _) before after cell text e h = has_text before after cell text e h

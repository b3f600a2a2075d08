use Rattle.std.proofs.Common.{List, Some, refl, sym, subst, ◌∙◌}
use Rattle.workbook.specs.Kinds.{book_of}
use Rattle.extract_incr.specs.FromExtract.{no_forms}
use Rattle.kept_tables.specs.Settled.{AreRight}
use Rattle.kept_forms.specs.Settling.{Settles}
use Rattle.kept_forms.specs.Tables.{SheetKept, all_forms, is_searching}
use Rattle.kept_forms.proofs.Placed.{inside}
use Rattle.kept_forms.proofs.Settled.{after_right, few, few_once, kept_at, on_err, settles, settles_once, stops}
use Rattle.kept_forms.proofs.form_tables.FormTables.settle.Goals as goal

-- ---- for the command alone
pub returns-in_err-forms-clause-few : goal.returns-in_err-forms-clause-few
returns-in_err-forms-clause-few g c =
    few_once (book_of c.args.linked.now.book.now) (is_searching c.args.searching.now) c.args.sheet.0 (record { decisions = c.args.adj.now; sides = c.args.sides.items }) c.args.self.now
    (sym c.is_for_once.ensures ∙ c.if-is_for_once.true) (record { decisions = c.args.adj.now; sides = c.args.sides.items; table = no_forms }) refl c.args.steps.now c.made.new.steps c.made.ensures.bound

pub returns-then-is_for_once-clause-few : goal.returns-then-is_for_once-clause-few
returns-then-is_for_once-clause-few g c =
    few_once (book_of c.args.linked.now.book.now) (is_searching c.args.searching.now) c.args.sheet.0 (record { decisions = c.args.adj.now; sides = c.args.sides.items }) c.args.self.now
    (sym c.is_for_once.ensures ∙ c.if-is_for_once.true) (record { decisions = c.args.adj.now; sides = c.args.sides.items; table = no_forms }) refl c.args.steps.now c.made.new.steps c.made.ensures.bound

pub returns-then-is_for_once-clause-settled : goal.returns-then-is_for_once-clause-settled
returns-then-is_for_once-clause-settled g c =
    subst (λ (xs : List SheetKept). Settles (book_of c.args.linked.now.book.now) (is_searching c.args.searching.now) c.args.sheet.0 (record { decisions = c.args.adj.now; sides = c.args.sides.items }) c.args.self.now xs (Some c.in_ok-forms.forms)) (sym c.self.view_is)
    (settles_once (book_of c.args.linked.now.book.now) (is_searching c.args.searching.now) c.args.sheet.0 (record { decisions = c.args.adj.now; sides = c.args.sides.items }) c.args.self.now
    (sym c.is_for_once.ensures ∙ c.if-is_for_once.true) c.in_ok-forms.forms c.in_ok-forms.ensures.given c.in_ok-forms.ensures.full)

pub returns-then-is_for_once-clause-right : goal.returns-then-is_for_once-clause-right
returns-then-is_for_once-clause-right g c = subst (λ (xs : List SheetKept). AreRight (book_of c.args.linked.now.book.now) (all_forms xs)) (sym c.self.view_is) c.requires.right

-- ---- in a table
pub settle_at-requires-clause-there : goal.settle_at-requires-clause-there
settle_at-requires-clause-there g c = let b = c.in_ok-place.ensures.begun in inside c.begin.new.self c.in_ok-place.place b.table b.there

pub settle_at-requires-clause-kept : goal.settle_at-requires-clause-kept
settle_at-requires-clause-kept g c =
    kept_at (book_of c.args.linked.now.book.now) (is_searching c.args.searching.now) c.args.sheet.0 (record { decisions = c.args.adj.now; sides = c.args.sides.items }) c.args.self.now c.begin.new.self c.begin.new.self
    c.in_ok-place.place c.requires.right c.in_ok-place.ensures.begun

pub returns-in_err-settle_at-clause-memory : goal.returns-in_err-settle_at-clause-memory
returns-in_err-settle_at-clause-memory g c =
    on_err c.from_residual-in_err-settle_at.result
    (stops (book_of c.args.linked.now.book.now) (is_searching c.args.searching.now) c.args.sheet.0 (record { decisions = c.args.adj.now; sides = c.args.sides.items }) c.args.self.now c.begin.new.self c.settle_at.new.self
    c.in_ok-place.place c.requires.right c.in_ok-place.ensures.begun c.settle_at.ensures.goes)

pub returns-in_err-settle_at-clause-right : goal.returns-in_err-settle_at-clause-right
returns-in_err-settle_at-clause-right g c =
    after_right (book_of c.args.linked.now.book.now) (is_searching c.args.searching.now) c.args.sheet.0 (record { decisions = c.args.adj.now; sides = c.args.sides.items }) c.args.self.now c.begin.new.self c.settle_at.new.self
    c.in_ok-place.place c.requires.right c.in_ok-place.ensures.begun c.settle_at.ensures.goes

pub returns-in_err-settle_at-clause-few : goal.returns-in_err-settle_at-clause-few
returns-in_err-settle_at-clause-few g c =
    few (book_of c.args.linked.now.book.now) (is_searching c.args.searching.now) c.args.sheet.0 (record { decisions = c.args.adj.now; sides = c.args.sides.items }) c.args.self.now c.begin.new.self c.settle_at.new.self
    c.in_ok-place.place c.requires.right c.in_ok-place.ensures.begun c.args.steps.now c.settle_at.new.steps c.settle_at.ensures.bound

pub returns-clause-settled : goal.returns-clause-settled
returns-clause-settled g c =
    settles (book_of c.args.linked.now.book.now) (is_searching c.args.searching.now) c.args.sheet.0 (record { decisions = c.args.adj.now; sides = c.args.sides.items }) c.args.self.now c.begin.new.self c.settle_at.new.self
    c.in_ok-place.place c.requires.right c.in_ok-place.ensures.begun c.settle_at.ensures.goes c.settle_at.ensures.tables.one_each c.in_ok-settle_at.ensures.settled (sym c.is_for_once.ensures ∙ c.if-is_for_once.false)

pub returns-clause-right : goal.returns-clause-right
returns-clause-right g c =
    after_right (book_of c.args.linked.now.book.now) (is_searching c.args.searching.now) c.args.sheet.0 (record { decisions = c.args.adj.now; sides = c.args.sides.items }) c.args.self.now c.begin.new.self c.settle_at.new.self
    c.in_ok-place.place c.requires.right c.in_ok-place.ensures.begun c.settle_at.ensures.goes

pub returns-clause-few : goal.returns-clause-few
returns-clause-few g c =
    few (book_of c.args.linked.now.book.now) (is_searching c.args.searching.now) c.args.sheet.0 (record { decisions = c.args.adj.now; sides = c.args.sides.items }) c.args.self.now c.begin.new.self c.settle_at.new.self
    c.in_ok-place.place c.requires.right c.in_ok-place.ensures.begun c.args.steps.now c.settle_at.new.steps c.settle_at.ensures.bound

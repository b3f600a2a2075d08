use Rattle.std.proofs.Common.{◌≤◌, ◌+◌, ap, subst, sym, ◌∙◌}
use Rattle.needed_forms.specs.FromExtract.{form_count}
use Rattle.extract_incr.specs.Keeping.{AreKept, HaveOwnNumbers, stale_count}
use Rattle.extract_incr.specs.Settling.{kept_in, left, unmade}
use Rattle.workbook.specs.Kinds.{book_of}
use Rattle.extract_incr.proofs.Settling.{counted_as, left_is, none_left, unmade_is}
use Rattle.extract_incr.proofs.forms.Forms.settle.Goals as goal

pub settle-requires-clause-numbers : goal.settle-requires-clause-numbers
settle-requires-clause-numbers g c = subst HaveOwnNumbers (sym c.deref.ensures.value) c.self.invariant.0

pub settle-requires-clause-kept : goal.settle-requires-clause-kept
settle-requires-clause-kept g c =
    subst (AreKept (book_of c.args.book.now)) (sym ((λ i. kept_in c.self.inside.adj (c.deref.ensures.value i) c.self.inside.table) ∙ c.self.view_is)) c.requires.kept

pub returns-in_err-settle-clause-bound : goal.returns-in_err-settle-clause-bound
returns-in_err-settle-clause-bound g c =
    subst (λ n. c.settle.new.steps ≤ c.args.steps.now + n)
    (ap (unmade (book_of c.args.book.now)) ((λ i. kept_in c.self.inside.adj (c.deref.ensures.value i) c.self.inside.table) ∙ c.self.view_is) ∙ unmade_is (book_of c.args.book.now) c.args.self.now)
    c.in_err-settle.ensures.bound

pub returns-clause-count : goal.returns-clause-count
returns-clause-count g c =
    counted_as c.len.result c.len-before.result (form_count c.settle.new.table) (form_count c.self.inside.table) (left (book_of c.args.book.now) (kept_in c.self.inside.adj c.deref.result.now c.settle.new.table))
    (left (book_of c.args.book.now) (kept_in c.self.inside.adj c.deref.result.now c.self.inside.table)) (stale_count (book_of c.args.book.now) c.args.self.now) c.len.ensures c.len-before.ensures c.in_ok-settle.ensures.goes.count
    (none_left (book_of c.args.book.now) c.self.inside.adj c.deref.result.now c.settle.new.table (subst HaveOwnNumbers (sym c.deref.ensures.value) c.self.invariant.0) c.in_ok-settle.ensures.settled)
    (ap (left (book_of c.args.book.now)) ((λ i. kept_in c.self.inside.adj (c.deref.ensures.value i) c.self.inside.table) ∙ c.self.view_is) ∙ left_is (book_of c.args.book.now) c.args.self.now)

pub returns-clause-bound : goal.returns-clause-bound
returns-clause-bound g c =
    subst (λ n. c.settle.new.steps ≤ c.args.steps.now + n)
    (ap (unmade (book_of c.args.book.now)) ((λ i. kept_in c.self.inside.adj (c.deref.ensures.value i) c.self.inside.table) ∙ c.self.view_is) ∙ unmade_is (book_of c.args.book.now) c.args.self.now)
    c.in_ok-settle.ensures.bound

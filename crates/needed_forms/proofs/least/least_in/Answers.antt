use Rattle.std.proofs.Common.{sym, arith}
use Rattle.workbook.specs.Kinds.{book_of}
use Rattle.needed_forms.specs.Firsts.{is_told}
use Rattle.needed_forms.specs.Told.{told_refusal}
use Rattle.needed_forms.proofs.LeastPlace.{behind_all, from_start, one_more}
use Rattle.needed_forms.proofs.least.least_in.Goals as goal

pub loop-place-init : goal.loop-place-init
loop-place-init c =
    (omega arith, sym (behind_all (is_told (told_refusal (book_of c.args.told.now.book.now) c.args.told.now.adj.now c.args.told.now.forms.now) c.args.stage) c.args.places.now))

pub bounds-places-place : goal.bounds-places-place
bounds-places-place c = omega (arith, c.loop-place.invariant.0, c.loop-place-test.true)

pub loop-place-preserved : goal.loop-place-preserved
loop-place-preserved c = (
  omega (arith, c.loop-place.invariant.0),
  one_more (is_told (told_refusal (book_of c.args.told.now.book.now) c.args.told.now.adj.now c.args.told.now.forms.now) c.args.stage) c.args.places.now c.loop-place.place _ c.loop-place.least _ c.loop-place-test.true
      c.loop-place.invariant.0 c.loop-place.invariant.1 c.with_least-least.ensures,
)

pub returns : goal.returns
returns c =
    from_start (is_told (told_refusal (book_of c.args.told.now.book.now) c.args.told.now.adj.now c.args.told.now.forms.now) c.args.stage) c.args.places.now c.loop-place.place c.loop-place.least c.loop-place-test.false
    c.loop-place.invariant.1

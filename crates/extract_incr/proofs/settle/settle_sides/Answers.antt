use Rattle.std.proofs.Common.{◌≡◌, ◌+◌, ℕ, Some, arith, subst, sym, ◌∙◌, ap}
use Rattle.std.specs.Prelude.{IsSome, slice_get}
use Rattle.std.proofs.lemmas.Option.{slice_get-get_or}
use Rattle.needed_forms.specs.FromExtract.{form_at}
use Rattle.formula_ast.specs.Tree.{Tree}
use Rattle.workbook.specs.Kinds.{book_of}
use Rattle.cell_refs.specs.declared.place.Place.TheVariants as place
use Rattle.extract_incr.specs.Settling.{kept_in, unmade}
use Rattle.extract_incr.proofs.Counting.{before_or_at, there_below}
use Rattle.extract_incr.proofs.Settling.{goes_on, still_some, the_same, tree_found, within_both}
use Rattle.extract_incr.proofs.settle.settle_sides.Goals as goal

pub settle_side-requires-clause-tree : goal.settle_side-requires-clause-tree
settle_side-requires-clause-tree g c =
    tree_found (book_of c.args.book.now) c.args.adj.now c.args.sides.now c.loop-side.side-index c.side-item.result.0 c.side-item.result.1 c.requires.numbers
    (slice_get-get_or c.args.sides.now c.loop-side.side-index c.side-item.result c.loop-side-test.true ∙ ap (λ (s : ℕ × Tree). Some s) (sym c.side-item.is))

pub settle_side-requires-clause-cells : goal.settle_side-requires-clause-cells
settle_side-requires-clause-cells g c = λ a has. still_some (book_of c.args.book.now) c.args.adj.now c.args.sides.now c.args.table.now c.loop-side.table c.loop-side.invariant.0 (place.Cell a) (c.requires.cells a has)

pub loop-side-preserved : goal.loop-side-preserved
loop-side-preserved g c =
    let at : slice_get c.args.sides.now c.loop-side.side-index ≡ Some c.side-item.result =
    slice_get-get_or c.args.sides.now c.loop-side.side-index c.side-item.result c.loop-side-test.true ∙ ap (λ (s : ℕ × Tree). Some s) (sym c.side-item.is) in (
      goes_on (book_of c.args.book.now) (kept_in c.args.adj.now c.args.sides.now c.args.table.now) (kept_in c.args.adj.now c.args.sides.now c.loop-side.table) (kept_in c.args.adj.now c.args.sides.now c.settle_side.new.table)
          c.loop-side.invariant.0 c.in_ok-settle_side.ensures.goes,
      λ p s less there. before_or_at (λ q. (d : ℕ × Tree) → slice_get c.args.sides.now q ≡ Some d → IsSome (form_at c.settle_side.new.table (place.Side d.0))) c.loop-side.side-index p less
          (λ q before d e. still_some (book_of c.args.book.now) c.args.adj.now c.args.sides.now c.loop-side.table c.settle_side.new.table c.in_ok-settle_side.ensures.goes (place.Side d.0) (c.loop-side.invariant.1 q d before e))
          (λ d e. subst (λ (b : ℕ × Tree). IsSome (form_at c.settle_side.new.table (place.Side b.0))) (the_same c.side-item.result d (sym at ∙ e)) c.in_ok-settle_side.ensures.there) s there,
      within_both c.args.steps.now c.loop-side.steps c.settle_side.new.steps c.loop-side.invariant.2 c.in_ok-settle_side.ensures.counted,
      within_both (c.settle_side.new.steps + unmade (book_of c.args.book.now) (kept_in c.args.adj.now c.args.sides.now c.settle_side.new.table)) (c.loop-side.steps + unmade (book_of c.args.book.now) (kept_in c.args.adj.now c.args.sides.now c.loop-side.table))
          (c.args.steps.now + unmade (book_of c.args.book.now) (kept_in c.args.adj.now c.args.sides.now c.args.table.now)) c.in_ok-settle_side.ensures.ok c.loop-side.invariant.3,
    )

pub returns-clause-there : goal.returns-clause-there
returns-clause-there g c = λ p a at. c.loop-side.invariant.1 p a (let r = there_below c.args.sides.now p a at in omega (arith, r, c.loop-side-test.false)) at

pub returns-in_err-settle_side-clause-goes : goal.returns-in_err-settle_side-clause-goes
returns-in_err-settle_side-clause-goes g c =
    goes_on (book_of c.args.book.now) (kept_in c.args.adj.now c.args.sides.now c.args.table.now) (kept_in c.args.adj.now c.args.sides.now c.loop-side.table) (kept_in c.args.adj.now c.args.sides.now c.settle_side.new.table)
    c.loop-side.invariant.0 c.in_err-settle_side.ensures.goes

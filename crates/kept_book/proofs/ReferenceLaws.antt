-- References that follow what cells say, one cell behind the other.
use Rattle.std.proofs.Common.{◌≡◌, ◌∙◌, zero, suc, true, false, true≢false, cond, List, [], ◌∷◌, Option, Some, None, ap, arith, refl, sym}
use Rattle.std.specs.Prelude.{Contains, Err, Ok, OnErr, Result}
use Rattle.std.specs.FinMap.{get, get-insert, get-remove}
use Rattle.std.specs.Ordering.{eq_by_cmp, is_eq}
use Rattle.std.specs.declared.cmp.Ordering.{Ordering}
use Rattle.std.specs.declared.cmp.Ordering.TheVariants.{Less, Equal, Greater}
use Rattle.std.proofs.lemmas.Cmp.{tied_itself}
use Rattle.cell_refs.specs.Areas.{Area}
use Rattle.cell_refs.specs.Cells.{cell_cmp}
use Rattle.cell_refs.specs.declared.cell.Cell.{Cell}
use Rattle.cell_refs.proofs.Order.{cells_total, exact_cells}
use Rattle.recalculation.specs.Entries.{entry}
use Rattle.workbook.specs.Kinds.{book_of}
use Rattle.workbook.specs.State.{State}
use Rattle.dep_table.specs.References.{AreReferencesOf, References, areas_said}
use Rattle.kept_book.specs.References.{AreKeptBut, with_areas}

-- ---- the references of a cell
areas_at : (r : References) (cell : Cell) (areas : Option (List Area)) (a : Cell) → get (with_areas r cell areas) a ≡ cond (eq_by_cmp cell_cmp a cell) areas (get r a)
areas_at r cell None a = get-remove cells_total r cell a
areas_at r cell (Some areas) a = get-insert cells_total r cell areas a

-- ---- cells that are left
pub never_none : (c : Cell) → ¬ (Contains [] c)
never_none c h = omega (arith, h.1)

pub later : (a c : Cell) (cells : List Cell) → Contains cells c → Contains (a ∷ cells) c
later a c cells h = (suc h.0, omega (arith, h.1), h.2)

pub first : (a c : Cell) (cells : List Cell) → a ≡ c → Contains (a ∷ cells) c
first a c cells e = (0, omega arith, e)

neither : (a c : Cell) (cells : List Cell) → ¬ (c ≡ a) → ¬ (Contains cells c) → ¬ (Contains (a ∷ cells) c)
neither a c cells n m (zero, i, e) = n (sym e)
neither a c cells n m (suc k, i, e) = m (k, omega (arith, i), e)

is_equal : (r : Ordering) → is_eq r ≡ true → r ≡ Equal
is_equal Less e = absurd cc
is_equal Equal e = refl
is_equal Greater e = absurd cc

-- where the references of all others are kept, those of one more cell are
pub one_followed : (book : State) (cell : Cell) (cells : List Cell) (r : References) → AreKeptBut (cell ∷ cells) book r
    → AreKeptBut cells book (with_areas r cell (areas_said (entry (book_of book) cell)))
one_followed book cell cells r kept a n =
    areas_at r cell (areas_said (entry (book_of book) cell)) a
    ∙ elim (eq_by_cmp cell_cmp a cell) as (λ b. eq_by_cmp cell_cmp a cell ≡ b → cond b (areas_said (entry (book_of book) cell)) (get r a) ≡ areas_said (entry (book_of book) a)) [
      | true ↦ λ e. ap (λ (x : Cell). areas_said (entry (book_of book) x)) (sym (same e))
      | false ↦ λ e. kept a (neither cell a cells (other e) n)
    ] refl
  where
    same : eq_by_cmp cell_cmp a cell ≡ true → a ≡ cell
    same e = exact_cells a cell (is_equal (cell_cmp a cell) e)

    other : eq_by_cmp cell_cmp a cell ≡ false → ¬ (a ≡ cell)
    other e q = true≢false (sym (ap is_eq (tied_itself cells_total a)) ∙ ap (eq_by_cmp cell_cmp a) q ∙ e)

-- with none left they are those of the workbook
pub all_followed : (book : State) (r : References) → AreKeptBut [] book r → AreReferencesOf r (book_of book)
all_followed book r kept a = kept a (never_none a)

-- ---- want of memory
pub at_err : {A E : Type 0} (r : Result A E) (P : Type 0) → P → OnErr r P
at_err (Ok x) P h = tt
at_err (Err e) P h = h

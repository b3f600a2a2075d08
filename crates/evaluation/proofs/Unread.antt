-- The values of tables don't matter but where they are picked.
use Rattle.std.proofs.Common.{◌≡◌, ◌∙◌, ℕ, zero, suc, false, if◌then◌else◌, List, [], ◌∷◌, ◌++◌, length, refl, sym, ap, Option, Some, None, arith}
use Rattle.std.specs.Prelude.{is_some, ◌==◌}
use Rattle.std.proofs.lemmas.Bool.Decides.{nat_tests}
use Rattle.cell_refs.specs.declared.cell.Cell.{Cell}
use Rattle.formula_ast.specs.Functions.{Takes}
use Rattle.formula_ast.specs.declared.func.Func.{Func}
use Rattle.formula_ast.specs.declared.func.Func.TheVariants as func
use Rattle.sheet_model.specs.declared.value.Value.{Value}
use Rattle.sheet_model.specs.declared.grid.Arg.{Arg}
use Rattle.recalculation.specs.Evaluation.{CellGrid}
use Rattle.recalculation.specs.Looking.{by_value}
use Rattle.recalculation.specs.Looks.{Argument, index_of_looks, table_looks, exchanged, call_looks}
use Rattle.evaluation.specs.Composed.{index_of_outcome, table_outcome, size_of_outcome, size_outcome, call_outcome, call_part}
use Rattle.evaluation.specs.Tables.{table_place, unread, unread_from, unread_at, is_place, read_at}

-- what is no reference keeps its value
unread_none : (a : Argument Arg) → a.reference ≡ None → unread a ≡ a
unread_none a e = ap (λ o. record { looks = a.looks; outcome = if is_some o then None else a.outcome; reference = a.reference }) e

-- what doesn't depend on the value of a reference
same_unread : {X : Type 0} (G : Argument Arg → Option CellGrid → X) (a : Argument Arg) → ((g : CellGrid) → G (unread a) (Some g) ≡ G a (Some g)) → G (unread a) a.reference ≡ G a a.reference
same_unread {X} G a h = by a.reference refl
  where
    by : (o : Option CellGrid) → a.reference ≡ o → G (unread a) o ≡ G a o
    by None e = ap (λ b. G b None) (unread_none a e)
    by (Some g) e = h g

module _ (known : Cell → Option Value) where
  -- a call, by what it looks at and its value
  called_alike : (f : Func) (args others : List (Argument Arg)) → call_looks by_value known f args ≡ call_looks by_value known f others → call_outcome known f args ≡ call_outcome known f others
      → call_part known f args ≡ call_part known f others
  called_alike f args others looks outcome = λ i. record { looks = looks i; outcome = outcome i; reference = None }

  -- INDEX
  index_unread : (args : List (Argument Arg)) → call_part known func.Index (unread_from 0 args) ≡ call_part known func.Index args
  index_unread [] = refl
  index_unread (a ∷ places) =
      called_alike func.Index (unread a ∷ places) (a ∷ places) (same_unread (λ b o. index_of_looks by_value b places o) a (λ g. refl)) (same_unread (λ b o. index_of_outcome known b places o) a (λ g. refl))

  -- VLOOKUP and HLOOKUP
  vlookup_unread : (args : List (Argument Arg)) → call_part known func.VLookup (unread_from 1 args) ≡ call_part known func.VLookup args
  vlookup_unread [] = refl
  vlookup_unread (key ∷ []) = refl
  vlookup_unread (key ∷ table ∷ rest) =
      called_alike func.VLookup (key ∷ unread table ∷ rest) (key ∷ table ∷ rest) (same_unread (λ b o. table_looks by_value known (λ g. g) (key ∷ rest) b o) table (λ g. refl))
      (same_unread (λ b o. table_outcome known func.VLookup (λ g. g) key b rest o) table (λ g. refl))

  hlookup_unread : (args : List (Argument Arg)) → call_part known func.HLookup (unread_from 1 args) ≡ call_part known func.HLookup args
  hlookup_unread [] = refl
  hlookup_unread (key ∷ []) = refl
  hlookup_unread (key ∷ table ∷ rest) =
      called_alike func.HLookup (key ∷ unread table ∷ rest) (key ∷ table ∷ rest) (same_unread (λ b o. table_looks by_value known exchanged (key ∷ rest) b o) table (λ g. refl))
      (same_unread (λ b o. table_outcome known func.HLookup exchanged key b rest o) table (λ g. refl))

  -- ROWS and COLUMNS, which take one argument
  size_unread : (f : Func) (size : CellGrid → ℕ) (a : Argument Arg) → size_outcome f size (unread a ∷ []) ≡ size_outcome f size (a ∷ [])
  size_unread f size a = same_unread (λ b o. size_of_outcome f size b o) a (λ g. refl)

  rows_unread : (args : List (Argument Arg)) → Takes func.Rows (length args) → call_part known func.Rows (unread_from 0 args) ≡ call_part known func.Rows args
  rows_unread [] takes = refl
  rows_unread (a ∷ []) takes = called_alike func.Rows (unread a ∷ []) (a ∷ []) refl (size_unread func.Rows (λ g. g.rows) a)
  rows_unread (a ∷ b ∷ args) takes = absurd (omega (arith, takes.most))

  columns_unread : (args : List (Argument Arg)) → Takes func.Columns (length args) → call_part known func.Columns (unread_from 0 args) ≡ call_part known func.Columns args
  columns_unread [] takes = refl
  columns_unread (a ∷ []) takes = called_alike func.Columns (unread a ∷ []) (a ∷ []) refl (size_unread func.Columns (λ g. g.columns) a)
  columns_unread (a ∷ b ∷ args) takes = absurd (omega (arith, takes.most))

  -- so a call doesn't depend on the value of its table
  pub call_unread : (f : Func) (args : List (Argument Arg)) → Takes f (length args) → call_part known f (unread_at (table_place f) args) ≡ call_part known f args
  call_unread func.Index args takes = index_unread args
  call_unread func.VLookup args takes = vlookup_unread args
  call_unread func.HLookup args takes = hlookup_unread args
  call_unread func.Rows args takes = rows_unread args takes
  call_unread func.Columns args takes = columns_unread args takes
  call_unread _ args takes = refl

-- ---- one argument more
zero_first : (m : ℕ) → (0 == suc m) ≡ false
zero_first m = grind (arith, nat_tests)

suc_first : (n : ℕ) → (suc n == 0) ≡ false
suc_first n = grind (arith, nat_tests)

both_later : (n m : ℕ) → (suc n == suc m) ≡ (n == m)
both_later n m = grind (arith, nat_tests)

from_push : (n : ℕ) (args : List (Argument Arg)) (a : Argument Arg) → unread_from n (args ++ a ∷ []) ≡ unread_from n args ++ read_at (n == length args) a ∷ []
from_push zero [] a = refl
from_push (suc n) [] a = ap (λ b. read_at b a ∷ []) (sym (suc_first n))
from_push zero (b ∷ args) a = ap (λ t. unread b ∷ args ++ read_at t a ∷ []) (sym (zero_first (length args)))
from_push (suc n) (b ∷ args) a = ap (λ rest. b ∷ rest) (from_push n args a) ∙ ap (λ t. b ∷ unread_from n args ++ read_at t a ∷ []) (sym (both_later n (length args)))

pub unread_push : (place : Option ℕ) (args : List (Argument Arg)) (a : Argument Arg) → unread_at place (args ++ a ∷ []) ≡ unread_at place args ++ read_at (is_place place (length args)) a ∷ []
unread_push None args a = refl
unread_push (Some n) args a = from_push n args a

-- as many as before
from_length : (n : ℕ) (args : List (Argument Arg)) → length (unread_from n args) ≡ length args
from_length n [] = refl
from_length zero (a ∷ args) = refl
from_length (suc n) (a ∷ args) = ap suc (from_length n args)

pub unread_length : (place : Option ℕ) (args : List (Argument Arg)) → length (unread_at place args) ≡ length args
unread_length None args = refl
unread_length (Some n) args = from_length n args

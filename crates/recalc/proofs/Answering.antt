-- The answer of a walk is that of recalculation.
use Rattle.std.proofs.Common.{◌≡◌, ℕ, Bool, true, false, cond, List, [], ◌∷◌, Option, Some, None, refl, sym, ap, subst, ◌∙◌}
use Rattle.std.specs.Prelude.{◌&&◌, IfOk, MatchOption, Ok, Err, Result, not, is_some, slice_get}
use Rattle.std.specs.BTreeMap.{is_at}
use Rattle.std.specs.FinMap.{contains_key}
use Rattle.std.proofs.lemmas.Bool.{or_parts}
use Rattle.std.specs.FinSet as set
use Rattle.cell_refs.specs.declared.cell.Cell.{Cell}
use Rattle.cell_refs.specs.Cells.{cell_cmp}
use Rattle.memory.specs.declared.Memory.{Memory}
use Rattle.sheet_model.specs.declared.value.Value.{Value}
use Rattle.recalculation.specs.Entries.{Book, Entry, Constant, Formula, Malformed, entry, no_overriding, nothing}
use Rattle.recalculation.specs.Narrow.{IsLeastWide, Looked, LooksAt, LooksFrom, NoneIsWide, entry_is_wide, further, is_wide, itself, known}
use Rattle.recalculation.specs.Recalculation.{val}
use Rattle.recalculation.specs.Walks.{is_circular, is_formula}
use Rattle.recalculation.proofs.Knowns.{known_right}
use Rattle.recalculation.proofs.Wide.{looked_referred, wide_looked_at}
use Rattle.dep_table.specs.Order.{HasCircular, HasFree, Reaches, further as refers_further, itself as reaches_from}
use Rattle.recalc.specs.declared.rows.Row.{Row}
use Rattle.recalc.specs.Rows.{AreRows, HasRow, row_at, some_wide}
use Rattle.recalc.specs.Walks.{HasNone, IsAnswer, IsLeast, Reached, further as reaches_further, itself as reaches_itself, wide_in}

-- only formulas look at cells, and only they are wide
looks_formula : (circular : Bool) (f : Cell → Option Value) (e : Option Entry) (b : Cell) → LooksFrom circular f e b → is_formula e ≡ true
looks_formula true f None b h = absurd cc
looks_formula true f (Some (Constant v)) b h = absurd cc
looks_formula true f (Some (Formula t)) b h = refl
looks_formula true f (Some Malformed) b h = absurd cc
looks_formula false f None b h = absurd h
looks_formula false f (Some (Constant v)) b h = absurd h
looks_formula false f (Some (Formula t)) b h = refl
looks_formula false f (Some Malformed) b h = absurd h

wide_formula : (circular : Bool) (f : Cell → Option Value) (e : Option Entry) → (is_formula e ≡ true → false ≡ true) → (not circular && entry_is_wide f e) ≡ false
wide_formula true f e h = refl
wide_formula false f None h = refl
wide_formula false f (Some (Constant v)) h = refl
wide_formula false f (Some (Formula t)) h = absurd (let k : false ≡ true = h refl in cc)
wide_formula false f (Some Malformed) h = refl

-- what is looked at is reached by references
referred_on : (book : Book) (from b : Cell) → Looked book no_overriding from b → Reaches book nothing from b
referred_on book from _ itself = reaches_from
referred_on book from _ (further b c before look) = refers_further b c (referred_on book from b before) (looked_referred book no_overriding b c look)

-- a row among rows of which none is wide
no_wide_row : (rows : List (Cell × Row)) (b : Cell) → some_wide rows ≡ false → wide_in (row_at rows b) ≡ false
no_wide_row [] b h = refl
no_wide_row (e ∷ rows) b h = by (is_at (cell_cmp b) e.0) (or_parts e.1.is_wide (some_wide rows) h) (no_wide_row rows b)
  where
    by : (t : Bool) → (e.1.is_wide ≡ false) × (some_wide rows ≡ false) → (some_wide rows ≡ false → wide_in (row_at rows b) ≡ false) → wide_in (cond t (Some e.1) (row_at rows b)) ≡ false
    by true p later = p.0
    by false p later = later p.1

module _ (book : Book) (keeps_looks : Bool) (rows : List (Cell × Row)) (are : AreRows book keeps_looks rows) (from : Cell)
    (has : (b : Cell) → Reaches book nothing from b → is_formula (entry book b) ≡ true → HasRow rows b) where
  -- a cell with a row
  with_row : keeps_looks ≡ true → (b c : Cell) (o : Option Row) → row_at rows b ≡ o → is_some o ≡ true → Reached rows from b → LooksAt book no_overriding b c → Reached rows from c
  with_row on b c None e h before look = absurd cc
  with_row on b c (Some row) e h before look = reaches_further b c row before e ((are.right b row e).looks on c look)

  -- what is looked at is reached, and the other way round
  reached : keeps_looks ≡ true → (b : Cell) → Looked book no_overriding from b → Reached rows from b
  reached on _ itself = reaches_itself
  reached on _ (further b c before look) =
      with_row on b c (row_at rows b) refl (has b (referred_on book from b before) (looks_formula (is_circular book nothing b) (known book no_overriding) (entry book b) c look.2)) (reached on b before) look

  looked : (b : Cell) → contains_key book.texts b ≡ true → Reached rows from b → Looked book no_overriding from b
  looked _ text reaches_itself = itself
  looked _ text (reaches_further b c row before e h) = further b c (looked b (are.right b row e).text before) ((are.right b row e).looked c text h)

  -- what is wide has a row, and so a text
  wide_text : (b : Cell) → wide_in (row_at rows b) ≡ true → contains_key book.texts b ≡ true
  wide_text b = by (row_at rows b) refl
    where
      by : (o : Option Row) → row_at rows b ≡ o → wide_in o ≡ true → contains_key book.texts b ≡ true
      by None e h = absurd cc
      by (Some row) e h = (are.right b row e).text

  -- wide cells are those of the rows
  wide_same : (b : Cell) → Looked book no_overriding from b → wide_in (row_at rows b) ≡ is_wide book no_overriding b
  wide_same b look = by (row_at rows b) refl
    where
      by : (o : Option Row) → row_at rows b ≡ o → wide_in o ≡ is_wide book no_overriding b
      by (Some row) e = (are.right b row e).wide
      by None e = sym (wide_formula (is_circular book nothing b) (known book no_overriding) (entry book b) (λ h. sym (ap is_some e) ∙ has b (referred_on book from b look) h))

  pub none_is_wide : keeps_looks ≡ true → HasNone rows from → NoneIsWide book no_overriding from
  none_is_wide on h b look = sym (wide_same b look) ∙ h b (reached on b look)

  -- where no row is wide
  pub none_at_all : some_wide rows ≡ false → NoneIsWide book no_overriding from
  none_at_all none b look = sym (wide_same b look) ∙ no_wide_row rows b none

  pub least_is_wide : keeps_looks ≡ true → (c : Cell) → IsLeast rows from c → IsLeastWide book no_overriding from c
  least_is_wide on c least = record {
    looked = looked c (wide_text c least.wide) least.reached;
    wide = sym (wide_same c (looked c (wide_text c least.wide) least.reached)) ∙ least.wide;
    least = λ b look wide. least.least b (reached on b look) (wide_same b look ∙ wide);
  }

-- the answer of a walk through rows with the cells at which they look
pub answered : (book : Book) (rows : List (Cell × Row)) (are : AreRows book true rows) (from : Cell) (has : (b : Cell) → Reaches book nothing from b → is_formula (entry book b) ≡ true → HasRow rows b)
    (least : Option Cell) → IsAnswer rows from least → MatchOption least (NoneIsWide book no_overriding from) (IsLeastWide book no_overriding from)
answered book rows are from has None h = none_is_wide book true rows are from has refl h
answered book rows are from has (Some c) h = least_is_wide book true rows are from has refl c h

pub answers : (book : Book) (rows : List (Cell × Row)) (are : AreRows book true rows) (from : Cell) (has : (b : Cell) → Reaches book nothing from b → is_formula (entry book b) ≡ true → HasRow rows b)
    (answer : Result (Option Cell) Memory) → IfOk answer (IsAnswer rows from) → IfOk answer (λ least. MatchOption least (NoneIsWide book no_overriding from) (IsLeastWide book no_overriding from))
answers book rows are from has (Ok least) h = answered book rows are from has least h
answers book rows are from has (Err e) h = tt

-- a narrow value is the value
pub shown_value : (book : Book) (a : Cell) (v : Value) → known book no_overriding a ≡ Some v → val book no_overriding a ≡ v
shown_value book a v e = known_right book no_overriding a v e

-- where there is none, a wide cell is looked at
pub never : {A : Type 0} (book : Book) (a : Cell) → known book no_overriding a ≡ None → NoneIsWide book no_overriding a → A
never book a e none =
    let found = wide_looked_at book no_overriding a e in
    absurd (let h : true ≡ false = sym found.2 ∙ none found.0 found.1 in cc)

-- all formulas that are reached have rows where the circular ones and the others have them
pub all_rows : (book : Book) (before after : List (Cell × Row)) (from : Cell) (circular : Cell → Bool) (order : List Cell)
    → ((a : Cell) → HasRow before a → HasRow after a) → ((p : ℕ) (a : Cell) → slice_get order p ≡ Some a → HasRow after a)
    → ((a : Cell) → circular a ≡ true → HasRow before a) → HasCircular book nothing (Reaches book nothing from) circular
    → HasFree book nothing (Reaches book nothing from) order → (a : Cell) → Reaches book nothing from a → is_formula (entry book a) ≡ true → HasRow after a
all_rows book before after from circular order kept filled all are free a reached formula = by (is_circular book nothing a) refl
  where
    by : (b : Bool) → is_circular book nothing a ≡ b → HasRow after a
    by true e = kept a (all a (are.all a reached e))
    by false e = let at = free a reached formula e in filled at.0 a at.1

-- no cell is a leaf of a set without cells
pub no_leaves : (s : set.FinSet cell_cmp) → s ≡ set.empty → set.contains s ≡ nothing
no_leaves s e = λ i b. (ap (λ t. set.contains t b) e ∙ set.contains-empty cell_cmp b) i

pub circular_there : (book : Book) (l : Cell → Bool) (from : Cell) (has : Cell → Bool) → l ≡ nothing → HasCircular book l (Reaches book l from) has
    → HasCircular book nothing (Reaches book nothing from) has
circular_there book l from has e h = subst (λ k. HasCircular book k (Reaches book k from) has) e h

pub free_there : (book : Book) (l : Cell → Bool) (from : Cell) (items order : List Cell) → l ≡ nothing → order ≡ items → HasFree book l (Reaches book l from) items
    → HasFree book nothing (Reaches book nothing from) order
free_there book l from items order e same h =
    subst (HasFree book nothing (Reaches book nothing from)) (sym same) (subst (λ k. HasFree book k (Reaches book k from) items) e h)

-- the cell that is found, by what it is
pub found_wide : (book : Book) (from : Cell) (wide : Option Cell) (c : Cell) → wide ≡ Some c → MatchOption wide (NoneIsWide book no_overriding from) (IsLeastWide book no_overriding from) → IsLeastWide book no_overriding from c
found_wide book from wide c e h = subst (λ o. MatchOption o (NoneIsWide book no_overriding from) (IsLeastWide book no_overriding from)) e h

pub found_none : (book : Book) (from : Cell) (wide : Option Cell) → wide ≡ None → MatchOption wide (NoneIsWide book no_overriding from) (IsLeastWide book no_overriding from) → NoneIsWide book no_overriding from
found_none book from wide e h = subst (λ o. MatchOption o (NoneIsWide book no_overriding from) (IsLeastWide book no_overriding from)) e h

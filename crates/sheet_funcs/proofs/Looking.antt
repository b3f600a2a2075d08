-- Lookups.
use Rattle.std.proofs.Common.{◌≡◌, ◌⊎◌, inl, inr, ℕ, ◌+◌, ◌-◌, ◌*◌, ◌<◌, ◌≤◌, max, Bool, true, false, refl, sym, ap, ◌∙◌, subst, List, [], ◌∷◌, length, get_or, take, drop, Option, Result, Ok, arith}
use Rattle.std.specs.Prelude.{if◌then◌else◌, ◌==◌, ◌||◌, flat_map, map}
use Rattle.std.specs.List.{range_with_len}
use Rattle.std.proofs.lemmas.Bool.{eq-eqb}
use Rattle.std.proofs.lemmas.List.{take_rest}
use Rattle.cell_refs.specs.declared.error_kind.ErrorKind.{ErrorKind}
use Rattle.cell_refs.specs.declared.error_kind.ErrorKind.TheVariants as kind
use Rattle.fractions.specs.Rational.{ℚ}
use Rattle.sheet_model.specs.Grids.{Rectangle, IsFull}
use Rattle.sheet_model.specs.Operators.{single}
use Rattle.sheet_model.specs.declared.value.Value.{Value}
use Rattle.sheet_model.specs.declared.value.Value.TheVariants.{Empty}
use Rattle.sheet_model.specs.declared.grid.Arg.{Arg}
use Rattle.sheet_model.specs.declared.grid.Arg.TheVariants.{One, Area}
use Rattle.sheet_funcs.specs.Arguments.{at, column_of, grid_of, no_error, value_of}
use Rattle.sheet_funcs.specs.Fields.{AreWithin, one_field}
use Rattle.sheet_funcs.specs.Lookups.{found, kind_of, lookup_pick, pick_by, pick_in, record_pick}
use Rattle.sheet_funcs.specs.Picks.{taken_from}
use Rattle.sheet_funcs.specs.Searches.{spaced}
use Rattle.sheet_funcs.specs.TableViews.{IsIndexed, IsTable, field_place, keys_of}
use Rattle.sheet_funcs.specs.declared.pick.Pick.TheVariants.{Part, Fault}
use Rattle.sheet_funcs.specs.declared.table_view.TableView.{TableView}
use Rattle.sheet_funcs.proofs.Spaced.{same_below, spaced_one}

-- ---- in a row or a column
-- a grid of one row or of one column passes the test
is_line : (g : Rectangle) → (g.rows ≡ 1) ⊎ (g.columns ≡ 1) → ((g.rows == 1) || (g.columns == 1)) ≡ true
is_line g (inl e) = rw (eq-eqb g.rows 1 e) refl
is_line g (inr e) = rw (eq-eqb g.columns 1 e) (or_true (g.rows == 1))
  where
    or_true : (b : Bool) → (b || true) ≡ true
    or_true true = refl
    or_true false = refl

-- and has as many elements as its longer side
line_size : (g : Rectangle) → IsFull g → (g.rows ≡ 1) ⊎ (g.columns ≡ 1) → length g.items ≡ max g.rows g.columns
line_size g full (inl e) = let some = full.some_columns in full.size ∙ rw e (omega arith)
line_size g full (inr e) = let some = full.some_rows in full.size ∙ rw e (omega arith)

-- the pick of the place that is found there
pub line_pick : (key : Arg) (keys : Arg) (v : Value) (x : ℚ) (items : List Value) (count : ℕ) (place : Option ℕ) → Ok v ≡ no_error (value_of key) → IsFull (grid_of keys)
    → ((grid_of keys).rows ≡ 1) ⊎ ((grid_of keys).columns ≡ 1) → items ≡ (grid_of keys).items → count ≡ max (grid_of keys).rows (grid_of keys).columns
    → place ≡ found (kind_of x) v (spaced items 1 count) → pick_in (grid_of keys) place ≡ lookup_pick key keys (Ok x)
line_pick key keys v x items count place is full line same size found_there =
    let g = grid_of keys in
    let all : spaced items 1 count ≡ g.items = ap (λ xs. spaced xs 1 count) same ∙ ap (spaced g.items 1) (size ∙ sym (line_size g full line)) ∙ spaced_one g.items in
    ap (pick_in g) (found_there ∙ ap (found (kind_of x) v) all)
    ∙ sym (ap (λ r. pick_by g r (Ok x)) (sym is) ∙ ap (λ b. if b then pick_in g (found (kind_of x) v g.items) else Fault kind.NotAvailable) (is_line g line))

-- ---- in a table
-- the keys
pub keys_are : (t : TableView) (g : Rectangle) → IsIndexed t → IsTable t g → spaced t.items.now t.key_step t.keys ≡ column_of g 0
keys_are t g indexed table =
    ap (λ n. spaced t.items.now t.key_step n) table.keys
    ∙ same_below (λ place. get_or t.items.now (place * t.key_step) Empty) (λ row. at g row 0) g.rows Empty
    (λ row h. ap (λ i. get_or t.items.now i Empty) (omega arith) ∙ table.same row 0 h (subst (λ n. 0 < n) table.fields indexed.some_fields))

-- what is picked by the table's fields and keys is picked by those of the grid
pub picked_there : (t : TableView) (g : Rectangle) (args : List Arg) (r : Result (ℕ × ℕ) ErrorKind) → IsIndexed t → IsTable t g → one_field r ≡ record_pick t.fields (keys_of t) args
    → record_pick g.columns (column_of g 0) args ≡ one_field r
picked_there t g args r indexed table there =
    sym (there ∙ ap (λ n. record_pick n (keys_of t) args) table.fields ∙ ap (λ vs. record_pick g.columns vs args) (keys_are t g indexed table))

-- a part of one row and one column is its element
one_element : (g : Rectangle) (row column m n : ℕ) → m ≡ 1 → n ≡ 1
    → single (Area (record { rows = m; columns = n; items = flat_map (λ row. map (λ column. at g row column) (range_with_len column n)) (range_with_len row m) })) ≡ One (at g row column)
one_element g row column m n d e = rw (d, e) refl

pub one_taken : (g : Rectangle) (row column : ℕ) → taken_from g (Part row column row column) ≡ One (at g row column)
one_taken g row column = one_element g row column (row + 1 - row) (column + 1 - column) (omega arith) (omega arith)

-- a field of a record of the table is what is looked up
pub field_is : (t : TableView) (g : Rectangle) (args : List Arg) (r n : ℕ) (v : Value) → IsIndexed t → IsTable t g → one_field (Ok (r, n)) ≡ record_pick t.fields (keys_of t) args
    → AreWithin t.keys t.fields (r, n) → v ≡ get_or t.items.now (field_place t r n) Empty → taken_from g (record_pick g.columns (column_of g 0) args) ≡ One v
field_is t g args r n v indexed table there within is =
    ap (taken_from g) (picked_there t g args (Ok (r, n)) indexed table there) ∙ one_taken g r n
    ∙ ap One (sym (is ∙ table.same r n (subst (λ k. r < k) table.keys within.0) (subst (λ k. n < k) table.fields within.1)))

-- ---- arguments
-- three arguments and then others
pub first_three : (args : List Arg) (a b c : Arg) → 3 ≤ length args → a ≡ get_or args 0 a → b ≡ get_or args 1 b → c ≡ get_or args 2 c → args ≡ a ∷ b ∷ c ∷ take (length args - 3) (drop 3 args)
first_three [] a b c h e f g = absurd (omega arith)
first_three (x ∷ []) a b c h e f g = absurd (omega arith)
first_three (x ∷ y ∷ []) a b c h e f g = absurd (omega arith)
first_three (x ∷ y ∷ z ∷ rest) a b c h e f g =
    let tail : take (length (x ∷ y ∷ z ∷ rest) - 3) (drop 3 (x ∷ y ∷ z ∷ rest)) ≡ rest = take_rest (x ∷ y ∷ z ∷ rest) 3 in
    rw (tail, e, f, g) refl

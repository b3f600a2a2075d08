-- Rounds over all formulas compute the values of the definition.
use Rattle.std.proofs.Common.{◌≡◌, ℕ, zero, suc, Bool, true, false, cond, if◌then◌else◌, List, [], ◌∷◌, ◌++◌, length, map, Option, Some, None, refl, sym, ap, ◌∙◌, inl, inr}
use Rattle.std.specs.Prelude.{◌⊎◌, slice_get, ⊤}
use Rattle.std.specs.BTreeMap.{is_at}
use Rattle.std.specs.FinMap.{entries}
use Rattle.std.specs.FinSet as set
use Rattle.cell_refs.specs.declared.cell.Cell.{Cell}
use Rattle.cell_refs.specs.declared.error_kind.ErrorKind.TheVariants as error
use Rattle.cell_refs.specs.Cells.{cell_cmp}
use Rattle.cell_refs.proofs.Order.{exact_cells}
use Rattle.dep_table.specs.Order.{HasFree, IsOrder}
use Rattle.sheet_model.specs.declared.value.Value.{Value}
use Rattle.sheet_model.specs.declared.value.Value.TheVariants as value
use Rattle.recalculation.specs.Entries.{Book, Constant, Entry, Formula, Malformed, entry, no_overriding, nothing}
use Rattle.recalculation.specs.Narrow.{bounded_known, entry_known, known, known_over}
use Rattle.recalculation.specs.Walks.{is_circular, is_formula}
use Rattle.recalculation.proofs.Lists.{first_true}
use Rattle.recalc.specs.declared.rows.Row.{Row}
use Rattle.recalc.specs.Rounds.{IsRound}
use Rattle.recalc.specs.Rows.{row_at, seen_by, seen_in, value_in}
use Rattle.recalc.proofs.Members.{member_place, place_member}
use Rattle.recalc.proofs.Right.{not_circular}
use Rattle.recalc.proofs.Walking.{equal_of}

-- ---- two lists behind each other
either_part : {A : Type 0} (xs ys : List A) (p : ℕ) (a : A) → slice_get (xs ++ ys) p ≡ Some a → ((q : ℕ) × (slice_get xs q ≡ Some a)) ⊎ ((q : ℕ) × (slice_get ys q ≡ Some a))
either_part [] ys p a h = inr (p, h)
either_part (x ∷ xs) ys zero a h = inl (0, h)
either_part {A} (x ∷ xs) ys (suc p) a h =
    elim (either_part xs ys p a h) as (λ _. ((q : ℕ) × (slice_get (x ∷ xs) q ≡ Some a)) ⊎ ((q : ℕ) × (slice_get ys q ≡ Some a))) [
      | inl r ↦ inl (suc r.0, r.1)
      | inr r ↦ inr r
    ]

in_left : {A : Type 0} (xs ys : List A) (q : ℕ) (a : A) → slice_get xs q ≡ Some a → (p : ℕ) × (slice_get (xs ++ ys) p ≡ Some a)
in_left [] ys q a h = absurd cc
in_left (x ∷ xs) ys zero a h = (0, h)
in_left (x ∷ xs) ys (suc q) a h = let r = in_left xs ys q a h in (suc r.0, r.1)

in_right : {A : Type 0} (xs ys : List A) (q : ℕ) (a : A) → slice_get ys q ≡ Some a → (p : ℕ) × (slice_get (xs ++ ys) p ≡ Some a)
in_right [] ys q a h = (q, h)
in_right (x ∷ xs) ys q a h = let r = in_right xs ys q a h in (suc r.0, r.1)

-- ---- all formulas: the circular ones, and the others in their order
module _ (book : Book) (circular : set.FinSet cell_cmp) (cells order : List Cell) (is : set.from_list cells ≡ circular)
    (right : (a : Cell) → set.contains circular a ≡ is_circular book nothing a) (ordered : IsOrder book nothing order) (free : HasFree book nothing (λ a. ⊤) order) where
  pub all_formulas : (p : ℕ) (a : Cell) → slice_get (cells ++ order) p ≡ Some a → is_formula (entry book a) ≡ true
  all_formulas p a h =
      elim (either_part cells order p a h) as (λ _. is_formula (entry book a) ≡ true) [
        | inl r ↦ first_true (is_formula (entry book a)) _ (sym (right a) ∙ ap (λ s. set.contains s a) (sym is) ∙ place_member cells r.0 a r.1)
        | inr r ↦ ordered.formula r.0 a r.1
      ]

  pub found_formula : (a : Cell) → is_formula (entry book a) ≡ true → (p : ℕ) × (slice_get (cells ++ order) p ≡ Some a)
  found_formula a formula = by (is_circular book nothing a) refl
    where
      by : (b : Bool) → is_circular book nothing a ≡ b → (p : ℕ) × (slice_get (cells ++ order) p ≡ Some a)
      by true e = let r = member_place cells a (ap (λ s. set.contains s a) is ∙ right a ∙ e) in in_left cells order r.0 a r.2
      by false e = let r = free a tt formula e in in_right cells order r.0 a r.1

-- ---- a row that is put
pub kept_value : (rows after : List (Cell × Row)) (cell : Cell) (row : Row) (wanted : Cell → Option Value)
    → ((q : Cell) → row_at after q ≡ cond (is_at (cell_cmp cell) q) (Some row) (row_at rows q)) → row.value ≡ wanted cell
    → (a : Cell) → value_in (row_at rows a) ≡ wanted a → value_in (row_at after a) ≡ wanted a
kept_value rows after cell row wanted is own a h = ap value_in (is a) ∙ by (is_at (cell_cmp cell) a) refl
  where
    by : (t : Bool) → is_at (cell_cmp cell) a ≡ t → value_in (cond t (Some row) (row_at rows a)) ≡ wanted a
    by true t = own ∙ ap wanted (exact_cells cell a (equal_of (cell_cmp cell a) t))
    by false t = h

-- ---- a round
-- there are as many keys as entries
as_many : (es : List (Cell × List ℕ)) → length (map (λ (e : Cell × List ℕ). e.0) es) ≡ length es
as_many [] = refl
as_many (e ∷ es) = ap suc (as_many es)

module _ (book : Book) where
  -- before the first round
  pub at_start : (a : Cell) → Some (value.Error error.Circular) ≡ bounded_known book no_overriding 0 a
  unfolding bounded_known
  at_start a = refl

  -- one round more
  one_more : (n : ℕ) (a : Cell) → bounded_known book no_overriding (suc n) a ≡ known_over book no_overriding (bounded_known book no_overriding n) a
  unfolding bounded_known
  one_more n a = refl

  pub round_seen : (n : ℕ) (f : Cell → Option Value) (rows : List (Cell × Row)) → ((a : Cell) → f a ≡ bounded_known book no_overriding n a) → IsRound book f rows
      → (a : Cell) → seen_in book rows a ≡ bounded_known book no_overriding (suc n) a
  round_seen n f rows same round a = by (entry book a) refl ∙ sym (one_more n a)
    where
      before : f ≡ bounded_known book no_overriding n
      before = λ i b. same b i

      other : (e : Option Entry) → entry book a ≡ e → is_formula e ≡ false → seen_by e (row_at rows a) ≡ entry_known (bounded_known book no_overriding n) e
          → seen_in book rows a ≡ known_over book no_overriding (bounded_known book no_overriding n) a
      other e says plain is =
          ap (λ d. seen_by d (row_at rows a)) says ∙ is
          ∙ sym (ap (λ c. if c then Some (value.Error error.Circular) else entry_known (bounded_known book no_overriding n) (entry book a))
          (not_circular (entry book a) _ (ap is_formula says ∙ plain)) ∙ ap (entry_known (bounded_known book no_overriding n)) says)

      by : (e : Option Entry) → entry book a ≡ e → seen_in book rows a ≡ known_over book no_overriding (bounded_known book no_overriding n) a
      by None says = other None says refl refl
      by (Some (Constant v)) says = other (Some (Constant v)) says refl refl
      by (Some (Formula t)) says = ap (λ d. seen_by d (row_at rows a)) says ∙ round a (ap is_formula says) ∙ ap (λ g. known_over book no_overriding g a) before
      by (Some Malformed) says = other (Some Malformed) says refl refl

  -- as many rounds as there are texts, and one more
  pub enough : (n : ℕ) (a : Cell) → n ≡ length (entries book.texts) → bounded_known book no_overriding (suc n) a ≡ known book no_overriding a
  unfolding known
  enough n a e = ap (λ m. bounded_known book no_overriding (suc m) a) (e ∙ sym (as_many (entries book.texts)))

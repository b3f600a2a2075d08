-- Rows are right: each is that of its cell.
use Rattle.std.proofs.Common.{◌≡◌, Bool, true, false, cond, if◌then◌else◌, List, [], ◌∷◌, flat_map, Option, Some, None, refl, sym, ap, subst, ◌∙◌, arith}
use Rattle.std.specs.Prelude.{◌&&◌, not, is_some, is_none, option_map, Contains}
use Rattle.std.specs.BTreeMap.{is_at}
use Rattle.std.specs.List.{AllByRecursion}
use Rattle.cell_refs.specs.declared.cell.Cell.{Cell}
use Rattle.cell_refs.specs.declared.error_kind.ErrorKind.TheVariants as error
use Rattle.cell_refs.specs.Areas.{cells_of}
use Rattle.cell_refs.specs.Cells.{cell_cmp}
use Rattle.cell_refs.proofs.Order.{exact_cells}
use Rattle.formula_ast.specs.Measures.{references_of}
use Rattle.formula_ast.specs.Tree.{Tree}
use Rattle.sheet_model.specs.declared.value.Value.{Value}
use Rattle.sheet_model.specs.declared.value.Value.TheVariants as value
use Rattle.recalculation.specs.Entries.{Book, Entry, Constant, Formula, Malformed, entry, no_overriding, nothing}
use Rattle.recalculation.specs.Evaluation.{cell_value}
use Rattle.recalculation.specs.Looking.{are_known, looked_at, outcome_of}
use Rattle.recalculation.specs.Narrow.{LooksFrom, entry_is_wide, entry_known, known}
use Rattle.recalculation.specs.Walks.{is_circular, is_formula, refers}
use Rattle.recalculation.proofs.Circles.{formula_text}
use Rattle.recalculation.proofs.Knowing.{looked_alike, outcomes_alike}
use Rattle.recalculation.proofs.Knowns.{known_is}
use Rattle.recalculation.proofs.Reading.{looked_among}
use Rattle.recalculation.proofs.WithinAreas.{of_referred, referred_are_cells}
use Rattle.recalc.specs.declared.rows.Row.{Row}
use Rattle.recalc.specs.Rows.{AreRows, HasRow, IsComputed, IsRowOf, kept_looks, row_at, seen_by, seen_in, value_in}
use Rattle.recalc.proofs.Walking.{equal_of, same_row}

-- the narrow value of a cell, by whether it is circular
abbrev pub known_by : Book → Bool → Option Entry → Option Value
known_by book circular e = if circular then Some (value.Error error.Circular) else entry_known (known book no_overriding) e

-- whether it is wide
abbrev wide_by : Book → Bool → Option Entry → Bool
wide_by book circular e = not circular && entry_is_wide (known book no_overriding) e

-- what isn't a formula isn't circular
pub not_circular : (e : Option Entry) (w : Bool) → is_formula e ≡ false → (is_formula e && w) ≡ false
not_circular e w h = ap (λ b. b && w) h

-- cells are known alike where they have the same values
all_alike : (f g : Cell → Option Value) (cells : List Cell) → AllByRecursion (λ b. f b ≡ g b) cells → are_known f cells ≡ are_known g cells
all_alike f g [] h = refl
all_alike f g (b ∷ cells) h = λ i. is_some (h.0 i) && all_alike f g cells h.1 i

-- what is kept is among the cells at which is looked
kept_among : (keeps_looks : Bool) (looks : List Cell) (b : Cell) → Contains (kept_looks keeps_looks looks) b → Contains looks b
kept_among true looks b h = h
kept_among false looks b h = absurd (let less = h.1 in omega (arith, less))

module _ (book : Book) (keeps_looks : Bool) where
  -- ---- a formula that isn't circular
  module _ (a : Cell) (t : Tree) (says : entry book a ≡ Some (Formula t)) (free : is_circular book nothing a ≡ false) (f : Cell → Option Value)
      (agrees : (b : Cell) → refers (Some (Formula t)) b ≡ true → f b ≡ known book no_overriding b) where
    looks_alike : looked_at f t ≡ looked_at (known book no_overriding) t
    looks_alike = looked_alike f (known book no_overriding) t (of_referred (λ b. f b ≡ known book no_overriding b) t agrees)

    known_list : are_known f (looked_at f t) ≡ are_known (known book no_overriding) (looked_at (known book no_overriding) t)
    known_list =
        all_alike f (known book no_overriding) (looked_at f t) (looked_among (λ b. f b ≡ known book no_overriding b) f t (of_referred (λ b. f b ≡ known book no_overriding b) t agrees))
        ∙ ap (are_known (known book no_overriding)) looks_alike

    outcome_alike : outcome_of f t (looked_at f t) ≡ outcome_of (known book no_overriding) t (looked_at (known book no_overriding) t)
    outcome_alike = outcomes_alike f (known book no_overriding) t (of_referred (λ b. f b ≡ known book no_overriding b) t agrees)

    pub computed_right : (row : Row) → IsComputed f t keeps_looks row → IsRowOf book keeps_looks a row
    computed_right row is = record {
      text = formula_text book a (ap is_formula says);
      value = is.value ∙ ap (option_map cell_value) outcome_alike ∙ sym (known_is book no_overriding a ∙ ap (λ c. known_by book c (entry book a)) free ∙ ap (known_by book false) says);
      wide = is.wide ∙ wide_alike ∙ sym (ap (λ c. wide_by book c (entry book a)) free ∙ ap (wide_by book false) says);
      looks = λ on b h. subst (λ l. Contains l b) (sym (is.looks ∙ ap (λ k. kept_looks k (looked_at f t)) on ∙ looks_alike)) (from_looks b h.2);
      looked = λ b text h. (refl, text, to_looks b (subst (λ l. Contains l b) looks_alike (kept_among keeps_looks (looked_at f t) b (subst (λ l. Contains l b) is.looks h))));
    }
      where
        wide_alike : entry_is_wide f (Some (Formula t)) ≡ entry_is_wide (known book no_overriding) (Some (Formula t))
        wide_alike = λ i. known_list i && is_none (outcome_alike i)

        from_looks : (b : Cell) → LooksFrom (is_circular book nothing a) (known book no_overriding) (entry book a) b → Contains (looked_at (known book no_overriding) t) b
        from_looks b h = subst (λ e. LooksFrom false (known book no_overriding) e b) says (subst (λ c. LooksFrom c (known book no_overriding) (entry book a) b) free h)

        to_looks : (b : Cell) → Contains (looked_at (known book no_overriding) t) b → LooksFrom (is_circular book nothing a) (known book no_overriding) (entry book a) b
        to_looks b h = subst (λ c. LooksFrom c (known book no_overriding) (entry book a) b) (sym free) (subst (λ e. LooksFrom false (known book no_overriding) e b) (sym says) h)

  -- ---- a circular cell
  module _ (a : Cell) (t : Tree) (says : entry book a ≡ Some (Formula t)) (circular : is_circular book nothing a ≡ true) where
    pub circular_right : (row : Row) → row.value ≡ Some (value.Error error.Circular) → row.is_wide ≡ false → row.looks.items ≡ kept_looks keeps_looks (flat_map cells_of (references_of t)) → IsRowOf book keeps_looks a row
    circular_right row is narrow looks = record {
      text = formula_text book a (ap is_formula says);
      value = is ∙ sym (known_is book no_overriding a ∙ ap (λ c. known_by book c (entry book a)) circular);
      wide = narrow ∙ sym (ap (λ c. wide_by book c (entry book a)) circular);
      looks = λ on b h. subst (λ l. Contains l b) (sym (looks ∙ ap (λ k. kept_looks k (flat_map cells_of (references_of t))) on)) ((referred_are_cells t b).0 (subst (λ e. refers e b ≡ true) says (subst (λ c. LooksFrom c (known book no_overriding) (entry book a) b) circular h.2)));
      looked = λ b text h. (
        refl,
        text,
        subst (λ c. LooksFrom c (known book no_overriding) (entry book a) b) (sym circular)
            (subst (λ e. refers e b ≡ true) (sym says) ((referred_are_cells t b).1 (kept_among keeps_looks (flat_map cells_of (references_of t)) b (subst (λ l. Contains l b) looks h)))),
      );
    }

  -- ---- what is seen
  pub seen_known : (rows : List (Cell × Row)) → AreRows book keeps_looks rows → (b : Cell) → (is_formula (entry book b) ≡ true → HasRow rows b) → seen_in book rows b ≡ known book no_overriding b
  seen_known rows are b has = by (entry book b) refl
    where
      other : (e : Option Entry) → entry book b ≡ e → is_formula e ≡ false → seen_by e (row_at rows b) ≡ entry_known (known book no_overriding) e → seen_in book rows b ≡ known book no_overriding b
      other e says plain same =
          ap (λ d. seen_by d (row_at rows b)) says ∙ same
          ∙ sym (known_is book no_overriding b ∙ ap (λ c. known_by book c (entry book b)) (not_circular (entry book b) _ (ap is_formula says ∙ plain)) ∙ ap (known_by book false) says)

      formula : (o : Option Row) → row_at rows b ≡ o → is_some o ≡ true → value_in o ≡ known book no_overriding b
      formula None e h = absurd cc
      formula (Some row) e h = (are.right b row e).value

      by : (e : Option Entry) → entry book b ≡ e → seen_in book rows b ≡ known book no_overriding b
      by None says = other None says refl refl
      by (Some (Constant v)) says = other (Some (Constant v)) says refl refl
      by (Some (Formula t)) says = ap (λ d. seen_by d (row_at rows b)) says ∙ formula (row_at rows b) refl (has (ap is_formula says))
      by (Some Malformed) says = other (Some Malformed) says refl refl

-- ---- a row that is put
module _ (book : Book) (keeps_looks : Bool) (rows after : List (Cell × Row)) (a : Cell) (row : Row) (are : AreRows book keeps_looks rows)
    (is : (q : Cell) → row_at after q ≡ cond (is_at (cell_cmp a) q) (Some row) (row_at rows q)) where
  pub put_right : IsRowOf book keeps_looks a row → AreRows book keeps_looks after
  put_right own = record { right = λ q r e. by q r (is_at (cell_cmp a) q) refl (sym (is q) ∙ e) }
    where
      by : (q : Cell) (r : Row) (t : Bool) → is_at (cell_cmp a) q ≡ t → cond t (Some row) (row_at rows q) ≡ Some r → IsRowOf book keeps_looks q r
      by q r true t e = subst (IsRowOf book keeps_looks q) (same_row row r e) (subst (λ c. IsRowOf book keeps_looks c row) (exact_cells a q (equal_of (cell_cmp a q) t)) own)
      by q r false t e = are.right q r e

  pub put_kept : (q : Cell) → HasRow rows q → HasRow after q
  put_kept q h = ap is_some (is q) ∙ by (is_at (cell_cmp a) q)
    where
      by : (t : Bool) → is_some (cond t (Some row) (row_at rows q)) ≡ true
      by true = refl
      by false = h

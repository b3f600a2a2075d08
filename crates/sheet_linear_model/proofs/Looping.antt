-- Steps of loops over rows.
use Rattle.std.proofs.Common.{◌≡◌, ◌+◌, ◌<◌, refl, sym, ap, subst, ◌∙◌, arith, add-one, drop-cons, ℕ, List, [], ◌∷◌, ◌++◌, map, length, take, drop, cond, Bool, true, false}
use Rattle.std.specs.Prelude.{is_some, slice_index_or}
use Rattle.std.specs.List.{AllZip}
use Rattle.std.proofs.lemmas.List.{append_assoc, map-append, take_more}
use Rattle.affine_forms.specs.Forms.{AffineForm}
use Rattle.cell_refs.specs.declared.cell.Cell.{Cell}
use Rattle.linear_models.specs.Bounds.{bounded_by}
use Rattle.linear_models.specs.Conditions.{constraints}
use Rattle.form_extraction.specs.Places.{numbered_in}
use Rattle.solver_names.specs.Answers.{row_of}
use Rattle.solver_names.specs.Statement.{RowOf}
use Rattle.solver_names.specs.declared.statements.RowOf.{RowOf as Row}
use Rattle.form_needs.specs.FromSheetProblems.{condition_of}
use Rattle.sheet_linear_model.specs.Inner.{number_where}
use Rattle.sheet_linear_model.specs.Lines.{row_numbers}

-- ---- sides
zip_push : {A B : Type 0} (R : A → B → Type 0) (xs : List A) (ys : List B) (x : A) (y : B) → AllZip R xs ys → R x y → AllZip R (xs ++ x ∷ []) (ys ++ y ∷ [])
zip_push R [] [] x y h r = (r, tt)
zip_push R [] (b ∷ ys) x y h r = absurd h
zip_push R (a ∷ xs) [] x y h r = absurd h
zip_push R (a ∷ xs) (b ∷ ys) x y h r = (h.0, zip_push R xs ys x y h.1 r)

-- the rows up to the next one
next_row : (rows : List Row) (i : ℕ) (d : Row) → i < length rows → map row_of (take (i + 1) rows) ≡ map row_of (take i rows) ++ row_of (slice_index_or rows i d) ∷ []
next_row rows i d lt = ap (map row_of) (take_more rows i d lt) ∙ map-append row_of (take i rows) (slice_index_or rows i d ∷ [])

pub sides_step : (R : RowOf → AffineForm × AffineForm → Type 0) (rows : List Row) (sides after : List (AffineForm × AffineForm)) (i : ℕ) (d : Row) (pair : AffineForm × AffineForm) → i < length rows
    → after ≡ sides ++ pair ∷ [] → R (row_of (slice_index_or rows i d)) pair → AllZip R (map row_of (take i rows)) sides → AllZip R (map row_of (take (i + 1) rows)) after
sides_step R rows sides after i d pair lt e k h =
    subst (λ (x : List RowOf). AllZip R x after) (sym (next_row rows i d lt))
    (subst (λ (x : List (AffineForm × AffineForm)). AllZip R (map row_of (take i rows) ++ row_of (slice_index_or rows i d) ∷ []) x) (sym e)
    (zip_push R (map row_of (take i rows)) sides (row_of (slice_index_or rows i d)) pair h k))

-- ---- numbers of rows
drop_next : {A : Type 0} (xs : List A) (i : ℕ) (d : A) → i < length xs → drop i xs ≡ slice_index_or xs i d ∷ drop (i + 1) xs
drop_next xs i d lt = rw (add-one, drop-cons xs i d)

module _ (decisions : List Cell) where
  abbrev numbers_of : List Row → List (AffineForm × AffineForm) → List ℕ
  numbers_of rows sides = row_numbers (map row_of rows) (constraints (map (condition_of decisions) (map row_of rows)) sides)

  abbrev bound : Row → AffineForm × AffineForm → Bool
  bound r pair = is_some (bounded_by (numbered_in decisions r.left) pair.1.terms)

  module _ (numbers : List ℕ) (rows others : List Row) (sides others_sides : List (AffineForm × AffineForm)) (r : Row) (pair : AffineForm × AffineForm) (all : List ℕ)
      (e : rows ≡ r ∷ others) (d : sides ≡ pair ∷ others_sides) (h : numbers ++ numbers_of rows sides ≡ all) where
    cut : numbers ++ numbers_of (r ∷ others) (pair ∷ others_sides) ≡ all
    cut = ap (λ (x : List Row). numbers ++ numbers_of x (pair ∷ others_sides)) (sym e) ∙ ap (λ (x : List (AffineForm × AffineForm)). numbers ++ numbers_of rows x) (sym d) ∙ h

    abbrev choice : Bool → List ℕ
    choice b = cond b (numbers_of others others_sides) (r.k ∷ numbers_of others others_sides)

    -- a bound has no number, and another row has its own
    number_more : (numbers ++ number_where (bound r pair) r.k) ++ numbers_of others others_sides ≡ all
    number_more = by (bound r pair) refl
      where
        by : (b : Bool) → bound r pair ≡ b → (numbers ++ number_where (bound r pair) r.k) ++ numbers_of others others_sides ≡ all
        by true b =
            ap (λ (t : Bool). (numbers ++ number_where t r.k) ++ numbers_of others others_sides) b ∙ append_assoc numbers [] (numbers_of others others_sides)
            ∙ ap (λ (t : Bool). numbers ++ choice t) (sym b) ∙ cut
        by false b =
            ap (λ (t : Bool). (numbers ++ number_where t r.k) ++ numbers_of others others_sides) b ∙ append_assoc numbers (r.k ∷ []) (numbers_of others others_sides)
            ∙ ap (λ (t : Bool). numbers ++ choice t) (sym b) ∙ cut

  pub numbers_step : (rows : List Row) (sides : List (AffineForm × AffineForm)) (i : ℕ) (numbers after all : List ℕ) (d : Row) (pair : AffineForm × AffineForm) → length sides ≡ length rows
      → i < length rows → after ≡ numbers ++ number_where (bound (slice_index_or rows i d) (slice_index_or sides i pair)) (slice_index_or rows i d).k
      → numbers ++ numbers_of (drop i rows) (drop i sides) ≡ all → after ++ numbers_of (drop (i + 1) rows) (drop (i + 1) sides) ≡ all
  numbers_step rows sides i numbers after all d pair same lt e h =
      let below : i < length sides = omega arith in
      ap (λ (x : List ℕ). x ++ numbers_of (drop (i + 1) rows) (drop (i + 1) sides)) e
      ∙ number_more numbers (drop i rows) (drop (i + 1) rows) (drop i sides) (drop (i + 1) sides) (slice_index_or rows i d) (slice_index_or sides i pair) all (drop_next rows i d lt) (drop_next sides i pair below) h

-- How many cells a list has in which each stands once.
use Rattle.std.proofs.Common.{◌≡◌, ◌<◌, ◌+◌, ℕ, Bool, true, false, cond, List, [], ◌∷◌, ◌++◌, length, refl, sym, ap, ap₂, ◌∙◌, length-append}
use Rattle.std.specs.Prelude.{◌&&◌, ◌||◌, ◌==◌, fold}
use Rattle.std.proofs.Math.Bool.{or-false}
use Rattle.std.proofs.lemmas.Bool.{ne_eqb}
use Rattle.std.proofs.lemmas.List.Folds.{list_any-append}
use Rattle.cell_refs.specs.declared.cell.Cell.{Cell}
use Rattle.cell_refs.specs.Cells.{is_same_cell}
use Rattle.solver_names.specs.Constraints.{is_among}
use Rattle.solver_names.specs.Texts.{with_cell}
use Rattle.solver_names.specs.Counts.{bit, cell_of, sum_below}
use Rattle.cell_refs.proofs.SameCells.{same_cells, same_itself}
use Rattle.solver_names.proofs.Sums.{sum_add, sum_one, sum_zero}

module _ (sheets columns rows : ℕ) where
  -- how many cells of so many sheets, columns and rows pass a test
  abbrev pub in_column : (Cell → Bool) → ℕ → ℕ → ℕ
  in_column test sheet col = sum_below (λ row. bit (test (cell_of sheet col row))) rows

  abbrev pub on_sheet : (Cell → Bool) → ℕ → ℕ
  on_sheet test sheet = sum_below (λ col. in_column test sheet col) columns

  abbrev pub passing : (Cell → Bool) → ℕ
  passing test = sum_below (λ sheet. on_sheet test sheet) sheets

  pub record IsBelow (c : Cell) : Type 0 where
    pub sheet : c.sheet.0 < sheets
    pub column : c.col < columns
    pub row : c.row < rows

  abbrev pub AreBelow : List Cell → Type 0
  AreBelow [] = Unit {0}
  AreBelow (c ∷ cells) = IsBelow c × AreBelow cells

  pub passing_same : (p q : Cell → Bool) → ((c : Cell) → p c ≡ q c) → passing p ≡ passing q
  passing_same p q same = ap passing (λ i c. same c i)

  passing_none : passing (λ c. false) ≡ 0
  passing_none =
      sum_zero (λ sheet. on_sheet (λ c. false) sheet) sheets (λ sheet _.
      sum_zero (λ col. in_column (λ c. false) sheet col) columns (λ col _.
      sum_zero (λ row. bit false) rows (λ row _. refl)))

  passing_both : (p q r : Cell → Bool) → ((c : Cell) → bit (p c) ≡ bit (q c) + bit (r c)) → passing p ≡ passing q + passing r
  passing_both p q r both =
      sum_add (λ sheet. on_sheet p sheet) (λ sheet. on_sheet q sheet) (λ sheet. on_sheet r sheet) sheets (λ sheet _.
      sum_add (λ col. in_column p sheet col) (λ col. in_column q sheet col) (λ col. in_column r sheet col) columns (λ col _.
      sum_add (λ row. bit (p (cell_of sheet col row))) (λ row. bit (q (cell_of sheet col row))) (λ row. bit (r (cell_of sheet col row))) rows (λ row _. both (cell_of sheet col row))))

  -- one cell alone
  alone_and : (p q r : Bool) → p ≡ false → (p && (q && r)) ≡ false
  alone_and p q r e = ap (λ b. b && (q && r)) e

  middle_and : (p q r : Bool) → q ≡ false → (p && (q && r)) ≡ false
  middle_and true q r e = ap (λ b. b && r) e
  middle_and false q r e = refl

  last_and : (p q r : Bool) → r ≡ false → (p && (q && r)) ≡ false
  last_and true true r e = e
  last_and true false r e = refl
  last_and false q r e = refl

  passing_one : (d : Cell) → IsBelow d → passing (λ c. is_same_cell c d) ≡ 1
  passing_one d below =
      sum_one (λ sheet. on_sheet (λ c. is_same_cell c d) sheet) sheets d.sheet.0 below.sheet (λ sheet other.
      sum_zero (λ col. in_column (λ c. is_same_cell c d) sheet col) columns (λ col _.
      sum_zero (λ row. bit (is_same_cell (cell_of sheet col row) d)) rows (λ row _. ap bit (alone_and (sheet == d.sheet.0) (row == d.row) (col == d.col) (ne_eqb sheet d.sheet.0 other)))))
      ∙ sum_one (λ col. in_column (λ c. is_same_cell c d) d.sheet.0 col) columns d.col below.column (λ col other.
      sum_zero (λ row. bit (is_same_cell (cell_of d.sheet.0 col row) d)) rows (λ row _. ap bit (last_and (d.sheet.0 == d.sheet.0) (row == d.row) (col == d.col) (ne_eqb col d.col other))))
      ∙ sum_one (λ row. bit (is_same_cell (cell_of d.sheet.0 d.col row) d)) rows d.row below.row (λ row other.
      ap bit (middle_and (d.sheet.0 == d.sheet.0) (row == d.row) (d.col == d.col) (ne_eqb row d.row other)))
      ∙ ap bit (same_itself d)

  -- ---- a list of cells, each once
  either : (p q : Bool) → (p ≡ true → q ≡ true → ⊥) → bit (p || q) ≡ bit p + bit q
  either true true h = absurd (h refl refl)
  either true false h = refl
  either false true h = refl
  either false false h = refl

  one_cell : (cells : List Cell) (d : Cell) → IsBelow d → passing (is_among cells) ≡ length cells → passing (is_among (with_cell cells d)) ≡ length (with_cell cells d)
  one_cell cells d below so_far = by_case (is_among cells d) refl
    where
      new : is_among cells d ≡ false → passing (is_among (cells ++ d ∷ [])) ≡ length (cells ++ d ∷ [])
      new other =
          passing_both (is_among (cells ++ d ∷ [])) (is_among cells) (λ c. is_same_cell c d)
          (λ c. ap bit (list_any-append (is_same_cell c) cells (d ∷ []) ∙ ap (λ q. is_among cells c || q) (or-false (is_same_cell c d)))
          ∙ either (is_among cells c) (is_same_cell c d) (λ there same. clash (sym (ap (is_among cells) (same_cells c d same)) ∙ there) other))
          ∙ ap₂ (λ m n. m + n) so_far (passing_one d below) ∙ sym (length-append cells (d ∷ []))
        where
          clash : is_among cells d ≡ true → is_among cells d ≡ false → ⊥
          clash e f = let q : true ≡ false = sym e ∙ f in absurd cc

      by_case : (p : Bool) → is_among cells d ≡ p → passing (is_among (cond p cells (cells ++ d ∷ []))) ≡ length (cond p cells (cells ++ d ∷ []))
      by_case true there = so_far
      by_case false other = new other

  counted : (cells more : List Cell) → AreBelow more → passing (is_among cells) ≡ length cells → passing (is_among (fold with_cell cells more)) ≡ length (fold with_cell cells more)
  counted cells [] below so_far = so_far
  counted cells (d ∷ more) below so_far = counted (with_cell cells d) more below.1 (one_cell cells d below.0 so_far)

  -- so many are in a list of cells each at its first place
  pub all_counted : (cells : List Cell) → AreBelow cells → passing (is_among (fold with_cell [] cells)) ≡ length (fold with_cell [] cells)
  all_counted cells below = counted [] cells below passing_none

-- The cells that stand on the left of constraints of a code.
use Rattle.std.proofs.Common.{◌≡◌, ◌<◌, subst, ◌+◌, ℕ, suc, Bool, true, false, cond, List, [], ◌∷◌, ◌++◌, get_or, length, take, refl, sym, ap, ap₂, ◌∙◌, arith, append-nil}
use Rattle.std.specs.Prelude.{◌||◌, ◌&&◌, fold, Contains}
use Rattle.std.proofs.Math.Seq.{take-suc}
use Rattle.std.proofs.lemmas.List.Folds.{list_any-append, list_any_at}
use Rattle.std.proofs.lemmas.Map.Views.{Contains-from_any}
use Rattle.cell_refs.specs.declared.cell.Cell.{Cell}
use Rattle.cell_refs.proofs.SameCells.{same_cells, same_itself}
use Rattle.cell_refs.specs.Areas.{Area, cells_of, within}
use Rattle.cell_refs.specs.Cells.{is_same_cell}
use Rattle.formula_ast.specs.Tree.{Listed}
use Rattle.formula_ast.specs.Tree as tree
use Rattle.recalculation.proofs.WithinAreas.{referred_are_cells}
use Rattle.solver_names.specs.Constraints.{is_among}
use Rattle.solver_names.specs.Stated.{is_code, is_left, is_marked, is_marked_by, numbers_from}
use Rattle.solver_names.specs.Texts.{with_cell}
use Rattle.solver_names.specs.declared.constraints.Code.{Code}
use Rattle.solver_names.specs.declared.constraints.Constraint.{Constraint}
use Rattle.solver_names.specs.declared.said.Said.TheVariants.{Says}

-- ---- the cells of an area are those within it
same_truth : (p q : Bool) → (p ≡ true → q ≡ true) → (q ≡ true → p ≡ true) → p ≡ q
same_truth true q h k = sym (h refl)
same_truth false true h k = k refl
same_truth false false h k = refl

there : (cells : List Cell) (c : Cell) → is_among cells c ≡ true → Contains cells c
there cells c h = Contains-from_any same_cells c cells h

among : (cells : List Cell) (c : Cell) → Contains cells c → is_among cells c ≡ true
among cells c h = list_any_at (is_same_cell c) cells h.0 c h.1 (ap (is_same_cell c) h.2 ∙ same_itself c)

or_false : (p : Bool) → (p || false) ≡ p
or_false true = refl
or_false false = refl

pub among_area : (a : Area) (c : Cell) → is_among (cells_of a) c ≡ within a c
among_area a c =
    let law = referred_are_cells (tree.Reference (record { start = 0; end = 0 }) (Listed a ∷ [])) c in
    let all : cells_of a ++ [] ≡ cells_of a = append-nil (cells_of a) in
    same_truth (is_among (cells_of a) c) (within a c)
    (λ h. sym (or_false (within a c)) ∙ law.1 (subst (λ l. Contains l c) (sym all) (there (cells_of a) c h)))
    (λ h. among (cells_of a) c (subst (λ l. Contains l c) all (law.0 (or_false (within a c) ∙ h))))

-- ---- cells that are put
cell_more : (cells : List Cell) (d c : Cell) → is_among (with_cell cells d) c ≡ (is_among cells c || is_same_cell c d)
cell_more cells d c = by_case (is_among cells d) refl
  where
    old : (q : Bool) → is_same_cell c d ≡ q → is_among cells d ≡ true → is_among cells c ≡ (is_among cells c || q)
    old true same there = ap (is_among cells) (same_cells c d same) ∙ there ∙ sym (ap (λ p. p || true) (ap (is_among cells) (same_cells c d same) ∙ there))
    old false other there = sym (or_false (is_among cells c))

    by_case : (p : Bool) → is_among cells d ≡ p → is_among (cond p cells (cells ++ d ∷ [])) c ≡ (is_among cells c || is_same_cell c d)
    by_case true there = old (is_same_cell c d) refl there ∙ ap (λ q. is_among cells c || q) refl
    by_case false other = list_any-append (is_same_cell c) cells (d ∷ []) ∙ ap (λ q. is_among cells c || q) (or_false (is_same_cell c d))

or_assoc : (p q r : Bool) → ((p || q) || r) ≡ (p || (q || r))
or_assoc true q r = refl
or_assoc false q r = refl

pub cells_more : (cells ds : List Cell) (c : Cell) → is_among (fold with_cell cells ds) c ≡ (is_among cells c || is_among ds c)
cells_more cells [] c = sym (or_false (is_among cells c))
cells_more cells (d ∷ ds) c = cells_more (with_cell cells d) ds c ∙ ap (λ p. p || is_among ds c) (cell_more cells d c) ∙ or_assoc (is_among cells c) (is_same_cell c d) (is_among ds c)

pub area_put : (cells : List Cell) (a : Area) (c : Cell) → is_among (fold with_cell cells (cells_of a)) c ≡ (is_among cells c || within a c)
area_put cells a c = cells_more cells (cells_of a) c ∙ ap (λ p. is_among cells c || p) (among_area a c)

-- ---- constraints
-- the left side of a constraint is put
pub left_put : (cells more : List Cell) (code : Code) (x : Constraint) (a : Area) → Says a ≡ x.left → is_code code x.code ≡ true → more ≡ fold with_cell cells (cells_of a) → (c : Cell)
    → is_among more c ≡ (is_among cells c || is_marked_by code c x)
left_put cells more code x a says is put c =
    ap (λ l. is_among l c) put ∙ area_put cells a c ∙ ap (λ l. is_among cells c || is_left l c) says ∙ sym (ap (λ p. is_among cells c || (p && is_left x.left c)) is)

-- it isn't
pub other_code : (cells : List Cell) (code : Code) (x : Constraint) → is_code code x.code ≡ false → (c : Cell) → is_among cells c ≡ (is_among cells c || is_marked_by code c x)
other_code cells code x is c = sym (ap (λ p. is_among cells c || (p && is_left x.left c)) is ∙ or_false (is_among cells c))

-- one constraint more
pub one_marked : (code : Code) (xs : List Constraint) (i : ℕ) (x : Constraint) (cells more : List Cell) → i < length xs → x ≡ get_or xs i x
    → ((c : Cell) → is_among cells c ≡ is_marked code (take i xs) c) → ((c : Cell) → is_among more c ≡ (is_among cells c || is_marked_by code c x))
    → (c : Cell) → is_among more c ≡ is_marked code (take (i + 1) xs) c
one_marked code xs i x cells more below is so_far put c =
    let q : suc i ≡ i + 1 = omega arith in
    put c ∙ ap₂ (λ p r. p || r) (so_far c) (sym (or_false (is_marked_by code c x))) ∙ sym (list_any-append (is_marked_by code c) (take i xs) (x ∷ []))
    ∙ ap (λ y. is_marked code (take i xs ++ y ∷ []) c) is ∙ ap (λ l. is_marked code l c) (sym (take-suc xs i x below) ∙ ap (λ n. take n xs) q)

-- numbers by one test are those by another that is the same of each cell
pub same_numbers : (p q : Cell → Bool) (cells : List Cell) → ((c : Cell) → p c ≡ q c) → numbers_from 0 p cells ≡ numbers_from 0 q cells
same_numbers p q cells h = ap (λ (test : Cell → Bool). numbers_from 0 test cells) (λ i c. h c i)

-- A list of formulas as those of a workbook.
use Rattle.std.proofs.Common.{◌≡◌, ℕ, zero, suc, Bool, true, false, cond, List, [], ◌∷◌, get_or, map, refl, sym, ap, ◌∙◌, inl, inr}
use Rattle.std.specs.Prelude.{Option, None, Some, option_map, slice_get}
use Rattle.std.specs.Cmp.{tied_itself}
use Rattle.std.specs.FinMap.{find, get-from_entries}
use Rattle.std.specs.Ordering.{eq_by_cmp, is_eq}
use Rattle.std.proofs.lemmas.Bool.{cases_order}
use Rattle.std.proofs.lemmas.Option.{get_or_from_slice_get, same_Some, slice_get-map}
use Rattle.cell_refs.specs.Areas.{Area}
use Rattle.cell_refs.specs.declared.cell.Cell.{Cell}
use Rattle.cell_refs.specs.Cells.{cell_cmp}
use Rattle.cell_refs.proofs.Order.{cells_total, exact_cells}
use Rattle.formula_ast.specs.Measures.{references_of}
use Rattle.formula_ast.specs.Tree.{Tree}
use Rattle.recalculation.specs.Entries.{Book, Entry, Constant, Formula as FormulaEntry, Malformed, entry}
use Rattle.recalculation.specs.Walks.{is_formula}
use Rattle.column_strips.specs.declared.formulas.Formula.{Formula}
use Rattle.dep_table.specs.Formulas.{AreSorted, pair_of, references_in}
use Rattle.dep_table.specs.References.{AreReferencesOf, areas_said}
use Rattle.dep_table.proofs.Orderings.{is_equal}
use Rattle.dep_table.proofs.Searching.{not_itself}

-- the list has the formula cells, each with the areas to which its formula refers
pub record IsTableOf (formulas : List Formula) (book : Book) : Type 0 where
  pub formula : (i : ℕ) (f : Formula) → slice_get formulas i ≡ Some f → (t : Tree) × (entry book f.cell ≡ Some (FormulaEntry t)) × (references_of t ≡ f.areas.items)
  pub found : (a : Cell) → is_formula (entry book a) ≡ true → (i : ℕ) × (f : Formula) × (slice_get formulas i ≡ Some f) × (f.cell ≡ a)
  pub one : (i j : ℕ) (f g : Formula) → slice_get formulas i ≡ Some f → slice_get formulas j ≡ Some g → f.cell ≡ g.cell → i ≡ j

-- what is found at a cell stands at a place
found_at : (formulas : List Formula) (q : Cell) (v : List Area) → find cell_cmp q (map pair_of formulas) ≡ Some v
    → (i : ℕ) × (f : Formula) × (slice_get formulas i ≡ Some f) × (f.cell ≡ q) × (f.areas.items ≡ v)
found_at [] q v h = cc
found_at (x ∷ formulas) q v h =
    elim (eq_by_cmp cell_cmp q x.cell) as (λ t. eq_by_cmp cell_cmp q x.cell ≡ t → cond t (Some x.areas.items) (find cell_cmp q (map pair_of formulas)) ≡ Some v
    → (i : ℕ) × (f : Formula) × (slice_get (x ∷ formulas) i ≡ Some f) × (f.cell ≡ q) × (f.areas.items ≡ v)) [
      | true ↦ λ e h. (0, x, refl, sym (exact_cells q x.cell (is_equal _ e)), same_Some x.areas.items v h)
      | false ↦ λ e h. let r = found_at formulas q v h in (suc r.0, r.1, r.2, r.3, r.4)
    ] refl h

-- and at the cell of each place something is found
there : (formulas : List Formula) (i : ℕ) (f : Formula) → slice_get formulas i ≡ Some f → (v : List Area) × (find cell_cmp f.cell (map pair_of formulas) ≡ Some v)
there [] i f at = cc
there (x ∷ formulas) zero f at =
    let e : x ≡ f = same_Some x f at in
    let tied : eq_by_cmp cell_cmp f.cell x.cell ≡ true = ap (λ (y : Formula). eq_by_cmp cell_cmp f.cell y.cell) e ∙ ap is_eq (tied_itself cells_total f.cell) in
    (x.areas.items, ap (λ t. cond t (Some x.areas.items) (find cell_cmp f.cell (map pair_of formulas))) tied)
there (x ∷ formulas) (suc i) f at =
    elim (eq_by_cmp cell_cmp f.cell x.cell) as (λ t. (v : List Area) × (cond t (Some x.areas.items) (find cell_cmp f.cell (map pair_of formulas)) ≡ Some v)) [
      | true ↦ (x.areas.items, refl)
      | false ↦ there formulas i f at
    ]

-- no cell stands at two places
pub one_place : (formulas : List Formula) → AreSorted formulas → (i j : ℕ) (f g : Formula) → slice_get formulas i ≡ Some f → slice_get formulas j ≡ Some g
    → f.cell ≡ g.cell → i ≡ j
one_place formulas sorted i j f g at is same =
    elim (cases_order i j) as (λ _. i ≡ j) [
      | inl e ↦ e
      | inr w ↦ elim w as (λ _. i ≡ j) [
        | inl l ↦ absurd (not_itself g.cell (ap (λ x. cell_cmp x g.cell) (sym same) ∙ sorted i j f g l at is))
        | inr l ↦ absurd (not_itself g.cell (ap (λ x. cell_cmp g.cell x) (sym same) ∙ sorted j i g f l is at))
      ]
    ]

-- what a formula says
formula_said : (e : Option Entry) (v : List Area) → areas_said e ≡ Some v → (t : Tree) × (e ≡ Some (FormulaEntry t)) × (references_of t ≡ v)
formula_said None v h = cc
formula_said (Some (Constant x)) v h = cc
formula_said (Some (FormulaEntry t)) v h = (t, refl, same_Some (references_of t) v h)
formula_said (Some Malformed) v h = cc

areas_there : (e : Option Entry) → is_formula e ≡ true → (v : List Area) × (areas_said e ≡ Some v)
areas_there None h = cc
areas_there (Some (Constant x)) h = cc
areas_there (Some (FormulaEntry t)) h = (references_of t, refl)
areas_there (Some Malformed) h = cc

pub table_of : (formulas : List Formula) (book : Book) → AreSorted formulas → AreReferencesOf (references_in formulas) book → IsTableOf formulas book
table_of formulas book sorted refs =
    let listed : (a : Cell) → find cell_cmp a (map pair_of formulas) ≡ areas_said (entry book a) = λ a. sym (get-from_entries cells_total (map pair_of formulas) a) ∙ refs a in
    record {
      formula = λ i f at.
          let v = there formulas i f at in
          let g = found_at formulas f.cell v.0 v.1 in
          let same : g.1 ≡ f = same_Some g.1 f (sym g.2 ∙ ap (slice_get formulas) (one_place formulas sorted g.0 i g.1 f g.2 at g.3) ∙ at) in
          let t = formula_said (entry book f.cell) v.0 (sym (listed f.cell) ∙ v.1) in
          (t.0, t.1, t.2 ∙ sym g.4 ∙ ap (λ (x : Formula). x.areas.items) same);
      found = λ a h.
          let v = areas_there (entry book a) h in
          let g = found_at formulas a v.0 (listed a ∙ v.1) in
          (g.0, g.1, g.2, g.3);
      one = one_place formulas sorted;
    }

-- the flags say which formulas are leaves
abbrev pub AreFlags : List Formula → (Cell → Bool) → List Bool → Type 0
AreFlags formulas is_leaf flags = (i : ℕ) (f : Formula) → slice_get formulas i ≡ Some f → get_or flags i false ≡ is_leaf f.cell

pub are_flags : (formulas : List Formula) (is_leaf : Cell → Bool) (flags : List Bool) → flags ≡ map (λ (f : Formula). is_leaf f.cell) formulas
    → AreFlags formulas is_leaf flags
are_flags formulas is_leaf flags same i f at =
    ap (λ xs. get_or xs i false) same
    ∙ get_or_from_slice_get (map (λ (f : Formula). is_leaf f.cell) formulas) i (is_leaf f.cell) false
    (slice_get-map (λ (f : Formula). is_leaf f.cell) formulas i ∙ ap (option_map (λ (f : Formula). is_leaf f.cell)) at)

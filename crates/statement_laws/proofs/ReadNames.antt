-- What the names of a sheet say of cells lies on the sheets.
use Rattle.std.proofs.Common.{◌≡◌, ◌<◌, ℕ, Bool, true, false, cond, List, [], ◌∷◌, map, flat_map, length, Option, Some, None, refl, sym, ap, subst, ◌∙◌, arith}
use Rattle.std.specs.Prelude.{◌==◌, codes, option_map}
use Rattle.std.specs.List.{AllByRecursion}
use Rattle.std.proofs.lemmas.Bool.{eqb-true}
use Rattle.cell_refs.specs.Areas.{Area, area_len, cell_at, cells_of}
use Rattle.cell_refs.specs.declared.cell.Cell.{Cell}
use Rattle.formula_grammar.proofs.Turns.{bind_some, some_is}
use Rattle.recalculation.proofs.Lists.{each_weaker}
use Rattle.recalculation.proofs.Reading.{joined}
use Rattle.solver_names.specs.Faults.{decisions_of}
use Rattle.solver_names.specs.Read.{count_said, read_in}
use Rattle.solver_names.specs.Stated.{said_objective}
use Rattle.solver_names.specs.Texts.{all_of, area_on, cell_in, cells_in, distinct, only_cell, or_else, parts_from, reference_in}
use Rattle.workbook.specs.Kinds.{behind_equals}
use Rattle.cell_refs.specs.Listed.{IsListed}
use Rattle.workbook.specs.State.{State, text_of}
use Rattle.statement_laws.specs.Laws.{AreDistinct}
use Rattle.statement_laws.proofs.OnceEach.{distinct_held, once_each}
use Rattle.statement_laws.proofs.ReadAreas.{Lies, cell_listed, cells_listed}
use Rattle.statement_laws.proofs.SaidKinds.{reference_lies, said_cases, text_lies}

-- how many constraints there are
abbrev pub count_in : State → ℕ → ℕ
count_in book sheet = or_else (count_said book sheet) 0

-- cells to be decided, each once, on the sheets
pub record AreChosen (sheets : List (List ℕ)) (cells : List Cell) : Type 0 where
  pub distinct : AreDistinct cells
  pub listed : AllByRecursion (IsListed sheets) cells

module _ (book : State) (sheet : ℕ) (there : sheet < length book.sheets) where
  -- ---- the cells to be decided
  all_lie : (texts : List (List ℕ)) (areas : List Area) → all_of (map (area_on book sheet) texts) ≡ Some areas → AllByRecursion (Lies book.sheets) areas
  all_lie [] areas e = subst (AllByRecursion (Lies book.sheets)) (some_is [] areas e) tt
  all_lie (text ∷ texts) areas e = by (area_on book sheet text) (all_of (map (area_on book sheet) texts)) refl refl (all_lie texts) e
    where
      by : (a : Option Area) (others : Option (List Area)) → area_on book sheet text ≡ a → all_of (map (area_on book sheet) texts) ≡ others
          → ((areas : List Area) → all_of (map (area_on book sheet) texts) ≡ Some areas → AllByRecursion (Lies book.sheets) areas)
          → all_of (a ∷ map (area_on book sheet) texts) ≡ Some areas → AllByRecursion (Lies book.sheets) areas
      by None others is are more h = absurd cc
      by (Some a) None is are more h = let none : None ≡ Some areas = ap (option_map (λ (all : List Area). a ∷ all)) (sym are) ∙ h in absurd cc
      by (Some a) (Some all) is are more h =
          let same : Some (a ∷ all) ≡ Some areas = ap (option_map (λ (all : List Area). a ∷ all)) (sym are) ∙ h in
          subst (AllByRecursion (Lies book.sheets)) (some_is (a ∷ all) areas same) (text_lies book sheet there text a is, more all are)

  cells_chosen : (text : List ℕ) (cells : List Cell) → cells_in book sheet text ≡ Some cells → AreChosen book.sheets cells
  cells_chosen text cells e = by (all_of (map (area_on book sheet) (parts_from false (behind_equals text)))) (all_lie (parts_from false (behind_equals text))) e
    where
      by : (o : Option (List Area)) → ((areas : List Area) → o ≡ Some areas → AllByRecursion (Lies book.sheets) areas)
          → option_map (λ areas. distinct (flat_map cells_of areas)) o ≡ Some cells → AreChosen book.sheets cells
      by None lie h = absurd cc
      by (Some areas) lie h =
          subst (AreChosen book.sheets) (some_is (distinct (flat_map cells_of areas)) cells h) (record {
            distinct = once_each (flat_map cells_of areas);
            listed = distinct_held (IsListed book.sheets) (flat_map cells_of areas)
                (joined (IsListed book.sheets) areas
                (each_weaker (Lies book.sheets) (λ a. AllByRecursion (IsListed book.sheets) (cells_of a)) (cells_listed book.sheets) areas (lie areas refl)));
          })

  none_chosen : AreChosen book.sheets []
  none_chosen = record { distinct = λ i j c e f. absurd cc; listed = tt }

  pub decisions_chosen : AreChosen book.sheets (decisions_of (read_in book sheet))
  decisions_chosen = said_cases (cells_in book sheet) (λ cells. AreChosen book.sheets (or_else cells [])) none_chosen none_chosen cells_chosen (text_of book.names (Some sheet) (codes "solver_adj"))

  -- ---- the objective
  cell_there : (text : List ℕ) (c : Cell) → cell_in book sheet text ≡ Some c → IsListed book.sheets c
  cell_there text c e =
      let a = bind_some (reference_in book sheet text) only_cell c e in
      by a.0 (reference_lies book sheet there text a.0 a.1) (area_len a.0 == 1) refl a.2
    where
      by : (a : Area) → Lies book.sheets a → (b : Bool) → (area_len a == 1) ≡ b → cond b (Some (cell_at a 0)) None ≡ Some c → IsListed book.sheets c
      by a lies true is h =
          let one : area_len a ≡ 1 = eqb-true (area_len a) 1 is in
          subst (IsListed book.sheets) (some_is (cell_at a 0) c h) (cell_listed book.sheets a lies 0 (omega (arith, one)))
      by a lies false is h = absurd cc

  pub objective_there : (c : Cell) → said_objective (read_in book sheet).objective ≡ Some c → IsListed book.sheets c
  objective_there c =
      said_cases (cell_in book sheet) (λ o. said_objective o ≡ Some c → IsListed book.sheets c) (λ e. absurd cc) (λ e. absurd cc)
      (λ text d is e. subst (IsListed book.sheets) (some_is d c e) (cell_there text d is)) _

-- The cells that a text names lie on the sheets, each once.
use Rattle.std.proofs.Common.{◌≡◌, ◌<◌, ℕ, false, List, [], ◌∷◌, map, flat_map, length, Option, Some, None, refl, sym, ap, subst, ◌∙◌}
use Rattle.std.specs.Prelude.{option_map}
use Rattle.std.specs.List.{AllByRecursion}
use Rattle.cell_refs.specs.Areas.{Area, cells_of}
use Rattle.cell_refs.specs.declared.cell.Cell.{Cell}
use Rattle.formula_grammar.proofs.Turns.{some_is}
use Rattle.recalculation.proofs.Lists.{each_weaker}
use Rattle.recalculation.proofs.Reading.{joined}
use Rattle.solver_names.specs.Texts.{all_of, area_on, cells_in, distinct, parts_from}
use Rattle.workbook.specs.Kinds.{behind_equals}
use Rattle.cell_refs.specs.Listed.{IsListed}
use Rattle.workbook.specs.State.{State}
use Rattle.statement_laws.proofs.OnceEach.{distinct_held, once_each}
use Rattle.statement_laws.proofs.ReadAreas.{Lies, cells_listed}
use Rattle.statement_laws.proofs.ReadNames.{AreChosen}
use Rattle.statement_laws.proofs.SaidKinds.{text_lies}

module _ (book : State) (sheet : ℕ) (there : sheet < length book.sheets) where
  all_lie : (texts : List (List ℕ)) (areas : List Area) → all_of (map (area_on book sheet) texts) ≡ Some areas → AllByRecursion (Lies book.sheets) areas
  all_lie [] areas e = subst (AllByRecursion (Lies book.sheets)) (some_is [] areas e) tt
  all_lie (text ∷ texts) areas e = by (area_on book sheet text) (all_of (map (area_on book sheet) texts)) refl refl (all_lie texts) e
    where
      by : (a : Option Area) (others : Option (List Area)) → area_on book sheet text ≡ a → all_of (map (area_on book sheet) texts) ≡ others
          → ((areas : List Area) → all_of (map (area_on book sheet) texts) ≡ Some areas → AllByRecursion (Lies book.sheets) areas)
          → all_of (a ∷ map (area_on book sheet) texts) ≡ Some areas → AllByRecursion (Lies book.sheets) areas
      by None others is are more h = absurd cc
      by (Some a) None is are more h = let none : None ≡ Some areas = ap (option_map (λ (all : List Area). a ∷ all)) (sym are) ∙ h in absurd cc
      by (Some a) (Some all) is are more h =
          let same : Some (a ∷ all) ≡ Some areas = ap (option_map (λ (all : List Area). a ∷ all)) (sym are) ∙ h in
          subst (AllByRecursion (Lies book.sheets)) (some_is (a ∷ all) areas same) (text_lies book sheet there text a is, more all are)

  pub cells_chosen : (text : List ℕ) (cells : List Cell) → cells_in book sheet text ≡ Some cells → AreChosen book.sheets cells
  cells_chosen text cells e = by (all_of (map (area_on book sheet) (parts_from false (behind_equals text)))) (all_lie (parts_from false (behind_equals text))) e
    where
      by : (o : Option (List Area)) → ((areas : List Area) → o ≡ Some areas → AllByRecursion (Lies book.sheets) areas)
          → option_map (λ areas. distinct (flat_map cells_of areas)) o ≡ Some cells → AreChosen book.sheets cells
      by None lie h = absurd cc
      by (Some areas) lie h =
          subst (AreChosen book.sheets) (some_is (distinct (flat_map cells_of areas)) cells h) (record {
            distinct = once_each (flat_map cells_of areas);
            listed = distinct_held (IsListed book.sheets) (flat_map cells_of areas)
                (joined (IsListed book.sheets) areas
                (each_weaker (Lies book.sheets) (λ a. AllByRecursion (IsListed book.sheets) (cells_of a)) (cells_listed book.sheets) areas (lie areas refl)));
          })

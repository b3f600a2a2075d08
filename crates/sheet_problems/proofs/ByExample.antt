-- The examples hold. The texts of a book are seen as their list of entries, so that everything computes.
use Rattle.std.proofs.Common.{◌≡◌, ℕ, suc, Bool, List, [], ◌∷◌, map, length, Option, Some, refl, ap₂, ◌∙◌}
use Rattle.std.specs.Prelude.{◌&&◌, not, if◌then◌else◌, is_some, option_map, T}
use Rattle.std.specs.FinMap.{find, get, keys, get-from_sorted, entries-from_sorted, is_sorted}
use Rattle.std.specs.List.{AllByRecursion, list_any}
use Rattle.std.specs.Option.{option_and_then}
use Rattle.fractions.specs.Rational.{ℚ, eq_ℚ, computed}
use Rattle.optimality.specs.Problem.{Assignment}
use Rattle.calculations.specs.Calculation.{exact}
use Rattle.cell_refs.specs.Cells.{cell_cmp}
use Rattle.cell_refs.specs.declared.cell.Cell.{Cell}
use Rattle.cell_refs.specs.declared.error_kind.ErrorKind.TheVariants as kind
use Rattle.formula_ast.specs.Tree.{Tree}
use Rattle.sheet_model.specs.declared.value.Value.{Value}
use Rattle.sheet_model.specs.declared.value.Value.TheVariants.{Error}
use Rattle.form_extraction.specs.FromRecalculation.{Entry, Formula, Overriding}
use Rattle.form_extraction.specs.FromRecalculation.{evaluated, cell_value}
use Rattle.form_extraction.specs.FromRecalculation.{bounded_val, entry_value, number_or, val}
use Rattle.form_extraction.specs.FromRecalculation.{has_walk, is_formula, refers, unfolded}
use Rattle.cell_refs.specs.declared.place.Place.{Place}
use Rattle.cell_refs.specs.declared.place.Place.TheVariants as place
use Rattle.sheet_problems.specs.Places.{number_in, put_over, tree_of, worth_at}
use Rattle.sheet_problems.specs.Examples.{Example, Holds, WorthsHold, worths, cell, decisions, said_in, sheet, sides, texts}

-- ---- recalculation over the texts of cells and the cells that have one
module _ (text : Cell → Option (List ℕ)) (cells : List Cell) (over : Overriding) where
  abbrev said : Cell → Option Entry
  said a = option_map (λ (t : List ℕ). said_in texts a) (text a)

  abbrev leaf : Cell → Bool
  leaf b = is_some (over b)

  abbrev steps : Cell → Cell → Bool
  steps a b = not (leaf a) && refers (said a) b

  abbrev circular : Cell → Bool
  circular a = is_formula (said a) && (not (leaf a) && has_walk cells steps (length cells) a)

  abbrev layer : (Cell → Value) → Cell → Value
  layer others a = number_or (over a) (if circular a then Error kind.Circular else entry_value others (said a))

  abbrev value : Cell → Value
  value a = unfolded layer (Error kind.Circular) (suc (length cells)) a

  abbrev side : Tree → Value
  side t = if list_any (λ b. refers (Some (Formula t)) b && circular b) cells then Error kind.Circular else cell_value (exact (evaluated value t))

  abbrev at : Place → Option Value
  at (place.Cell c) = Some (value c)
  at (place.Side k) = option_map side (tree_of sides k)

abbrev worth : (Cell → Option (List ℕ)) → List Cell → Place → Assignment → Option ℚ
worth text cells p a = option_and_then number_in (at text cells (put_over decisions a) p)

-- ---- the texts of the sheet
abbrev listed : List (Cell × List ℕ)
listed = map (λ (e : (ℕ × ℕ) × Entry). (cell e.0.0 e.0.1, 49 ∷ [])) texts

in_order : T (is_sorted cell_cmp listed)
in_order = tt

seen : (p : Place) (a : Assignment) → worth_at sheet sides decisions p a ≡ worth (get sheet.texts) (keys sheet.texts) p a
unfolding val bounded_val
seen (place.Cell c) a = refl
seen (place.Side k) a = refl

read : (p : Place) (a : Assignment) → worth_at sheet sides decisions p a ≡ worth (λ c. find cell_cmp c listed) (map (λ (e : Cell × List ℕ). e.0) listed) p a
read p a =
    seen p a
    ∙ ap₂ (λ (text : Cell → Option (List ℕ)) (es : List (Cell × List ℕ)). worth text (map (λ (e : Cell × List ℕ). e.0) es) p a)
    (λ i c. get-from_sorted cell_cmp listed c in_order i) (entries-from_sorted cell_cmp listed in_order)

abbrev HoldsAsRead : Example → Type 0
HoldsAsRead e = worth (λ c. find cell_cmp c listed) (map (λ (e : Cell × List ℕ). e.0) listed) e.place e.numbers ≡ e.worth

all_hold : (es : List Example) → AllByRecursion HoldsAsRead es → AllByRecursion Holds es
all_hold [] h = tt
all_hold (e ∷ es) h = (read e.place e.numbers ∙ h.0, all_hold es h.1)

as_read : AllByRecursion HoldsAsRead worths
unfolding computed eq_ℚ
as_read = (refl, (refl, (refl, (refl, (refl, (refl, (refl, (refl, (refl, (refl, (refl, (refl, tt))))))))))))

pub worths_hold : WorthsHold
worths_hold = all_hold worths as_read

-- What the text of a cell says, and what the text of a name stands for, by cases (OpenDocument 1.2 part 2, sections 3.2 and 5).
use Rattle.std.specs.Prelude.{◌≡◌, ◌↔◌, ℕ, Bool, true, false, List, Option, Some, None}
use Rattle.frac128.specs.Numeral.{IsNarrowNumeral, Numeral, Spells}
use Rattle.frac128.specs.Numeral as numeral
use Rattle.cell_refs.specs.Areas.{Area}
use Rattle.cell_refs.specs.declared.cell.Cell.{Cell}
use Rattle.formula_ast.specs.Tree.{Tree}
use Rattle.formula_grammar.specs.Formula.{IsTooDeep, SpellsText}
use Rattle.formula_grammar.specs.Symbols.{Setting}
use Rattle.formula_grammar.specs.Words.{logical_word}
use Rattle.formula_parser.specs.Answers.{fault_of}
use Rattle.sheet_model.specs.declared.value.Value.TheVariants as value
use Rattle.recalculation.specs.Entries.{Entry, Constant, Formula, Malformed}
use Rattle.text_laws.specs.Areas.{SpellsArea}
use Rattle.workbook.specs.State.{Name, is_formula_text}
use Rattle.workbook.specs.Kinds.{Amount, Cells, Meant, behind_equals, meant, meant_by, says, with_names}

-- ---- names
-- a text stands for a number where it is a narrow numeral, and else for the area that it names
pub data StandsFor (sheets : List (List ℕ)) (home : ℕ) (text : List ℕ) : Meant → Type 0 where
  amount : {n : Numeral} → Spells text n → IsNarrowNumeral n → StandsFor sheets home text (Amount (numeral.value n))
  cells : {area : Area} → ((n : Numeral) → Spells text n → IsNarrowNumeral n → ⊥) → SpellsArea (record { text = text; home = home; sheets = sheets }) area
      → StandsFor sheets home text (Cells area)

-- the text of a name, behind an equals sign if there is one
abbrev pub NamesStandFor : Type 0
NamesStandFor = (sheets : List (List ℕ)) (home : ℕ) (text : List ℕ) (m : Meant) → (meant_by sheets home text ≡ Some m) ↔ StandsFor sheets home (behind_equals text) m

-- ---- cells
-- the text of a formula spells a tree without faults, which is this one with what its names stand for in their places
pub record IsTreeOf (S : Setting) (stands_for : List ℕ → Option Meant) (t : Tree) : Type 0 where
  pub spelled : Tree
  pub shallow : IsTooDeep S → ⊥
  pub spells : SpellsText S spelled
  pub no_fault : fault_of spelled ≡ None
  pub named : with_names stands_for spelled ≡ Some t

-- a formula's tree, or nothing that is allowed where there is none; a number, or nothing that is allowed where it is too wide; a
-- logical; and else the text itself
pub data Says (sheets : List (List ℕ)) (names : List Name) (cell : Cell) (text : List ℕ) : Entry → Type 0 where
  formula : {t : Tree} → is_formula_text text ≡ true
      → IsTreeOf (record { text = text; home = cell.sheet.0; sheets = sheets }) (meant sheets names cell.sheet.0) t → Says sheets names cell text (Formula t)
  no_formula : is_formula_text text ≡ true
      → ((t : Tree) → IsTreeOf (record { text = text; home = cell.sheet.0; sheets = sheets }) (meant sheets names cell.sheet.0) t → ⊥) → Says sheets names cell text Malformed
  number : {n : Numeral} → is_formula_text text ≡ false → Spells text n → IsNarrowNumeral n → Says sheets names cell text (Constant (value.Number (numeral.value n)))
  too_wide : {n : Numeral} → is_formula_text text ≡ false → Spells text n → (IsNarrowNumeral n → ⊥) → Says sheets names cell text Malformed
  logical : {b : Bool} → is_formula_text text ≡ false → ((n : Numeral) → Spells text n → ⊥) → logical_word text ≡ Some b → Says sheets names cell text (Constant (value.Logical b))
  plain : is_formula_text text ≡ false → ((n : Numeral) → Spells text n → ⊥) → logical_word text ≡ None → Says sheets names cell text (Constant (value.Text text))

-- a text says that one thing
abbrev pub TextsSay : Type 0
TextsSay = (sheets : List (List ℕ)) (names : List Name) (cell : Cell) (text : List ℕ) (e : Entry) → (says sheets names cell text ≡ e) ↔ Says sheets names cell text e

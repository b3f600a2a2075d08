-- The form of what a cell says, by the kind of its text.
use Rattle.std.proofs.Common.{◌≡◌, ℕ, Bool, true, false, if◌then◌else◌, List, [], Option, Some, None, refl, ap}
use Rattle.std.specs.Prelude.{unwrap_or}
use Rattle.std.specs.Option.{option_map, option_map_or}
use Rattle.std.specs.FinMap.{get}
use Rattle.fractions.specs.Rational.{ℚ}
use Rattle.frac128.specs.Numeral.{Numeral}
use Rattle.frac128.specs.NumeralReading.{reading}
use Rattle.cell_refs.specs.declared.cell.Cell.{Cell}
use Rattle.formula_ast.specs.Tree.{Tree}
use Rattle.formula_grammar.specs.Words.{logical_word}
use Rattle.sheet_model.specs.declared.value.Value.TheVariants as value
use Rattle.sheet_funcs.specs.Numerals.{narrow_value}
use Rattle.recalculation.specs.Entries.{Entry, Constant, Formula, Malformed, entry}
use Rattle.form_values.specs.declared.abs.Abs.TheVariants.{Known}
use Rattle.workbook.specs.declared.kind.Kind.TheVariants as kind
use Rattle.workbook.specs.Contents.{content_of, kind_of}
use Rattle.workbook.specs.Kinds.{book_of, formula_tree, logical_or_text, number_or_other, says}
use Rattle.workbook.specs.State.{Name, State, is_formula_text}
use Rattle.form_extraction.specs.declared.forms.CellForm.{CellForm}
use Rattle.extract.specs.Knowing.{form_kept, form_said}

pub said_empty : (e : Option Entry) (kept : Option CellForm) → kind_of e ≡ kind.Empty → form_said e kept ≡ Some (Known value.Empty)
said_empty None kept h = refl
said_empty (Some (Constant (value.Number y))) kept h = absurd cc
said_empty (Some (Constant (value.Text t))) kept h = absurd cc
said_empty (Some (Constant (value.Logical c))) kept h = absurd cc
said_empty (Some (Constant value.Empty)) kept h = absurd cc
said_empty (Some (Constant (value.Error k))) kept h = absurd cc
said_empty (Some (Formula t)) kept h = absurd cc
said_empty (Some Malformed) kept h = absurd cc

pub said_number : (e : Option Entry) (kept : Option CellForm) (x : ℚ) → kind_of e ≡ (kind.Number x) → form_said e kept ≡ Some (Known (value.Number x))
said_number None kept x h = absurd cc
said_number (Some (Constant (value.Number y))) kept x h = cc
said_number (Some (Constant (value.Text t))) kept x h = absurd cc
said_number (Some (Constant (value.Logical c))) kept x h = absurd cc
said_number (Some (Constant value.Empty)) kept x h = absurd cc
said_number (Some (Constant (value.Error k))) kept x h = absurd cc
said_number (Some (Formula t)) kept x h = absurd cc
said_number (Some Malformed) kept x h = absurd cc

pub said_logical : (e : Option Entry) (kept : Option CellForm) (b : Bool) → kind_of e ≡ (kind.Logical b) → form_said e kept ≡ Some (Known (value.Logical b))
said_logical None kept b h = absurd cc
said_logical (Some (Constant (value.Number y))) kept b h = absurd cc
said_logical (Some (Constant (value.Text t))) kept b h = absurd cc
said_logical (Some (Constant (value.Logical c))) kept b h = cc
said_logical (Some (Constant value.Empty)) kept b h = absurd cc
said_logical (Some (Constant (value.Error k))) kept b h = absurd cc
said_logical (Some (Formula t)) kept b h = absurd cc
said_logical (Some Malformed) kept b h = absurd cc

pub said_formula : (e : Option Entry) (kept : Option CellForm) → kind_of e ≡ kind.Formula → form_said e kept ≡ form_kept kept
said_formula None kept h = absurd cc
said_formula (Some (Constant (value.Number y))) kept h = absurd cc
said_formula (Some (Constant (value.Text t))) kept h = absurd cc
said_formula (Some (Constant (value.Logical c))) kept h = absurd cc
said_formula (Some (Constant value.Empty)) kept h = absurd cc
said_formula (Some (Constant (value.Error k))) kept h = absurd cc
said_formula (Some (Formula t)) kept h = refl
said_formula (Some Malformed) kept h = absurd cc

pub said_malformed : (e : Option Entry) (kept : Option CellForm) → kind_of e ≡ kind.Malformed → form_said e kept ≡ None
said_malformed None kept h = absurd cc
said_malformed (Some (Constant (value.Number y))) kept h = absurd cc
said_malformed (Some (Constant (value.Text t))) kept h = absurd cc
said_malformed (Some (Constant (value.Logical c))) kept h = absurd cc
said_malformed (Some (Constant value.Empty)) kept h = absurd cc
said_malformed (Some (Constant (value.Error k))) kept h = absurd cc
said_malformed (Some (Formula t)) kept h = absurd cc
said_malformed (Some Malformed) kept h = refl

-- ---- plain texts
plain_logical : (text : List ℕ) (o : Option Bool) → kind_of (Some (logical_or_text text o)) ≡ kind.Plain → logical_or_text text o ≡ Constant (value.Text text)
plain_logical text (Some b) h = absurd cc
plain_logical text None h = refl

plain_narrow : (text : List ℕ) (o : Option ℚ) → kind_of (Some (option_map_or (λ x. Constant (value.Number x)) o Malformed)) ≡ kind.Plain
    → option_map_or (λ x. Constant (value.Number x)) o Malformed ≡ Constant (value.Text text)
plain_narrow text (Some x) h = absurd cc
plain_narrow text None h = absurd cc

plain_number : (text : List ℕ) (o : Option Numeral) → kind_of (Some (number_or_other text o)) ≡ kind.Plain → number_or_other text o ≡ Constant (value.Text text)
plain_number text (Some n) h = plain_narrow text (narrow_value n) h
plain_number text None h = plain_logical text (logical_word text) h

plain_formula : (text : List ℕ) (o : Option Tree) → kind_of (Some (option_map_or Formula o Malformed)) ≡ kind.Plain → option_map_or Formula o Malformed ≡ Constant (value.Text text)
plain_formula text (Some t) h = absurd cc
plain_formula text None h = absurd cc

plain_says : (sheets : List (List ℕ)) (names : List Name) (a : Cell) (text : List ℕ) → kind_of (Some (says sheets names a text)) ≡ kind.Plain
    → says sheets names a text ≡ Constant (value.Text text)
plain_says sheets names a text = by (is_formula_text text)
  where
    by : (b : Bool) → kind_of (Some (if b then option_map_or Formula (formula_tree sheets names a.sheet.0 text) Malformed else number_or_other text (reading text))) ≡ kind.Plain
        → (if b then option_map_or Formula (formula_tree sheets names a.sheet.0 text) Malformed else number_or_other text (reading text)) ≡ Constant (value.Text text)
    by true h = plain_formula text (formula_tree sheets names a.sheet.0 text) h
    by false h = plain_number text (reading text) h

-- a plain text is the value
pub said_plain : (s : State) (a : Cell) (kept : Option CellForm) → kind_of (entry (book_of s) a) ≡ kind.Plain → form_said (entry (book_of s) a) kept ≡ Some (Known (value.Text (content_of s.contents a)))
said_plain s a kept = by (get s.contents a)
  where
    by : (o : Option (List ℕ)) → kind_of (option_map (says s.sheets s.names a) o) ≡ kind.Plain → form_said (option_map (says s.sheets s.names a) o) kept ≡ Some (Known (value.Text (unwrap_or o [])))
    by None h = absurd cc
    by (Some text) h = ap (λ e. form_said (Some e) kept) (plain_says s.sheets s.names a text h)

-- What is seen of a cell, by the kind of its text.
use Rattle.std.proofs.Common.{◌≡◌, ℕ, Bool, true, false, if◌then◌else◌, List, [], Option, Some, None, refl, ap, sym}
use Rattle.std.specs.Prelude.{is_some, unwrap_or}
use Rattle.std.specs.Option.{option_map, option_map_or}
use Rattle.std.specs.FinMap.{get}
use Rattle.fractions.specs.Rational.{ℚ}
use Rattle.frac128.specs.Numeral.{Numeral}
use Rattle.frac128.specs.NumeralReading.{reading}
use Rattle.cell_refs.specs.declared.cell.Cell.{Cell}
use Rattle.cell_refs.specs.declared.error_kind.ErrorKind.TheVariants as error
use Rattle.formula_ast.specs.Tree.{Tree}
use Rattle.formula_grammar.specs.Words.{logical_word}
use Rattle.sheet_model.specs.declared.value.Value.TheVariants as value
use Rattle.sheet_funcs.specs.Numerals.{narrow_value}
use Rattle.recalculation.specs.Entries.{Entry, Constant, Formula, Malformed, entry}
use Rattle.recalculation.specs.Walks.{is_formula}
use Rattle.workbook.specs.declared.kind.Kind.{Kind}
use Rattle.workbook.specs.declared.kind.Kind.TheVariants as kind
use Rattle.workbook.specs.Contents.{content_of, kind_of, tree_of}
use Rattle.workbook.specs.Kinds.{book_of, formula_tree, logical_or_text, number_or_other, says}
use Rattle.workbook.specs.State.{Name, State, is_formula_text}
use Rattle.recalc.specs.declared.rows.Row.{Row}
use Rattle.recalc.specs.Rows.{seen_by, seen_of, value_in}

-- ---- constants
pub seen_empty : (e : Option Entry) (row : Option Row) → kind_of e ≡ kind.Empty → seen_by e row ≡ Some value.Empty
seen_empty None row h = refl
seen_empty (Some (Constant (value.Number x))) row h = absurd cc
seen_empty (Some (Constant (value.Text t))) row h = absurd cc
seen_empty (Some (Constant (value.Logical b))) row h = absurd cc
seen_empty (Some (Constant value.Empty)) row h = absurd cc
seen_empty (Some (Constant (value.Error k))) row h = absurd cc
seen_empty (Some (Formula t)) row h = absurd cc
seen_empty (Some Malformed) row h = absurd cc

pub seen_number : (e : Option Entry) (row : Option Row) (x : ℚ) → kind_of e ≡ kind.Number x → seen_by e row ≡ Some (value.Number x)
seen_number None row x h = absurd cc
seen_number (Some (Constant (value.Number y))) row x h = cc
seen_number (Some (Constant (value.Text t))) row x h = absurd cc
seen_number (Some (Constant (value.Logical b))) row x h = absurd cc
seen_number (Some (Constant value.Empty)) row x h = absurd cc
seen_number (Some (Constant (value.Error k))) row x h = absurd cc
seen_number (Some (Formula t)) row x h = absurd cc
seen_number (Some Malformed) row x h = absurd cc

pub seen_logical : (e : Option Entry) (row : Option Row) (b : Bool) → kind_of e ≡ kind.Logical b → seen_by e row ≡ Some (value.Logical b)
seen_logical None row b h = absurd cc
seen_logical (Some (Constant (value.Number y))) row b h = absurd cc
seen_logical (Some (Constant (value.Text t))) row b h = absurd cc
seen_logical (Some (Constant (value.Logical c))) row b h = cc
seen_logical (Some (Constant value.Empty)) row b h = absurd cc
seen_logical (Some (Constant (value.Error k))) row b h = absurd cc
seen_logical (Some (Formula t)) row b h = absurd cc
seen_logical (Some Malformed) row b h = absurd cc

pub seen_malformed : (e : Option Entry) (row : Option Row) → kind_of e ≡ kind.Malformed → seen_by e row ≡ Some (value.Error error.Malformed)
seen_malformed None row h = absurd cc
seen_malformed (Some (Constant (value.Number y))) row h = absurd cc
seen_malformed (Some (Constant (value.Text t))) row h = absurd cc
seen_malformed (Some (Constant (value.Logical c))) row h = absurd cc
seen_malformed (Some (Constant value.Empty)) row h = absurd cc
seen_malformed (Some (Constant (value.Error k))) row h = absurd cc
seen_malformed (Some (Formula t)) row h = absurd cc
seen_malformed (Some Malformed) row h = refl

pub seen_formula : (e : Option Entry) (row : Option Row) → kind_of e ≡ kind.Formula → seen_by e row ≡ value_in row
seen_formula None row h = absurd cc
seen_formula (Some (Constant (value.Number y))) row h = absurd cc
seen_formula (Some (Constant (value.Text t))) row h = absurd cc
seen_formula (Some (Constant (value.Logical c))) row h = absurd cc
seen_formula (Some (Constant value.Empty)) row h = absurd cc
seen_formula (Some (Constant (value.Error k))) row h = absurd cc
seen_formula (Some (Formula t)) row h = refl
seen_formula (Some Malformed) row h = absurd cc

-- what is no formula has a value
pub seen_other : (e : Option Entry) (row : Option Row) → is_formula e ≡ false → is_some (seen_by e row) ≡ true
seen_other None row h = refl
seen_other (Some (Constant v)) row h = refl
seen_other (Some (Formula t)) row h = absurd cc
seen_other (Some Malformed) row h = refl

pub kind_formula : (e : Option Entry) → is_formula e ≡ true → kind_of e ≡ kind.Formula
kind_formula None h = absurd cc
kind_formula (Some (Constant v)) h = absurd cc
kind_formula (Some (Formula t)) h = refl
kind_formula (Some Malformed) h = absurd cc

-- ---- plain texts
plain_logical : (text : List ℕ) (o : Option Bool) → kind_of (Some (logical_or_text text o)) ≡ kind.Plain → logical_or_text text o ≡ Constant (value.Text text)
plain_logical text (Some b) h = absurd cc
plain_logical text None h = refl

plain_narrow : (text : List ℕ) (o : Option ℚ) → kind_of (Some (option_map_or (λ x. Constant (value.Number x)) o Malformed)) ≡ kind.Plain
    → option_map_or (λ x. Constant (value.Number x)) o Malformed ≡ Constant (value.Text text)
plain_narrow text (Some x) h = absurd cc
plain_narrow text None h = absurd cc

plain_number : (text : List ℕ) (o : Option Numeral) → kind_of (Some (number_or_other text o)) ≡ kind.Plain → number_or_other text o ≡ Constant (value.Text text)
plain_number text (Some n) h = plain_narrow text (narrow_value n) h
plain_number text None h = plain_logical text (logical_word text) h

plain_formula : (text : List ℕ) (o : Option Tree) → kind_of (Some (option_map_or Formula o Malformed)) ≡ kind.Plain → option_map_or Formula o Malformed ≡ Constant (value.Text text)
plain_formula text (Some t) h = absurd cc
plain_formula text None h = absurd cc

plain_says : (sheets : List (List ℕ)) (names : List Name) (a : Cell) (text : List ℕ) → kind_of (Some (says sheets names a text)) ≡ kind.Plain
    → says sheets names a text ≡ Constant (value.Text text)
plain_says sheets names a text = by (is_formula_text text)
  where
    by : (b : Bool) → kind_of (Some (if b then option_map_or Formula (formula_tree sheets names a.sheet.0 text) Malformed else number_or_other text (reading text))) ≡ kind.Plain
        → (if b then option_map_or Formula (formula_tree sheets names a.sheet.0 text) Malformed else number_or_other text (reading text)) ≡ Constant (value.Text text)
    by true h = plain_formula text (formula_tree sheets names a.sheet.0 text) h
    by false h = plain_number text (reading text) h

-- a plain text is the value
pub seen_plain : (s : State) (a : Cell) (row : Option Row) → kind_of (entry (book_of s) a) ≡ kind.Plain → seen_by (entry (book_of s) a) row ≡ Some (value.Text (content_of s.contents a))
seen_plain s a row = by (get s.contents a)
  where
    by : (o : Option (List ℕ)) → kind_of (option_map (says s.sheets s.names a) o) ≡ kind.Plain → seen_by (option_map (says s.sheets s.names a) o) row ≡ Some (value.Text (unwrap_or o []))
    by None h = absurd cc
    by (Some text) h = ap (λ e. seen_by (Some e) row) (plain_says s.sheets s.names a text h)

-- what is seen by the kind of a cell's text
pub seen_as : (s : State) (a : Cell) (row : Option Row) → seen_of (kind_of (entry (book_of s) a)) (content_of s.contents a) row ≡ seen_by (entry (book_of s) a) row
seen_as s a row = by (kind_of (entry (book_of s) a)) refl
  where
    by : (k : Kind) → kind_of (entry (book_of s) a) ≡ k → seen_of k (content_of s.contents a) row ≡ seen_by (entry (book_of s) a) row
    by kind.Empty h = sym (seen_empty (entry (book_of s) a) row h)
    by (kind.Number x) h = sym (seen_number (entry (book_of s) a) row x h)
    by (kind.Logical b) h = sym (seen_logical (entry (book_of s) a) row b h)
    by kind.Plain h = sym (seen_plain s a row h)
    by kind.Formula h = sym (seen_formula (entry (book_of s) a) row h)
    by kind.Malformed h = sym (seen_malformed (entry (book_of s) a) row h)

-- ---- trees
pub tree_entry : (e : Option Entry) (t : Tree) → Some t ≡ tree_of e → e ≡ Some (Formula t)
tree_entry None t h = absurd cc
tree_entry (Some (Constant v)) t h = absurd cc
tree_entry (Some (Formula u)) t h = cc
tree_entry (Some Malformed) t h = absurd cc

pub some_tree : {A : Type 0} (e : Option Entry) → None ≡ tree_of e → is_formula e ≡ true → A
some_tree None h k = absurd cc
some_tree (Some (Constant v)) h k = absurd cc
some_tree (Some (Formula t)) h k = absurd cc
some_tree (Some Malformed) h k = absurd cc

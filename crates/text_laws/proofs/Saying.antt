-- What texts say is what they say by cases.
use Rattle.std.proofs.Common.{◌≡◌, ℕ, Bool, true, false, cond, List, Option, Some, None, refl, sym, ap, subst, ◌∙◌}
use Rattle.std.specs.Prelude.{option_map}
use Rattle.std.specs.Option.{option_and_then, option_map_or}
use Rattle.std.proofs.lemmas.Bool.{false_from_ne_true}
use Rattle.frac128.specs.Numeral.{IsNarrowNumeral, Numeral, NumeralTest, Spells, is_narrow_numeral}
use Rattle.frac128.specs.Numeral as numeral
use Rattle.frac128.specs.NumeralReading.{reading}
use Rattle.frac128.proofs.Spelling.{reading-sound, reading-complete}
use Rattle.cell_refs.specs.Areas.{Area}
use Rattle.cell_refs.specs.declared.cell.Cell.{Cell}
use Rattle.formula_ast.specs.Tree.{Tree}
use Rattle.formula_grammar.specs.Symbols.{Setting}
use Rattle.formula_grammar.specs.Words.{logical_word}
use Rattle.formula_grammar.proofs.Turns.{bind_some}
use Rattle.formula_parser.specs.TextTrees.{area_in, tree_in}
use Rattle.formula_parser.proofs.TextTrees.{trees_are_spelled}
use Rattle.sheet_model.specs.declared.value.Value.TheVariants as value
use Rattle.sheet_funcs.specs.Numerals.{narrow_value, number_spelled}
use Rattle.recalculation.specs.Entries.{Entry, Constant, Formula, Malformed}
use Rattle.text_laws.proofs.Areas.{areas}
use Rattle.workbook.specs.State.{Name, is_formula_text}
use Rattle.workbook.specs.Kinds.{Amount, Cells, Meant, behind_equals, formula_tree, logical_or_text, meant, number_or_area, number_or_other, says, with_names}
use Rattle.text_laws.specs.TextKinds.{IsTreeOf, NamesStandFor, Says, StandsFor, TextsSay, amount, cells, formula, no_formula, number, too_wide, logical, plain}

none_spelled : (text : List ℕ) → reading text ≡ None → (n : Numeral) → Spells text n → ⊥
none_spelled text e n h = let k : ◌≡◌ {A = Option Numeral} (Some n) None = sym (reading-complete text n h) ∙ e in cc

none_read : (text : List ℕ) → ((n : Numeral) → Spells text n → ⊥) → reading text ≡ None
none_read text h = by (reading text) refl
  where
    by : (o : Option Numeral) → reading text ≡ o → o ≡ None
    by None e = refl
    by (Some n) e = absurd (h n (reading-sound text n e))

module _ (test : NumeralTest) where
  narrow_is : (n : Numeral) → IsNarrowNumeral n → narrow_value n ≡ Some (numeral.value n)
  narrow_is n h = ap (λ t. cond t (Some (numeral.value n)) None) ((test n).1 h)

  wide_is : (n : Numeral) → (IsNarrowNumeral n → ⊥) → narrow_value n ≡ None
  wide_is n h = ap (λ t. cond t (Some (numeral.value n)) None) (false_from_ne_true (is_narrow_numeral n) (λ e. h ((test n).0 e)))

  -- ---- names
  module _ (sheets : List (List ℕ)) (home : ℕ) (text : List ℕ) where
    abbrev S : Setting
    S = record { text = text; home = home; sheets = sheets }

    no_number : ((n : Numeral) → Spells text n → IsNarrowNumeral n → ⊥) → number_spelled text ≡ None
    no_number h = by (reading text) refl
      where
        by : (o : Option Numeral) → reading text ≡ o → option_and_then narrow_value o ≡ None
        by None e = refl
        by (Some n) e = wide_is n (h n (reading-sound text n e))

    stood_for : {m : Meant} → StandsFor sheets home text m → number_or_area (number_spelled text) (area_in S) ≡ Some m
    stood_for (amount {n} s narrow) = ap (λ o. number_or_area o (area_in S)) (ap (option_and_then narrow_value) (reading-complete text n s) ∙ narrow_is n narrow)
    stood_for (cells {area} none a) = ap (λ o. number_or_area o (area_in S)) (no_number none) ∙ ap (option_map Cells) ((areas S area).1 a)

    stands_for : (m : Meant) → number_or_area (number_spelled text) (area_in S) ≡ Some m → StandsFor sheets home text m
    stands_for m e = by (reading text) refl e
      where
        named : ((n : Numeral) → Spells text n → IsNarrowNumeral n → ⊥) → (o : Option Area) → area_in S ≡ o → option_map Cells o ≡ Some m → StandsFor sheets home text m
        named none None is h = absurd cc
        named none (Some area) is h = let k : Cells area ≡ m = cc in subst (StandsFor sheets home text) k (cells none ((areas S area).0 is))

        wide_none : (n : Numeral) → reading text ≡ Some n → is_narrow_numeral n ≡ false → (k : Numeral) → Spells text k → IsNarrowNumeral k → ⊥
        wide_none n is wide k s narrow =
            let same : ◌≡◌ {A = Option Numeral} (Some k) (Some n) = sym (reading-complete text k s) ∙ is in
            let one : k ≡ n = cc in
            let z : true ≡ false = sym ((test k).1 narrow) ∙ ap is_narrow_numeral one ∙ wide in cc

        by_width : (n : Numeral) → reading text ≡ Some n → (t : Bool) → is_narrow_numeral n ≡ t → number_or_area (cond t (Some (numeral.value n)) None) (area_in S) ≡ Some m → StandsFor sheets home text m
        by_width n is true narrow h = let k : Amount (numeral.value n) ≡ m = cc in subst (StandsFor sheets home text) k (amount (reading-sound text n is) ((test n).0 narrow))
        by_width n is false wide h = named (wide_none n is wide) (area_in S) refl h

        by : (o : Option Numeral) → reading text ≡ o → number_or_area (option_and_then narrow_value o) (area_in S) ≡ Some m → StandsFor sheets home text m
        by None is h = named (λ n s narrow. none_spelled text is n s) (area_in S) refl h
        by (Some n) is h = by_width n is (is_narrow_numeral n) refl h

  pub names_stand_for : NamesStandFor
  names_stand_for sheets home text m = (stands_for sheets home (behind_equals text) m, stood_for sheets home (behind_equals text))

  -- ---- cells
  module _ (sheets : List (List ℕ)) (names : List Name) (cell : Cell) (text : List ℕ) where
    abbrev here : Setting
    here = record { text = text; home = cell.sheet.0; sheets = sheets }

    abbrev look : List ℕ → Option Meant
    look = meant sheets names cell.sheet.0

    tree_there : (t : Tree) → IsTreeOf here look t → formula_tree sheets names cell.sheet.0 text ≡ Some t
    tree_there t h = ap (option_and_then (with_names look)) ((trees_are_spelled here h.spelled).1 (h.shallow, h.spells, h.no_fault)) ∙ h.named

    tree_is : (t : Tree) → formula_tree sheets names cell.sheet.0 text ≡ Some t → IsTreeOf here look t
    tree_is t e =
        let u = bind_some (tree_in here) (with_names look) t e in
        let s = (trees_are_spelled here u.0).0 u.1 in
        record { spelled = u.0; shallow = s.0; spells = s.1; no_fault = s.2; named = u.2 }

    abbrev in_formula : Bool → Entry
    in_formula t = cond t (option_map_or Formula (formula_tree sheets names cell.sheet.0 text) Malformed) (number_or_other text (reading text))

    said_formula : {e : Entry} → is_formula_text text ≡ true → option_map_or Formula (formula_tree sheets names cell.sheet.0 text) Malformed ≡ e → says sheets names cell text ≡ e
    said_formula is h = ap in_formula is ∙ h

    said_other : {e : Entry} → is_formula_text text ≡ false → number_or_other text (reading text) ≡ e → says sheets names cell text ≡ e
    said_other is h = ap in_formula is ∙ h

    no_tree : ((t : Tree) → IsTreeOf here look t → ⊥) → formula_tree sheets names cell.sheet.0 text ≡ None
    no_tree h = by (formula_tree sheets names cell.sheet.0 text) refl
      where
        by : (o : Option Tree) → formula_tree sheets names cell.sheet.0 text ≡ o → o ≡ None
        by None e = refl
        by (Some t) e = absurd (h t (tree_is t e))

    said : {e : Entry} → Says sheets names cell text e → says sheets names cell text ≡ e
    said (formula {t} is h) = said_formula is (ap (λ o. option_map_or Formula o Malformed) (tree_there t h))
    said (no_formula is h) = said_formula is (ap (λ o. option_map_or Formula o Malformed) (no_tree h))
    said (number {n} is s narrow) = said_other is (ap (number_or_other text) (reading-complete text n s) ∙ ap (λ o. option_map_or (λ x. Constant (value.Number x)) o Malformed) (narrow_is n narrow))
    said (too_wide {n} is s wide) = said_other is (ap (number_or_other text) (reading-complete text n s) ∙ ap (λ o. option_map_or (λ x. Constant (value.Number x)) o Malformed) (wide_is n wide))
    said (logical is none b) = said_other is (ap (number_or_other text) (none_read text none) ∙ ap (logical_or_text text) b)
    said (plain is none b) = said_other is (ap (number_or_other text) (none_read text none) ∙ ap (logical_or_text text) b)

    says_formula : is_formula_text text ≡ true → (o : Option Tree) → formula_tree sheets names cell.sheet.0 text ≡ o → Says sheets names cell text (option_map_or Formula o Malformed)
    says_formula is None e = no_formula is (λ t h. let k : ◌≡◌ {A = Option Tree} (Some t) None = sym (tree_there t h) ∙ e in cc)
    says_formula is (Some t) e = formula is (tree_is t e)

    says_numeral : is_formula_text text ≡ false → (n : Numeral) → reading text ≡ Some n → (t : Bool) → is_narrow_numeral n ≡ t
        → Says sheets names cell text (option_map_or (λ x. Constant (value.Number x)) (cond t (Some (numeral.value n)) None) Malformed)
    says_numeral is n e true w = number is (reading-sound text n e) ((test n).0 w)
    says_numeral is n e false w = too_wide is (reading-sound text n e) (λ narrow. let z : true ≡ false = sym ((test n).1 narrow) ∙ w in cc)

    says_other : is_formula_text text ≡ false → reading text ≡ None → (o : Option Bool) → logical_word text ≡ o → Says sheets names cell text (logical_or_text text o)
    says_other is e None b = plain is (none_spelled text e) b
    says_other is e (Some t) b = logical is (none_spelled text e) b

    says_text : is_formula_text text ≡ false → (o : Option Numeral) → reading text ≡ o → Says sheets names cell text (number_or_other text o)
    says_text is None e = says_other is e (logical_word text) refl
    says_text is (Some n) e = says_numeral is n e (is_narrow_numeral n) refl

    says_itself : (t : Bool) → is_formula_text text ≡ t → Says sheets names cell text (in_formula t)
    says_itself true is = says_formula is (formula_tree sheets names cell.sheet.0 text) refl
    says_itself false is = says_text is (reading text) refl

    says_it : (e : Entry) → says sheets names cell text ≡ e → Says sheets names cell text e
    says_it e h = subst (Says sheets names cell text) h (says_itself (is_formula_text text) refl)

  pub texts_say : TextsSay
  texts_say sheets names cell text e = (says_it sheets names cell text e, said sheets names cell text)

-- What the text of a number says in its cell.
use Rattle.std.proofs.Common.{◌≡◌, ◌≢◌, ℕ, true, false, cond, List, [], ◌∷◌, ◌++◌, Option, Some, None, refl, sym, ap, subst, ◌∙◌, inl, inr, ⊎_elim, append_assoc}
use Rattle.std.specs.Prelude.{◌==◌, ◌&&◌, if◌then◌else◌, slice_index, unsigned_abs, is_some}
use Rattle.std.specs.Fmt.{decimal}
use Rattle.std.specs.Option.{option_and_then, option_map_or}
use Rattle.std.proofs.lemmas.Bool.{cases_eq, ne_eqb}
use Rattle.fractions.specs.Rational.{ℚ, numerator, denominator}
use Rattle.fractions.proofs.Parts.{den_pos}
use Rattle.frac128.specs.declared.write.Decimal.{Decimal}
use Rattle.frac128.specs.Narrow.{IsNarrow}
use Rattle.frac128.specs.NumeralReading.{reading}
use Rattle.frac128.specs.Printed.{IsPrintedAsNumeral, fraction_text, minus_text, printed, short_decimal}
use Rattle.frac128.proofs.ReadBack.{printed_reads_back}
use Rattle.cell_refs.specs.declared.cell.Cell.{Cell}
use Rattle.formula_ast.specs.Tree.{Tree}
use Rattle.sheet_model.specs.declared.value.Value.TheVariants as value
use Rattle.recalculation.specs.Entries.{Entry, Constant, Formula, Malformed}
use Rattle.written_cells.specs.Written.{IsWorth, Says}
use Rattle.workbook.specs.Kinds.{formula_tree, meant, number_or_other, says, with_names}
use Rattle.workbook.specs.State.{Name, is_formula_text}
use Rattle.workbook.proofs.Texts.{says_number}
use Rattle.write_back.specs.Writing.{number_text}
use Rattle.write_back.proofs.Bytes.{AllPlain, has_slash, no_slash, plain_numeral, slash_stands}
use Rattle.write_back.proofs.Quotients.{IsQuotient, positive, negative, quotient_there}
use Rattle.write_back.proofs.Wholes.{quotient_of, whole_some}
use Rattle.write_back.proofs.Worth.{worth_of}

-- plain bytes begin no formula
no_formula : (bytes : List ℕ) → AllPlain bytes → is_formula_text bytes ≡ false
no_formula [] h = refl
no_formula (b ∷ bytes) h =
    ap (λ t. if t then true else (b == 111) && ((slice_index (b ∷ bytes) 1 == 102) && ((slice_index (b ∷ bytes) 2 == 58) && (slice_index (b ∷ bytes) 3 == 61)))) h.0.equals
    ∙ ap (λ t. t && ((slice_index (b ∷ bytes) 1 == 102) && ((slice_index (b ∷ bytes) 2 == 58) && (slice_index (b ∷ bytes) 3 == 61)))) h.0.letter

-- a quotient has no names
no_names : {t : Tree} {x y : ℚ} → IsQuotient t x y → (look : _) → with_names look t ≡ Some t
no_names (positive at over under) look = refl
no_names (negative at minus over under) look = refl

module _ (sheets : List (List ℕ)) (names : List Name) (c : Cell) (x : ℚ) (h : IsNarrow x) where
  abbrev n : ℕ
  n = unsigned_abs (numerator x)

  abbrev d : ℕ
  d = denominator x

  abbrev said : List ℕ → Entry
  said text = says sheets names c text

  -- a numeral
  as_numeral : IsPrintedAsNumeral x → Says (Some (said (number_text x))) x
  as_numeral p =
      let b = printed_reads_back x h p in
      let plain = plain_numeral (printed x) b.0 b.1.0 in
      let is : number_text x ≡ printed x = ap (λ t. if t then 61 ∷ printed x else printed x) (no_slash (printed x) plain) in
      let number : said (printed x) ≡ Constant (value.Number x) =
      ap (λ t. if t then option_map_or Formula (formula_tree sheets names c.sheet.0 (printed x)) Malformed else number_or_other (printed x) (reading (printed x))) (no_formula (printed x) plain)
      ∙ sym (says_number (printed x) x (b.0, (b.1.0, b.1.1, sym b.1.2))) in
      inl (ap Some (ap said is ∙ number))

  abbrev quotient_text : List ℕ
  quotient_text = minus_text (numerator x) ++ (decimal n ++ (47 ∷ decimal d))

  slashed : has_slash quotient_text ≡ true
  slashed = ap has_slash (sym (append_assoc (minus_text (numerator x)) (decimal n) (47 ∷ decimal d))) ∙ slash_stands (minus_text (numerator x) ++ decimal n) (decimal d)

  -- numerator and denominator
  as_quotient : printed x ≡ quotient_text → Says (Some (said (number_text x))) x
  as_quotient e =
      let q = quotient_there sheets c.sheet.0 (numerator x) d h.num h.den in
      let is : number_text x ≡ 61 ∷ quotient_text =
      ap (λ t. if t then 61 ∷ printed x else printed x) (ap has_slash e ∙ slashed) ∙ ap (λ t. 61 ∷ t) e in
      let tree : formula_tree sheets names c.sheet.0 (61 ∷ quotient_text) ≡ Some q.tree =
      ap (option_and_then (with_names (meant sheets names c.sheet.0))) q.there ∙ no_names q.is (meant sheets names c.sheet.0) in
      let formula : said (61 ∷ quotient_text) ≡ Formula q.tree = ap (λ o. option_map_or Formula o Malformed) tree in
      inr (q.tree, ap Some (ap said is ∙ formula), subst (IsWorth q.tree) (quotient_of x h) (worth_of q.is (whole_some d (den_pos x))))

  broken : d ≢ 1 → short_decimal n d ≡ None → printed x ≡ quotient_text
  broken more none =
      ap (λ t. minus_text (numerator x) ++ cond t (decimal n) (fraction_text n d (short_decimal n d))) (ne_eqb d 1 more)
      ∙ ap (λ o. minus_text (numerator x) ++ fraction_text n d o) none

  by_decimal : d ≢ 1 → (o : Option Decimal) → short_decimal n d ≡ o → Says (Some (said (number_text x))) x
  by_decimal more None e = as_quotient (broken more e)
  by_decimal more (Some s) e = as_numeral (inr (ap is_some e))

  -- a number's text says the number
  pub number_says : Says (Some (said (number_text x))) x
  number_says = ⊎_elim (λ one. as_numeral (inl one)) (λ more. by_decimal more (short_decimal n d) refl) (cases_eq d 1)

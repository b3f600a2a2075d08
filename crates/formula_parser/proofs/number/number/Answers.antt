-- What the reading of a numeral gives.
use Rattle.std.proofs.Common.{◌≡◌, List, ℕ, Some, None, subst}
use Rattle.std.specs.Option.{option_map}
use Rattle.formula_ast.specs.Tree.{Number}
use Rattle.frac128.specs.NumeralReading.{reading}
use Rattle.formula_parser.specs.Leaves.{item_of, signed_number}
use Rattle.formula_parser.proofs.Numerals.{narrow_read, wide_read, none_read}
use Rattle.formula_parser.proofs.number.number.Goals as goal

pub returns-in-Ok : goal.returns-in-Ok
returns-in-Ok c =
    subst (λ (b : List ℕ). option_map (λ n. item_of (signed_number c.args.is_negative c.args.at n)) (reading b) ≡ Some (Some (Number c.args.at c.with_sign-number.result))) c.slice.ensures
    (narrow_read c.args.is_negative c.args.at c.slice.result.now c.in-Ok.number c.with_sign-number.result c.in-Ok.ensures.ok c.with_sign-number.ensures)

pub returns-in-Err-TooWide : goal.returns-in-Err-TooWide
returns-in-Err-TooWide c =
    subst (λ (b : List ℕ). option_map (λ n. item_of (signed_number c.args.is_negative c.args.at n)) (reading b) ≡ Some None) c.slice.ensures
    (wide_read c.args.is_negative c.args.at c.slice.result.now (c.in-Err-TooWide.ensures.too_wide.0 (cc)))

pub returns-in-Err-NotNumeral : goal.returns-in-Err-NotNumeral
returns-in-Err-NotNumeral c =
    subst (λ (b : List ℕ). option_map (λ n. item_of (signed_number c.args.is_negative c.args.at n)) (reading b) ≡ None) c.slice.ensures
    (none_read c.args.is_negative c.args.at c.slice.result.now (c.in-Err-NotNumeral.ensures.not_numeral.0 (cc)))

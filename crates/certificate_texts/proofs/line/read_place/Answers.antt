use Rattle.std.proofs.Common.{◌≡◌, ◌∙◌, ◌<◌, List, [], ◌∷◌, length, map, option_map, sym, ap, subst, arith, rules, refl}
use Rattle.std.specs.List.{AllByRecursion}
use Rattle.fractions.specs.Rational.{ℚ}
use Rattle.frac128.specs.Narrow.{IsNarrow}
use Rattle.frac128.specs.Printed.{printed}
use Rattle.certificate_lines.specs.Cutting.{ReadAs}
use Rattle.certificate_lines.specs.Line.{spaced}
use Rattle.certificate_lines.proofs.Cuts.{none_there}
use Rattle.certificate_texts.proofs.line.read_place.Goals as goal

some_spaced : (xs : List ℚ) → 0 < length xs → spaced (map printed xs) ≡ [] → ⊥
some_spaced [] l e = omega arith
some_spaced (x ∷ xs) l e = none_there _ _ e

no_items : (xs : List ℚ) → length xs ≡ 0 → xs ≡ []
no_items [] e = refl
no_items (x ∷ xs) e = absurd (omega (arith, e))

pub returns-then-is_empty : goal.returns-then-is_empty
returns-then-is_empty c = λ a h e.
    let r = subst (λ o. ReadAs (AllByRecursion IsNarrow) (λ xs. spaced (map printed xs)) (option_map (λ v. v.items) o) c.args.text.now) c.in-Some.is c.in_ok-numbers.ensures in
    let empty : c.in-Some.numbers.items ≡ [] = no_items c.in-Some.numbers.items (search rules) in
    some_spaced a h.some (sym e ∙ r.1 ∙ ap (λ xs. spaced (map printed xs)) empty)

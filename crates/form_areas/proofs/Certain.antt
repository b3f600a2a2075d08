-- The error that SUMIF certainly sums, from the last place to the first.
use Rattle.std.proofs.Common.{◌≡◌, ◌<◌, ◌≤◌, ◌+◌, ◌-◌, ℕ, suc, List, [], ◌∷◌, drop, get_or, length, min, Option, None, refl, sym, ap, ◌∙◌, arith}
use Rattle.sheet_model.specs.declared.value.Value.{Value}
use Rattle.sheet_model.proofs.Spreading.{rest_from}
use Rattle.cell_refs.specs.declared.error_kind.ErrorKind.{ErrorKind}
use Rattle.form_values.specs.declared.abs.Abs.{Abs}
use Rattle.form_table.specs.Criteria.{certain_beside, summed_error}
use Rattle.form_table.specs.Lookups.{error_of}

-- nothing stands behind the shorter list
behind : (criterion : Value) (summed tested : List Abs) (n : ℕ) → n ≡ min (length summed) (length tested) → None ≡ summed_error criterion (drop n summed) (drop n tested)
behind criterion [] tested n e = let none : 0 ≡ n = omega (arith, e) in ap (λ m. summed_error criterion (drop m []) (drop m tested)) none
behind criterion (a ∷ summed) [] n e = let none : 0 ≡ n = omega (arith, e) in ap (λ m. summed_error criterion (drop m (a ∷ summed)) (drop m [])) none
behind criterion (a ∷ summed) (b ∷ tested) n e =
    let next : suc (min (length summed) (length tested)) ≡ n = omega (arith, e) in
    behind criterion summed tested (min (length summed) (length tested)) refl ∙ ap (λ m. summed_error criterion (drop m (a ∷ summed)) (drop m (b ∷ tested))) next

pub behind_all : (criterion : Value) (summed tested : List Abs) → None ≡ summed_error criterion (drop (min (length summed) (length tested)) summed) (drop (min (length summed) (length tested)) tested)
behind_all criterion summed tested = behind criterion summed tested (min (length summed) (length tested)) refl

-- one place more in front
pub one_more : (criterion : Value) (summed tested : List Abs) (place : ℕ) (a b : Abs) (later now : Option ErrorKind) → 0 < place → place ≤ length summed → place ≤ length tested
    → a ≡ get_or summed (place - 1) a → b ≡ get_or tested (place - 1) b → later ≡ summed_error criterion (drop place summed) (drop place tested)
    → now ≡ certain_beside criterion b (error_of a) later → now ≡ summed_error criterion (drop (place - 1) summed) (drop (place - 1) tested)
one_more criterion summed tested place a b later now some within_summed within_tested is_a is_b before after =
    let next : place ≡ place - 1 + 1 = omega (arith, some) in
    after
    ∙ ap (certain_beside criterion b (error_of a)) (before ∙ ap (λ n. summed_error criterion (drop n summed) (drop n tested)) next)
    ∙ sym (rw (rest_from summed (place - 1) a (omega (arith, some, within_summed)) is_a, rest_from tested (place - 1) b (omega (arith, some, within_tested)) is_b) refl)

-- all places stand behind the place 0
pub from_start : (criterion : Value) (summed tested : List Abs) (place : ℕ) (certain : Option ErrorKind) → place ≤ 0 → certain ≡ summed_error criterion (drop place summed) (drop place tested) → certain ≡ summed_error criterion summed tested
from_start criterion summed tested place certain none before =
    let start : place ≡ 0 = omega (arith, none) in before ∙ ap (λ n. summed_error criterion (drop n summed) (drop n tested)) start

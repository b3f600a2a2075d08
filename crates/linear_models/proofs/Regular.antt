-- The standard program of a box is regular: its forms are in order, its rows as long as the objective, and two columns of a decision opposite.
use Rattle.std.specs.Prelude.{◌≢◌, flat_map}
use Rattle.std.specs.List.{AllByRecursion}
use Rattle.std.proofs.Common.{◌≡◌, ℕ, zero, suc, ◌*◌, ◌<◌, ◌≤◌, Bool, true, false, refl, sym, ap, ap₂, ◌∙◌, List, [], ◌∷◌, ◌++◌, map, drop, length, Option, Some, None, cond, arith, length-append}
use Rattle.std.proofs.lemmas.List.{length-map}
use Rattle.std.proofs.lemmas.List.Elements.{All-from_recursion, recursion_from_All}
use Rattle.fractions.specs.Rational.{ℚ, ◌+ℚ◌, neg_ℚ, zero_ℚ, one_ℚ, eq_ℚ}
use Rattle.fractions.specs.Rows.{Row}
use Rattle.fractions.specs.Vectors.{at}
use Rattle.fractions.proofs.Laws.{neg-neg, neg-zero, add-neg}
use Rattle.fractions.proofs.Order.{zero_lt_one, ne_of_lt}
use Rattle.optimality.specs.Problem.{Relation, at_most, equal, at_least, Goal, greatest, least, reach}
use Rattle.affine_forms.specs.Forms.{AffineForm, IsForm, coefficient, constant_form}
use Rattle.affine_forms.proofs.Worths.{negated_is_form}
use Rattle.affine_forms.specs.Assigned.{ReachTo}
use Rattle.linear_models.proofs.Reach.{reach_negated}
use Rattle.linear_programs.specs.Program.{Program, IsCell}
use Rattle.linear_models.specs.Box.{Box}
use Rattle.linear_models.specs.Model.{Model, IsFormOf, IsValid, maximised}
use Rattle.linear_models.specs.Standard.{columns_from, limits, limits_of_row, limits_of_least, limits_of_greatest, limits_of_bounds, program_row, spread, splits_of, is_split, standard, wanted}
use Rattle.linear_programs.specs.StandardFields.{IsSmall}
use Rattle.linear_models.specs.Laws.{IsBoxOf}

-- ---- forms
pub parts_hold : {X : Type 0} (P : X → Type 0) (xs ys : List X) → AllByRecursion P xs → AllByRecursion P ys → AllByRecursion P (xs ++ ys)
parts_hold P [] ys h i = i
parts_hold P (x ∷ xs) ys h i = (h.0, parts_hold P xs ys h.1 i)

constant_is_form : (c : ℚ) → IsForm (constant_form c)
constant_is_form c = record { rise = tt }

pub term_is_form : (c : ℚ) (j : ℕ) (k : ℚ) → k ≢ zero_ℚ → IsForm (record { constant = c; terms = (j, k) ∷ [] })
term_is_form c j k n = record { rise = (omega arith, n, tt) }

pub one_is_some : one_ℚ ≢ zero_ℚ
one_is_some e = ne_of_lt zero_ℚ one_ℚ zero_lt_one (sym e)

pub minus_one_is_some : neg_ℚ one_ℚ ≢ zero_ℚ
minus_one_is_some e = one_is_some (sym (neg-neg one_ℚ) ∙ ap neg_ℚ e ∙ neg-zero)

row_forms : (f : AffineForm) (r : Relation) → IsForm f → AllByRecursion IsForm (limits_of_row (f, r))
row_forms f at_most h = (h, tt)
row_forms f at_least h = (negated_is_form f h, tt)
row_forms f equal h = (h, (negated_is_form f h, tt))

rows_forms : (n : ℕ) (rows : List (AffineForm × Relation)) → AllByRecursion (λ (row : AffineForm × Relation). IsFormOf n row.0) rows → AllByRecursion IsForm (flat_map limits_of_row rows)
rows_forms n [] h = tt
rows_forms n (r ∷ rows) h = parts_hold IsForm (limits_of_row r) _ (row_forms r.0 r.1 h.0.form) (rows_forms n rows h.1)

least_forms : (j : ℕ) (l : Option ℚ) → AllByRecursion IsForm (limits_of_least j l)
least_forms j None = tt
least_forms j (Some b) = cases (eq_ℚ b zero_ℚ)
  where
    cases : (v : Bool) → AllByRecursion IsForm (cond v [] (record { constant = b; terms = (j, neg_ℚ one_ℚ) ∷ [] } ∷ []))
    cases true = tt
    cases false = (term_is_form b j (neg_ℚ one_ℚ) minus_one_is_some, tt)

greatest_forms : (j : ℕ) (g : Option ℚ) → AllByRecursion IsForm (limits_of_greatest j g)
greatest_forms j None = tt
greatest_forms j (Some b) = (term_is_form (neg_ℚ b) j one_ℚ one_is_some, tt)

bounds_forms : (j : ℕ) (ls gs : List (Option ℚ)) → AllByRecursion IsForm (limits_of_bounds j ls gs)
bounds_forms j [] gs = tt
bounds_forms j (l ∷ ls) [] = tt
bounds_forms j (l ∷ ls) (g ∷ gs) =
    parts_hold IsForm (limits_of_least j l) _ (least_forms j l) (parts_hold IsForm (limits_of_greatest j g) _ (greatest_forms j g) (bounds_forms (suc j) ls gs))

pub all_forms : (m : Model) (box : Box) → IsValid m → AllByRecursion IsForm (limits m box)
all_forms m box v = parts_hold IsForm (flat_map limits_of_row m.rows) _ (rows_forms _ m.rows (recursion_from_All _ m.rows v.rows)) (bounds_forms 0 box.least box.greatest)

maximised_is : (g : Goal) (f : AffineForm) → IsForm f → IsForm (maximised g f)
maximised_is greatest f h = h
maximised_is least f h = negated_is_form f h
maximised_is (reach v) f h = constant_is_form zero_ℚ

pub wanted_is : (m : Model) (plain : Bool) → IsValid m → IsForm (wanted m plain)
wanted_is m true v = constant_is_form zero_ℚ
wanted_is m false v = maximised_is m.goal m.objective v.objective.form

maximised_reach : (n : ℕ) (g : Goal) (f : AffineForm) → ReachTo f.terms n → ReachTo (maximised g f).terms n
maximised_reach n greatest f h = h
maximised_reach n least f h = reach_negated n f.terms h
maximised_reach n (reach v) f h = tt

pub wanted_reach : (m : Model) (plain : Bool) → IsValid m → ReachTo (wanted m plain).terms (length m.whole)
wanted_reach m true v = tt
wanted_reach m false v = maximised_reach (length m.whole) m.goal m.objective v.objective.reach

-- ---- lengths
length-spread : (splits : List Bool) (c d : ℕ → ℚ) → length (spread splits c) ≡ length (spread splits d)
length-spread [] c d = refl
length-spread (false ∷ splits) c d = ap suc (length-spread splits _ _)
length-spread (true ∷ splits) c d = ap (λ n. suc (suc n)) (length-spread splits _ _)

spread_few : (splits : List Bool) (c : ℕ → ℚ) → length (spread splits c) ≤ 2 * length splits
spread_few [] c = omega arith
spread_few (false ∷ splits) c = let h = spread_few splits (λ j. c (suc j)) in omega (arith, h)
spread_few (true ∷ splits) c = let h = spread_few splits (λ j. c (suc j)) in omega (arith, h)

row_few : (f : AffineForm) (r : Relation) → length (limits_of_row (f, r)) ≤ 2
row_few f at_most = omega arith
row_few f at_least = omega arith
row_few f equal = omega arith

rows_few : (rows : List (AffineForm × Relation)) → length (flat_map limits_of_row rows) ≤ 2 * length rows
rows_few [] = omega arith
rows_few (r ∷ rows) =
    let h = rows_few rows in let k = row_few r.0 r.1 in
    omega (arith, h, k, length-append (limits_of_row r) (flat_map limits_of_row rows))

least_few : (j : ℕ) (l : Option ℚ) → length (limits_of_least j l) ≤ 1
least_few j None = omega arith
least_few j (Some b) = cases (eq_ℚ b zero_ℚ)
  where
    cases : (v : Bool) → length (cond {A = List AffineForm} v [] (record { constant = b; terms = (j, neg_ℚ one_ℚ) ∷ [] } ∷ [])) ≤ 1
    cases true = omega arith
    cases false = omega arith

greatest_few : (j : ℕ) (g : Option ℚ) → length (limits_of_greatest j g) ≤ 1
greatest_few j None = omega arith
greatest_few j (Some b) = omega arith

bounds_few : (j : ℕ) (ls gs : List (Option ℚ)) → length (limits_of_bounds j ls gs) ≤ 2 * length ls
bounds_few j [] gs = omega arith
bounds_few j (l ∷ ls) [] = omega arith
bounds_few j (l ∷ ls) (g ∷ gs) =
    let h = bounds_few (suc j) ls gs in let a = least_few j l in let b = greatest_few j g in
    omega (arith, h, a, b, length-append (limits_of_least j l) (limits_of_greatest j g ++ limits_of_bounds (suc j) ls gs), length-append (limits_of_greatest j g) (limits_of_bounds (suc j) ls gs))

-- ---- columns
-- from the place k on the list is spread
abbrev Tail : ℕ → List Bool → List ℚ → Type 0
Tail k splits xs = (c : ℕ → ℚ) × (drop k xs ≡ spread splits c)

pub one_dropped : (k : ℕ) (xs : List ℚ) → drop (suc k) xs ≡ drop 1 (drop k xs)
one_dropped zero xs = refl
one_dropped (suc k) [] = refl
one_dropped (suc k) (x ∷ xs) = one_dropped k xs

pub two_dropped : (k : ℕ) (xs : List ℚ) → drop (suc (suc k)) xs ≡ drop 1 (drop 1 (drop k xs))
two_dropped k xs = one_dropped (suc k) xs ∙ ap (drop 1) (one_dropped k xs)

here : (k : ℕ) (xs ys : List ℚ) (x : ℚ) → drop k xs ≡ x ∷ ys → (k < length xs) × (at xs k ≡ x)
here zero [] ys x e = cc
here zero (z ∷ xs) ys x e = (omega arith, ap (λ v. at v 0) e)
here (suc k) [] ys x e = cc
here (suc k) (z ∷ xs) ys x e = let h = here k xs ys x e in (omega (arith, h.0), h.1)

after_one : (k : ℕ) (splits : List Bool) (xs : List ℚ) → Tail k (false ∷ splits) xs → Tail (suc k) splits xs
after_one k splits xs t = (λ j. t.0 (suc j), one_dropped k xs ∙ ap (drop 1) t.1)

after_two : (k : ℕ) (splits : List Bool) (xs : List ℚ) → Tail k (true ∷ splits) xs → Tail (suc (suc k)) splits xs
after_two k splits xs t = (λ j. t.0 (suc j), two_dropped k xs ∙ ap (λ v. drop 1 (drop 1 v)) t.1)

opposite : (k : ℕ) (splits : List Bool) (xs : List ℚ) → Tail k (true ∷ splits) xs → (suc k < length xs) × (at xs k +ℚ at xs (suc k) ≡ zero_ℚ)
opposite k splits xs t =
    let one = here k xs _ _ t.1 in
    let other = here (suc k) xs (spread splits (λ j. t.0 (suc j))) (neg_ℚ (t.0 0)) (one_dropped k xs ∙ ap (drop 1) t.1) in
    (other.0, ap₂ ◌+ℚ◌ one.1 other.1 ∙ add-neg (t.0 0))

each_row : (P Q : List ℚ → Type 0) → ((xs : List ℚ) → P xs → Q xs) → (rows : List Row) → AllByRecursion (λ r. P r.coefficients) rows → AllByRecursion (λ r. Q r.coefficients) rows
each_row P Q f [] h = tt
each_row P Q f (r ∷ rows) h = (f r.coefficients h.0, each_row P Q f rows h.1)

cells_are : (p : Program) (k : ℕ) (splits : List Bool) → Tail k splits p.objective → AllByRecursion (λ r. Tail k splits r.coefficients) p.rows → AllByRecursion (IsCell p) (columns_from k splits)
cells_are p k [] t h = tt
cells_are p k (false ∷ splits) t h = ((here k p.objective _ _ t.1).0, cells_are p (suc k) splits (after_one k splits _ t) (each_row (Tail k (false ∷ splits)) (Tail (suc k) splits) (after_one k splits) p.rows h))
cells_are p k (true ∷ splits) t h =
    let o = opposite k splits p.objective t in (
      record {
        different = omega arith;
        one = omega (arith, o.0);
        other = o.0;
        rows = All-from_recursion _ p.rows (each_row (Tail k (true ∷ splits)) (λ xs. at xs k +ℚ at xs (suc k) ≡ zero_ℚ) (λ xs t. (opposite k splits xs t).1) p.rows h);
        objective = o.1;
      },
      cells_are p (suc (suc k)) splits (after_two k splits _ t) (each_row (Tail k (true ∷ splits)) (Tail (suc (suc k)) splits) (after_two k splits) p.rows h),
    )

all_tails : (splits : List Bool) (fs : List AffineForm) → AllByRecursion (λ r. Tail 0 splits r.coefficients) (map (program_row splits) fs)
all_tails splits [] = tt
all_tails splits (f ∷ fs) = ((coefficient f.terms, refl), all_tails splits fs)

all_long : (splits : List Bool) (c : ℕ → ℚ) (fs : List AffineForm) → AllByRecursion (λ r. length r.coefficients ≡ length (spread splits c)) (map (program_row splits) fs)
all_long splits c [] = tt
all_long splits c (f ∷ fs) = (length-spread splits (coefficient f.terms) c, all_long splits c fs)

pub regular : (m : Model) (box : Box) (plain : Bool) → IsValid m → IsBoxOf m box → IsSmall (standard m box plain)
regular m box plain v b =
    let splits = splits_of box in
    let c = coefficient (wanted m plain).terms in
    let few = spread_few splits c in
    let size : length splits ≡ length m.whole = length-map box.least is_split ∙ b.least in
    let all = length-append (flat_map limits_of_row m.rows) (limits_of_bounds 0 box.least box.greatest) in
    record {
      regular = All-from_recursion _ _ (all_long splits c (limits m box));
      cells = All-from_recursion _ _ (cells_are (standard m box plain) 0 splits (c, refl) (all_tails splits (limits m box)));
      width = omega (arith, few, size, v.few);
      height = omega (arith, length-map (limits m box) (program_row splits), all, rows_few m.rows, bounds_few 0 box.least box.greatest, b.least, v.few, v.few_rows);
    }

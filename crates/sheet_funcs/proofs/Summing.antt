-- Sums of the numbers in places that meet a criterion.
use Rattle.std.proofs.Common.{◌≡◌, ◌*◌, refl, sym, ap, ◌∙◌, Bool, true, List, [], ◌∷◌, map, length, Result, Ok}
use Rattle.std.specs.Prelude.{filter, zip, if◌then◌else◌}
use Rattle.fractions.specs.Rational.{ℚ}
use Rattle.cell_refs.specs.declared.error_kind.ErrorKind.{ErrorKind}
use Rattle.cell_refs.specs.declared.error_kind.ErrorKind.TheVariants as kind
use Rattle.sheet_model.specs.Grids.{IsFull}
use Rattle.sheet_model.specs.declared.value.Value.{Value}
use Rattle.sheet_model.specs.declared.value.Value.TheVariants.{Error}
use Rattle.sheet_model.specs.declared.grid.Arg.{Arg}
use Rattle.sheet_funcs.specs.Arguments.{answered, counted, elements_of, grid_of, no_error, on_ok, value_of}
use Rattle.sheet_funcs.specs.Criteria.{meets, met, sum_where, sumif_by}
use Rattle.sheet_funcs.specs.ReadCriteria.{IsReadOf, is_met}
use Rattle.sheet_funcs.specs.Items.{numbers_among}
use Rattle.sheet_funcs.specs.Products.{is_of_size}
use Rattle.sheet_funcs.specs.Sums.{total}
use Rattle.sheet_funcs.specs.declared.criterion.Criterion.{Criterion}
use Rattle.sheet_funcs.proofs.Meeting.{numbers_where}

-- what passes one test passes an equal one
filter_same : {A : Type 0} (p q : A → Bool) (xs : List A) → ((x : A) → p x ≡ q x) → filter p xs ≡ filter q xs
filter_same p q [] same = refl
filter_same p q (x ∷ xs) same = rw (same x, filter_same p q xs same) refl

-- so many elements in both grids
pub same_lengths : (tested summed : Arg) → IsFull (grid_of tested) → IsFull (grid_of summed) → (grid_of tested).rows ≡ (grid_of summed).rows → (grid_of tested).columns ≡ (grid_of summed).columns
    → length (elements_of tested) ≡ length (elements_of summed)
same_lengths tested summed f g rows columns = f.size ∙ ap (λ n. n * (grid_of tested).columns) rows ∙ ap (λ n. (grid_of summed).rows * n) columns ∙ sym g.size

-- the numbers met, and what is made of them
pub sum_met : (tested criterion summed : Arg) (v : Value) (read : Criterion) (first second : List Value) (numbers : Result (List ℚ) ErrorKind) → Ok v ≡ no_error (value_of criterion) → IsReadOf read v
    → is_of_size (grid_of tested) (grid_of summed) ≡ true → first ≡ elements_of tested → second ≡ elements_of summed → numbers ≡ numbers_where read (zip first second)
    → on_ok numbers (λ xs. counted (total xs)) ≡ sumif_by tested criterion summed
sum_met tested criterion summed v read first second numbers is reads size same_first same_second found =
    let g = grid_of tested in
    let h = grid_of summed in
    let elements : numbers_where read (zip first second) ≡ numbers_among (met v g.items h.items) =
    ap (λ xs. numbers_where read (zip xs second)) same_first ∙ ap (λ ys. numbers_where read (zip g.items ys)) same_second
    ∙ ap (λ ps. numbers_among (map (λ (p : Value × Value). p.1) ps)) (filter_same (λ (p : Value × Value). is_met read p.0) (λ (p : Value × Value). meets v p.0) (zip g.items h.items) (λ p. reads.met p.0)) in
    let f = λ (xs : List ℚ). counted (total xs) in
    ap (λ r. on_ok r f) (found ∙ elements)
    ∙ sym (ap (λ r. on_ok r (λ c. sum_where g c h)) (sym is) ∙ ap (λ b. if b then on_ok (numbers_among (met v g.items h.items)) f else answered (Error kind.Value)) size)

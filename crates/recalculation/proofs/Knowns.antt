-- The narrow value of a cell.
use Rattle.std.proofs.Common.{◌≡◌, ℕ, zero, suc, ◌<◌, Bool, true, false, ◌&&◌, if◌then◌else◌, List, [], ◌∷◌, length, refl, sym, ap, ◌∙◌, arith}
use Rattle.std.specs.Prelude.{not, Option, Some, None, is_some, option_map}
use Rattle.std.specs.List.{AllByRecursion}
use Rattle.std.specs.FinMap.{keys, contains_key}
use Rattle.fractions.specs.Rational.{ℚ}
use Rattle.calculations.specs.Calculation.{exact, narrow}
use Rattle.calculations.proofs.CalculationLaws.{narrow-exact}
use Rattle.cell_refs.specs.declared.cell.Cell.{Cell}
use Rattle.cell_refs.specs.declared.error_kind.ErrorKind.TheVariants as kind
use Rattle.formula_ast.specs.Tree.{Tree}
use Rattle.sheet_model.specs.declared.value.Value.{Value}
use Rattle.sheet_model.specs.declared.value.Value.TheVariants.{Error}
use Rattle.sheet_model.specs.declared.grid.Arg.{Arg}
use Rattle.recalculation.specs.Entries.{Book, Entry, Constant, Formula, Malformed, Overriding, entry}
use Rattle.recalculation.specs.Walks.{is_formula, refers, steps_to, is_circular, unfolded}
use Rattle.recalculation.specs.Evaluation.{evaluated, cell_value}
use Rattle.recalculation.specs.Recalculation.{entry_value, number_or as number_or_value, recalculated, bounded_val, val}
use Rattle.recalculation.specs.Looking.{known_or_empty, are_known, outcome_of, looked_at}
use Rattle.recalculation.specs.Narrow.{entry_known, number_or, known_over, bounded_known, known}
use Rattle.recalculation.specs.Laws.{KnownIsTheValue}
use Rattle.recalculation.proofs.Lists.{first_true, second_true}
use Rattle.recalculation.proofs.Walking.{all_enough, fixed}
use Rattle.recalculation.proofs.Circles.{found_text, no_step}
use Rattle.recalculation.proofs.Knowing.{outcomes_alike}
use Rattle.recalculation.proofs.SeenGrids.{Seen}
use Rattle.recalculation.proofs.Agreeing.{evaluated_same}
use Rattle.recalculation.proofs.WithinAreas.{of_referred}

-- what a cell says depends on what is known of the cells to which it refers
known_alike : (f g : Cell → Option Value) (e : Option Entry) → ((b : Cell) → refers e b ≡ true → f b ≡ g b) → entry_known f e ≡ entry_known g e
known_alike f g None h = refl
known_alike f g (Some (Constant v)) h = refl
known_alike f g (Some (Formula t)) h = ap (option_map cell_value) (outcomes_alike f g t (of_referred (λ b. f b ≡ g b) t h))
known_alike f g (Some Malformed) h = refl

-- so does its narrow value
layer_alike : (f g : Cell → Option Value) (o : Option ℚ) (circular : Bool) (e : Option Entry) → ((b : Cell) → (not (is_some o) && refers e b) ≡ true → f b ≡ g b)
    → number_or o (if circular then Some (Error kind.Circular) else entry_known f e) ≡ number_or o (if circular then Some (Error kind.Circular) else entry_known g e)
layer_alike f g (Some x) circular e h = refl
layer_alike f g None circular e h = ap (λ v. if circular then Some (Error kind.Circular) else v) (known_alike f g e h)

-- a formula of which it is known that walks start at it
either_known : (f g : Cell → Option Value) (w : Bool) (e : Option Entry) → w ≡ true
    → (if is_formula e && w then Some (Error kind.Circular) else entry_known f e) ≡ (if is_formula e && w then Some (Error kind.Circular) else entry_known g e)
either_known f g w None h = refl
either_known f g w (Some (Constant v)) h = refl
either_known f g w (Some (Formula t)) h =
    ap (λ b. if b then Some (Error kind.Circular) else entry_known f (Some (Formula t))) h ∙ sym (ap (λ b. if b then Some (Error kind.Circular) else entry_known g (Some (Formula t))) h)
either_known f g w (Some Malformed) h = refl

-- at a circular cell it doesn't matter what is known of the others
layer_looped : (f g : Cell → Option Value) (o : Option ℚ) (w : Bool) (e : Option Entry) → w ≡ true
    → number_or o (if is_formula e && (not (is_some o) && w) then Some (Error kind.Circular) else entry_known f e)
    ≡ number_or o (if is_formula e && (not (is_some o) && w) then Some (Error kind.Circular) else entry_known g e)
layer_looped f g (Some x) w e h = refl
layer_looped f g None w e h = either_known f g w e h

module _ (book : Book) (over : Overriding) where
  abbrev is_leaf : Cell → Bool
  is_leaf b = is_some (over b)

  -- a bound above the number of texts is enough
  pub known_enough : (m : ℕ) (a : Cell) → length (keys book.texts) < m → bounded_known book over m a ≡ known book over a
  unfolding bounded_known known
  known_enough zero a h = absurd (omega arith)
  known_enough (suc m) a h =
      all_enough (keys book.texts) (steps_to book is_leaf) (contains_key book.texts) (found_text book) (no_step book is_leaf) (known_over book over)
      (λ f g b s. layer_alike f g (over b) (is_circular book is_leaf b) (entry book b) s) (Some (Error kind.Circular))
      (λ f g b w. layer_looped f g (over b) _ (entry book b) w) m a (omega arith)

  -- the narrow value of a cell is what its text makes of those of the others
  pub known_is : (a : Cell) → known book over a ≡ known_over book over (known book over) a
  unfolding bounded_known known
  known_is a =
      fixed (keys book.texts) (steps_to book is_leaf) (contains_key book.texts) (found_text book) (no_step book is_leaf) (known_over book over)
      (λ f g b s. layer_alike f g (over b) (is_circular book is_leaf b) (entry book b) s) (Some (Error kind.Circular))
      (λ f g b w. layer_looped f g (over b) _ (entry book b) w) a

-- ---- a narrow value is the value
module _ (f : Cell → Option Value) (g : Cell → Value) (right : (b : Cell) (v : Value) → f b ≡ Some v → g b ≡ v) where
  -- the value of a cell that is known
  seen_one : (b : Cell) → is_some (f b) ≡ true → Seen f g b
  seen_one b h = by (f b) (right b) h
    where
      by : (o : Option Value) → ((v : Value) → o ≡ Some v → g b ≡ v) → is_some o ≡ true → o ≡ Some (g b)
      by None r h = cc
      by (Some v) r h = ap Some (sym (r v refl))

  -- the values of cells that are
  seen_all : (cells : List Cell) → are_known f cells ≡ true → AllByRecursion (Seen f g) cells
  seen_all [] h = tt
  seen_all (b ∷ cells) h = (seen_one b (first_true (is_some (f b)) (are_known f cells) h), seen_all cells (second_true (is_some (f b)) (are_known f cells) h))

  -- the narrow value of a formula is its value
  formula_right : (t : Tree) (v : Value) → option_map cell_value (outcome_of f t (looked_at f t)) ≡ Some v → cell_value (exact (evaluated g t)) ≡ v
  formula_right t v h = by (are_known f (looked_at f t)) refl h
    where
      answered : (o : Option Arg) → narrow (evaluated g t) ≡ o → option_map cell_value o ≡ Some v → cell_value (exact (evaluated g t)) ≡ v
      answered None e h = cc
      answered (Some a) e h = let same : cell_value a ≡ v = cc h in ap cell_value (narrow-exact (evaluated g t) a e) ∙ same

      by : (b : Bool) → are_known f (looked_at f t) ≡ b → option_map cell_value (if b then narrow (evaluated (known_or_empty f) t) else None) ≡ Some v → cell_value (exact (evaluated g t)) ≡ v
      by true e h = answered (narrow (evaluated (known_or_empty f) t)) (evaluated_same f g t (seen_all (looked_at f t) e)) h
      by false e h = cc

  -- that of what a cell says is
  entry_right : (e : Option Entry) (v : Value) → entry_known f e ≡ Some v → entry_value g e ≡ v
  entry_right None v h = cc h
  entry_right (Some (Constant w)) v h = cc h
  entry_right (Some (Formula t)) v h = formula_right t v h
  entry_right (Some Malformed) v h = cc h

  -- and so is that of a cell
  layer_right : (o : Option ℚ) (circular : Bool) (e : Option Entry) (v : Value) → number_or o (if circular then Some (Error kind.Circular) else entry_known f e) ≡ Some v
      → number_or_value o (if circular then Error kind.Circular else entry_value g e) ≡ v
  layer_right (Some x) circular e v h = cc h
  layer_right None true e v h = cc h
  layer_right None false e v h = entry_right e v h

module _ (book : Book) (over : Overriding) where
  -- it is at each bound
  bounded_right : (n : ℕ) (a : Cell) (v : Value) → bounded_known book over n a ≡ Some v → bounded_val book over n a ≡ v
  unfolding bounded_known bounded_val
  bounded_right zero a v h = cc h
  bounded_right (suc n) a v h =
      layer_right (unfolded (known_over book over) (Some (Error kind.Circular)) n) (unfolded (recalculated book over) (Error kind.Circular) n) (bounded_right n)
      (over a) (is_circular book (λ b. is_some (over b)) a) (entry book a) v h

-- the narrow value of a cell is its value
pub known_right : KnownIsTheValue
unfolding known val
known_right book over a v h = bounded_right book over (suc (length (keys book.texts))) a v h

-- The linear model of a statement with the right side of one row greater has that row's form less by as much, and is the same else.
use Rattle.std.proofs.Common.{◌≡◌, ℕ, zero, suc, ◌<◌, ◌≤◌, Bool, true, false, not, ◌&&◌, refl, sym, ap, ap₂, ◌∙◌, List, [], ◌∷◌, ◌++◌, map, length, Option, Some, None, cond, arith}
use Rattle.std.specs.Prelude.{flat_map, slice_index, ◌==◌, is_some}
use Rattle.std.specs.List.{AllByRecursion, range_with_len}
use Rattle.std.specs.Option.{option_map}
use Rattle.std.proofs.lemmas.Bool.{eq-eqb, ne_eqb}
use Rattle.std.proofs.lemmas.List.Elements.{All-from_recursion, recursion_from_All}
use Rattle.fractions.specs.Rational.{ℚ, ◌+ℚ◌, ◌-ℚ◌, neg_ℚ, zero_ℚ, one_ℚ}
use Rattle.fractions.proofs.Quote.{quotes, by_ring}
use Rattle.optimality.specs.Problem.{Relation}
use Rattle.calculations.specs.Calculation.{exact}
use Rattle.affine_forms.specs.Forms.{AffineForm, negated_terms}
use Rattle.affine_forms.specs.Steps.{merged, subtracted, with_constant}
use Rattle.affine_forms.proofs.Exact.{exact-turned_into}
use Rattle.linear_models.specs.Agreement.{IsOwn, IsStated, SidesReach}
use Rattle.linear_models.specs.Bounds.{bounded, highest, is_marked, is_number, least_of, greatest_of, lows, lows_in, highs, highs_in, lowest, size_in, where_so, up, down}
use Rattle.linear_models.specs.Linear.{form_or_zero, linear}
use Rattle.linear_models.specs.Statement.{Constraint, Statement, is_grouped, is_in}
use Rattle.linear_models.proofs.Agreement.{rows_of, reach_exact}
use Rattle.linear_models.proofs.Sides.{row_exact, rows_exact}
use Rattle.model_prices.proofs.Standards.{form_less, rows_less, model_less}
use Rattle.solver_names.specs.Statement.{RowOf}
use Rattle.sheet_linear_model.specs.Lines.{row_numbers}

-- ---- a right side that is greater
abbrev pub form_more : ℚ → AffineForm → AffineForm
form_more d f = record { constant = f.constant +ℚ d; terms = f.terms }

abbrev pub row_more : Bool → ℚ → Constraint → Constraint
row_more true d c = record { own = c.own; left = c.left; relation = c.relation; right = form_more d c.right }
row_more false d c = c

-- where the row has that number
abbrev pub rows_more : ℕ → ℚ → List RowOf → List Constraint → List Constraint
rows_more number d [] cs = cs
rows_more number d (r ∷ rs) [] = []
rows_more number d (r ∷ rs) (c ∷ cs) = row_more (r.number == number) d c ∷ rows_more number d rs cs

abbrev pub statement_more : ℕ → ℚ → List RowOf → Statement → Statement
statement_more number d rs s = record {
  decisions = s.decisions;
  goal = s.goal;
  objective = s.objective;
  rows = rows_more number d rs s.rows;
  whole = s.whole;
  binary = s.binary;
  explicit = s.explicit;
  not_negative = s.not_negative;
  groups = s.groups;
}

-- ---- it is a statement
length-rows_more : (number : ℕ) (d : ℚ) (rs : List RowOf) (cs : List Constraint) → length (rows_more number d rs cs) ≡ length cs
length-rows_more number d [] cs = refl
length-rows_more number d (r ∷ rs) [] = refl
length-rows_more number d (r ∷ rs) (c ∷ cs) = ap suc (length-rows_more number d rs cs)

all_more : (P : Constraint → Type 0) (number : ℕ) (d : ℚ) → ((b : Bool) (c : Constraint) → P c → P (row_more b d c)) → (rs : List RowOf) (cs : List Constraint) → AllByRecursion P cs
    → AllByRecursion P (rows_more number d rs cs)
all_more P number d k [] cs h = h
all_more P number d k (r ∷ rs) [] h = tt
all_more P number d k (r ∷ rs) (c ∷ cs) h = (k (r.number == number) c h.0, all_more P number d k rs cs h.1)

own_more : (n : ℕ) (d : ℚ) (b : Bool) (c : Constraint) → IsOwn n c → IsOwn n (row_more b d c)
own_more n d true c h = h
own_more n d false c h = h

reach_more : (n : ℕ) (d : ℚ) (b : Bool) (c : Constraint) → SidesReach n c → SidesReach n (row_more b d c)
reach_more n d true c h = record { left = h.left; right = h.right }
reach_more n d false c h = h

pub more_is_stated : (number : ℕ) (d : ℚ) (rs : List RowOf) (s : Statement) → IsStated s → IsStated (statement_more number d rs s)
more_is_stated number d rs s w = record {
  few = w.few;
  few_rows = omega (arith, w.few_rows, length-rows_more number d rs s.rows);
  own = All-from_recursion _ _ (all_more (IsOwn s.decisions) number d (own_more s.decisions d) rs s.rows (recursion_from_All _ s.rows w.own));
  sides = All-from_recursion _ _ (all_more (SidesReach s.decisions) number d (reach_more s.decisions d) rs s.rows (recursion_from_All _ s.rows w.sides));
  objective = w.objective;
  whole = w.whole;
  binary = w.binary;
  groups = w.groups;
  goal = w.goal;
}

-- ---- the difference of the sides is less by as much
difference_less : (d : ℚ) (f g : AffineForm) → exact (subtracted f (form_more d g)) ≡ form_less d (exact (subtracted f g))
difference_less d f g =
    exact-turned_into (with_constant (f.constant +ℚ neg_ℚ (g.constant +ℚ d))) (merged f.terms (negated_terms g.terms))
    ∙ ap (λ c. with_constant c (exact (merged f.terms (negated_terms g.terms)))) (less f.constant g.constant d)
    ∙ ap (form_less d) (sym (exact-turned_into (with_constant (f.constant +ℚ neg_ℚ g.constant)) (merged f.terms (negated_terms g.terms))))
  where
    less : (x y d : ℚ) → x +ℚ neg_ℚ (y +ℚ d) ≡ (x +ℚ neg_ℚ y) -ℚ d
    less x y d = by_ring (x ∷ y ∷ d ∷ []) (search quotes depth 20) (search quotes depth 20) refl

-- ---- rows that are numbered in their order
abbrev pub AreNumbered : ℕ → List RowOf → Type 0
AreNumbered n [] = Unit {0}
AreNumbered n (r ∷ rs) = (r.number ≡ n) × AreNumbered (suc n) rs

none_more : (number n : ℕ) (d : ℚ) (rs : List RowOf) (cs : List Constraint) → AreNumbered n rs → number < n → rows_more number d rs cs ≡ cs
none_more number n d [] cs w h = refl
none_more number n d (r ∷ rs) [] w h = refl
none_more number n d (r ∷ rs) (c ∷ cs) w h =
    ap₂ (λ x xs. x ∷ xs) (ap (λ b. row_more b d c) (ne_eqb r.number number (λ e. omega (arith, e, w.0)))) (none_more number (suc n) d rs cs w.1 (omega arith))

least_behind : (b : Bool) (n m : ℕ) (xs : List ℕ) (k : ℕ) → m ≡ n → ((k : ℕ) → k < length xs → suc n ≤ slice_index xs k) → k < length (cond b xs (m ∷ xs)) → n ≤ slice_index (cond b xs (m ∷ xs)) k
least_behind true n m xs k e more h = omega (arith, more k h)
least_behind false n m xs zero e more h = omega arith
least_behind false n m xs (suc k) e more h = omega (arith, more k (omega arith))

least_number : (n : ℕ) (rs : List RowOf) (cs : List Constraint) (k : ℕ) → AreNumbered n rs → k < length (row_numbers rs cs) → n ≤ slice_index (row_numbers rs cs) k
least_number n [] cs k w h = absurd (omega arith)
least_number n (r ∷ rs) [] k w h = absurd (omega arith)
least_number n (r ∷ rs) (c ∷ cs) k w h = least_behind (is_some (bounded c)) n r.number (row_numbers rs cs) k w.0 (λ k l. least_number (suc n) rs cs k w.1 l) h

-- ---- what a greater right side changes
pub record Moves (place number : ℕ) (d : ℚ) (rs : List RowOf) (cs : List Constraint) : Type 0 where
  pub rows : (others : List (AffineForm × Relation)) → rows_exact (rows_more number d rs cs) ++ others ≡ rows_less place d (rows_exact cs ++ others)
  pub lows : (j : ℕ) → flat_map (lows_in j) (rows_more number d rs cs) ≡ flat_map (lows_in j) cs
  pub highs : (j : ℕ) → flat_map (highs_in j) (rows_more number d rs cs) ≡ flat_map (highs_in j) cs

-- a row of another number in front: a bound, or a row of the model
bound_before : (place number : ℕ) (d : ℚ) (r : RowOf) (c : Constraint) (rs : List RowOf) (cs : List Constraint) (j : ℕ) → bounded c ≡ Some j → (r.number == number) ≡ false
    → Moves place number d rs cs → Moves place number d (r ∷ rs) (c ∷ cs)
bound_before place number d r c rs cs j e f m = record {
  rows = λ others.
      ap (λ b. rows_exact (row_more b d c ∷ rows_more number d rs cs) ++ others) f
      ∙ ap (λ o. (row_exact o c ++ rows_exact (rows_more number d rs cs)) ++ others) e ∙ m.rows others
      ∙ ap (λ o. rows_less place d ((row_exact o c ++ rows_exact cs) ++ others)) (sym e);
  lows = λ i. ap (λ b. lows_in i (row_more b d c) ++ flat_map (lows_in i) (rows_more number d rs cs)) f ∙ ap (λ xs. lows_in i c ++ xs) (m.lows i);
  highs = λ i. ap (λ b. highs_in i (row_more b d c) ++ flat_map (highs_in i) (rows_more number d rs cs)) f ∙ ap (λ xs. highs_in i c ++ xs) (m.highs i);
}

row_before : (place number : ℕ) (d : ℚ) (r : RowOf) (c : Constraint) (rs : List RowOf) (cs : List Constraint) → bounded c ≡ None → (r.number == number) ≡ false
    → Moves place number d rs cs → Moves (suc place) number d (r ∷ rs) (c ∷ cs)
row_before place number d r c rs cs e f m = record {
  rows = λ others.
      ap (λ b. rows_exact (row_more b d c ∷ rows_more number d rs cs) ++ others) f
      ∙ ap (λ o. (row_exact o c ++ rows_exact (rows_more number d rs cs)) ++ others) e
      ∙ ap (λ xs. (exact (subtracted c.left c.right), c.relation) ∷ xs) (m.rows others)
      ∙ ap (λ o. rows_less (suc place) d ((row_exact o c ++ rows_exact cs) ++ others)) (sym e);
  lows = λ i. ap (λ b. lows_in i (row_more b d c) ++ flat_map (lows_in i) (rows_more number d rs cs)) f ∙ ap (λ xs. lows_in i c ++ xs) (m.lows i);
  highs = λ i. ap (λ b. highs_in i (row_more b d c) ++ flat_map (highs_in i) (rows_more number d rs cs)) f ∙ ap (λ xs. highs_in i c ++ xs) (m.highs i);
}

-- the row of that number itself, which is a row of the model
row_itself : (number : ℕ) (d : ℚ) (r : RowOf) (c : Constraint) (rs : List RowOf) (cs : List Constraint) → bounded c ≡ None → (r.number == number) ≡ true
    → rows_more number d rs cs ≡ cs → Moves zero number d (r ∷ rs) (c ∷ cs)
row_itself number d r c rs cs e f same = record {
  rows = λ others.
      ap (λ b. rows_exact (row_more b d c ∷ rows_more number d rs cs) ++ others) f
      ∙ ap (λ o. (row_exact o (row_more true d c) ++ rows_exact (rows_more number d rs cs)) ++ others) e
      ∙ ap₂ (λ g xs. (g, c.relation) ∷ (rows_exact xs ++ others)) (difference_less d c.left c.right) same
      ∙ ap (λ o. rows_less zero d ((row_exact o c ++ rows_exact cs) ++ others)) (sym e);
  lows = λ i.
      ap (λ b. lows_in i (row_more b d c) ++ flat_map (lows_in i) (rows_more number d rs cs)) f
      ∙ ap₂ (λ o xs. cond (is_number i o) (lows c.relation (c.right.constant +ℚ d)) [] ++ flat_map (lows_in i) xs) e same
      ∙ ap (λ o. cond (is_number i o) (lows c.relation c.right.constant) [] ++ flat_map (lows_in i) cs) (sym e);
  highs = λ i.
      ap (λ b. highs_in i (row_more b d c) ++ flat_map (highs_in i) (rows_more number d rs cs)) f
      ∙ ap₂ (λ o xs. cond (is_number i o) (highs c.relation (c.right.constant +ℚ d)) [] ++ flat_map (highs_in i) xs) e same
      ∙ ap (λ o. cond (is_number i o) (highs c.relation c.right.constant) [] ++ flat_map (highs_in i) cs) (sym e);
}

-- the place is that of a row of that number among the rows of the model
abbrev IsAt : ℕ → ℕ → List ℕ → Type 0
IsAt place number numbers = (place < length numbers) × (slice_index numbers place ≡ number)

module _ (n number : ℕ) (d : ℚ) (r : RowOf) (c : Constraint) (rs : List RowOf) (cs : List Constraint) (w : AreNumbered n (r ∷ rs)) (later : (place : ℕ) → IsAt place number (row_numbers rs cs) → Moves place number d rs cs) where
  another : (place : ℕ) → IsAt place number (row_numbers rs cs) → (r.number == number) ≡ false
  another place h = let l = least_number (suc n) rs cs place w.1 h.0 in ne_eqb r.number number (λ e. omega (arith, l, e, w.0, h.1))

  moves_by : (o : Option ℕ) → bounded c ≡ o → (place : ℕ) → IsAt place number (cond (is_some o) (row_numbers rs cs) (r.number ∷ row_numbers rs cs)) → Moves place number d (r ∷ rs) (c ∷ cs)
  moves_by (Some j) e place h = bound_before place number d r c rs cs j e (another place h) (later place h)
  moves_by None e zero h = row_itself number d r c rs cs e (eq-eqb r.number number h.1) (none_more number (suc n) d rs cs w.1 (omega (arith, h.1, w.0)))
  moves_by None e (suc place) h = let l : IsAt place number (row_numbers rs cs) = (omega (arith, h.0), h.1) in row_before place number d r c rs cs e (another place l) (later place l)

pub moves : (n number : ℕ) (d : ℚ) (rs : List RowOf) (cs : List Constraint) → AreNumbered n rs → (place : ℕ) → IsAt place number (row_numbers rs cs) → Moves place number d rs cs
moves n number d [] cs w place h = absurd (omega (arith, h.0))
moves n number d (r ∷ rs) [] w place h = absurd (omega (arith, h.0))
moves n number d (r ∷ rs) (c ∷ cs) w place h = moves_by n number d r c rs cs w (λ place l. moves (suc n) number d rs cs w.1 place l) (bounded c) refl place h

-- ---- the model
pub linear_more : (n number place : ℕ) (d : ℚ) (rs : List RowOf) (s : Statement) → AreNumbered n rs → place < length (row_numbers rs s.rows) → slice_index (row_numbers rs s.rows) place ≡ number
    → linear (statement_more number d rs s) ≡ model_less (linear s) place d
linear_more n number place d rs s w h e =
    let m : Moves place number d rs s.rows = moves n number d rs s.rows w place (h, e) in
    λ i. record {
      goal = s.goal;
      objective = (linear s).objective;
      rows = rows_are m i;
      whole = (linear s).whole;
      bounds = record { least = map (λ j. least_is m j i) (range_with_len 0 s.decisions); greatest = map (λ j. greatest_is m j i) (range_with_len 0 s.decisions) };
      groups = s.groups;
    }
  where
    rows_are : Moves place number d rs s.rows → (linear (statement_more number d rs s)).rows ≡ rows_less place d (linear s).rows
    rows_are m = rows_of (statement_more number d rs s) ∙ m.rows (reach_exact s.goal (form_or_zero s.objective)) ∙ ap (rows_less place d) (sym (rows_of s))

    least_is : Moves place number d rs s.rows → (j : ℕ) → least_of (statement_more number d rs s) j ≡ least_of s j
    least_is m j = ap (λ xs. option_map (up (is_marked s j)) (highest (xs ++ (where_so (is_in j s.binary) zero_ℚ ++ (where_so (s.not_negative && not (is_in j s.explicit)) zero_ℚ ++ where_so (is_grouped j s.groups) one_ℚ))))) (m.lows j)

    greatest_is : Moves place number d rs s.rows → (j : ℕ) → greatest_of (statement_more number d rs s) j ≡ greatest_of s j
    greatest_is m j = ap (λ xs. option_map (down (is_marked s j)) (lowest (xs ++ (where_so (is_in j s.binary) one_ℚ ++ flat_map (size_in j) s.groups)))) (m.highs j)

-- Leaf proofs hold, by weak duality and along a way out.
use Rattle.std.proofs.Common.{◌≡◌, ℕ, suc, sym, ap, ap₂, ◌∙◌, List, [], ◌∷◌, length, arith}
use Rattle.std.proofs.lemmas.List.Elements.{All-head, All-tail}
use Rattle.fractions.specs.Rational.{ℚ, ◌+ℚ◌, ◌*ℚ◌, ◌≤ℚ◌, zero_ℚ}
use Rattle.fractions.specs.Vectors.{dot, at, times, AllNonNegative, EachAtMost}
use Rattle.fractions.specs.Rows.{Row, Meets, combined, combined_bound}
use Rattle.fractions.proofs.Laws.{add_comm, add_assoc, add-zero, mul-zero}
use Rattle.fractions.proofs.Order.{le_refl, le_trans, add-le-add, mul_nonneg, mul-le-mul_nonneg, lt_irrefl, lt_of_le_of_lt}
use Rattle.fractions.proofs.Signs.{add_nonneg}
use Rattle.fractions.proofs.Vectors.{dot_comm, dot-plus, dot-times}
use Rattle.fractions.proofs.Duality.{weak_duality}
use Rattle.linear_programs.specs.Program.{Program, IsPoint, Bounds, IsContradictory, Lowers, followed, objective_at, LeafProofsHold}
use Rattle.linear_programs.proofs.Vectors.{length-plus, length-times}

each_at_most : (a b : List ℚ) → ((j : ℕ) → at a j ≤ℚ at b j) → EachAtMost a b
each_at_most [] [] h = tt
each_at_most [] (y ∷ b) h = (h 0, each_at_most [] b (λ j. h (suc j)))
each_at_most (x ∷ a) [] h = (h 0, each_at_most a [] (λ j. h (suc j)))
each_at_most (x ∷ a) (y ∷ b) h = (h 0, each_at_most a b (λ j. h (suc j)))

bounded : (p : Program) (x y : List ℚ) (b : ℚ) → IsPoint p x → Bounds p y b → objective_at p x ≤ℚ b
bounded p x y b k h =
    le_trans _ _ _ (add-le-add _ _ _ _ (le_refl p.constant) (weak_duality p.rows p.objective x y k.signs h.signs k.rows (each_at_most p.objective (combined y p.rows) h.columns)))
    (rw (add_comm p.constant (combined_bound y p.rows)) h.constant)

none_meets : (p : Program) (x y : List ℚ) → IsPoint p x → IsContradictory p y → ⊥
none_meets p x y k h =
    lt_irrefl zero_ℚ (lt_of_le_of_lt _ _ _ (weak_duality p.rows [] x y k.signs h.signs k.rows (each_at_most [] (combined y p.rows) h.columns)) h.constant)

-- ---- along a direction
dot-followed : (a x d : List ℚ) (k : ℚ) → dot a (followed x d k) ≡ dot a x +ℚ k *ℚ dot a d
dot-followed a x d k =
    dot_comm a (followed x d k) ∙ dot-plus x (times k d) a ∙ ap₂ ◌+ℚ◌ (dot_comm x a) (dot-times k d a ∙ ap (λ t. k *ℚ t) (dot_comm d a))

followed_nonnegative : (x d : List ℚ) (k : ℚ) → AllNonNegative x → AllNonNegative d → zero_ℚ ≤ℚ k → AllNonNegative (followed x d k)
followed_nonnegative [] [] k h i l = tt
followed_nonnegative [] (e ∷ d) k h i l = (mul_nonneg k e l i.0, followed_nonnegative [] d k tt i.1 l)
followed_nonnegative (v ∷ x) [] k h i l = h
followed_nonnegative (v ∷ x) (e ∷ d) k h i l = (add_nonneg _ _ h.0 (mul_nonneg k e l i.0), followed_nonnegative x d k h.1 i.1 l)

followed_meets : (rows : List Row) (x d : List ℚ) (k : ℚ) → Meets rows x → Lowers rows d → zero_ℚ ≤ℚ k → Meets rows (followed x d k)
followed_meets [] x d k m l h = tt
followed_meets (r ∷ rows) x d k m l h = (
  rw (dot-followed r.coefficients x d k)
      (rw (add-zero r.bound) at (add-le-add _ _ _ _ m.0 (rw (mul-zero k) at (mul-le-mul_nonneg k _ zero_ℚ h (All-head (λ (r : Row). dot r.coefficients d ≤ℚ zero_ℚ) r rows l))))),
  followed_meets rows x d k m.1 (All-tail (λ (r : Row). dot r.coefficients d ≤ℚ zero_ℚ) r rows l) h,
)

followed_length : (x d : List ℚ) (k : ℚ) (n : ℕ) → length x ≡ n → length d ≡ n → length (followed x d k) ≡ n
followed_length x d k n e f = length-plus x (times k d) (omega (arith, e, f, length-times k d)) ∙ e

pub leaf_proofs_hold : LeafProofsHold
leaf_proofs_hold = record {
  bounds = λ p x y b k h. bounded p x y b k h;
  contradictory = λ p x y k h. none_meets p x y k h;
  way_out = λ p x d k i w h. (
    record {
      size = followed_length x d k (length p.objective) i.size w.size;
      signs = followed_nonnegative x d k i.signs w.signs h;
      rows = followed_meets p.rows x d k i.rows w.rows h;
    },
    ap (λ t. p.constant +ℚ t) (dot-followed p.objective x d k) ∙ sym (add_assoc _ _ _),
  );
}

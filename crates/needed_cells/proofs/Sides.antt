-- The first side of a number.
use Rattle.std.specs.Option.{option_or}
use Rattle.std.specs.Prelude.{◌==◌}
use Rattle.std.proofs.Common.{◌≡◌, ℕ, zero, suc, ◌+◌, ◌<◌, Bool, true, false, cond, [], ◌∷◌, get_or, length, take, find, Option, Some, None, option_map, refl, sym, ap, ◌∙◌, arith}
use Rattle.std.proofs.lemmas.Bool.{eq-eqb, eqb-true}
use Rattle.std.proofs.lemmas.List.{take_more}
use Rattle.std.proofs.lemmas.List.Folds.{find-append}
use Rattle.formula_ast.specs.Tree.{Tree}
use Rattle.form_needs.specs.FromSheetProblems.{Sides, tree_of}

abbrev is_of : ℕ → ℕ × Tree → Bool
is_of k side = side.0 == k

other_number : (n k : ℕ) → (n ≡ k → ⊥) → (n == k) ≡ false
other_number n k other = by (n == k) refl
  where
    by : (b : Bool) → (n == k) ≡ b → (n == k) ≡ false
    by true e = absurd (other (eqb-true n k e))
    by false e = e

not_here : (b : Bool) (x : ℕ × Tree) (o : Option (ℕ × Tree)) → cond b (Some x) o ≡ None → (b ≡ false) × (o ≡ None)
not_here true x o h = cc
not_here false x o h = (refl, h)

-- the first that is found
found_from : (k : ℕ) (sides : Sides) (i : ℕ) (side : ℕ × Tree) → find (is_of k) (take i sides) ≡ None → i < length sides → side ≡ get_or sides i side → side.0 ≡ k
    → find (is_of k) sides ≡ Some side
found_from k [] i side none h at e = absurd (omega (arith, h))
found_from k (x ∷ sides) zero side none h at e =
    ap (λ b. cond b (Some x) (find (is_of k) sides)) (eq-eqb x.0 k (ap (λ (s : ℕ × Tree). s.0) (sym at) ∙ e)) ∙ ap Some (sym at)
found_from k (x ∷ sides) (suc i) side none h at e =
    let not = not_here (x.0 == k) x (find (is_of k) (take i sides)) none in
    ap (λ b. cond b (Some x) (find (is_of k) sides)) not.0 ∙ found_from k sides i side not.1 (omega (arith, h)) at e

pub side_found : (k : ℕ) (sides : Sides) (i : ℕ) (side : ℕ × Tree) → find (is_of k) (take i sides) ≡ None → i < length sides → side ≡ get_or sides i side → side.0 ≡ k
    → Some side.1 ≡ tree_of sides k
side_found k sides i side none h at e = sym (ap (option_map (λ (side : ℕ × Tree). side.1)) (found_from k sides i side none h at e))

-- none so far
pub none_more : (k : ℕ) (sides : Sides) (i : ℕ) (side : ℕ × Tree) → find (is_of k) (take i sides) ≡ None → i < length sides → side ≡ get_or sides i side → (side.0 ≡ k → ⊥)
    → find (is_of k) (take (i + 1) sides) ≡ None
none_more k sides i side none h at other =
    let test : (get_or sides i side).0 == k ≡ false = ap (λ (s : ℕ × Tree). s.0 == k) (sym at) ∙ other_number side.0 k other in
    ap (find (is_of k)) (take_more sides i side h) ∙ find-append (is_of k) (take i sides) (get_or sides i side ∷ [])
    ∙ joined (find (is_of k) (take i sides)) ((get_or sides i side).0 == k) (get_or sides i side) none test
  where
    joined : (o : Option (ℕ × Tree)) (b : Bool) (x : ℕ × Tree) → o ≡ None → b ≡ false → option_or o (cond b (Some x) None) ≡ None
    joined None true x e f = cc
    joined None false x e f = refl
    joined (Some y) b x e f = cc

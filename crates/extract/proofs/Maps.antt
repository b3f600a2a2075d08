-- Finite maps made of entries that are told apart by equality.
use Rattle.std.proofs.Common.{◌≡◌, ℕ, suc, ◌+◌, Bool, true, false, cond, List, [], ◌∷◌, length, refl, sym, ap, ◌∙◌, Some, None, arith}
use Rattle.std.specs.Prelude.{is_some, ◌&&◌, ◌==◌}
use Rattle.std.specs.Cmp.{IsTotalOrder, eq_by_cmp_equiv}
use Rattle.std.specs.FinMap.{IsAntisymmetric, find, get, insert, remove, len, from_entries, get-from_entries, get-insert, get-remove, len-empty, len-insert, same_map}
use Rattle.std.specs.List.{AllByRecursion, IsDistinct}
use Rattle.std.specs.Map.{lookup, keys_of}
use Rattle.std.specs.Ordering.{eq_by_cmp, is_eq}
use Rattle.std.specs.declared.cmp.Ordering.{Ordering}
use Rattle.std.specs.declared.cmp.Ordering.TheVariants.{Less, Equal, Greater}
use Rattle.std.proofs.lemmas.Bool.{eqb-true, eq-eqb}
use Rattle.std.proofs.lemmas.Map.Keys.{IsDistinct-head, IsDistinct-tail}
use Rattle.cell_refs.specs.declared.cell.Cell.{Cell}
use Rattle.cell_refs.specs.Cells.{is_same_cell}

-- truth values that imply each other
alike : (b c : Bool) → (b ≡ true → c ≡ true) → (c ≡ true → b ≡ true) → b ≡ c
alike true c h k = sym (h refl)
alike false true h k = k refl
alike false false h k = refl

equal_of : (r : Ordering) → is_eq r ≡ true → r ≡ Equal
equal_of Less e = absurd cc
equal_of Equal e = refl
equal_of Greater e = absurd cc

module _ {K : Type 0} {R : K → K → Ordering} (total : IsTotalOrder R) (exact : IsAntisymmetric R) (eq : K → K → Bool) (same : (a b : K) → eq a b ≡ true → a ≡ b) (itself : (a : K) → eq a a ≡ true) where
  -- equality is that of the order
  as_ordered : (a b : K) → eq a b ≡ eq_by_cmp R a b
  as_ordered a b =
      alike (eq a b) (eq_by_cmp R a b)
      (λ h. ap (λ c. eq_by_cmp R a c) (sym (same a b h)) ∙ (eq_by_cmp_equiv total).refl a)
      (λ h. ap (λ c. eq a c) (sym (exact a b (equal_of (R a b) h))) ∙ itself a)

  turned : (k q : K) → eq k q ≡ eq_by_cmp R q k
  turned k q = as_ordered k q ∙ (eq_by_cmp_equiv total).symm k q

  module _ {X : Type 0} where
    found_as : (es : List (K × X)) (q : K) → find R q es ≡ lookup (eq q) es
    found_as [] q = refl
    found_as (e ∷ es) q = (λ i. cond (sym (as_ordered q e.0) i) (Some e.1) (found_as es q i))

    -- what a map has that some entries make
    pub get_as : (es : List (K × X)) (q : K) → get (from_entries {R = R} es) q ≡ lookup (eq q) es
    get_as es q = get-from_entries total es q ∙ found_as es q

    -- one entry more, or less
    pub put_as : (es fs : List (K × X)) (k : K) (v : X) → ((q : K) → lookup (eq q) fs ≡ cond (eq k q) (Some v) (lookup (eq q) es)) → from_entries {R = R} fs ≡ insert (from_entries es) k v
    put_as es fs k v h = same_map total exact _ _ (λ q.
        get_as fs q ∙ h q ∙ (λ i. cond (turned k q i) (Some v) (sym (get_as es q) i)) ∙ sym (get-insert total (from_entries es) k v q))

    pub taken_as : (es fs : List (K × X)) (k : K) → ((q : K) → lookup (eq q) fs ≡ cond (eq k q) None (lookup (eq q) es)) → from_entries {R = R} fs ≡ remove (from_entries es) k
    taken_as es fs k h = same_map total exact _ _ (λ q.
        get_as fs q ∙ h q ∙ (λ i. cond (turned k q i) None (sym (get_as es q) i)) ∙ sym (get-remove total (from_entries es) k q))

    -- as many as there are entries
    none_of : (k : K) (es : List (K × X)) → AllByRecursion (λ y. eq k y ≡ false) (keys_of es) → lookup (eq k) es ≡ None
    none_of k [] h = refl
    none_of k (e ∷ es) h = (λ i. cond (h.0 i) (Some e.1) (lookup (eq k) es)) ∙ none_of k es h.1

    pub length_as : (es : List (K × X)) → IsDistinct eq (keys_of es) → len (from_entries {R = R} es) ≡ length es
    length_as [] h = len-empty R X
    length_as (e ∷ es) h =
        len-insert total (from_entries es) e.0 e.1
        ∙ (λ i. cond (is_some ((get_as es e.0 ∙ none_of e.0 es (IsDistinct-head eq e.0 (keys_of es) h)) i)) (len (from_entries {R = R} es)) (len (from_entries {R = R} es) + 1))
        ∙ ap (λ n. n + 1) (length_as es (IsDistinct-tail eq e.0 (keys_of es) h))
        ∙ more (length es)
      where
        more : (n : ℕ) → n + 1 ≡ suc n
        more n = omega arith

-- ---- numbers
pub same_numbers : (a b : ℕ) → (a == b) ≡ true → a ≡ b
same_numbers a b h = eqb-true a b h

pub number_itself : (a : ℕ) → (a == a) ≡ true
number_itself a = eq-eqb a a refl

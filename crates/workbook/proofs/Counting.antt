-- How many texts begin a formula, after one is put or taken away.
use Rattle.std.proofs.Common.{◌≡◌, ℕ, ◌+◌, Bool, true, false, cond, List, [], ◌∷◌, length, Option, Some, None, refl, sym, ap, subst, ◌∙◌, arith}
use Rattle.std.specs.Prelude.{filter, if◌then◌else◌, unwrap_or, T, ◌&&◌, not}
use Rattle.std.specs.Ordering.{is_eq, is_lt, eq_by_cmp}
use Rattle.std.specs.declared.cmp.Ordering.{Ordering}
use Rattle.std.specs.declared.cmp.Ordering.TheVariants.{Less, Equal, Greater}
use Rattle.std.specs.Cmp.{alike_right, eq_by_cmp_equiv}
use Rattle.std.specs.FinMap.{get, entries, insert, remove, find, put, is_sorted, entries_sorted, entries-insert, get-entries, from_sorted, get-from_sorted, entries-from_sorted, get-remove, same_map}
use Rattle.std.specs.FinMap.Entries.{by_order, where_key, below_all, is_sorted-where_key, find-where_key}
use Rattle.cell_refs.specs.declared.cell.Cell.{Cell}
use Rattle.cell_refs.specs.Cells.{cell_cmp}
use Rattle.cell_refs.proofs.Order.{cells_total, exact_cells}
use Rattle.recalculation.specs.Entries.{Contents}
use Rattle.workbook.specs.Contents.{content_of}
use Rattle.workbook.specs.State.{formula_count, is_formula_text}

abbrev pub one : Bool → ℕ
one b = if b then 1 else 0

abbrev pub Texts : Type 0
Texts = List (Cell × List ℕ)

front : (a b : Bool) → T (a && b) → T a
front true b p = tt
front false b p = p

rest_of : (a b : Bool) → T (a && b) → T b
rest_of true b p = p
rest_of false b p = absurd p

less : (o : Ordering) → T (is_lt o) → o ≡ Less
less Less p = refl
less Equal p = absurd p
less Greater p = absurd p

equal : (r : Ordering) → T (is_eq r) → r ≡ Equal
equal Less p = absurd p
equal Equal p = refl
equal Greater p = absurd p

holds : (b : Bool) → b ≡ true → T b
holds b e = subst T (sym e) tt

-- a cell below all others has no text among theirs
none_below : (k y : Cell) (es : Texts) → cell_cmp k y ≡ Less → T (below_all cell_cmp y es) → find cell_cmp k es ≡ None
none_below k y [] p h = refl
none_below k y (e ∷ es) p h =
    let step = cells_total.trans k y e.0 p (less _ (front _ _ h)) in
    ap (λ r. cond (is_eq r) (Some e.1) (find cell_cmp k es)) step ∙ none_below k y es p (rest_of _ _ h)

none_beside : (k y : Cell) (es : Texts) → cell_cmp k y ≡ Equal → T (below_all cell_cmp y es) → find cell_cmp k es ≡ None
none_beside k y [] p h = refl
none_beside k y (e ∷ es) p h =
    let step : cell_cmp k e.0 ≡ Less = cells_total.congr k y e.0 p ∙ less _ (front _ _ h) in
    ap (λ r. cond (is_eq r) (Some e.1) (find cell_cmp k es)) step ∙ none_beside k y es p (rest_of _ _ h)

turned : {A : Type 0} (b : Bool) (x y : A) → cond (not b) x y ≡ cond b y x
turned true x y = refl
turned false x y = refl

-- the entries of other cells
abbrev others : Contents → Cell → Texts
others m k = where_key cell_cmp (λ x. not (eq_by_cmp cell_cmp k x)) (entries m)

others_sorted : (m : Contents) (k : Cell) → T (is_sorted cell_cmp (others m k))
others_sorted m k = is_sorted-where_key cell_cmp (λ x. not (eq_by_cmp cell_cmp k x)) (entries m) (entries_sorted m)

found_among : (m : Contents) (k q : Cell) → find cell_cmp q (others m k) ≡ cond (eq_by_cmp cell_cmp q k) None (get m q)
found_among m k q =
    find-where_key cell_cmp (λ x. not (eq_by_cmp cell_cmp k x)) q (λ x t. ap (λ r. not (is_eq r)) (sym (alike_right cells_total q x k t))) (entries m)
    ∙ turned (eq_by_cmp cell_cmp k q) (find cell_cmp q (entries m)) None
    ∙ ap (λ b. cond b None (find cell_cmp q (entries m))) ((eq_by_cmp_equiv cells_total).symm k q)
    ∙ ap (cond (eq_by_cmp cell_cmp q k) None) (sym (get-entries m q))

entries-others : (m : Contents) (k : Cell) → entries (remove m k) ≡ others m k
entries-others m k =
    ap entries (same_map cells_total exact_cells (remove m k) (from_sorted (others m k)) (λ q.
    get-remove cells_total m k q ∙ sym (get-from_sorted cell_cmp (others m k) q (others_sorted m k) ∙ found_among m k q)))
    ∙ entries-from_sorted cell_cmp (others m k) (others_sorted m k)

module _ (p : List ℕ → Bool) (nothing : p [] ≡ false) where
  abbrev count : Texts → ℕ
  count es = length (filter (λ (e : Cell × List ℕ). p e.1) es)

  abbrev had : Option (List ℕ) → ℕ
  had o = one (p (unwrap_or o []))

  had_none : had None ≡ 0
  had_none = ap one nothing

  counted : (b : Bool) (e : Cell × List ℕ) (es : Texts) → length (cond b (e ∷ es) es) ≡ one b + length es
  counted true e es = omega arith
  counted false e es = omega arith

  count-cons : (e : Cell × List ℕ) (es : Texts) → count (e ∷ es) ≡ one (p e.1) + count es
  count-cons e es = counted (p e.1) e (filter (λ (e : Cell × List ℕ). p e.1) es)

  count-put : (k : Cell) (v : List ℕ) (es : Texts) → T (is_sorted cell_cmp es) → count (put cell_cmp k v es) + had (find cell_cmp k es) ≡ count es + one (p v)
  count-put k v [] h = let a = count-cons (k, v) [] in let b = had_none in omega arith
  count-put k v (e ∷ es) h =
      elim (cell_cmp k e.0) as (λ r. cell_cmp k e.0 ≡ r → count (by_order r ((k, v) ∷ e ∷ es) ((e.0, v) ∷ es) (e ∷ put cell_cmp k v es))
      + had (cond (is_eq r) (Some e.1) (find cell_cmp k es)) ≡ count (e ∷ es) + one (p v)) [
        | Less ↦ λ t.
            let a = count-cons (k, v) (e ∷ es) in
            let b : had (find cell_cmp k es) ≡ 0 = ap had (none_below k e.0 es t (front _ _ h)) ∙ had_none in
            omega arith
        | Equal ↦ λ t.
            let a = count-cons (e.0, v) es in
            let b = count-cons e es in
            omega arith
        | Greater ↦ λ t.
            let a = count-cons e (put cell_cmp k v es) in
            let b = count-cons e es in
            let c = count-put k v es (rest_of _ _ h) in
            omega arith
      ] refl

  count-without : (k : Cell) (es : Texts) → T (is_sorted cell_cmp es) → count (where_key cell_cmp (λ x. not (eq_by_cmp cell_cmp k x)) es) + had (find cell_cmp k es) ≡ count es
  count-without k [] h = let b = had_none in omega arith
  count-without k (e ∷ es) h =
      let left = where_key cell_cmp (λ x. not (eq_by_cmp cell_cmp k x)) es in
      let ih = count-without k es (rest_of _ _ h) in
      elim (eq_by_cmp cell_cmp k e.0) as (λ t. eq_by_cmp cell_cmp k e.0 ≡ t → count (cond (not t) (e ∷ left) left) + had (cond t (Some e.1) (find cell_cmp k es)) ≡ count (e ∷ es)) [
        | true ↦ λ t.
            let a : had (find cell_cmp k es) ≡ 0 = ap had (none_beside k e.0 es (equal _ (holds _ t)) (front _ _ h)) ∙ had_none in
            let b = count-cons e es in
            omega arith
        | false ↦ λ t.
            let a = count-cons e left in
            let b = count-cons e es in
            omega arith
      ] refl

  in_map : (m : Contents) (k : Cell) → had (find cell_cmp k (entries m)) ≡ had (get m k)
  in_map m k = ap had (sym (get-entries m k))

  map-put : (m : Contents) (k : Cell) (v : List ℕ) → count (entries (insert m k v)) + had (get m k) ≡ count (entries m) + one (p v)
  map-put m k v =
      let a : count (entries (insert m k v)) ≡ count (put cell_cmp k v (entries m)) = ap count (entries-insert cells_total m k v) in
      let b = count-put k v (entries m) (entries_sorted m) in
      let c = in_map m k in
      omega arith

  map-remove : (m : Contents) (k : Cell) → count (entries (remove m k)) + had (get m k) ≡ count (entries m)
  map-remove m k =
      let a : count (entries (remove m k)) ≡ count (others m k) = ap count (entries-others m k) in
      let b = count-without k (entries m) (entries_sorted m) in
      let c = in_map m k in
      omega arith

pub formulas_put : (m : Contents) (k : Cell) (text : List ℕ) → formula_count (insert m k text) + one (is_formula_text (content_of m k)) ≡ formula_count m + one (is_formula_text text)
formulas_put m k text = map-put is_formula_text refl m k text

pub formulas_removed : (m : Contents) (k : Cell) → formula_count (remove m k) + one (is_formula_text (content_of m k)) ≡ formula_count m
formulas_removed m k = map-remove is_formula_text refl m k

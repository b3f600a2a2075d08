-- Of some cells those that pass a test, as a set and as a list.
use Rattle.std.proofs.Common.{◌≡◌, ◌<◌, ◌+◌, ℕ, zero, suc, Bool, true, false, cond, List, [], ◌∷◌, ◌++◌, filter, get_or, length, take, Contains, refl, sym, ap, ◌∙◌, subst, arith}
use Rattle.std.specs.Prelude.{if◌then◌else◌}
use Rattle.std.specs.Cmp.{eq_by_cmp_equiv}
use Rattle.std.specs.FinSet as set
use Rattle.std.specs.Ordering.{is_eq}
use Rattle.std.specs.declared.cmp.Ordering.{Ordering}
use Rattle.std.specs.declared.cmp.Ordering.TheVariants.{Less, Equal, Greater}
use Rattle.std.proofs.lemmas.List.{append-nil}
use Rattle.std.proofs.lemmas.List.Elements.{All-contains, All-contains_itself, All-filter, filter_more, filter_passes}
use Rattle.std.proofs.lemmas.Map.Views.{Contains-from_any, list_any-from_Contains}
use Rattle.cell_refs.specs.declared.cell.Cell.{Cell}
use Rattle.cell_refs.specs.Cells.{cell_cmp}
use Rattle.cell_refs.proofs.Order.{cells_total, exact_cells}

equal_of : (r : Ordering) → is_eq r ≡ true → r ≡ Equal
equal_of Less e = absurd cc
equal_of Equal e = refl
equal_of Greater e = absurd cc

-- lists that make one set have the same cells
members : (xs ys : List Cell) → set.from_list {R = cell_cmp} xs ≡ set.from_list ys → (b : Cell) → Contains xs b → Contains ys b
members xs ys e b h =
    Contains-from_any (λ x y t. exact_cells x y (equal_of (cell_cmp x y) t)) b ys
    (sym (set.contains-from_list cells_total ys b) ∙ ap (λ s. set.contains s b) (sym e) ∙ set.contains-from_list cells_total xs b ∙ list_any-from_Contains (eq_by_cmp_equiv cells_total) b xs h)

module _ (test : Cell → Bool) where
  -- the set with one cell more, if it passes
  pushed : (b : Bool) (ks : List Cell) (k : Cell) → (if b then set.insert (set.from_list {R = cell_cmp} ks) k else set.from_list ks) ≡ set.from_list (ks ++ cond b (k ∷ []) [])
  pushed true ks k = sym (set.from_list_push cells_total exact_cells ks k)
  pushed false ks k = ap set.from_list (sym (append-nil ks))

  pub one_more : (cells : List Cell) (i : ℕ) (d : Cell) (found now : set.FinSet cell_cmp) → i < length cells → found ≡ set.from_list (filter test (take i cells))
      → now ≡ (if test (get_or cells i d) then set.insert found (get_or cells i d) else found) → now ≡ set.from_list (filter test (take (i + 1) cells))
  one_more cells i d found now within before after =
      after ∙ ap (λ s. if test (get_or cells i d) then set.insert s (get_or cells i d) else s) before
      ∙ pushed (test (get_or cells i d)) (filter test (take i cells)) (get_or cells i d)
      ∙ ap set.from_list (sym (filter_more test cells i d within))

  -- a cell that passes stays
  later : (b : Bool) (x : Cell) (xs : List Cell) (c : Cell) → Contains xs c → Contains (cond b (x ∷ xs) xs) c
  later true x xs c h = (suc h.0, omega (arith, h.1), h.2)
  later false x xs c h = h

  passing : (xs : List Cell) (b : Cell) → Contains xs b → test b ≡ true → Contains (filter test xs) b
  passing [] b h t = absurd (omega (arith, h.1))
  passing (x ∷ xs) b (zero, i, e) t = subst (λ v. Contains (cond v (x ∷ filter test xs) (filter test xs)) b) (sym (ap test e ∙ t)) (0, omega arith, e)
  passing (x ∷ xs) b (suc n, i, e) t = later (test x) x (filter test xs) b (passing xs b (n, omega (arith, i), e) t)

  -- the list of the set has those cells that pass
  pub each_passes : (cells found : List Cell) → set.from_list {R = cell_cmp} found ≡ set.from_list (filter test cells) → (b : Cell) → Contains found b → Contains cells b × (test b ≡ true)
  each_passes cells found e b h =
      let h = members found (filter test cells) e b h in (
        All-contains (λ x. Contains cells x) (filter test cells) b (All-filter test (λ x. Contains cells x) cells (All-contains_itself cells)) h,
        All-contains (λ x. test x ≡ true) (filter test cells) b (filter_passes test cells) h,
      )

  pub each_found : (cells found : List Cell) → set.from_list {R = cell_cmp} found ≡ set.from_list (filter test cells) → (b : Cell) → Contains cells b × (test b ≡ true) → Contains found b
  each_found cells found e b h = members (filter test cells) found (sym e) b (passing cells b h.0 h.1)

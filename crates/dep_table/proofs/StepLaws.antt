-- The steps of a tour as the code takes them, at the last of a stack.
use Rattle.std.proofs.Common.{◌≡◌, ℕ, suc, ◌+◌, ◌-◌, ◌*◌, ◌<◌, ◌≤◌, Bool, true, false, List, [], ◌∷◌, ◌++◌, length, get_or, set, take, sym, ap, subst, ◌∙◌, arith, ◌⊎◌}
use Rattle.std.proofs.Math.Seq.{take-suc}
use Rattle.std.proofs.lemmas.List.{get_or_default, take_all}
use Rattle.dep_table.specs.declared.find.Cursor.{Cursor}
use Rattle.dep_table.specs.declared.tour.Mark.{Mark}
use Rattle.dep_table.specs.declared.tour.Mark.TheVariants.{New, Open, Done, Circular}
use Rattle.dep_table.specs.Edges.{number}
use Rattle.dep_table.specs.Tour.{cursor_at, mark_at, IsSound, closed, work}
use Rattle.dep_table.proofs.TourLaws.{advance, finish, enter, close, advance_works, finish_works, enter_works, close_works}

split_last : (stack : List ℕ) → 0 < length stack → stack ≡ take (length stack - 1) stack ++ get_or stack (length stack - 1) 0 ∷ []
split_last stack h =
    let e : suc (length stack - 1) ≡ length stack = omega arith in
    sym (take_all (length stack) stack (omega arith)) ∙ ap (λ k. take k stack) (sym e) ∙ take-suc stack (length stack - 1) 0 (omega arith)

module _ (n most : ℕ) (edge : ℕ → ℕ → Bool) (slot : ℕ → ℕ → ℕ → Bool) (marks : List Mark) (cursors : List Cursor) (stack order : List ℕ) (i : ℕ)
    (s : IsSound n edge slot marks cursors stack order)
    (l m : ℕ) (is : l ≡ m) (len : m ≡ length stack) (some : 0 < m) (last : i ≡ get_or stack (l - 1) i) where
  top_is : get_or stack (length stack - 1) 0 ≡ i
  top_is = get_or_default stack (length stack - 1) 0 i (omega arith) ∙ ap (λ k. get_or stack (k - 1) i) (sym (is ∙ len)) ∙ sym last

  pub top_within : i < length marks
  top_within = let t = s.stacked (length stack - 1) (omega arith) in omega (arith, t.1, top_is)

  linked : (j : ℕ) → edge i j ≡ true → (p : ℕ) → p + 1 ≡ length stack → edge (get_or stack p 0) j ≡ true
  linked j e p h = let q : p ≡ length stack - 1 = omega arith in ap (λ x. edge x j) (ap (λ k. get_or stack k 0) q ∙ top_is) ∙ e

  pub rest_is : (rest : List ℕ) → rest ≡ take (m - 1) stack → stack ≡ rest ++ i ∷ []
  rest_is rest h = split_last stack (omega arith) ∙ (λ k. (sym (h ∙ ap (λ x. take (x - 1) stack) len) k) ++ (top_is k) ∷ [])

  pub finish_at : (rest order' : List ℕ) → rest ≡ take (m - 1) stack → order' ≡ order ++ i ∷ [] → ((k : ℕ) → edge i k ≡ true → (a : ℕ) × (slot i a k ≡ true))
      → ((a k : ℕ) → number n (cursor_at cursors i) ≤ a * n + k → slot i a k ≡ false) → IsSound n edge slot (set marks i Done) cursors rest order'
  finish_at rest order' h g by none =
      subst (λ o. IsSound n edge slot (set marks i Done) cursors rest o) (sym g)
      (finish n edge slot marks cursors rest order i (subst (λ t. IsSound n edge slot marks cursors t order) (rest_is rest h) s) by none)

  pub finish_less : (rest : List ℕ) → rest ≡ take (m - 1) stack → work n most (set marks i Done) cursors rest < work n most marks cursors stack
  finish_less rest h = subst (λ t. work n most (set marks i Done) cursors rest < work n most marks cursors t) (sym (rest_is rest h)) (finish_works n edge slot most marks cursors rest i top_within)

  pub advance_at : (a j : ℕ) → j < n → mark_at marks j ≡ Done → ((i a j : ℕ) → slot i a j ≡ true → j < n)
      → ((b k : ℕ) → number n (cursor_at cursors i) ≤ b * n + k → b * n + k < a * n + j → slot i b k ≡ false)
      → IsSound n edge slot marks (set cursors i (record { area = a; place = j + 1 })) stack order
  advance_at a j lt d places none = advance n edge slot marks cursors stack order i a j s top_within lt d places none

  pub advance_less : (a j : ℕ) → number n (cursor_at cursors i) ≤ a * n + j → a * n + j < most
      → work n most marks (set cursors i (record { area = a; place = j + 1 })) stack < work n most marks cursors stack
  advance_less a j le lt = let w = top_within in advance_works n edge slot most marks cursors stack i a j (omega (arith, s.same_length)) le lt

  pub enter_at : (j : ℕ) (stack' : List ℕ) → stack' ≡ stack ++ j ∷ [] → j < length marks → mark_at marks j ≡ New → edge i j ≡ true → IsSound n edge slot (set marks j Open) cursors stack' order
  enter_at j stack' h lt m e = subst (λ t. IsSound n edge slot (set marks j Open) cursors t order) (sym h) (enter n edge slot marks cursors stack order j s lt m (linked j e))

  pub enter_less : (j : ℕ) (stack' : List ℕ) → stack' ≡ stack ++ j ∷ [] → j < length marks → mark_at marks j ≡ New → work n most (set marks j Open) cursors stack' < work n most marks cursors stack
  enter_less j stack' h lt m = subst (λ t. work n most (set marks j Open) cursors t < work n most marks cursors stack) (sym h) (enter_works n edge slot most marks cursors stack j lt m)

  pub close_at : (j : ℕ) (marks' : List Mark) (stack' : List ℕ) → marks' ≡ closed marks stack → stack' ≡ [] → (mark_at marks j ≡ Open) ⊎ (mark_at marks j ≡ Circular) → edge i j ≡ true → IsSound n edge slot marks' cursors stack' order
  close_at j marks' stack' g h m e = subst (λ t. IsSound n edge slot marks' cursors t order) (sym h) (subst (λ t. IsSound n edge slot t cursors [] order) (sym g) (close n edge slot marks cursors stack order j s m (linked j e)))

  pub close_less : (marks' : List Mark) (stack' : List ℕ) → marks' ≡ closed marks stack → stack' ≡ [] → work n most marks' cursors stack' < work n most marks cursors stack
  close_less marks' stack' g h = subst (λ t. work n most marks' cursors t < work n most marks cursors stack) (sym h) (subst (λ t. work n most t cursors [] < work n most marks cursors stack) (sym g) (close_works n edge slot most marks cursors stack order s (omega arith)))

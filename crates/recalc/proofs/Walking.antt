-- A walk goes on its way, and ends with the answer.
use Rattle.std.proofs.Common.{◌≡◌, ◌≢◌, ℕ, ◌+◌, ◌<◌, Bool, true, false, cond, List, [], ◌∷◌, ◌++◌, length, Option, Some, None, refl, sym, ap, subst, ◌∙◌, arith, inl, inr}
use Rattle.std.specs.Prelude.{Contains, ◌⊎◌}
use Rattle.std.specs.Ordering.{is_eq, is_gt, ordering_reverse}
use Rattle.std.specs.declared.cmp.Ordering.{Ordering}
use Rattle.std.specs.declared.cmp.Ordering.TheVariants.{Less, Equal, Greater}
use Rattle.std.specs.BTreeMap.{is_at}
use Rattle.std.specs.Map.{lookup, remove_entry}
use Rattle.std.proofs.lemmas.Cmp.{upto}
use Rattle.std.proofs.lemmas.List.Sums.{sum_by-cons}
use Rattle.std.proofs.lemmas.List.Elements.{Contains-append_left, Contains-append_right, Contains-append_cases, Contains-push, Contains-push_cases}
use Rattle.cell_refs.specs.declared.cell.Cell.{Cell}
use Rattle.cell_refs.specs.Cells.{cell_cmp}
use Rattle.cell_refs.proofs.Order.{cells_total, exact_cells}
use Rattle.recalc.specs.declared.rows.Row.{Row}
use Rattle.recalc.specs.Rows.{row_at, looks_in}
use Rattle.recalc.specs.Walks.{IsAnswer, IsLesser, IsOnItsWay, IsSoFar, Reached, further, itself, wide_in}

pub equal_of : (r : Ordering) → is_eq r ≡ true → r ≡ Equal
equal_of Less e = absurd cc
equal_of Equal e = refl
equal_of Greater e = absurd cc

-- equal rows
pub same_row : (r s : Row) → Some r ≡ Some s → r ≡ s
same_row r s e = ap (λ (o : Option Row). elim o as (λ _. Row) [ Some x ↦ x | None ↦ r ]) e

pub no_row : {A : Type 0} (o : Option Row) (r : Row) → o ≡ Some r → o ≡ None → A
no_row o r e f = absurd (let h : Some r ≡ None = sym e ∙ f in cc)

pub none_on : (stack : List Cell) (n : ℕ) → n ≡ length stack → (0 < n → false ≡ true) → stack ≡ []
none_on [] n e h = refl
none_on (b ∷ stack) n e h = absurd (let k : false ≡ true = h (omega (arith, e)) in cc)

nothing_in : {A : Type 0} (b : Cell) → Contains [] b → A
nothing_in b h = absurd (omega (arith, h.1))

-- ---- the order of cells
differ : {A : Type 0} → true ≡ false → A
differ e = absurd (let h : true ≡ false = e in cc)

not_greater : (r : Ordering) → r ≢ Greater → is_gt r ≡ false
not_greater Less h = refl
not_greater Equal h = refl
not_greater Greater h = absurd (h refl)

greater_not : (r : Ordering) → is_gt r ≡ false → r ≢ Greater
greater_not r e h = differ (sym (ap is_gt h) ∙ e)

not_past : (a b c : Cell) → cell_cmp a b ≢ Greater → cell_cmp b c ≢ Greater → cell_cmp a c ≢ Greater
not_past a b c h k = greater_not (cell_cmp a c) (upto cells_total a b c (not_greater (cell_cmp a b) h) (not_greater (cell_cmp b c) k))

itself_not : (a : Cell) → cell_cmp a a ≢ Greater
itself_not a h = let turned : ordering_reverse (cell_cmp a a) ≡ Greater = sym (cells_total.antisymm a a) ∙ h in let own : ordering_reverse (cell_cmp a a) ≡ Less = ap ordering_reverse h in let e : Less ≡ Greater = sym own ∙ turned in cc

-- ---- the size of what waits
abbrev size_of : Cell × Row → ℕ
size_of e = length e.1.looks.items

pub lookup_size : (t : Cell → Bool) (es : List (Cell × Row)) (row : Row) → lookup t es ≡ Some row → looks_in es ≡ looks_in (remove_entry t es) + length row.looks.items
lookup_size t [] row e = absurd cc
lookup_size t (x ∷ es) row e = by (lookup_size t es row) (t x.0) e
  where
    by : (lookup t es ≡ Some row → looks_in es ≡ looks_in (remove_entry t es) + length row.looks.items) → (b : Bool) → cond b (Some x.1) (lookup t es) ≡ Some row → looks_in (x ∷ es) ≡ looks_in (cond b es (x ∷ remove_entry t es)) + length row.looks.items
    by rest true e =
        let size : length x.1.looks.items ≡ length row.looks.items = ap (λ (r : Row). length r.looks.items) (same_row x.1 row e) in
        omega (arith, size, sum_by-cons size_of x es)
    by rest false e = omega (arith, rest e, sum_by-cons size_of x es, sum_by-cons size_of x (remove_entry t es))

module _ (rows : List (Cell × Row)) (from : Cell) where
  -- at the start
  pub begun : IsOnItsWay rows from rows (from ∷ []) None
  begun = record {
    kept = λ b row e. e;
    stacked = λ b h. elim (Contains-push_cases [] from b h) as (λ _. Reached rows from b) [ inl k ↦ nothing_in b k | inr e ↦ subst (Reached rows from) e itself ];
    start = inl (Contains-push [] from);
    closed = λ b c row e f h. no_row (row_at rows b) row e f;
    so_far = λ b e. ap wide_in e;
  }

  module _ (waiting : List (Cell × Row)) (stack : List Cell) (cell : Cell) (least : Option Cell) (way : IsOnItsWay rows from waiting (stack ++ cell ∷ []) least) where
    -- what was on the stack is on it, or was popped
    popped : (ws : List (Cell × Row)) (more : List Cell) → row_at ws cell ≡ None → (b : Cell) → Contains (stack ++ cell ∷ []) b → Contains (stack ++ more) b ⊎ (row_at ws b ≡ None)
    popped ws more own b h =
        elim (Contains-push_cases stack cell b h) as (λ _. Contains (stack ++ more) b ⊎ (row_at ws b ≡ None)) [
          | inl k ↦ inl (Contains-append_left stack more b k)
          | inr e ↦ inr (subst (λ c. row_at ws c ≡ None) e own)
        ]

    -- a cell whose row doesn't wait
    pub skipped : row_at waiting cell ≡ None → IsOnItsWay rows from waiting stack least
    skipped own = record {
      kept = way.kept;
      stacked = λ b h. way.stacked b (Contains-append_left stack (cell ∷ []) b h);
      start = plain from way.start;
      closed = λ b c row e f h. plain c (way.closed b c row e f h);
      so_far = way.so_far;
    }
      where
        plain : (b : Cell) → Contains (stack ++ cell ∷ []) b ⊎ (row_at waiting b ≡ None) → Contains stack b ⊎ (row_at waiting b ≡ None)
        plain b h =
            elim h as (λ _. Contains stack b ⊎ (row_at waiting b ≡ None)) [
              | inl k ↦ elim (Contains-push_cases stack cell b k) as (λ _. Contains stack b ⊎ (row_at waiting b ≡ None)) [
                | inl m ↦ inl m
                | inr e ↦ inr (subst (λ c. row_at waiting c ≡ None) e own)
              ]
              | inr e ↦ inr e
            ]

    -- a cell whose row is taken
    module _ (row : Row) (after : List (Cell × Row)) (had : row_at waiting cell ≡ Some row)
        (is : (q : Cell) → row_at after q ≡ cond (is_at (cell_cmp cell) q) None (row_at waiting q)) (own : row_at after cell ≡ None) where
      -- what waits afterwards did so before
      still : (b : Cell) (r : Row) (t : Bool) → cond t None (row_at waiting b) ≡ Some r → row_at waiting b ≡ Some r
      still b r true e = absurd cc
      still b r false e = e

      -- what didn't wait doesn't
      none_left : (b : Cell) → row_at waiting b ≡ None → row_at after b ≡ None
      none_left b e = is b ∙ by (is_at (cell_cmp cell) b)
        where
          by : (t : Bool) → cond t None (row_at waiting b) ≡ None
          by true = refl
          by false = e

      onward : (b : Cell) → Contains (stack ++ cell ∷ []) b ⊎ (row_at waiting b ≡ None) → Contains (stack ++ row.looks.items) b ⊎ (row_at after b ≡ None)
      onward b h =
          elim h as (λ _. Contains (stack ++ row.looks.items) b ⊎ (row_at after b ≡ None)) [
            | inl k ↦ popped after row.looks.items own b k
            | inr e ↦ inr (none_left b e)
          ]

      -- what doesn't wait afterwards is the cell, or didn't before
      gone : (b : Cell) → row_at after b ≡ None → (cell ≡ b) ⊎ (row_at waiting b ≡ None)
      gone b f = by (is_at (cell_cmp cell) b) refl (sym (is b) ∙ f)
        where
          by : (t : Bool) → is_at (cell_cmp cell) b ≡ t → cond t None (row_at waiting b) ≡ None → (cell ≡ b) ⊎ (row_at waiting b ≡ None)
          by true t e = inl (exact_cells cell b (equal_of (cell_cmp cell b) t))
          by false t e = inr e

      stacks : (b : Cell) → Contains (stack ++ row.looks.items) b → Reached rows from b
      stacks b h =
          elim (Contains-append_cases stack row.looks.items b h) as (λ _. Reached rows from b) [
            | inl k ↦ way.stacked b (Contains-append_left stack (cell ∷ []) b k)
            | inr k ↦ further cell b row (way.stacked cell (Contains-push stack cell)) (way.kept cell row had) k
          ]

      closes : (b c : Cell) (r : Row) → row_at rows b ≡ Some r → row_at after b ≡ None → Contains r.looks.items c → Contains (stack ++ row.looks.items) c ⊎ (row_at after c ≡ None)
      closes b c r e f h =
          elim (gone b f) as (λ _. Contains (stack ++ row.looks.items) c ⊎ (row_at after c ≡ None)) [
            | inl same ↦ inl (Contains-append_right stack row.looks.items c
                (subst (λ (s : Row). Contains s.looks.items c) (same_row r row (sym e ∙ ap (row_at rows) (sym same) ∙ way.kept cell row had)) h))
            | inr none ↦ onward c (way.closed b c r e none h)
          ]

      -- the row of the cell is wide as the rows say
      width : wide_in (row_at rows cell) ≡ row.is_wide
      width = ap wide_in (way.kept cell row had)

      more_so_far : (l : Option Cell) (w : Bool) → row.is_wide ≡ w → (next : Option Cell) → IsSoFar rows from waiting l → IsLesser l cell w next → IsSoFar rows from after next
      more_so_far None false e next far lesser = subst (IsSoFar rows from after) (sym lesser) (λ b f.
          elim (gone b f) as (λ _. wide_in (row_at rows b) ≡ false) [ inl same ↦ ap (λ c. wide_in (row_at rows c)) (sym same) ∙ width ∙ e | inr none ↦ far b none ])
      more_so_far (Some c) false e next far lesser = subst (IsSoFar rows from after) (sym lesser) (
        far.0,
        far.1,
        λ b f w.
            elim (gone b f) as (λ _. cell_cmp c b ≢ Greater) [
              | inl same ↦ differ (sym w ∙ ap (λ c. wide_in (row_at rows c)) (sym same) ∙ width ∙ e)
              | inr none ↦ far.2 b none w
            ],
      )
      more_so_far None true e next far lesser = subst (IsSoFar rows from after) (sym lesser) (
        way.stacked cell (Contains-push stack cell),
        width ∙ e,
        λ b f w.
            elim (gone b f) as (λ _. cell_cmp cell b ≢ Greater) [
              | inl same ↦ subst (λ c. cell_cmp cell c ≢ Greater) same (itself_not cell)
              | inr none ↦ differ (sym w ∙ far b none)
            ],
      )
      more_so_far (Some c) true e next far lesser =
          let d = lesser.0 in
          let reached : Reached rows from d = elim lesser.2 as (λ _. Reached rows from d) [ inl same ↦ subst (Reached rows from) (sym same) far.0 | inr same ↦ subst (Reached rows from) (sym same) (way.stacked cell (Contains-push stack cell)) ] in
          let is_wide : wide_in (row_at rows d) ≡ true = elim lesser.2 as (λ _. wide_in (row_at rows d) ≡ true) [ inl same ↦ ap (λ c. wide_in (row_at rows c)) same ∙ far.1 | inr same ↦ ap (λ c. wide_in (row_at rows c)) same ∙ width ∙ e ] in
          subst (IsSoFar rows from after) (sym lesser.1) (
            reached,
            is_wide,
            λ b f w.
                elim (gone b f) as (λ _. cell_cmp d b ≢ Greater) [
                  | inl same ↦ subst (λ c. cell_cmp d c ≢ Greater) same lesser.4
                  | inr none ↦ not_past d c b lesser.3 (far.2 b none w)
                ],
          )

      pub taken : (next : Option Cell) → IsLesser least cell row.is_wide next → IsOnItsWay rows from after (stack ++ row.looks.items) next
      taken next lesser = record {
        kept = λ b r e. way.kept b r (still b r (is_at (cell_cmp cell) b) (sym (is b) ∙ e));
        stacked = stacks;
        start = onward from way.start;
        closed = closes;
        so_far = more_so_far least row.is_wide refl next way.so_far lesser;
      }

  -- at the end
  module _ (waiting : List (Cell × Row)) where
    -- no row waits of what is reached
    all_gone : (least : Option Cell) → IsOnItsWay rows from waiting [] least → (b : Cell) → Reached rows from b → row_at waiting b ≡ None
    all_gone least way _ itself = elim way.start as (λ _. row_at waiting from ≡ None) [ inl k ↦ nothing_in from k | inr e ↦ e ]
    all_gone least way _ (further b c row before e h) =
        elim (way.closed b c row e (all_gone least way b before) h) as (λ _. row_at waiting c ≡ None) [ inl k ↦ nothing_in c k | inr f ↦ f ]

    pub ended : (least : Option Cell) → IsOnItsWay rows from waiting [] least → IsAnswer rows from least
    ended None way = λ b r. way.so_far b (all_gone None way b r)
    ended (Some c) way = record {
      reached = way.so_far.0;
      wide = way.so_far.1;
      least = λ b r w. way.so_far.2 b (all_gone (Some c) way b r) w;
    }

-- What a tour of the references keeps.
use Rattle.std.specs.Prelude.{◌≡◌, ℕ, ◌+◌, ◌-◌, ◌*◌, ◌<◌, ◌≤◌, Bool, true, false, List, [], ◌∷◌, length, slice_index_or, slice_set, sum_by, ◌⊎◌}
use Rattle.dep_table.specs.declared.find.Cursor.{Cursor}
use Rattle.column_strips.specs.declared.formulas.Formula.{Formula}
use Rattle.dep_table.specs.declared.tour.Mark.{Mark}
use Rattle.dep_table.specs.declared.tour.Mark.TheVariants.{New, Open, Done, Circular}
use Rattle.dep_table.specs.Edges.{edge, most_slots, number, slot}

abbrev pub mark_at : List Mark → ℕ → Mark
mark_at marks i = slice_index_or marks i New

-- where each formula's references begin
abbrev pub start : Cursor
start = record { area = 0; place = 0 }

abbrev pub cursor_at : List Cursor → ℕ → Cursor
cursor_at cursors i = slice_index_or cursors i start

abbrev pub new_one : Mark → ℕ
new_one New = 2
new_one Open = 0
new_one Done = 0
new_one Circular = 0

-- what holds on the way, where there are n formulas; `edge` and `slot` say which refers to which, and by which of its areas
pub record IsSound (n : ℕ) (edge : ℕ → ℕ → Bool) (slot : ℕ → ℕ → ℕ → Bool) (marks : List Mark) (cursors : List Cursor) (stack order : List ℕ)
    : Type 0 where
  -- each formula's references before its cursor have been scanned, and are done
  pub same_length : length cursors ≡ length marks
  pub in_range : (i : ℕ) → (cursor_at cursors i).place ≤ n
  pub scanned : (i a j : ℕ) → a * n + j < number n (cursor_at cursors i) → slot i a j ≡ true → mark_at marks j ≡ Done
  -- the stack has the open ones, each once, and each refers to the next
  pub opened : (i : ℕ) → mark_at marks i ≡ Open → (p : ℕ) × (p < length stack) × (slice_index_or stack p 0 ≡ i)
  pub stacked : (p : ℕ) → p < length stack
      → (mark_at marks (slice_index_or stack p 0) ≡ Open) × (slice_index_or stack p 0 < length marks)
  pub distinct : (p q : ℕ) → p < length stack → q < length stack → slice_index_or stack p 0 ≡ slice_index_or stack q 0 → p ≡ q
  pub chain : (p : ℕ) → p + 1 < length stack → edge (slice_index_or stack p 0) (slice_index_or stack (p + 1) 0) ≡ true
  -- a circular one refers to a circular one
  pub circular : (i : ℕ) → mark_at marks i ≡ Circular → (j : ℕ) × (edge i j ≡ true) × (mark_at marks j ≡ Circular)
  -- what is done stands in the order, once, after all to which it refers
  pub done : (i : ℕ) → mark_at marks i ≡ Done → (p : ℕ) × (p < length order) × (slice_index_or order p 0 ≡ i)
  pub ordered : (p : ℕ) → p < length order → (slice_index_or order p 0 < length marks)
      × ((j : ℕ) → edge (slice_index_or order p 0) j ≡ true → (q : ℕ) × (q < p) × (slice_index_or order q 0 ≡ j))
  pub finished : (p : ℕ) → p < length order → mark_at marks (slice_index_or order p 0) ≡ Done
  pub once : (p q : ℕ) → p < length order → q < length order → slice_index_or order p 0 ≡ slice_index_or order q 0 → p ≡ q

-- the marks with all of the stack circular
abbrev pub closed : List Mark → List ℕ → List Mark
closed marks [] = marks
closed marks (i ∷ stack) = closed (slice_set marks i Circular) stack

-- what is left to do, where each formula has fewer references than `most`
unfoldable pub work : ℕ → ℕ → List Mark → List Cursor → List ℕ → ℕ
work n most marks cursors stack = sum_by new_one marks + length stack + sum_by (λ c. most - number n c) cursors

-- the same for a list of formulas, of which some are leaves
abbrev pub IsUnderway : List Formula → List Bool → List Mark → List Cursor → List ℕ → List ℕ → Type 0
IsUnderway formulas leaves = IsSound (length formulas) (edge formulas leaves) (slot formulas leaves)

abbrev pub left_to_do : List Formula → List Mark → List Cursor → List ℕ → ℕ
left_to_do formulas = work (length formulas) (most_slots formulas)

-- what holds after a tour of those of n formulas that are wanted
pub record IsToured (edge : ℕ → ℕ → Bool) (n : ℕ) (wanted : List Bool) (marks : List Mark) (order : List ℕ) : Type 0 where
  pub marked : length marks ≡ n
  pub settled : (i : ℕ) → i < n → slice_index_or wanted i false ≡ true → (mark_at marks i ≡ Done) ⊎ (mark_at marks i ≡ Circular)
  pub circular : (i : ℕ) → mark_at marks i ≡ Circular → (j : ℕ) × (edge i j ≡ true) × (mark_at marks j ≡ Circular)
  pub done : (i : ℕ) → mark_at marks i ≡ Done → (p : ℕ) × (p < length order) × (slice_index_or order p 0 ≡ i)
  pub ordered : (p : ℕ) → p < length order → (slice_index_or order p 0 < n)
      × ((j : ℕ) → edge (slice_index_or order p 0) j ≡ true → (q : ℕ) × (q < p) × (slice_index_or order q 0 ≡ j))
  pub once : (p q : ℕ) → p < length order → q < length order → slice_index_or order p 0 ≡ slice_index_or order q 0 → p ≡ q

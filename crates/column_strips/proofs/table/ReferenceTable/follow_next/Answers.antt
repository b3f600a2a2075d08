use Rattle.std.proofs.Common.{◌≡◌, ◌⊎◌, Bool, Some, List, length, get_or, slice_get, true, ℕ, ap, refl, subst, sym, ◌∙◌, arith, inl, inr}
use Rattle.std.proofs.lemmas.Option.{slice_get-get_or, slice_get_read}
use Rattle.cell_refs.specs.declared.cell.Cell.{Cell}
use Rattle.column_strips.specs.Affected.{has_cell, refers_in}
use Rattle.column_strips.specs.Rows.{AreAhead, in_column}
use Rattle.column_strips.proofs.Gathered.{done_further, goes_further, no_shorter, none_ahead}
use Rattle.column_strips.proofs.Spreading.{goes_on, has_there}
use Rattle.column_strips.proofs.table.ReferenceTable.follow_next.Goals as goal

-- ---- where it has been followed
pub returns-then-has_flag-clause-spreading : goal.returns-then-has_flag-clause-spreading
returns-then-has_flag-clause-spreading c =
    let to : Cell = get_or c.args.cells.now.items c.args.next (record { sheet = record { 0 = 0 }; row = 0; col = 0 }) in
    let at : slice_get c.args.cells.now.items c.args.next ≡ Some to = slice_get-get_or c.args.cells.now.items c.args.next (record { sheet = record { 0 = 0 }; row = 0; col = 0 }) c.requires.next in
    goes_further c.args.cells.now.items c.args.cells.now.items (λ p d h. h) (refers_in c.args.self.now) c.args.from c.args.next to at c.requires.spreading c.requires.spreading.sound
    (λ x r. c.requires.done.closed c.args.next x to (ap (λ (xs : List Bool). slice_get xs c.args.next) (sym c.deref.ensures.value) ∙ c.has_flag.ensures c.if-has_flag.true) at r)

-- ---- by itself
pub returns-then-strips-lt-FEW-clause-longer : goal.returns-then-strips-lt-FEW-clause-longer
returns-then-strips-lt-FEW-clause-longer c =
    let at : slice_get c.args.cells.now.items c.args.next ≡ Some c.index-to.result.now
    = slice_get_read c.args.cells.now.items (length c.args.cells.now.items) c.args.next c.index-to.result.now refl c.requires.next c.index-to.ensures in
    no_shorter c.args.cells.now.items c.follow.new.cells.items c.follow.ensures.followed.kept c.args.next c.index-to.result.now at

pub returns-then-strips-lt-FEW-clause-spreading : goal.returns-then-strips-lt-FEW-clause-spreading
returns-then-strips-lt-FEW-clause-spreading c =
    let at : slice_get c.args.cells.now.items c.args.next ≡ Some c.index-to.result.now
    = slice_get_read c.args.cells.now.items (length c.args.cells.now.items) c.args.next c.index-to.result.now refl c.requires.next c.index-to.ensures in
    goes_on (refers_in c.args.self.now) c.args.from c.args.cells.now.items c.follow.new.cells.items c.args.next c.index-to.result.now
    c.requires.spreading at c.follow.ensures.followed

pub returns-then-strips-lt-FEW-clause-done : goal.returns-then-strips-lt-FEW-clause-done
returns-then-strips-lt-FEW-clause-done c =
    let at : slice_get c.args.cells.now.items c.args.next ≡ Some c.index-to.result.now
    = slice_get_read c.args.cells.now.items (length c.args.cells.now.items) c.args.next c.index-to.result.now refl c.requires.next c.index-to.ensures in
    done_further c.args.cells.now.items c.follow.new.cells.items c.follow.ensures.followed.kept (refers_in c.args.self.now) c.args.from c.args.next c.index-to.result.now at
    c.args.done.now.items c.args.done.now.items c.requires.done c.requires.done.few (λ p d f w. inl f)

-- ---- with others of its column
pub add_row-requires-clause-ahead : goal.add_row-requires-clause-ahead
add_row-requires-clause-ahead c = subst AreAhead (sym c.clear.ensures.items) none_ahead

pub add_row-requires-clause-room : goal.add_row-requires-clause-room
add_row-requires-clause-room c = omega (arith, c.clear.ensures.capacity, c.requires.space.for_rows, c.if-to-ge-ROWS.false)

pub gather-requires-clause-space : goal.gather-requires-clause-space
gather-requires-clause-space c = record {
  for_rows = omega (arith, c.clear.ensures.capacity, c.requires.space.for_rows, c.add_row.ensures.capacity);
  for_flags = c.requires.space.for_flags;
}

pub gather-requires-clause-end : goal.gather-requires-clause-end
gather-requires-clause-end c = (
  omega (arith, c.min.ensures, c.requires.next, c.len.ensures, c.args.cells.now.ok.0, ap length c.deref-2.ensures.value),
  omega (arith, c.min.ensures, c.requires.next, c.len.ensures, c.args.cells.now.ok.0, ap length c.deref-2.ensures.value, c.requires.marks.few),
)

pub follow_rows-requires-clause-rows : goal.follow_rows-requires-clause-rows
follow_rows-requires-clause-rows c = λ r h.
    let to : Cell = c.index-to.result.now in
    let at : slice_get c.args.cells.now.items c.args.next ≡ Some to
    = slice_get_read c.args.cells.now.items (length c.args.cells.now.items) c.args.next to refl c.requires.next c.index-to.ensures in
    let G : Type 0 = has_cell c.args.cells.now.items (in_column to r) ≡ true in
    elim (c.gather.ensures.sound r h) as (λ _. G) [
      | inl w ↦ elim (c.add_row.ensures.others r w) as (λ _. G) [
        | inl e ↦ ap (λ (n : ℕ). has_cell c.args.cells.now.items (in_column to n)) e ∙ has_there c.args.cells.now.items c.args.next to at
        | inr none ↦ let n = ap (λ (xs : List ℕ). slice_get xs r) (sym c.clear.ensures.items) ∙ none in cc
      ]
      | inr has ↦ ap (λ (xs : List Cell). has_cell xs (in_column to r)) (sym c.deref-2.ensures.value) ∙ has
    ]

pub returns-clause-longer : goal.returns-clause-longer
returns-clause-longer c =
    let at : slice_get c.args.cells.now.items c.args.next ≡ Some c.index-to.result.now
    = slice_get_read c.args.cells.now.items (length c.args.cells.now.items) c.args.next c.index-to.result.now refl c.requires.next c.index-to.ensures in
    no_shorter c.args.cells.now.items c.follow_rows.new.cells.items c.follow_rows.ensures.kept c.args.next c.index-to.result.now at

pub returns-clause-space : goal.returns-clause-space
returns-clause-space c = record { for_rows = c.follow_rows.ensures.room; for_flags = c.gather.ensures.space.for_flags }

pub returns-clause-spreading : goal.returns-clause-spreading
returns-clause-spreading c =
    let to : Cell = c.index-to.result.now in
    let at : slice_get c.args.cells.now.items c.args.next ≡ Some to
    = slice_get_read c.args.cells.now.items (length c.args.cells.now.items) c.args.next to refl c.requires.next c.index-to.ensures in
    goes_further c.args.cells.now.items c.follow_rows.new.cells.items c.follow_rows.ensures.kept (refers_in c.args.self.now) c.args.from c.args.next to at
    c.requires.spreading c.follow_rows.ensures.sound (λ x r. c.follow_rows.ensures.all to.row x (c.gather.ensures.kept to.row c.add_row.ensures.added) r)

pub returns-clause-done : goal.returns-clause-done
returns-clause-done c =
    let to : Cell = c.index-to.result.now in
    let at : slice_get c.args.cells.now.items c.args.next ≡ Some to
    = slice_get_read c.args.cells.now.items (length c.args.cells.now.items) c.args.next to refl c.requires.next c.index-to.ensures in
    done_further c.args.cells.now.items c.follow_rows.new.cells.items c.follow_rows.ensures.kept (refers_in c.args.self.now) c.args.from c.args.next to at
    c.args.done.now.items c.gather.new.done.items c.requires.done
    (c.gather.ensures.few (length c.args.cells.now.items) c.requires.done.few (omega (arith, c.min.ensures, c.requires.next, c.len.ensures, c.args.cells.now.ok.0, ap length c.deref-2.ensures.value)))
    (λ p d f w. elim (c.gather.ensures.flagged p d f (ap (λ (xs : List Cell). slice_get xs p) c.deref-2.ensures.value ∙ w)) as (λ _. (slice_get c.args.done.now.items p ≡ Some true) ⊎ ((x : Cell) → refers_in c.args.self.now x d ≡ true → has_cell c.follow_rows.new.cells.items x ≡ true)) [
      | inl old ↦ inl old
      | inr v ↦ inr (λ x r. c.follow_rows.ensures.all d.row x v.1 (ap (refers_in c.args.self.now x) (sym v.0) ∙ r))
    ])

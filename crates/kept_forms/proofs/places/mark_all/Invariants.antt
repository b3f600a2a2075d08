use Rattle.std.proofs.Common.{◌≡◌, [], ◌∷◌, drop, length, take}
use Rattle.dep_table.specs.References.{AreReferencesOf}
use Rattle.recalculation.specs.Entries.{Book}
use Rattle.kept_tables.specs.Settled.{all_marked}
use Rattle.kept_forms.specs.Tables.{all_forms, sheets_in}
use Rattle.kept_forms.proofs.places.mark_all.Given as goal

-- those so far are marked, and the others are as they were
abbrev pub invariant-loop-place : goal.invariant-loop-place
invariant-loop-place l = record {
  as_long : length l.tables.items ≡ length l.fn.tables.items;
  rest : drop l.place l.tables.items ≡ drop l.place l.fn.tables.items;
  marked : (book : Book) → AreReferencesOf l.deps book → all_forms (take l.place l.tables.items) ≡ all_marked book (l.cell ∷ []) (all_forms (take l.place l.fn.tables.items));
  sheets : sheets_in l.tables.items ≡ sheets_in l.fn.tables.items;
}

-- A table without forms has none that is wrong.
use Rattle.std.proofs.Common.{◌≡◌, ◌∙◌, None, Some, ap, sym}
use Rattle.std.specs.FinMap.{get-empty}
use Rattle.std.specs.Ordering.{nat_cmp}
use Rattle.cell_refs.specs.Cells.{cell_cmp}
use Rattle.recalculation.specs.Entries.{Book}
use Rattle.cell_refs.specs.declared.place.Place.TheVariants as place
use Rattle.extract_incr.specs.FromExtract.{form_at, no_forms}
use Rattle.extract_incr.specs.Keeping.{AreKept, Kept}

pub none_kept : (book : Book) (k : Kept) → k.table ≡ no_forms → AreKept book k
none_kept book k e (place.Cell a) f at = let h : None ≡ Some f = sym (get-empty cell_cmp a) ∙ sym (ap (λ t. form_at t (place.Cell a)) e) ∙ at in absurd cc
none_kept book k e (place.Side n) f at = let h : None ≡ Some f = sym (get-empty nat_cmp n) ∙ sym (ap (λ t. form_at t (place.Side n)) e) ∙ at in absurd cc

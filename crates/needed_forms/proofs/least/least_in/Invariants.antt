-- The least of the places from one on.
use Rattle.std.proofs.Common.{◌≡◌, ◌≤◌, length, drop}
use Rattle.workbook.specs.Kinds.{book_of}
use Rattle.needed_forms.specs.Firsts.{is_told, least_in}
use Rattle.needed_forms.specs.Told.{told_refusal}
use Rattle.needed_forms.proofs.least.least_in.Given as goal

abbrev pub invariant-loop-place : goal.invariant-loop-place
invariant-loop-place l =
    (l.place ≤ length l.places) × (l.least ≡ least_in (is_told (told_refusal (book_of l.told.book.now) l.told.adj.now l.told.forms.now) l.stage) (drop l.place l.places))

abbrev pub decreases-loop-place : goal.decreases-loop-place
decreases-loop-place l = l.place

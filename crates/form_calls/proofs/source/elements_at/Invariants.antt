use Rattle.std.proofs.Common.{◌≡◌, drop, length}
use Rattle.calculations.proofs.CalculationLaws.{behind_answers}
use Rattle.form_extraction.specs.Sources.{elements_at}
use Rattle.form_calls.specs.Sources.{source_of}
use Rattle.form_calls.proofs.source.elements_at.Given as goal

-- the elements so far, and then those in the other places
abbrev pub invariant-loop-place : goal.invariant-loop-place
invariant-loop-place g l = record {
  elements : elements_at (source_of (g.C.FormsOfCells.forms l.forms) l.source) l.places ≡ behind_answers l.items.items (elements_at (source_of (g.C.FormsOfCells.forms l.forms) l.source) (drop l.place-index l.places));
  count : length l.items.items ≡ l.place-index;
}

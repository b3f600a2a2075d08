-- A workbook made of its parts, step by step.
use Rattle.std.proofs.Common.{◌≡◌, ◌+◌, ◌≤◌, ℕ, List, [], length, Err, sym, ap, subst, ◌∙◌, arith}
use Rattle.std.specs.Prelude.{All}
use Rattle.std.specs.FinMap.{from_entries}
use Rattle.cell_refs.specs.declared.cell.Cell.{Cell}
use Rattle.sheet_csv.specs.Sheet.{Record}
use Rattle.workbook.specs.declared.fault.OpenFault.{OpenFault}
use Rattle.workbook.specs.declared.fault.OpenFault.TheVariants as fault
use Rattle.workbook.specs.Files.{names_in}
use Rattle.workbook.specs.Gathered.{IsFieldText}
use Rattle.workbook.specs.Held.{put_all}
use Rattle.workbook.specs.Opened.{PutsNames, TextsFit}
use Rattle.workbook.specs.Parts.{AreFew, IsMadeOf}
use Rattle.workbook.specs.State.{Name, State}
use Rattle.workbook.proofs.Filling.{put_empty}
use Rattle.workbook.proofs.OpenLaws.{no_formulas, no_texts, start}
use Rattle.recalculation.specs.Entries.{Contents}

abbrev with_contents : List (List ℕ) → Contents → List Name → State
with_contents sheets contents names = record { sheets = sheets; contents = contents; names = names }

module _ (sheets : List (List ℕ)) (texts : List (Cell × List ℕ)) where
  -- there is room for the texts in a workbook without texts
  pub empty_room : (names : List Name) (copied : List (List ℕ)) (state : State) → state ≡ start copied names → copied ≡ sheets
      → AreFew texts → All (IsFieldText sheets) texts → TextsFit state texts
  empty_room names copied state is same few fields = subst (λ s. TextsFit s texts) (sym (is ∙ ap (λ l. start l names) same)) (record {
    room = let a = no_texts in let b = few.cells in omega arith;
    formulas = let a = no_formulas in let b = few.formulas in omega arith;
    fields = fields;
  })

  pub names_fault : (rows : List Record) (e : OpenFault) → AreFew texts → PutsNames sheets rows (Err e) → IsMadeOf sheets texts rows (Err e)
  names_fault rows (fault.Sheet s f) few h = absurd h
  names_fault rows fault.TooManyCells few h = absurd h
  names_fault rows fault.TooManyFormulas few h = absurd h
  names_fault rows (fault.DuplicateSheet s) few h = absurd h
  names_fault rows (fault.BadNameRow r) few h = (few, h)
  names_fault rows fault.TooManyNames few h = absurd h
  names_fault rows (fault.NameFile f) few h = absurd h
  names_fault rows fault.Memory few h = tt

  -- all texts are put into it
  pub made : (rows : List Record) (names : List Name) (copied : List (List ℕ)) (before after : State) → before ≡ start copied names → copied ≡ sheets
      → names ≡ names_in sheets [] rows → after ≡ record before { contents = put_all texts before.contents }
      → after ≡ record { sheets = sheets; contents = from_entries texts; names = names_in sheets [] rows }
  made rows names copied before after is same named filled =
      filled ∙ ap (λ s. with_contents s.sheets (put_all texts s.contents) s.names) is
      ∙ ap (λ c. with_contents copied c names) (put_empty texts)
      ∙ ap (λ l. with_contents l (from_entries texts) names) same
      ∙ ap (λ n. with_contents sheets (from_entries texts) n) named

-- Values as lists and pairs.
use Rattle.std.specs.Prelude.{ℕ, List, Option, refl}
use Rattle.std.specs.FinMap.{code}
use Rattle.std.specs.Coded.{Coded, code_by, coded×, coded_list, coded_ℕ, coded_option}
use Rattle.cell_refs.specs.Cells.{coded_cell}
use Rattle.recalculation.specs.Entries.{Contents}
use Rattle.workbook.specs.State.{Name, State}
use Rattle.workbook.specs.Files.{SheetFile}

abbrev pub coded_text : Coded (List ℕ)
coded_text = coded_list coded_ℕ

-- a file as the pair of its parts
abbrev pub file_code : Coded SheetFile
file_code =
    code_by (List ℕ × List ℕ) (coded× coded_text coded_text) (λ f. (f.stem, f.bytes)) (λ p. record { stem = p.0; bytes = p.1 }) (λ _. refl)

-- a name as its five parts
abbrev pub name_code : Coded Name
name_code =
    code_by (Option ℕ × (List ℕ × (List ℕ × (List ℕ × Option (List ℕ)))))
    (coded× (coded_option coded_ℕ) (coded× coded_text (coded× coded_text (coded× coded_text (coded_option coded_text)))))
    (λ n. (n.sheet, (n.sheet_text, (n.name, (n.text, n.comment)))))
    (λ p. record { sheet = p.0; sheet_text = p.1.0; name = p.1.1.0; text = p.1.1.1.0; comment = p.1.1.1.1 }) (λ _. refl)

abbrev pub contents_code : Coded Contents
contents_code = code coded_cell coded_text

-- a workbook as its three parts
abbrev pub state_code : Coded State
state_code =
    code_by (List (List ℕ) × (Contents × List Name)) (coded× (coded_list coded_text) (coded× contents_code (coded_list name_code)))
    (λ s. (s.sheets, (s.contents, s.names))) (λ p. record { sheets = p.0; contents = p.1.0; names = p.1.1 }) (λ _. refl)

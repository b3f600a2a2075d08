-- The texts of refusals with parts.
use Rattle.std.specs.Prelude.{ℕ, Bool, true, false, List, [], ◌∷◌, ◌++◌, map, codes, decimal, string_bytes}
use Rattle.std.specs.Fmt.{signed_decimal}
use Rattle.std.specs.List.{join_with_byte}
use Rattle.cell_refs.specs.declared.span.Span.{Span}
use Rattle.cell_refs.specs.Listed.{IsListed}
use Rattle.cell_refs.specs.declared.place.Place.{Place}
use Rattle.cell_refs.specs.declared.place.Place.TheVariants as place
use Rattle.solver_names.specs.declared.fault.NamesFault.{NamesFault}
use Rattle.solver_names.specs.declared.fault.NamesFault.TheVariants as names
use Rattle.form_needs.specs.declared.refusal.FormRefusal.{FormRefusal}
use Rattle.form_needs.specs.declared.refusal.FormRefusal.TheVariants as form
use Rattle.model_lines.specs.Cells.{cell_with_sheet}
use Rattle.commands.specs.declared.answer.PathStep.{PathStep}

-- ---- places
-- a cell with its sheet; a right side by its name
abbrev pub place_text : List (List ℕ) → Place → List ℕ
place_text sheets (place.Cell c) = cell_with_sheet sheets c
place_text sheets (place.Side k) = codes "solver_rhs" ++ decimal k

abbrev pub span_text : Span → List ℕ
span_text s = decimal s.start ++ (codes "-" ++ decimal s.end)

-- ---- names
-- the number of the fault, and its parts; want of memory is never answered
abbrev pub names_text : List (List ℕ) → NamesFault → List ℕ
names_text sheets names.NoNames = codes "1"
names_text sheets (names.BadReference name) = codes "2 " ++ string_bytes name
names_text sheets (names.MissingPart k) = codes "3 " ++ decimal k
names_text sheets (names.BadRelation k code) = codes "4 " ++ (decimal k ++ (codes " \"" ++ (string_bytes code ++ codes "\"")))
names_text sheets (names.SizeMismatch k left right) = codes "5 " ++ (decimal k ++ (codes " " ++ (decimal left ++ (codes " " ++ decimal right))))
names_text sheets (names.NotDecision k c) = codes "6 " ++ (decimal k ++ (codes " " ++ cell_with_sheet sheets c))
names_text sheets (names.BadOption name) = codes "7 " ++ string_bytes name
names_text sheets (names.TooManyDecisions count) = codes "8 " ++ decimal count
names_text sheets (names.TooManyRows count) = codes "9 " ++ decimal count
names_text sheets names.Memory = []

-- ---- forms
abbrev pub refusal_text : List (List ℕ) → FormRefusal → List ℕ
refusal_text sheets (form.Malformed c) = codes "malformed " ++ cell_with_sheet sheets c
refusal_text sheets (form.Circular p) = codes "circular " ++ place_text sheets p
refusal_text sheets (form.NotAffine p at) = codes "not-affine " ++ (place_text sheets p ++ (codes " " ++ span_text at))
refusal_text sheets (form.Undecided p at) = codes "undecided " ++ (place_text sheets p ++ (codes " " ++ span_text at))
refusal_text sheets (form.Wide p) = codes "wide " ++ place_text sheets p
refusal_text sheets (form.NotNumber p) = codes "not-number " ++ place_text sheets p

-- ---- pivots
abbrev pub sign_text : Bool → List ℕ
sign_text true = codes ">="
sign_text false = codes "<="

abbrev pub step_text : List (List ℕ) → PathStep → List ℕ
step_text sheets s = cell_with_sheet sheets s.cell ++ (sign_text s.upper ++ signed_decimal s.bound)

-- the steps from the root, with commas between them
abbrev pub path_text : List (List ℕ) → List PathStep → List ℕ
path_text sheets [] = codes "root"
path_text sheets (s ∷ steps) = join_with_byte 44 (map (step_text sheets) (s ∷ steps))

abbrev pub pivot_text : List (List ℕ) → List PathStep → List ℕ → ℕ → ℕ → List ℕ
pivot_text sheets path basis row column =
    path_text sheets path ++ (codes " basis " ++ (join_with_byte 44 (map decimal basis) ++ (codes " at " ++ (decimal row ++ (codes " " ++ decimal column)))))

-- ---- which can be printed: each cell in them lies on one of the sheets
abbrev pub PlaceIsListed : List (List ℕ) → Place → Type 0
PlaceIsListed sheets (place.Cell c) = IsListed sheets c
PlaceIsListed sheets (place.Side k) = Unit {0}

abbrev pub FaultIsListed : List (List ℕ) → NamesFault → Type 0
FaultIsListed sheets (names.NotDecision k c) = IsListed sheets c
FaultIsListed sheets names.Memory = ⊥
FaultIsListed sheets _ = Unit {0}

abbrev pub RefusalIsListed : List (List ℕ) → FormRefusal → Type 0
RefusalIsListed sheets (form.Malformed c) = IsListed sheets c
RefusalIsListed sheets (form.Circular p) = PlaceIsListed sheets p
RefusalIsListed sheets (form.NotAffine p at) = PlaceIsListed sheets p
RefusalIsListed sheets (form.Undecided p at) = PlaceIsListed sheets p
RefusalIsListed sheets (form.Wide p) = PlaceIsListed sheets p
RefusalIsListed sheets (form.NotNumber p) = PlaceIsListed sheets p

abbrev pub StepIsListed : List (List ℕ) → PathStep → Type 0
StepIsListed sheets s = IsListed sheets s.cell

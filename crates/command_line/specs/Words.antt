-- What the words of the command line ask for.
use Rattle.std.specs.Prelude.{ℕ, ◌-◌, if◌then◌else◌, ◌==◌, ◌&&◌, ◌||◌, Bool, is_some, nat_le, nat_lt, List, [], ◌∷◌, length, take, drop, Option, Some, None, codes, map, String, string_bytes, unwrap_or, bytes_eq, option_map}
use Rattle.std.specs.Option.{option_and_then}
use Rattle.std.specs.Global.{Global}
use Rattle.std.specs.List.{list_all, slice_split}
use Rattle.clap.specs.Words.{Row, all_of, fault_of, first_of, matches_of}
use Rattle.cell_refs.specs.Units.{number_up_to, units_in}
use Rattle.command_line.specs.Line.{the_app}

-- the file of the names and those of the sheets
pub record Named : Type 0 where
  pub names : List ℕ
  pub sheets : List (List ℕ)

-- which of the pickers chooses the next node of a search
pub data Pick : Type 0 where
  depth : Pick
  best : Pick
  oldest : Pick

-- a script over files: how many units a search may spend, and its picker
pub record Job : Type 0 where
  pub named : Named
  pub budget : ℕ
  pub pick : Pick

-- what the words ask for: a script over files, or the solve of a workbook of a size that is made up
pub data Asked : Type 0 where
  Script : (job : Job) → Asked
  MadeUp : (size : ℕ) → Asked

-- how many units a search may spend where nothing is said, and how large a workbook may be made up
abbrev pub default_budget : ℕ
default_budget = 100000

abbrev pub most_made_up : ℕ
most_made_up = 12

-- ---- sheets
-- the last part of a list of parts
abbrev pub last_part : List (List ℕ) → List ℕ
last_part [] = []
last_part (part ∷ []) = part
last_part (part ∷ next ∷ parts) = last_part (next ∷ parts)

-- a text that isn't empty
abbrev pub some_text : List ℕ → Option (List ℕ)
some_text [] = None
some_text (byte ∷ bytes) = Some (byte ∷ bytes)

-- what stands before the ending `.csv`
abbrev pub before_csv : List ℕ → Option (List ℕ)
before_csv word =
    if nat_le 4 (length word) && bytes_eq (drop (length word - 4) word) (codes ".csv") then Some (take (length word - 4) word) else None

-- the sheet's name: what stands behind the last slash and before the ending `.csv`, where that isn't empty
abbrev pub stem_of : List ℕ → Option (List ℕ)
stem_of word = option_and_then (λ path. some_text (last_part (slice_split (λ b. b == 47) path))) (before_csv word)

-- a sheet's file: its name without the ending isn't empty
abbrev pub is_sheet : List ℕ → Bool
is_sheet word = is_some (stem_of word)

-- ---- values
-- how many units a search may spend, and the picker; the first of each where nothing is said
abbrev pub budget_of : Option (List ℕ) → Option ℕ
budget_of None = Some default_budget
budget_of (Some text) = units_in text

abbrev pub pick_of : Option (List ℕ) → Option Pick
pick_of None = Some depth
pick_of (Some text) =
    if bytes_eq text (codes "depth") then Some depth
    else if bytes_eq text (codes "best") then Some best
    else if bytes_eq text (codes "oldest") then Some oldest
    else None

-- a file of names and at least one sheet
abbrev pub named_by : Option (List ℕ) → List (List ℕ) → Option Named
named_by (Some names) (sheet ∷ more) = if list_all is_sheet (sheet ∷ more) then Some (record { names = names; sheets = sheet ∷ more }) else None
named_by _ _ = None

abbrev pub script_over : Option Named → Option ℕ → Option Pick → Option Asked
script_over (Some named) (Some budget) (Some pick) = Some (Script (record { named = named; budget = budget; pick = pick }))
script_over _ _ _ = None

-- ---- words
abbrev pub files_in : List Row → List (List ℕ)
files_in rows = unwrap_or (all_of (codes "files") rows) []

abbrev pub is_given : List Row → List ℕ → Bool
is_given rows id = is_some (first_of id rows)

-- anything but the size of a workbook that is made up
abbrev pub more_is_given : List Row → Bool
more_is_given rows =
    (is_given rows (codes "names") || is_given rows (codes "budget")) || (is_given rows (codes "pick") || nat_lt 0 (length (files_in rows)))

abbrev pub asked_by : List Row → Option (List ℕ) → Option Asked
asked_by rows (Some size) = if more_is_given rows then None else option_map MadeUp (number_up_to most_made_up size)
asked_by rows None =
    script_over (named_by (first_of (codes "names") rows) (files_in rows)) (budget_of (first_of (codes "budget") rows)) (pick_of (first_of (codes "pick") rows))

-- what the words ask for; none where they are of another form
abbrev pub asked_of : List (List ℕ) → Option Asked
asked_of words =
    if length (fault_of the_app words) == 0 then asked_by (matches_of the_app words) (first_of (codes "gen") (matches_of the_app words)) else None

abbrev pub texts_of : List (String Global) → List (List ℕ)
texts_of words = map string_bytes words

-- What is read of the words, by its texts.
use Rattle.std.specs.Prelude.{◌≡◌, ◌<◌, ◌≤◌, true, All, length, string_bytes}
use Rattle.cell_refs.specs.declared.units.TheConstants.{MOST_UNITS}
use Rattle.command_line.specs.Words.{Asked, Job, MadeUp, Named, Pick, Script, best, depth, is_sheet, most_made_up, oldest, texts_of}
use Rattle.command_line.specs.declared.words.Asked as asked_words
use Rattle.command_line.specs.declared.words.Asked.TheVariants as asked
use Rattle.command_line.specs.declared.words.Job as job_words
use Rattle.command_line.specs.declared.words.Named as words
use Rattle.command_line.specs.declared.words.Pick as pick_words
use Rattle.command_line.specs.declared.words.Pick.TheVariants as picks

abbrev pub named_of : words.Named → Named
named_of named = record { names = string_bytes named.names; sheets = texts_of named.sheets.items }

abbrev pub pick_read : pick_words.Pick → Pick
pick_read picks.Depth = depth
pick_read picks.Best = best
pick_read picks.Oldest = oldest

abbrev pub job_read : job_words.Job → Job
job_read job = record { named = named_of job.named; budget = job.budget; pick = pick_read job.pick }

abbrev pub asked_read : asked_words.Asked → Asked
asked_read (asked.Script job) = Script (job_read job)
asked_read (asked.MadeUp size) = MadeUp size

-- ---- what holds of it
-- there is a sheet, each is a sheet's file, and the budget isn't too great
pub record IsSoundJob (job : job_words.Job) : Type 0 where
  pub budget : job.budget ≤ MOST_UNITS
  pub some : 0 < length job.named.sheets.items
  pub sheets : All (λ w. is_sheet (string_bytes w) ≡ true) job.named.sheets.items

-- and a size is one of those that can be made up
abbrev pub IsSound : asked_words.Asked → Type 0
IsSound (asked.Script job) = IsSoundJob job
IsSound (asked.MadeUp size) = (1 ≤ size) × (size ≤ most_made_up)

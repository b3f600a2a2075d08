-- Files of sheets that have changed.
use Rattle.std.proofs.Common.{◌≡◌, ◌≢◌, ◌∙◌, ◌<◌, ◌+◌, ℕ, zero, suc, Bool, true, false, List, [], ◌∷◌, ◌++◌, sym, ap, arith, length, drop, get_or}
use Rattle.std.specs.Prelude.{Err, Ok, OnErr, Result, Some}
use Rattle.saved_sheets.specs.Saving.{sheet_bytes}
use Rattle.workbook.specs.State.{State}
use Rattle.commands.specs.Saved.{SavedFile}
use Rattle.session.specs.Saves.{changed_from}

some : (a : List SavedFile) (x : SavedFile) (b : List SavedFile) → a ++ x ∷ b ≢ []
some [] x b = λ e. cc e
some (y ∷ a) x b = λ e. cc e

from : (flags : List Bool) (place : ℕ) → place < length flags → get_or flags place false ≡ true → drop place flags ≡ true ∷ drop (place + 1) flags
from [] place lt on = absurd (omega (arith, lt))
from (x ∷ flags) zero lt on = ap (λ b. b ∷ flags) on
from (x ∷ flags) (suc place) lt on =
    let one_more : suc (place + 1) ≡ suc place + 1 = omega arith in
    from flags place (omega (arith, lt)) on ∙ ap (λ n. true ∷ drop n (x ∷ flags)) one_more

-- a sheet that has changed has a file
pub some_changed : (book : State) (flags : List Bool) (place : ℕ) (files whole : List SavedFile) → place < length flags → get_or flags place false ≡ true
    → files ++ changed_from book place (drop place flags) ≡ whole → whole ≢ []
some_changed book flags place files whole lt on is = λ none.
    some files (record { sheet = Some place; bytes = sheet_bytes book place }) (changed_from book (place + 1) (drop (place + 1) flags))
    (ap (λ l. files ++ changed_from book place l) (sym (from flags place lt on)) ∙ is ∙ none)

-- what stands anyway stands at an end
pub at_err : {A E : Type 0} (r : Result A E) (P : Type 0) → P → OnErr r P
at_err (Ok a) P h = tt
at_err (Err e) P h = h

-- What a run finds before the check, in the order of its work: the number of sheets, the file of names, the sheets' files in order, the
-- workbook that they spell, and the certificate.
use Rattle.std.specs.Prelude.{◌≡◌, ℕ, nat_lt, if◌then◌else◌, List, length, Option, Some, None, Result, Ok, Err}
use Rattle.std.specs.FinMap.{get}
use Rattle.std.specs.Str.{is_utf8}
use Rattle.std.specs.Str.Lossy.{utf8_valid_len}
use Rattle.solver_io.specs.Files.{Files}
use Rattle.cell_refs.specs.declared.limits.TheConstants.{FILE_BYTES}
use Rattle.certificate_lines.specs.Cert.{Cert}
use Rattle.certificate_lines.specs.Heads.{IsReadAs, StopsAt}
use Rattle.workbook.specs.State.{State}
use Rattle.run_inputs.specs.Findings.{book_in}
use Rattle.run_inputs.specs.declared.stop.Limit.TheVariants as limit
use Rattle.run_inputs.specs.declared.stop.Stop.{Stop}
use Rattle.run_inputs.specs.declared.stop.Stop.TheVariants as stop
use Rattle.optcheck_cli.specs.Words.{Asked}
use Rattle.optcheck_cli.specs.declared.halt.Halt.{Halt}
use Rattle.optcheck_cli.specs.declared.halt.Halt.TheVariants as halt

-- the text of the certificate, where the folder holds some for it that is not too long
abbrev pub text_held : Option (List ℕ) → Result (List ℕ) Halt
text_held None = Err halt.Missing
text_held (Some bytes) =
    if nat_lt FILE_BYTES (length bytes) then Err (halt.Files (stop.TooMuch limit.FileBytes))
    else if is_utf8 bytes then Ok bytes
    else Err (halt.NotUtf8 (utf8_valid_len bytes))

-- a workbook and a text, or the first cause why one of them isn't there
abbrev pub both_of : Result State Stop → Result (List ℕ) Halt → Result (State × List ℕ) Halt
both_of (Err cause) text = Err (halt.Files cause)
both_of (Ok book) (Err cause) = Err cause
both_of (Ok book) (Ok text) = Ok (book, text)

-- the workbook of the files that the words name, and the text of the certificate
abbrev pub texts_in : Asked → Files → Result (State × List ℕ) Halt
texts_in asked files = both_of (book_in asked.named files) (text_held (get files asked.certificate))

-- the text is that of the certificate
pub record IsCertificate (asked : Asked) (files : Files) (book : State) (cert : Cert) : Type 0 where
  pub text : List ℕ
  pub held : texts_in asked files ≡ Ok (book, text)
  pub read : IsReadAs text cert

-- the text stops at this line to be the beginning of a certificate's
pub record StopsAtLine (asked : Asked) (files : Files) (line : ℕ) : Type 0 where
  pub book : State
  pub text : List ℕ
  pub held : texts_in asked files ≡ Ok (book, text)
  pub stops : StopsAt text line

-- a workbook and a certificate are found, or the first cause why the run ends before the check
abbrev pub Finds : Asked → Files → Result (State × Cert) Halt → Type 0
Finds asked files (Ok (book, cert)) = IsCertificate asked files book cert
Finds asked files (Err (halt.Files cause)) = texts_in asked files ≡ Err (halt.Files cause)
Finds asked files (Err halt.Missing) = texts_in asked files ≡ Err halt.Missing
Finds asked files (Err (halt.NotUtf8 place)) = texts_in asked files ≡ Err (halt.NotUtf8 place)
Finds asked files (Err (halt.Line line)) = StopsAtLine asked files line

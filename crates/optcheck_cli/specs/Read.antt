-- What is read of the words, by its texts.
use Rattle.std.specs.Prelude.{◌≡◌, ◌<◌, true, All, length, string_bytes}
use Rattle.command_line.specs.Read.{named_of}
use Rattle.command_line.specs.Words.{is_sheet}
use Rattle.optcheck_cli.specs.Words.{Asked}
use Rattle.optcheck_cli.specs.declared.words.Asked as words

abbrev pub asked_read : words.Asked → Asked
asked_read asked = record { named = named_of asked.named; certificate = string_bytes asked.certificate }

-- there is a sheet, and each is a sheet's file
pub record IsSound (asked : words.Asked) : Type 0 where
  pub some : 0 < length asked.named.sheets.items
  pub sheets : All (λ w. is_sheet (string_bytes w) ≡ true) asked.named.sheets.items

-- The setting of the code as the grammar sees it.
use Rattle.formula_grammar.specs.Symbols.{Setting}
use Rattle.formula_parser.specs.declared.setting.Setting as code

-- the text, the number of the sheet, and the names
abbrev pub seen : code.Setting → Setting
seen s = record { text = s.text.now; home = s.home.0; sheets = s.sheets.now }

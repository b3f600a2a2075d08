-- A `Dict` as a dictionary.
use Rattle.std.specs.Prelude.{◌≡◌, ◌<◌, ◌+◌, ◌^◌, length}
use Rattle.dictionaries.specs.Dictionary.{Dictionary, IsShaped}
use Rattle.tableau.specs.declared.dict.Dict.TheInside.{Inside}

-- the fields without the two rows in which a pivot works
abbrev pub dictionary_of : Inside → Dictionary
dictionary_of d = record {
  basic = d.basic.items;
  nonbasic = d.nonbasic.items;
  rows = d.table.rows;
  objective = d.table.objective;
  auxiliary = d.table.auxiliary;
}

-- the rows in which a pivot works are as wide as the others
pub record IsRoomy (d : Inside) : Type 0 where
  pub shaped : IsShaped (dictionary_of d)
  pub solved : length d.solved ≡ length d.nonbasic.items + 1
  pub spare : length d.spare ≡ length d.nonbasic.items + 1
  pub height : length d.basic.items < 2 ^ 16
  pub width : length d.nonbasic.items < 2 ^ 16

-- Tables of records, whose first field is the key.
use Rattle.std.specs.Prelude.{◌≡◌, ◌<◌, ◌+◌, ◌*◌, ℕ, List, length, slice_index_or}
use Rattle.sheet_model.specs.Grids.{Rectangle}
use Rattle.sheet_model.specs.declared.value.Value.{Value}
use Rattle.sheet_model.specs.declared.value.Value.TheVariants.{Empty}
use Rattle.sheet_funcs.specs.Arguments.{at}
use Rattle.sheet_funcs.specs.Searches.{spaced, IsSpaced}
use Rattle.sheet_funcs.specs.declared.table_view.TableView.{TableView}

-- the place of a record's field among all elements
abbrev pub field_place : TableView → ℕ → ℕ → ℕ
field_place t key field = key * t.key_step + field * t.field_step

-- the keys of its records
abbrev pub keys_of : TableView → List Value
keys_of t = spaced t.items.now t.key_step t.keys

-- each key stands among the elements
abbrev pub HasKeys : TableView → Type 0
HasKeys t = IsSpaced t.items.now t.key_step t.keys

-- there are some fields, and each stands among the elements
pub record IsIndexed (t : TableView) : Type 0 where
  pub some_fields : 0 < t.fields
  pub inside : (key field : ℕ) → key < t.keys → field < t.fields → field_place t key field < length t.items.now

-- the table's records are the rows of a grid
pub record IsTable (t : TableView) (g : Rectangle) : Type 0 where
  pub keys : t.keys ≡ g.rows
  pub fields : t.fields ≡ g.columns
  pub same : (row column : ℕ) → row < g.rows → column < g.columns → slice_index_or t.items.now (field_place t row column) Empty ≡ at g row column

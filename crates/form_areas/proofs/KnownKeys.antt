-- Where a known key is found among known ones.
use Rattle.std.proofs.Common.{◌≡◌, refl, ap, ◌∙◌, true, ◌||◌, if◌then◌else◌, ℕ, List, [], ◌∷◌, map, Option, Some, None, Ok}
use Rattle.std.specs.Prelude.{◌==◌}
use Rattle.fractions.specs.Rational.{ℚ, computed, zero_ℚ, one_ℚ, neg_ℚ}
use Rattle.cell_refs.specs.declared.error_kind.ErrorKind.TheVariants as kind
use Rattle.sheet_model.specs.Grids.{Rectangle}
use Rattle.sheet_model.specs.declared.value.Value.{Value}
use Rattle.sheet_model.specs.declared.value.Value.TheVariants.{Number, Text, Logical, Empty, Error}
use Rattle.sheet_model.specs.declared.grid.Arg.{Arg}
use Rattle.sheet_model.specs.declared.grid.Arg.TheVariants as known
use Rattle.sheet_funcs.specs.Arguments as functions
use Rattle.sheet_funcs.specs.Arguments.{no_error}
use Rattle.sheet_funcs.specs.Lookups as functions_picks
use Rattle.sheet_funcs.specs.Lookups.{found, kind_of, lookup_pick, pick_by}
use Rattle.sheet_funcs.specs.declared.lookups.MatchKind.{MatchKind}
use Rattle.sheet_funcs.specs.declared.lookups.MatchKind.TheVariants.{Equal, Rising, Falling}
use Rattle.sheet_funcs.specs.declared.pick.Pick.{Pick}
use Rattle.sheet_funcs.specs.declared.pick.Pick.TheVariants.{Part, Fault}
use Rattle.form_values.specs.Known.{value_in, values_in}
use Rattle.form_values.specs.declared.abs.Abs.TheVariants.{Known}
use Rattle.form_values.specs.declared.abs.AbsArg.{AbsArg}
use Rattle.form_values.specs.declared.abs.AbsArg.TheVariants.{One, Area}
use Rattle.form_table.specs.Lookups.{error_of, pick_in}
use Rattle.form_table.specs.Wanted.{grid_of}

-- a value that is no error
pub no_error_known : (v : Value) → error_of (Known v) ≡ None → no_error v ≡ Ok v
no_error_known (Number x) e = refl
no_error_known (Text t) e = refl
no_error_known (Logical b) e = refl
no_error_known Empty e = refl
no_error_known (Error k) e = cc

-- what MATCH picks among known keys
same_pick : (rows columns : ℕ) (items : List Value) (o : Option ℕ) (others : List Rattle.form_values.specs.declared.abs.Abs.Abs)
    → functions_picks.pick_in (record { rows = rows; columns = columns; items = items }) o ≡ pick_in (record { rows = rows; columns = columns; items = others }) o
same_pick rows columns items None others = refl
same_pick rows columns items (Some i) others = refl

pub known_pick : (key : Value) (keys : AbsArg) (x : ℚ) → error_of (Known key) ≡ None → (((grid_of keys).rows == 1) || ((grid_of keys).columns == 1)) ≡ true
    → lookup_pick (known.One key) (values_in keys) (Ok x) ≡ pick_in (grid_of keys) (found (kind_of x) key (map value_in (grid_of keys).items))
known_pick key (One a) x e line =
    ap (λ r. pick_by (functions.grid_of (values_in (One a))) r (Ok x)) (no_error_known key e) ∙ same_pick 1 1 (value_in a ∷ []) (found (kind_of x) key (value_in a ∷ [])) (a ∷ [])
known_pick key (Area g) x e line =
    ap (λ r. pick_by (functions.grid_of (values_in (Area g))) r (Ok x)) (no_error_known key e)
    ∙ ap (λ b. if b then functions_picks.pick_in (functions.grid_of (values_in (Area g))) (found (kind_of x) key (map value_in g.items)) else Fault kind.NotAvailable) line
    ∙ same_pick g.rows g.columns (map value_in g.items) (found (kind_of x) key (map value_in g.items)) g.items

-- ---- the numbers that ask for a kind of search
pub equal_asked : kind_of zero_ℚ ≡ Equal
unfolding computed
equal_asked = refl

pub rising_asked : kind_of one_ℚ ≡ Rising
unfolding computed
rising_asked = refl

pub falling_asked : kind_of (neg_ℚ one_ℚ) ≡ Falling
unfolding computed
falling_asked = refl

-- ---- keys in one row
-- the place is the column of what is picked
abbrev pub column_in : Pick → Option ℕ
column_in (Part top left bottom right) = Some left
column_in (Fault k) = None

in_row : (g : Rectangle) (o : Option ℕ) → g.rows ≡ 1 → column_in (functions_picks.pick_in g o) ≡ o
in_row g None e = refl
in_row g (Some i) e = rw e refl

pub found_in_row : (asked : MatchKind) (x : ℚ) (key keys : Arg) → (functions.grid_of keys).rows ≡ 1 → no_error (functions.value_of key) ≡ Ok (functions.value_of key) → kind_of x ≡ asked
    → column_in (lookup_pick key keys (Ok x)) ≡ found asked (functions.value_of key) (functions.grid_of keys).items
found_in_row asked x key keys row right same =
    ap (λ r. column_in (pick_by (functions.grid_of keys) r (Ok x))) right
    ∙ ap (λ n. column_in (if (n == 1) || ((functions.grid_of keys).columns == 1) then functions_picks.pick_in (functions.grid_of keys) (found (kind_of x) (functions.value_of key) (functions.grid_of keys).items) else Fault kind.NotAvailable)) row
    ∙ in_row (functions.grid_of keys) _ row ∙ ap (λ k. found k (functions.value_of key) (functions.grid_of keys).items) same

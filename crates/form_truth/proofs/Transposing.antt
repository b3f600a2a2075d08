-- TRANSPOSE of open values.
use Rattle.std.specs.Prelude.{slice_index_or, ◌+◌, ◌*◌}
use Rattle.std.specs.List.{AllByRecursion}
use Rattle.std.proofs.Common.{◌≡◌, refl, ap, ◌∙◌, List, [], ◌∷◌, map, ℕ, zero, suc}
use Rattle.calculations.specs.Calculation.{exact}
use Rattle.sheet_model.specs.Grids.{Rectangle}
use Rattle.sheet_model.specs.declared.value.Value.TheVariants.{Empty}
use Rattle.sheet_model.specs.declared.grid.Arg.TheVariants as arg
use Rattle.sheet_funcs.specs.Arguments as arguments
use Rattle.sheet_funcs.specs.Products as products
use Rattle.sheet_funcs.specs.Products.{transpose_of, places_of}
use Rattle.affine_forms.specs.Forms.{Assignment}
use Rattle.form_values.specs.Grids.{Raster}
use Rattle.form_values.specs.Meaning.{abs_at, arg_at, elements_of}
use Rattle.form_values.proofs.Opening.{IsAbs}
use Rattle.form_values.specs.declared.abs.Abs.{Abs}
use Rattle.form_values.specs.declared.abs.Abs.TheVariants.{Known}
use Rattle.form_values.specs.declared.abs.AbsArg.{AbsArg}
use Rattle.form_values.specs.declared.abs.AbsArg.TheVariants.{One, Area}
use Rattle.form_table.specs.Wanted.{grid_of}
use Rattle.form_table.specs.Products.{transpose_form, at}
use Rattle.form_truth.proofs.Right.{IsRightArg}

-- the grid at an assignment
abbrev pub grid_at : Assignment → Raster → Rectangle
grid_at x g = record { rows = g.rows; columns = g.columns; items = map (abs_at x) g.items }

pub grid_is : (x : Assignment) (a : AbsArg) → arguments.grid_of (arg_at x a) ≡ grid_at x (grid_of a)
grid_is x (One a) = refl
grid_is x (Area g) = refl

-- an element of it, and what is empty where there is none
pub item_is : (x : Assignment) (items : List Abs) (n : ℕ) → slice_index_or (map (abs_at x) items) n Empty ≡ abs_at x (slice_index_or items n (Known Empty))
item_is x [] n = refl
item_is x (a ∷ items) zero = refl
item_is x (a ∷ items) (suc n) = item_is x items n

pub element_is : (x : Assignment) (g : Raster) (row column : ℕ) → arguments.at (grid_at x g) row column ≡ abs_at x (at g row column)
element_is x g row column = item_is x g.items (row * g.columns + column)

all_exchanged : (x : Assignment) (g : Raster) (places : List (ℕ × ℕ)) → map (λ place. arguments.at (grid_at x g) place.1 place.0) places ≡ map (abs_at x) (map (λ place. at g place.1 place.0) places)
all_exchanged x g [] = refl
all_exchanged x g (p ∷ places) =
    let e = element_is x g p.1 p.0 in
    let r = all_exchanged x g places in
    λ i. (e i) ∷ (r i)

pub transpose_right : (a : AbsArg) → AllByRecursion IsAbs (elements_of a) → IsRightArg (λ x. exact (transpose_of (arg_at x a))) (a ∷ []) (exact (transpose_form a))
transpose_right a h = λ x.
    ap (λ g. arg.Area (products.transposed g)) (grid_is x a)
    ∙ ap (λ vs. arg.Area (record { rows = (grid_of a).columns; columns = (grid_of a).rows; items = vs })) (all_exchanged x (grid_of a) (places_of (grid_of a).columns (grid_of a).rows))

-- Products of matrices.
use Rattle.std.proofs.Common.{◌≡◌, ◌*◌, refl, sym, ap, ◌∙◌, ℕ, List, length, map, Option, Some, None, Result, Ok, Err}
use Rattle.std.specs.Prelude.{option_map}
use Rattle.std.specs.Result.{IsErrAnd, result_map_both}
use Rattle.calculations.specs.Calculation.{narrow}
use Rattle.sheet_funcs.specs.Products.{places_of}
use Rattle.sheet_funcs.proofs.Ranges.{length-places}
use Rattle.affine_forms.specs.Forms.{AffineForm}
use Rattle.form_values.specs.Entries.{entry}
use Rattle.form_values.specs.Grids.{Raster}
use Rattle.form_values.specs.Trials.{Refusal, Answers, each_tried}
use Rattle.form_values.specs.declared.abs.Abs.{Abs}
use Rattle.form_values.specs.declared.abs.AbsArg.{AbsArg}
use Rattle.form_values.specs.declared.abs.AbsArg.TheVariants.{Area}
use Rattle.form_values.specs.declared.refusal.OpRefusal.{OpRefusal}
use Rattle.form_table.specs.Products.{of_forms, product_at}
use Rattle.form_ops.proofs.Trying.{refused, without_value}
use Rattle.form_areas.specs.Matrices.{element_at, matrix_product}
use Rattle.form_areas.proofs.Placed.{each-length, each-turned, then_turned}

abbrev Forms : Type 0
Forms = Option (Result (List AffineForm) Refusal)

-- the elements as values
abbrev as_values : Forms → Option (Result (List Abs) Refusal)
as_values o = option_map (result_map_both (map entry) (λ r. r)) o

abbrev as_grid : ℕ → ℕ → Forms → Option (Result AbsArg Refusal)
as_grid rows columns o = option_map (result_map_both (of_forms rows columns) (λ r. r)) o

values_of_elements : (g h : Raster) → narrow (each_tried (element_at g h) (places_of g.rows h.columns)) ≡ as_values (narrow (each_tried (product_at g h) (places_of g.rows h.columns)))
values_of_elements g h = each-turned entry (product_at g h) (places_of g.rows h.columns)

product-narrow : (g h : Raster) → narrow (matrix_product g h) ≡ as_grid g.rows h.columns (narrow (each_tried (product_at g h) (places_of g.rows h.columns)))
product-narrow g h = then_turned (of_forms g.rows h.columns) (each_tried (product_at g h) (places_of g.rows h.columns))

grid_of_values : (rows columns : ℕ) (o : Forms) (items : List Abs) → as_values o ≡ Some (Ok items) → as_grid rows columns o ≡ Some (Ok (Area (record { rows = rows; columns = columns; items = items })))
grid_of_values rows columns None items e = cc
grid_of_values rows columns (Some (Err r)) items e = cc
grid_of_values rows columns (Some (Ok fs)) items e = let same : map entry fs ≡ items = cc in ap (λ vs. Some (Ok (Area (record { rows = rows; columns = columns; items = vs })))) same

no_grid : (rows columns : ℕ) (o : Forms) (r : Option Refusal) → as_values o ≡ without_value r → as_grid rows columns o ≡ without_value r
no_grid rows columns None None e = refl
no_grid rows columns None (Some r) e = cc
no_grid rows columns (Some (Err s)) None e = cc
no_grid rows columns (Some (Err s)) (Some r) e = let same : s ≡ r = cc in ap (λ t. Some (Err t)) same
no_grid rows columns (Some (Ok fs)) None e = cc
no_grid rows columns (Some (Ok fs)) (Some r) e = cc

pub product_given : (g h : Raster) (items : List Abs) (a : AbsArg) → narrow (each_tried (element_at g h) (places_of g.rows h.columns)) ≡ Some (Ok items) → a ≡ Area (record { rows = g.rows; columns = h.columns; items = items })
    → narrow (matrix_product g h) ≡ Some (Ok a)
product_given g h items a e same = product-narrow g h ∙ grid_of_values g.rows h.columns _ items (sym (values_of_elements g h) ∙ e) ∙ ap (λ b. Some (Ok b)) (sym same)

pub product_refused : (g h : Raster) (e : OpRefusal) (r : Result AbsArg OpRefusal) → IsErrAnd r (λ s. s ≡ e) → Answers (each_tried (element_at g h) (places_of g.rows h.columns)) (Err e) → Answers (matrix_product g h) r
product_refused g h e r is part =
    refused (each_tried (element_at g h) (places_of g.rows h.columns)) (matrix_product g h) e r is part
    (λ o none. product-narrow g h ∙ no_grid g.rows h.columns _ o (sym (values_of_elements g h) ∙ none))

pub product_size : (g h : Raster) (items : List Abs) (rows columns : ℕ) → narrow (each_tried (element_at g h) (places_of g.rows h.columns)) ≡ Some (Ok items) → rows ≡ g.rows → columns ≡ h.columns → length items ≡ rows * columns
product_size g h items rows columns e f k = rw (f, k) (each-length (element_at g h) (places_of g.rows h.columns) items e ∙ length-places g.rows h.columns)

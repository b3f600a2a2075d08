-- SUMPRODUCT, MMULT and TRANSPOSE (OpenDocument 1.2 part 2, sections 6.16.65, 6.5.4 and 6.5.6) on open values.
use Rattle.std.specs.Prelude.{ℕ, ◌+◌, ◌*◌, Bool, ◌&&◌, ◌==◌, if◌then◌else◌, List, [], ◌∷◌, ◌++◌, length, map, flat_map, slice_index_or, Option, Some, None}
use Rattle.std.specs.List.{list_all}
use Rattle.fractions.specs.Rational.{zero_ℚ, one_ℚ}
use Rattle.cell_refs.specs.declared.error_kind.ErrorKind.{ErrorKind}
use Rattle.cell_refs.specs.declared.error_kind.ErrorKind.TheVariants as kind
use Rattle.form_values.specs.FromSheetModel.{Number, Empty, Error}
use Rattle.sheet_funcs.specs.Arguments.{below}
use Rattle.sheet_funcs.specs.Products.{places_of}
use Rattle.affine_forms.specs.Forms.{AffineForm, constant_form}
use Rattle.affine_forms.specs.Steps.{added}
use Rattle.form_values.specs.Grids.{Raster}
use Rattle.form_values.specs.Trials.{Trial, given, made, fault, one, and_then, each_tried, through_tried}
use Rattle.form_values.specs.declared.abs.Abs.{Abs}
use Rattle.form_values.specs.declared.abs.Abs.TheVariants.{Known, Affine}
use Rattle.form_values.specs.declared.abs.AbsArg.{AbsArg}
use Rattle.form_values.specs.declared.abs.AbsArg.TheVariants.{Area}
use Rattle.form_table.specs.Wanted.{grid_of}
use Rattle.form_values.specs.Entries.{entry}
use Rattle.form_table.specs.Operators.{times}
use Rattle.form_table.specs.Items.{is_number}

-- an element as a factor: what is no number, an open logical too, counts as 0
abbrev pub factor : Abs → AffineForm
factor (Known (Number x)) = constant_form x
factor (Affine o) = o.form
factor _ = constant_form zero_ℚ

-- the product of some factors, from the left
abbrev pub product_of : List AffineForm → Trial AffineForm
product_of [] = given (constant_form one_ℚ)
product_of (f ∷ fs) = through_tried times f fs

-- the sum of the products of some lists of factors, each added when it is made
abbrev pub dot : List (List AffineForm) → Trial AffineForm
dot lists = through_tried (λ so_far fs. and_then (product_of fs) (λ p. made (λ f. f) (added so_far p))) (constant_form zero_ℚ) lists

-- the first error among some elements
abbrev pub error_among : List Abs → Option ErrorKind
error_among [] = None
error_among (Known (Error k) ∷ items) = Some k
error_among (_ ∷ items) = error_among items

abbrev pub or_fault : Option ErrorKind → Trial AbsArg → Trial AbsArg
or_fault (Some k) c = one (fault k)
or_fault None c = c

abbrev pub is_of_size : Raster → Raster → Bool
is_of_size g h = (g.rows == h.rows) && (g.columns == h.columns)

abbrev pub factors_at : List Raster → ℕ → List AffineForm
factors_at grids place = map (λ (g : Raster). factor (slice_index_or g.items place (Known Empty))) grids

abbrev pub dot_of_grids : List Raster → Trial AbsArg
dot_of_grids [] = one (fault kind.Value)
dot_of_grids (g ∷ gs) =
    or_fault (error_among (flat_map (λ (h : Raster). h.items) (g ∷ gs)))
    (if list_all (is_of_size g) gs
    then one (and_then (dot (map (factors_at (g ∷ gs)) (below (length g.items)))) (λ f. given (entry f)))
    else one (fault kind.Value))

abbrev pub sumproduct_form : List AbsArg → Trial AbsArg
sumproduct_form args = dot_of_grids (map grid_of args)

-- the element at a row and a column, each from 0
abbrev pub at : Raster → ℕ → ℕ → Abs
at g row column = slice_index_or g.items (row * g.columns + column) (Known Empty)

abbrev pub product_at : Raster → Raster → ℕ × ℕ → Trial AffineForm
product_at g h place = dot (map (λ k. factor (at g place.0 k) ∷ factor (at h k place.1) ∷ []) (below g.columns))

abbrev pub of_forms : ℕ → ℕ → List AffineForm → AbsArg
of_forms rows columns fs = Area (record { rows = rows; columns = columns; items = map entry fs })

abbrev pub mmult_form : AbsArg → AbsArg → Trial AbsArg
mmult_form a b =
    let g = grid_of a in
    let h = grid_of b in
    or_fault (error_among (g.items ++ h.items))
    (if list_all is_number (g.items ++ h.items) && (g.columns == h.rows)
    then and_then (each_tried (product_at g h) (places_of g.rows h.columns)) (λ fs. given (of_forms g.rows h.columns fs))
    else one (fault kind.Value))

-- rows and columns exchanged
abbrev pub transposed : Raster → Raster
transposed g = record { rows = g.columns; columns = g.rows; items = map (λ place. at g place.1 place.0) (places_of g.columns g.rows) }

abbrev pub transpose_form : AbsArg → Trial AbsArg
transpose_form a = given (Area (transposed (grid_of a)))

-- How many numbers are in some arguments.
use Rattle.std.proofs.Common.{◌≡◌, ◌<◌, ◌+◌, refl, sym, ap, ◌∙◌, append-nil, ℕ, suc, List, [], ◌∷◌, ◌++◌, length, length-append, get_or, take}
use Rattle.std.specs.Prelude.{filter, flat_map}
use Rattle.std.specs.List.{filter_map}
use Rattle.std.proofs.lemmas.List.{take_more}
use Rattle.std.proofs.lemmas.List.Concat.{flat_map-append}
use Rattle.std.proofs.lemmas.List.Elements.{filter-append, filter_map-append}
use Rattle.sheet_model.specs.declared.value.Value.TheVariants.{Number, Text, Logical, Empty, Error}
use Rattle.form_values.specs.Meaning.{elements_of}
use Rattle.form_values.specs.declared.abs.Abs.{Abs}
use Rattle.form_values.specs.declared.abs.Abs.TheVariants.{Known, Affine, Test}
use Rattle.form_values.specs.declared.abs.AbsArg.{AbsArg}
use Rattle.form_table.specs.Items.{form_in, forms_of, is_number, item_at, items_in}
use Rattle.form_areas.specs.Counted.{items_among, numbers_in}

-- one argument more
more_numbers : (args : List AbsArg) (a : AbsArg) → numbers_in (args ++ a ∷ []) ≡ numbers_in args + length (filter is_number (elements_of a))
more_numbers args a =
    ap (λ vs. length (filter is_number vs)) (flat_map-append elements_of args (a ∷ []))
    ∙ ap length (filter-append is_number (flat_map elements_of args) (elements_of a ++ []))
    ∙ length-append (filter is_number (flat_map elements_of args)) (filter is_number (elements_of a ++ []))
    ∙ ap (λ vs. numbers_in args + length (filter is_number vs)) (append-nil (elements_of a))

pub numbers_more : (args : List AbsArg) (i : ℕ) (a : AbsArg) → i < length args → a ≡ get_or args i a → numbers_in (take (i + 1) args) ≡ numbers_in (take i args) + length (filter is_number (elements_of a))
numbers_more args i a h e = ap numbers_in (take_more args i a h ∙ ap (λ b. take i args ++ b ∷ []) (sym e)) ∙ more_numbers (take i args) a

more_items : (args : List AbsArg) (a : AbsArg) → items_among (args ++ a ∷ []) ≡ items_among args + length (filter_map form_in (items_in a))
more_items args a =
    ap (λ ws. length (filter_map form_in ws)) (flat_map-append items_in args (a ∷ []))
    ∙ ap length (filter_map-append form_in (flat_map items_in args) (items_in a ++ []))
    ∙ length-append (forms_of args) (filter_map form_in (items_in a ++ []))
    ∙ ap (λ ws. items_among args + length (filter_map form_in ws)) (append-nil (items_in a))

pub items_more : (args : List AbsArg) (i : ℕ) (a : AbsArg) → i < length args → a ≡ get_or args i a → items_among (take (i + 1) args) ≡ items_among (take i args) + length (filter_map form_in (items_in a))
items_more args i a h e = ap items_among (take_more args i a h ∙ ap (λ b. take i args ++ b ∷ []) (sym e)) ∙ more_items (take i args) a

-- the numbers of an area are its items
pub area_count : (items : List Abs) → length (filter is_number items) ≡ length (filter_map form_in (filter_map item_at items))
area_count [] = refl
area_count (Known (Number x) ∷ items) = ap suc (area_count items)
area_count (Known (Error k) ∷ items) = area_count items
area_count (Known (Text t) ∷ items) = area_count items
area_count (Known (Logical b) ∷ items) = area_count items
area_count (Known Empty ∷ items) = area_count items
area_count (Affine f ∷ items) = ap suc (area_count items)
area_count (Test f r ∷ items) = area_count items

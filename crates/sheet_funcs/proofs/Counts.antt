-- How many numbers are in some arguments.
use Rattle.std.proofs.Common.{◌≡◌, ◌<◌, ◌+◌, sym, ap, ◌∙◌, append-nil, ℕ, List, [], ◌∷◌, ◌++◌, length, length-append, get_or, take}
use Rattle.std.specs.Prelude.{filter, flat_map}
use Rattle.std.proofs.lemmas.List.{take_more}
use Rattle.std.proofs.lemmas.List.Concat.{flat_map-append}
use Rattle.std.proofs.lemmas.List.Elements.{filter-append}
use Rattle.sheet_model.specs.declared.grid.Arg.{Arg}
use Rattle.sheet_funcs.specs.Arguments.{elements_of}
use Rattle.sheet_funcs.specs.Sums.{is_number}

abbrev pub numbers_in : List Arg → ℕ
numbers_in args = length (filter is_number (flat_map elements_of args))

-- one argument more
more : (args : List Arg) (a : Arg) → numbers_in (args ++ a ∷ []) ≡ numbers_in args + length (filter is_number (elements_of a))
more args a =
    ap (λ vs. length (filter is_number vs)) (flat_map-append elements_of args (a ∷ []))
    ∙ ap length (filter-append is_number (flat_map elements_of args) (elements_of a ++ []))
    ∙ length-append (filter is_number (flat_map elements_of args)) (filter is_number (elements_of a ++ []))
    ∙ ap (λ vs. numbers_in args + length (filter is_number vs)) (append-nil (elements_of a))

pub numbers_more : (args : List Arg) (i : ℕ) (a : Arg) → i < length args → a ≡ get_or args i a → numbers_in (take (i + 1) args) ≡ numbers_in (take i args) + length (filter is_number (elements_of a))
numbers_more args i a h e = ap numbers_in (take_more args i a h ∙ ap (λ b. take i args ++ b ∷ []) (sym e)) ∙ more (take i args) a

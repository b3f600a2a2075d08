use Rattle.std.proofs.Common.{◌≡◌, ◌∙◌, ap, sym, refl, suc, List, [], ◌∷◌, length, Option, Some, None}
use Rattle.std.specs.Prelude.{filter, is_some, if◌then◌else◌}
use Rattle.std.specs.List.{filter_map, cons_option}
use Rattle.sheet_funcs.specs.Items.{items_in, number_at}
use Rattle.sheet_funcs.proofs.sums.count_items_in.Goals as goal

-- as many pass the test as there are pictures
same_lengths : {X Y : Type 0} (h : X → Option Y) (xs : List X) → length (filter (λ x. is_some (h x)) xs) ≡ length (filter_map h xs)
same_lengths h [] = refl
same_lengths h (x ∷ xs) = one (h x) (same_lengths h xs)
  where
    one : (o : Option _) → length (filter (λ x. is_some (h x)) xs) ≡ length (filter_map h xs)
        → length (if is_some o then x ∷ filter (λ x. is_some (h x)) xs else filter (λ x. is_some (h x)) xs) ≡ length (cons_option o (filter_map h xs))
    one None e = e
    one (Some y) e = ap suc e

pub returns-in-Area : goal.returns-in-Area
returns-in-Area c =
    c.count_items_among.ensures ∙ ap (λ vs. length (filter (λ v. is_some (number_at v)) vs)) c.items.ensures.items ∙ same_lengths number_at c.in-Area.grid.items
    ∙ ap (λ a. length (items_in a)) (sym c.in-Area.is)

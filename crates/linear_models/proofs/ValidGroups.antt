-- The groups of a statement are groups of its linear model.
use Rattle.std.proofs.Common.{◌≡◌, ◌⊎◌, inl, inr, ℕ, ◌<◌, Bool, true, false, ◌||◌, ◌&&◌, not, refl, ap, ◌∙◌, List, [], ◌∷◌, ◌++◌, length, get_or, Some, None, arith, length-append, pos}
use Rattle.std.specs.Prelude.{flat_map}
use Rattle.std.specs.List.{AllByRecursion}
use Rattle.std.specs.Option.{option_map}
use Rattle.fractions.specs.Rational.{ℚ, zero_ℚ, one_ℚ}
use Rattle.fractions.specs.Whole.{whole_ℚ}
use Rattle.linear_models.specs.Box.{greater, lesser}
use Rattle.linear_models.specs.Model.{IsGroupOf}
use Rattle.linear_models.specs.Statement.{Statement, is_in, is_grouped}
use Rattle.linear_models.specs.Bounds.{is_marked, least_of, greatest_of, up, down, highest, lowest, lower_bounds, upper_bounds, lows_in, highs_in, size_in, where_so}
use Rattle.linear_models.specs.Linear.{linear}
use Rattle.linear_models.specs.Agreement.{IsGroupIn}
use Rattle.linear_models.proofs.Members.{made_at, or_cases, or_left, or_right}
use Rattle.linear_models.proofs.Groups.{in_at}

-- ---- some bounds have a tightest one
highest_there : (cs : List ℚ) → 0 < length cs → (b : ℚ) × (highest cs ≡ Some b)
highest_there [] l = absurd (omega (arith, l))
highest_there (c ∷ cs) l = (greater (highest cs) c, refl)

lowest_there : (cs : List ℚ) → 0 < length cs → (b : ℚ) × (lowest cs ≡ Some b)
lowest_there [] l = absurd (omega (arith, l))
lowest_there (c ∷ cs) l = (lesser (lowest cs) c, refl)

where_there : (b : Bool) (c : ℚ) → b ≡ true → 0 < length (where_so b c)
where_there true c e = omega arith
where_there false c e = cc

at_end : (xs ys : List ℚ) → 0 < length ys → 0 < length (xs ++ ys)
at_end xs ys l = omega (arith, l, length-append xs ys)

at_front : (xs ys : List ℚ) → 0 < length xs → 0 < length (xs ++ ys)
at_front xs ys l = omega (arith, l, length-append xs ys)

sizes_there : (j : ℕ) (gs : List (List ℕ)) → is_grouped j gs ≡ true → 0 < length (flat_map (size_in j) gs)
sizes_there j [] e = cc
sizes_there j (g ∷ gs) e = cases (or_cases (is_in j g) (is_grouped j gs) e) (sizes_there j gs)
  where
    cases : (is_in j g ≡ true) ⊎ (is_grouped j gs ≡ true) → (is_grouped j gs ≡ true → 0 < length (flat_map (size_in j) gs)) → 0 < length (size_in j g ++ flat_map (size_in j) gs)
    cases (inl q) f = at_front (size_in j g) (flat_map (size_in j) gs) (where_there (is_in j g) (whole_ℚ (pos (length g))) q)
    cases (inr q) f = at_end (size_in j g) (flat_map (size_in j) gs) (f q)

least_there : (s : Statement) (j : ℕ) → is_grouped j s.groups ≡ true → (b : ℚ) × (least_of s j ≡ Some b)
least_there s j e =
    let b = where_so (is_in j s.binary) zero_ℚ in
    let n = where_so (s.not_negative && not (is_in j s.explicit)) zero_ℚ in
    let g = where_so (is_grouped j s.groups) one_ℚ in
    let l = at_end (flat_map (lows_in j) s.rows) (b ++ (n ++ g)) (at_end b (n ++ g) (at_end n g (where_there (is_grouped j s.groups) one_ℚ e))) in
    let h = highest_there (lower_bounds s j) l in
    (up (is_marked s j) h.0, ap (option_map (up (is_marked s j))) h.1)

greatest_there : (s : Statement) (j : ℕ) → is_grouped j s.groups ≡ true → (b : ℚ) × (greatest_of s j ≡ Some b)
greatest_there s j e =
    let b = where_so (is_in j s.binary) one_ℚ in
    let g = flat_map (size_in j) s.groups in
    let l = at_end (flat_map (highs_in j) s.rows) (b ++ g) (at_end b g (sizes_there j s.groups e)) in
    let h = lowest_there (upper_bounds s j) l in
    (down (is_marked s j) h.0, ap (option_map (down (is_marked s j))) h.1)

-- ---- groups
group_fits : (s : Statement) (g : List ℕ) → IsGroupIn s.decisions g → ((j : ℕ) → is_in j g ≡ true → is_grouped j s.groups ≡ true) → IsGroupOf (linear s) g
group_fits s g w f = record {
  once = w.once;
  marked = λ i l. made_at (is_marked s) s.decisions (get_or g i 0) false (w.below i 0 l) ∙ or_right (is_in (get_or g i 0) s.whole || is_in (get_or g i 0) s.binary) (is_grouped (get_or g i 0) s.groups) (grouped i l);
  least = λ i l. let b = least_there s (get_or g i 0) (grouped i l) in (b.0, made_at (least_of s) s.decisions (get_or g i 0) None (w.below i 0 l) ∙ b.1);
  greatest = λ i l. let b = greatest_there s (get_or g i 0) (grouped i l) in (b.0, made_at (greatest_of s) s.decisions (get_or g i 0) None (w.below i 0 l) ∙ b.1);
}
  where
    grouped : (i : ℕ) → i < length g → is_grouped (get_or g i 0) s.groups ≡ true
    grouped i l = f (get_or g i 0) (in_at i g l)

pub groups_fit : (s : Statement) (gs : List (List ℕ)) → AllByRecursion (IsGroupIn s.decisions) gs → ((j : ℕ) → is_grouped j gs ≡ true → is_grouped j s.groups ≡ true) → AllByRecursion (IsGroupOf (linear s)) gs
groups_fit s [] w f = tt
groups_fit s (g ∷ gs) w f = (group_fits s g w.0 (λ j e. f j (or_left (is_in j g) (is_grouped j gs) e)), groups_fit s gs w.1 (λ j e. f j (or_right (is_in j g) (is_grouped j gs) e)))

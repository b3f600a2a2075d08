-- A statement permits the points of its linear model, and has the same answers.
use Rattle.std.proofs.Common.{◌≡◌, ◌↔◌, ℕ, zero, suc, ◌<◌, ◌≤◌, Bool, true, false, not, ◌&&◌, ◌||◌, refl, sym, ap, ap₂, ◌∙◌, List, [], ◌∷◌, ◌++◌, length, Option, Some, None, cond, subst, arith, ◌⊎◌, inl, inr, ⊎_elim, ℤ, pos, negsuc}
use Rattle.std.specs.Prelude.{All, filter, slice_get, flat_map, ◌≤ℤ◌}
use Rattle.std.proofs.lemmas.Int.{ints}
use Rattle.std.specs.List.{AllByRecursion, range_with_len}
use Rattle.std.specs.Option.{option_map}
use Rattle.std.proofs.lemmas.List.Elements.{All-from_recursion, recursion_from_All}
use Rattle.std.proofs.lemmas.List.FromFn.{length-map-range_with_len}
use Rattle.fractions.specs.Rational.{ℚ, ◌≤ℚ◌, zero_ℚ, one_ℚ, numerator}
use Rattle.fractions.specs.Vectors.{at}
use Rattle.fractions.specs.Whole.{whole_ℚ}
use Rattle.fractions.proofs.Laws.{add-zero}
use Rattle.fractions.proofs.Order.{le_refl, le_of_lt, zero_lt_one}
use Rattle.fractions.proofs.Whole.{whole-le, whole-zero, whole-one}
use Rattle.optimality.specs.Problem.{Assignment, Relation, equal, Goal, greatest, least, reach}
use Rattle.optimality.specs.Groups.{AreDifferent, HoldsEachOnce}
use Rattle.optimality.specs.Optimal.{Permitted, Meets, Has, IsWhole, IsZeroOrOne, IsNotNegative, Reaches}
use Rattle.affine_forms.specs.FromCalculations.{exact}
use Rattle.affine_forms.specs.Steps.{subtracted}
use Rattle.affine_forms.proofs.Exact.{exact-turned_into}
use Rattle.affine_forms.specs.Forms.{AffineForm, constant_form}
use Rattle.linear_models.proofs.Wholes.{whole_is, is_whole}
use Rattle.linear_models.specs.Worths.{form_at, worth_of}
use Rattle.linear_models.specs.Box.{bound_at}
use Rattle.linear_models.specs.Model.{IsPoint, RowHolds, is_whole_at}
use Rattle.linear_models.specs.Statement.{Statement, stated, is_in, is_grouped}
use Rattle.linear_models.specs.Bounds.{is_marked, lower_bounds, upper_bounds, where_so, highest, lowest, least_of, greatest_of, lows_in, highs_in, size_in}
use Rattle.linear_models.specs.Linear.{linear, reaching, form_or_zero}
use Rattle.linear_models.specs.Agreement.{IsStated, IsGroupIn}
use Rattle.linear_models.proofs.Permits.{get_at}
use Rattle.linear_models.proofs.Tightest.{AllBelow, AllAbove, IfThereBelow, IfThereAbove, highest_is, lowest_is, rounded_up, rounded_down, where_below, where_above}
use Rattle.linear_models.proofs.Members.{or_cases, or_left, or_right, member_has, from_members, filter_back, filter_there, made_at, made_past, below_or_not}
use Rattle.linear_models.proofs.Sides.{all_parts, parts_below, parts_above, AllGive, rows_give, difference_stands, rows_exact, all_exact}
use Rattle.linear_models.proofs.Groups.{GroupAsks, IsWithinSizes, each_once, sizes_above, grouped_asks, all_greatest, all_asked}

some_is : {x y : ℚ} → Some x ≡ Some y → x ≡ y
some_is e = cc

-- ---- what is asked of a decision: whole, and between its bounds
and_is : (a b : Bool) → (a && b) ≡ true → (a ≡ true) × (b ≡ true)
and_is true b e = (refl, e)
and_is false b e = cc

and_both : (a b : Bool) → a ≡ true → b ≡ true → (a && b) ≡ true
and_both a b e f = ap₂ (λ s t. s && t) e f

pub record Asked (s : Statement) (a : Assignment) (j : ℕ) : Type 0 where
  pub whole : is_marked s j ≡ true → IsWhole (at a j)
  pub binary : is_in j s.binary ≡ true → IsZeroOrOne (at a j)
  pub not_negative : s.not_negative ≡ true → not (is_in j s.explicit) ≡ true → zero_ℚ ≤ℚ at a j
  pub least : is_grouped j s.groups ≡ true → one_ℚ ≤ℚ at a j
  pub greatest : AllByRecursion (IsWithinSizes j (at a j)) s.groups

zero_is_whole : IsWhole zero_ℚ
zero_is_whole = is_whole zero_ℚ (pos 0) (sym whole-zero)

one_is_whole : IsWhole one_ℚ
one_is_whole = is_whole one_ℚ (pos 1) (sym whole-one)

binary_whole : (x : ℚ) → IsZeroOrOne x → IsWhole x
binary_whole x (inl e) = subst IsWhole (sym e) zero_is_whole
binary_whole x (inr e) = subst IsWhole (sym e) one_is_whole

binary_low : (x : ℚ) → IsZeroOrOne x → zero_ℚ ≤ℚ x
binary_low x (inl e) = subst (λ t. zero_ℚ ≤ℚ t) (sym e) (le_refl zero_ℚ)
binary_low x (inr e) = subst (λ t. zero_ℚ ≤ℚ t) (sym e) (le_of_lt _ _ zero_lt_one)

binary_high : (x : ℚ) → IsZeroOrOne x → x ≤ℚ one_ℚ
binary_high x (inl e) = subst (λ t. t ≤ℚ one_ℚ) (sym e) (le_of_lt _ _ zero_lt_one)
binary_high x (inr e) = subst (λ t. t ≤ℚ one_ℚ) (sym e) (le_refl one_ℚ)

-- a whole number from 0 to 1
zero_or_one : (x : ℚ) → IsWhole x → zero_ℚ ≤ℚ x → x ≤ℚ one_ℚ → IsZeroOrOne x
zero_or_one x w l h =
    let e = whole_is x w in
    elim (small (numerator x) ((whole-le _ _).0 (subst (λ t. t ≤ℚ whole_ℚ (numerator x)) (sym whole-zero) (subst (λ t. zero_ℚ ≤ℚ t) e l))) ((whole-le _ _).0 (subst (λ t. whole_ℚ (numerator x) ≤ℚ t) (sym whole-one) (subst (λ t. t ≤ℚ one_ℚ) e h)))) [
      | inl q ↦ inl (e ∙ ap whole_ℚ q ∙ whole-zero)
      | inr q ↦ inr (e ∙ ap whole_ℚ q ∙ whole-one)
    ]
  where
    small : (n : ℤ) → pos 0 ≤ℤ n → n ≤ℤ pos 1 → (n ≡ pos 0) ⊎ (n ≡ pos 1)
    small (pos zero) l h = inl refl
    small (pos (suc zero)) l h = inr refl
    small (pos (suc (suc k))) l h = absurd (omega (arith, ints))
    small (negsuc k) l h = absurd (omega (arith, ints))

has_there : (P : ℚ → Type 0) (a : Assignment) (j : ℕ) → Has P a j → P (at a j)
has_there P a j h = subst P (found a j h.0 h.1) h.2
  where
    found : (a : Assignment) (j : ℕ) (x : ℚ) → slice_get a j ≡ Some x → x ≡ at a j
    found [] j x e = cc
    found (y ∷ a) zero x e = sym (some_is e)
    found (y ∷ a) (suc j) x e = found a j x e

has_back : (P : ℚ → Type 0) (a : Assignment) (j : ℕ) → j < length a → P (at a j) → Has P a j
has_back P a j h p = (at a j, get_at a j h, p)

-- of its groups
groups_ask : (s : Statement) (a : Assignment) → Permitted (stated s) a → AllByRecursion (GroupAsks a) s.groups × AllByRecursion (AreDifferent a) s.groups
groups_ask s a p = (each_once a s.groups).0 (recursion_from_All (HoldsEachOnce a) s.groups p.numbered)

asked : (s : Statement) (a : Assignment) → Permitted (stated s) a → (j : ℕ) → j < s.decisions → Asked s a j
asked s a p j h =
    let one : is_in j s.binary ≡ true → IsZeroOrOne (at a j) = λ e. has_there IsZeroOrOne a j (member_has (Has IsZeroOrOne a) s.binary j (recursion_from_All _ s.binary p.binary) e) in
    let g = (groups_ask s a p).0 in
    record {
      whole = λ e. ⊎_elim (λ (q : (is_in j s.whole || is_in j s.binary) ≡ true). marked one q) (λ (q : is_grouped j s.groups ≡ true). grouped_asks a (λ j. IsWhole (at a j)) j s.groups g (λ n k. k.whole) q) (or_cases (is_in j s.whole || is_in j s.binary) (is_grouped j s.groups) e);
      binary = one;
      not_negative = negative s.not_negative refl;
      least = grouped_asks a (λ j. one_ℚ ≤ℚ at a j) j s.groups g (λ n k. k.least);
      greatest = all_greatest a j s.groups g;
    }
  where
    marked : (is_in j s.binary ≡ true → IsZeroOrOne (at a j)) → (is_in j s.whole || is_in j s.binary) ≡ true → IsWhole (at a j)
    marked one e = ⊎_elim (λ (q : is_in j s.whole ≡ true). has_there IsWhole a j (member_has (Has IsWhole a) s.whole j (recursion_from_All _ s.whole p.whole) q)) (λ (q : is_in j s.binary ≡ true). binary_whole _ (one q)) (or_cases (is_in j s.whole) (is_in j s.binary) e)

    negative : (b : Bool) → s.not_negative ≡ b → b ≡ true → not (is_in j s.explicit) ≡ true → zero_ℚ ≤ℚ at a j
    negative true q e f = has_there IsNotNegative a j (filter_there (Has IsNotNegative a) (λ j. not (is_in j s.explicit)) 0 s.decisions (recursion_from_All _ _ (subst (λ b. All (Has IsNotNegative a) (cond b (filter (λ j. not (is_in j s.explicit)) (range_with_len 0 s.decisions)) [])) q p.not_negative)) j (omega arith) (omega (arith, h)) f)
    negative false q e f = cc

-- ---- bounds, all of them or the tightest one rounded
least_is : (s : Statement) (a : Assignment) (j : ℕ) → (is_marked s j ≡ true → IsWhole (at a j)) → AllBelow (lower_bounds s j) (at a j) ↔ IfThereBelow (least_of s j) (at a j)
least_is s a j w =
    let h = highest_is (lower_bounds s j) (at a j) in
    let r = rounded_up (is_marked s j) (highest (lower_bounds s j)) (at a j) w in
    (λ k. r.0 (h.0 k), λ k. h.1 (r.1 k))

greatest_is : (s : Statement) (a : Assignment) (j : ℕ) → (is_marked s j ≡ true → IsWhole (at a j)) → AllAbove (upper_bounds s j) (at a j) ↔ IfThereAbove (greatest_of s j) (at a j)
greatest_is s a j w =
    let h = lowest_is (upper_bounds s j) (at a j) in
    let r = rounded_down (is_marked s j) (lowest (upper_bounds s j)) (at a j) w in
    (λ k. r.0 (h.0 k), λ k. h.1 (r.1 k))

-- those that no row gives
pub record BelowParts (s : Statement) (j : ℕ) (x : ℚ) : Type 0 where
  pub binary : is_in j s.binary ≡ true → zero_ℚ ≤ℚ x
  pub not_negative : (s.not_negative && not (is_in j s.explicit)) ≡ true → zero_ℚ ≤ℚ x
  pub grouped : is_grouped j s.groups ≡ true → one_ℚ ≤ℚ x

pub record AboveParts (s : Statement) (j : ℕ) (x : ℚ) : Type 0 where
  pub binary : is_in j s.binary ≡ true → x ≤ℚ one_ℚ
  pub grouped : AllByRecursion (IsWithinSizes j x) s.groups

lower_parts : (s : Statement) (j : ℕ) (x : ℚ) → AllBelow (lower_bounds s j) x
    ↔ (AllBelow (flat_map (lows_in j) s.rows) x × BelowParts s j x)
lower_parts s j x =
    let b = where_so (is_in j s.binary) zero_ℚ in
    let n = where_so (s.not_negative && not (is_in j s.explicit)) zero_ℚ in
    let g = where_so (is_grouped j s.groups) one_ℚ in
    let p = parts_below (flat_map (lows_in j) s.rows) (b ++ (n ++ g)) x in
    let q = parts_below b (n ++ g) x in
    let r = parts_below n g x in
    let u = where_below (is_in j s.binary) zero_ℚ x in
    let v = where_below (s.not_negative && not (is_in j s.explicit)) zero_ℚ x in
    let w = where_below (is_grouped j s.groups) one_ℚ x in (
      λ h. ((p.0 h).0, record { binary = u.0 (q.0 (p.0 h).1).0; not_negative = v.0 (r.0 (q.0 (p.0 h).1).1).0; grouped = w.0 (r.0 (q.0 (p.0 h).1).1).1 }),
      λ h. p.1 (h.0, q.1 (u.1 h.1.binary, r.1 (v.1 h.1.not_negative, w.1 h.1.grouped))),
    )

upper_parts : (s : Statement) (j : ℕ) (x : ℚ) → AllAbove (upper_bounds s j) x ↔ (AllAbove (flat_map (highs_in j) s.rows) x × AboveParts s j x)
upper_parts s j x =
    let b = where_so (is_in j s.binary) one_ℚ in
    let p = parts_above (flat_map (highs_in j) s.rows) (b ++ flat_map (size_in j) s.groups) x in
    let q = parts_above b (flat_map (size_in j) s.groups) x in
    let u = where_above (is_in j s.binary) one_ℚ x in
    let v = sizes_above j s.groups x in
    (λ h. ((p.0 h).0, record { binary = u.0 (q.0 (p.0 h).1).0; grouped = v.0 (q.0 (p.0 h).1).1 }), λ h. p.1 (h.0, q.1 (u.1 h.1.binary, v.1 h.1.grouped)))

-- ---- a value to be reached
number_at : (v : ℚ) (a : Assignment) → form_at (constant_form v) a ≡ v
number_at v a = add-zero v

abbrev pub reach_exact : Goal → AffineForm → List (AffineForm × Relation)
reach_exact greatest f = []
reach_exact least f = []
reach_exact (reach v) f = (exact (subtracted f (constant_form v)), equal) ∷ []

last_exact : (g : Goal) (f : AffineForm) → exact (reaching g f) ≡ reach_exact g f
last_exact greatest f = refl
last_exact least f = refl
last_exact (reach v) f = exact-turned_into _ (subtracted f (constant_form v))

pub rows_of : (s : Statement) → (linear s).rows ≡ rows_exact s.rows ++ reach_exact s.goal (form_or_zero s.objective)
rows_of s = all_exact s.rows _ ∙ ap (λ rows. rows_exact s.rows ++ rows) (last_exact s.goal (form_or_zero s.objective))

reach_there : (g : Goal) (o : Option AffineForm) (a : Assignment) → (o ≡ None → g ≡ greatest) → Reaches g (option_map worth_of o) a → AllByRecursion (RowHolds a) (reach_exact g (form_or_zero o))
reach_there greatest o a w h = tt
reach_there least o a w h = tt
reach_there (reach v) None a w h = let e : reach v ≡ greatest = w refl in absurd (cc)
reach_there (reach v) (Some f) a w h = ((difference_stands f (constant_form v) equal a).0 (some_is h ∙ sym (number_at v a)), tt)

reach_back : (g : Goal) (o : Option AffineForm) (a : Assignment) → (o ≡ None → g ≡ greatest) → AllByRecursion (RowHolds a) (reach_exact g (form_or_zero o)) → Reaches g (option_map worth_of o) a
reach_back greatest o a w h = tt
reach_back least o a w h = tt
reach_back (reach v) None a w h = tt
reach_back (reach v) (Some f) a w h = ap Some ((difference_stands f (constant_form v) equal a).1 h.0 ∙ number_at v a)

-- ---- both ways
permitted_there : (s : Statement) → IsStated s → (a : Assignment) → Permitted (stated s) a → IsPoint (linear s) a
permitted_there s w a p =
    let g = (rows_give s.decisions a s.rows (recursion_from_All _ s.rows w.own)).0 (recursion_from_All _ _ p.rows) in
    record {
      one_each = p.one_each ∙ sym (length-map-range_with_len (is_marked s) 0 s.decisions);
      rows = All-from_recursion (RowHolds a) _ (subst (AllByRecursion (RowHolds a)) (sym (rows_of s)) ((all_parts (RowHolds a) (rows_exact s.rows) _).1 (g.rows, reach_there s.goal s.objective a w.goal p.reached)));
      whole = λ j e. whole j e (below_or_not j s.decisions);
      bounds = record { least = λ j b e. low g j b e (below_or_not j s.decisions); greatest = λ j b e. high g j b e (below_or_not j s.decisions) };
      different = All-from_recursion (AreDifferent a) s.groups (groups_ask s a p).1;
    }
  where
    whole : (j : ℕ) → is_whole_at (linear s).whole j ≡ true → (j < s.decisions) ⊎ (s.decisions ≤ j) → IsWhole (at a j)
    whole j e (inl h) = (asked s a p j h).whole (sym (made_at (is_marked s) s.decisions j false h) ∙ e)
    whole j e (inr h) = let q : false ≡ true = sym (made_past (is_marked s) s.decisions j false h) ∙ e in absurd (cc)

    low : AllGive s.decisions a s.rows → (j : ℕ) (b : ℚ) → bound_at (linear s).bounds.least j ≡ Some b → (j < s.decisions) ⊎ (s.decisions ≤ j) → b ≤ℚ at a j
    low g j b e (inl h) =
        let k = asked s a p j h in
        (least_is s a j k.whole).0 ((lower_parts s j (at a j)).1 (g.lows j h, record { binary = λ q. binary_low _ (k.binary q); not_negative = λ q. let r = and_is s.not_negative (not (is_in j s.explicit)) q in k.not_negative r.0 r.1; grouped = k.least })) b (sym (made_at (least_of s) s.decisions j None h) ∙ e)
    low g j b e (inr h) = let q : None ≡ Some b = sym (made_past (least_of s) s.decisions j None h) ∙ e in absurd (cc)

    high : AllGive s.decisions a s.rows → (j : ℕ) (b : ℚ) → bound_at (linear s).bounds.greatest j ≡ Some b → (j < s.decisions) ⊎ (s.decisions ≤ j) → at a j ≤ℚ b
    high g j b e (inl h) =
        let k = asked s a p j h in
        (greatest_is s a j k.whole).0 ((upper_parts s j (at a j)).1 (g.highs j h, record { binary = λ q. binary_high _ (k.binary q); grouped = k.greatest })) b (sym (made_at (greatest_of s) s.decisions j None h) ∙ e)
    high g j b e (inr h) = let q : None ≡ Some b = sym (made_past (greatest_of s) s.decisions j None h) ∙ e in absurd (cc)

permitted_back : (s : Statement) → IsStated s → (a : Assignment) → IsPoint (linear s) a → Permitted (stated s) a
permitted_back s w a p =
    let n : length a ≡ s.decisions = p.one_each ∙ length-map-range_with_len (is_marked s) 0 s.decisions in
    let parts = (all_parts (RowHolds a) (rows_exact s.rows) (reach_exact s.goal (form_or_zero s.objective))).0 (subst (AllByRecursion (RowHolds a)) (rows_of s) (recursion_from_All (RowHolds a) _ p.rows)) in
    record {
      one_each = n;
      rows = All-from_recursion (Meets a) _ ((rows_give s.decisions a s.rows (recursion_from_All _ s.rows w.own)).1 record { rows = parts.0; lows = λ j h. (lows j h).0; highs = λ j h. (highs j h).0 });
      whole = All-from_recursion (Has IsWhole a) _ (from_members (Has IsWhole a) s.decisions s.whole (recursion_from_All _ s.whole w.whole) (λ j h e. has_back IsWhole a j (omega (arith, n)) (whole j h (or_left (is_in j s.whole || is_in j s.binary) _ (or_left (is_in j s.whole) _ e)))));
      binary = All-from_recursion (Has IsZeroOrOne a) _ (from_members (Has IsZeroOrOne a) s.decisions s.binary (recursion_from_All _ s.binary w.binary) (λ j h e. has_back IsZeroOrOne a j (omega (arith, n)) (zero_or_one (at a j) (whole j h (or_left (is_in j s.whole || is_in j s.binary) _ (or_right (is_in j s.whole) _ e))) ((lows j h).1.binary e) ((highs j h).1.binary e))));
      not_negative = All-from_recursion (Has IsNotNegative a) _ (negative n s.not_negative refl);
      numbered = All-from_recursion (HoldsEachOnce a) s.groups ((each_once a s.groups).1 (asks, recursion_from_All (AreDifferent a) s.groups p.different));
      different = All-from_recursion (AreDifferent a) [] tt;
      reached = reach_back s.goal s.objective a w.goal parts.1;
    }
  where
    whole : (j : ℕ) → j < s.decisions → is_marked s j ≡ true → IsWhole (at a j)
    whole j h e = p.whole j (made_at (is_marked s) s.decisions j false h ∙ e)

    lows : (j : ℕ) → j < s.decisions → AllBelow (flat_map (lows_in j) s.rows) (at a j) × BelowParts s j (at a j)
    lows j h = (lower_parts s j (at a j)).0 ((least_is s a j (whole j h)).1 (λ b e. p.bounds.least j b (made_at (least_of s) s.decisions j None h ∙ e)))

    highs : (j : ℕ) → j < s.decisions → AllAbove (flat_map (highs_in j) s.rows) (at a j) × AboveParts s j (at a j)
    highs j h = (upper_parts s j (at a j)).0 ((greatest_is s a j (whole j h)).1 (λ b e. p.bounds.greatest j b (made_at (greatest_of s) s.decisions j None h ∙ e)))

    asks : AllByRecursion (GroupAsks a) s.groups
    asks = all_asked a s.groups s.groups s.decisions (recursion_from_All (IsGroupIn s.decisions) s.groups w.groups) (λ j q. q)
        (λ j l e. (whole j l (or_right (is_in j s.whole || is_in j s.binary) (is_grouped j s.groups) e), (lows j l).1.grouped e)) (λ j l. (highs j l).1.grouped)

    negative : length a ≡ s.decisions → (b : Bool) → s.not_negative ≡ b → AllByRecursion (Has IsNotNegative a) (cond b (filter (λ j. not (is_in j s.explicit)) (range_with_len 0 s.decisions)) [])
    negative n true q = filter_back (Has IsNotNegative a) (λ j. not (is_in j s.explicit)) 0 s.decisions (λ j h e. has_back IsNotNegative a j (omega (arith, n, h)) ((lows j (omega (arith, h))).1.not_negative (and_both s.not_negative (not (is_in j s.explicit)) q e)))
    negative n false q = tt

pub linear_permits : (s : Statement) → IsStated s → (a : Assignment) → Permitted (stated s) a ↔ IsPoint (linear s) a
linear_permits s w a = (permitted_there s w a, permitted_back s w a)

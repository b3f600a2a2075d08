-- Lists of terms, term by term.
use Rattle.std.proofs.Common.{◌≡◌, refl, sym, ap, ◌∙◌, subst, ℕ, zero, suc, ◌<◌, ◌≤◌, ◌+◌, Bool, true, false, if◌then◌else◌, List, [], ◌∷◌, ◌++◌, Some, None, Option, length, get_or, drop, take, ◌-◌, drop-cons, add-one, append_assoc, append-nil, arith, ◌⊎◌, inl, inr}
use Rattle.std.specs.Prelude.{◌==◌, ◌≢◌}
use Rattle.std.proofs.lemmas.List.{drop_all, take_all, length-drop}
use Rattle.std.specs.Option.{option_map}
use Rattle.std.proofs.lemmas.Bool.{lt-ltb, le-ltb, eq-eqb, ne_eqb}
use Rattle.fractions.specs.Rational.{ℚ, zero_ℚ, eq_ℚ, ◌+ℚ◌, ◌*ℚ◌}
use Rattle.fractions.proofs.Order.{eq_iff}
use Rattle.calculations.specs.Calculation.{Calculation, sum, product, done, after, narrow, stays_narrow, turned_into, followed_by}
use Rattle.calculations.proofs.CalculationLaws.{narrow-turned_into, behind_answers}
use Rattle.affine_forms.specs.Forms.{Assignment}
use Rattle.affine_forms.specs.Assigned.{ReachTo}
use Rattle.affine_forms.specs.Lists.{summed}
use Rattle.affine_forms.specs.Steps.{merged, in_front, scaled_terms}
use Rattle.affine_forms.proofs.Stepping.{goes_on, stops}

abbrev pub Terms : Type 0
Terms = List (ℕ × ℚ)

-- what is left from a place on
pub rest_from : {A : Type 0} (xs : List A) (i : ℕ) (x : A) → i < length xs → x ≡ get_or xs i x → drop i xs ≡ x ∷ drop (i + 1) xs
rest_from xs i x h e = rw (add-one, drop-cons xs i x h, ← e) refl

-- ---- a term in front of an answer
behind_more : {A : Type 0} (front : List A) (a : A) (o : Option (List A)) → behind_answers front (option_map (λ xs. a ∷ xs) o) ≡ behind_answers (front ++ a ∷ []) o
behind_more front a None = refl
behind_more front a (Some xs) = ap Some (sym (append_assoc front (a ∷ []) xs))

-- a term whose coefficient is 0, and another
pub front_zero : (j : ℕ) (c : ℚ) (ts : Terms) → c ≡ zero_ℚ → in_front j c ts ≡ ts
front_zero j c ts h = ap (λ b. if b then ts else (j, c) ∷ ts) ((eq_iff c zero_ℚ).1 h)

unequal : (c : ℚ) (b : Bool) → eq_ℚ c zero_ℚ ≡ b → c ≢ zero_ℚ → b ≡ false
unequal c true e h = absurd (h ((eq_iff c zero_ℚ).0 e))
unequal c false e h = refl

pub front_some : (j : ℕ) (c : ℚ) (ts : Terms) → c ≢ zero_ℚ → in_front j c ts ≡ (j, c) ∷ ts
front_some j c ts h = ap (λ b. if b then ts else (j, c) ∷ ts) (unequal c (eq_ℚ c zero_ℚ) refl h)

-- the front of the answers with such a term
front_appended : (front : Terms) (j : ℕ) (c : ℚ) (ts : Terms) (b : Bool) → front ++ (if b then ts else (j, c) ∷ ts) ≡ (front ++ (if b then [] else (j, c) ∷ [])) ++ ts
front_appended front j c ts true = ap (λ f. f ++ ts) (sym (append-nil front))
front_appended front j c ts false = sym (append_assoc front ((j, c) ∷ []) ts)

behind_front : (front : Terms) (j : ℕ) (c : ℚ) (o : Option Terms) → behind_answers front (option_map (in_front j c) o) ≡ behind_answers (front ++ in_front j c []) o
behind_front front j c None = refl
behind_front front j c (Some ts) = ap Some (front_appended front j c ts (eq_ℚ c zero_ℚ))

-- ---- sums
module _ (t u : ℕ × ℚ) (ts us : Terms) where
  abbrev by_tests : Bool → Bool → Calculation Terms
  by_tests a b = if a then turned_into (λ vs. t ∷ vs) (merged ts (u ∷ us)) else if b then after (sum t.1 u.1) (λ c. turned_into (in_front t.0 c) (merged ts us)) else turned_into (λ vs. u ∷ vs) (merged (t ∷ ts) us)

  pub first_is : t.0 < u.0 → narrow (merged (t ∷ ts) (u ∷ us)) ≡ option_map (λ vs. t ∷ vs) (narrow (merged ts (u ∷ us)))
  first_is h = ap (λ b. narrow (by_tests b (t.0 == u.0))) (lt-ltb t.0 u.0 h) ∙ narrow-turned_into (λ vs. t ∷ vs) (merged ts (u ∷ us))

  pub second_is : u.0 < t.0 → narrow (merged (t ∷ ts) (u ∷ us)) ≡ option_map (λ vs. u ∷ vs) (narrow (merged (t ∷ ts) us))
  second_is h =
      ap (λ b. narrow (by_tests b (t.0 == u.0))) (le-ltb t.0 u.0 (omega arith))
      ∙ ap (λ b. narrow (by_tests false b)) (ne_eqb t.0 u.0 (λ (e : t.0 ≡ u.0). absurd (omega arith)))
      ∙ narrow-turned_into (λ vs. u ∷ vs) (merged (t ∷ ts) us)

  pub both_is : t.0 ≡ u.0 → narrow (merged (t ∷ ts) (u ∷ us)) ≡ narrow (after (sum t.1 u.1) (λ c. turned_into (in_front t.0 c) (merged ts us)))
  both_is h = ap (λ b. narrow (by_tests b (t.0 == u.0))) (le-ltb t.0 u.0 (omega arith)) ∙ ap (λ b. narrow (by_tests false b)) (eq-eqb t.0 u.0 h)

module _ (whole : Option Terms) (front left right ts us : Terms) (t u : ℕ × ℚ) (e : left ≡ t ∷ ts) (d : right ≡ u ∷ us)
    (so_far : whole ≡ behind_answers front (narrow (merged left right))) where
  here : whole ≡ behind_answers front (narrow (merged (t ∷ ts) (u ∷ us)))
  here = subst (λ l. whole ≡ behind_answers front (narrow (merged l (u ∷ us)))) e (subst (λ r. whole ≡ behind_answers front (narrow (merged left r))) d so_far)

  pub first_goes : t.0 < u.0 → whole ≡ behind_answers (front ++ t ∷ []) (narrow (merged ts right))
  first_goes h = here ∙ ap (behind_answers front) (first_is t u ts us h) ∙ behind_more front t _ ∙ ap (λ r. behind_answers (front ++ t ∷ []) (narrow (merged ts r))) (sym d)

  pub second_goes : u.0 < t.0 → whole ≡ behind_answers (front ++ u ∷ []) (narrow (merged left us))
  second_goes h = here ∙ ap (behind_answers front) (second_is t u ts us h) ∙ behind_more front u _ ∙ ap (λ l. behind_answers (front ++ u ∷ []) (narrow (merged l us))) (sym e)

  pub both_stop : t.0 ≡ u.0 → stays_narrow (sum t.1 u.1) ≡ false → whole ≡ None
  both_stop h w = here ∙ ap (behind_answers front) (both_is t u ts us h ∙ stops (sum t.1 u.1) (λ x. turned_into (in_front t.0 x) (merged ts us)) w)

  both_go : (c : ℚ) → t.0 ≡ u.0 → c ≡ t.1 +ℚ u.1 → stays_narrow (sum t.1 u.1) ≡ true → whole ≡ behind_answers front (option_map (in_front t.0 c) (narrow (merged ts us)))
  both_go c h s w = here ∙ ap (behind_answers front) (both_is t u ts us h ∙ goes_on (sum t.1 u.1) (λ x. turned_into (in_front t.0 x) (merged ts us)) c s w ∙ narrow-turned_into (in_front t.0 c) (merged ts us))

  pub both_goes : (c : ℚ) → t.0 ≡ u.0 → c ≡ t.1 +ℚ u.1 → stays_narrow (sum t.1 u.1) ≡ true → whole ≡ behind_answers (front ++ in_front t.0 c []) (narrow (merged ts us))
  both_goes c h s w = both_go c h s w ∙ behind_front front t.0 c _

-- at the end of one list the rest of the other stands as it is
pub merged_nil : (ts : Terms) → narrow (merged ts []) ≡ Some ts
merged_nil [] = refl
merged_nil (t ∷ ts) = narrow-turned_into (λ vs. t ∷ vs) (merged ts []) ∙ ap (option_map (λ vs. t ∷ vs)) (merged_nil ts)

first_ends : (whole : Option Terms) (front left right : Terms) → left ≡ [] → whole ≡ behind_answers front (narrow (merged left right)) → whole ≡ Some (front ++ right)
first_ends whole front left right e h = h ∙ ap (λ l. behind_answers front (narrow (merged l right))) e

second_ends : (whole : Option Terms) (front left right : Terms) → right ≡ [] → whole ≡ behind_answers front (narrow (merged left right)) → whole ≡ Some (front ++ left)
second_ends whole front left right e h = h ∙ ap (λ r. behind_answers front (narrow (merged left r))) e ∙ ap (behind_answers front) (merged_nil left)

drop_past : (xs : Terms) (i : ℕ) → length xs ≤ i → drop i xs ≡ []
drop_past xs i h = drop_all i xs h

-- a range up to the end is the rest
pub rest_taken : (xs : Terms) (i : ℕ) → take (length xs - i) (drop i xs) ≡ drop i xs
rest_taken xs i = take_all (length xs - i) (drop i xs) (simp length-drop (omega arith))

first_ended : (whole : Option Terms) (front left right : Terms) (i j : ℕ) → length left ≤ i → whole ≡ behind_answers front (narrow (merged (drop i left) (drop j right)))
    → whole ≡ Some ((front ++ drop i left) ++ drop j right)
first_ended whole front left right i j h e =
    first_ends whole front _ _ (drop_past left i h) e ∙ ap (λ f. Some (f ++ drop j right)) (sym (ap (λ l. front ++ l) (drop_past left i h) ∙ append-nil front))

second_ended : (whole : Option Terms) (front left right : Terms) (i j : ℕ) → length right ≤ j → whole ≡ behind_answers front (narrow (merged (drop i left) (drop j right)))
    → whole ≡ Some ((front ++ drop i left) ++ drop j right)
second_ended whole front left right i j h e =
    second_ends whole front _ _ (drop_past right j h) e ∙ ap Some (sym (ap (λ r. (front ++ drop i left) ++ r) (drop_past right j h) ∙ append-nil _))

pub ended : (whole : Option Terms) (front left right : Terms) (i j : ℕ) → (length left ≤ i) ⊎ (length right ≤ j) → whole ≡ behind_answers front (narrow (merged (drop i left) (drop j right)))
    → whole ≡ Some ((front ++ drop i left) ++ drop j right)
ended whole front left right i j (inl h) e = first_ended whole front left right i j h e
ended whole front left right i j (inr h) e = second_ended whole front left right i j h e

-- ---- multiples
module _ (whole : Option Terms) (front rest ts : Terms) (t : ℕ × ℚ) (k : ℚ) (e : rest ≡ t ∷ ts) (so_far : whole ≡ behind_answers front (narrow (scaled_terms k rest))) where
  scaled_here : whole ≡ behind_answers front (narrow (scaled_terms k (t ∷ ts)))
  scaled_here = subst (λ r. whole ≡ behind_answers front (narrow (scaled_terms k r))) e so_far

  pub scaled_stop : stays_narrow (product t.1 k) ≡ false → whole ≡ None
  scaled_stop w = scaled_here ∙ ap (behind_answers front) (stops (product t.1 k) (λ x. turned_into (in_front t.0 x) (scaled_terms k ts)) w)

  scaled_go : (c : ℚ) → c ≡ t.1 *ℚ k → stays_narrow (product t.1 k) ≡ true → whole ≡ behind_answers front (option_map (in_front t.0 c) (narrow (scaled_terms k ts)))
  scaled_go c s w = scaled_here ∙ ap (behind_answers front) (goes_on (product t.1 k) (λ x. turned_into (in_front t.0 x) (scaled_terms k ts)) c s w ∙ narrow-turned_into (in_front t.0 c) (scaled_terms k ts))

  pub scaled_goes : (c : ℚ) → c ≡ t.1 *ℚ k → stays_narrow (product t.1 k) ≡ true → whole ≡ behind_answers (front ++ in_front t.0 c []) (narrow (scaled_terms k ts))
  scaled_goes c s w = scaled_go c s w ∙ behind_front front t.0 c _

-- ---- values
-- the first of the terms from a place on, which is below the bound
pub reach_first : (rest ts : Terms) (t : ℕ × ℚ) (n : ℕ) → rest ≡ t ∷ ts → ReachTo rest n → (t.0 < n) × ReachTo ts n
reach_first rest ts t n e h = subst (λ r. ReachTo r n) e h

module _ (x : Assignment) (whole : Option ℚ) (so_far : ℚ) (rest ts : Terms) (t : ℕ × ℚ) (e : rest ≡ t ∷ ts) (h : whole ≡ narrow (summed x so_far rest)) where
  summed_here : whole ≡ narrow (summed x so_far (t ∷ ts))
  summed_here = subst (λ r. whole ≡ narrow (summed x so_far r)) e h

  abbrev with_product : ℚ → Calculation ℚ
  with_product p = followed_by (after (sum so_far p) done) (λ next. summed x next ts)

  pub product_stops : stays_narrow (product t.1 (x t.0)) ≡ false → whole ≡ None
  product_stops w = summed_here ∙ stops (product t.1 (x t.0)) with_product w

  with_sum : (p : ℚ) → p ≡ t.1 *ℚ x t.0 → stays_narrow (product t.1 (x t.0)) ≡ true → whole ≡ narrow (after (sum so_far p) (λ s. summed x s ts))
  with_sum p s w = summed_here ∙ goes_on (product t.1 (x t.0)) with_product p s w

  pub sum_stops : (p : ℚ) → p ≡ t.1 *ℚ x t.0 → stays_narrow (product t.1 (x t.0)) ≡ true → stays_narrow (sum so_far p) ≡ false → whole ≡ None
  sum_stops p s w v = with_sum p s w ∙ stops (sum so_far p) (λ s. summed x s ts) v

  pub sum_goes : (p next : ℚ) → p ≡ t.1 *ℚ x t.0 → stays_narrow (product t.1 (x t.0)) ≡ true → next ≡ so_far +ℚ p → stays_narrow (sum so_far p) ≡ true → whole ≡ narrow (summed x next ts)
  sum_goes p next s w u v = with_sum p s w ∙ goes_on (sum so_far p) (λ s. summed x s ts) next u v

-- an element that is there
pub element_is : (xs : List ℚ) (i : ℕ) (y : ℚ) → i < length xs → y ≡ get_or xs i y → get_or xs i zero_ℚ ≡ y
element_is [] i y h e = absurd (omega arith)
element_is (v ∷ xs) zero y h e = sym e
element_is (v ∷ xs) (suc i) y h e = element_is xs i y (omega arith) e

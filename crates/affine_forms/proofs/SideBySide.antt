-- Lists of terms that are compared, and the order of their decisions.
use Rattle.std.proofs.Common.{◌≡◌, ◌↔◌, refl, sym, ap, ◌∙◌, subst, ℕ, zero, suc, ◌<◌, ◌≤◌, ◌+◌, ◌-◌, Bool, true, false, true≢false, if◌then◌else◌, List, [], ◌∷◌, ◌++◌, Some, None, Option, length, get_or, drop, arith, rules}
use Rattle.std.specs.Prelude.{◌==◌, ◌&&◌, ◌≢◌, IsTrue, leb, nat_lt}
use Rattle.std.specs.Option.{option_map}
use Rattle.std.proofs.lemmas.Bool.{eq-eqb, eqb-true, eqb-false, le-leb, leb-true, leb-false, ltb-true, lt-ltb, false_from_ne_true}
use Rattle.std.proofs.lemmas.List.{drop_all}
use Rattle.fractions.specs.Rational.{ℚ, zero_ℚ, eq_ℚ, ◌*ℚ◌}
use Rattle.calculations.specs.Calculation.{product, narrow, stays_narrow, turned_into}
use Rattle.calculations.proofs.CalculationLaws.{narrow-turned_into}
use Rattle.affine_forms.specs.Forms.{RiseFrom, same_terms}
use Rattle.affine_forms.specs.Assigned.{ReachTo}
use Rattle.affine_forms.specs.Lists.{IsBelow, IsBehind}
use Rattle.affine_forms.specs.Steps.{merged, in_front, scaled_terms}
use Rattle.affine_forms.proofs.Stepping.{goes_on, stops}
use Rattle.affine_forms.proofs.TermSteps.{Terms, rest_from, front_zero, front_some, first_is, merged_nil}

-- two tests of one fact
pub agreeing : (a b : Bool) (P : Type 0) → IsTrue a ↔ P → IsTrue b ↔ P → a ≡ b
agreeing true b P h k = sym (k.1 (h.0 refl))
agreeing false b P h k = sym (false_from_ne_true b (λ e. true≢false (sym (h.1 (k.0 e)))))

-- ---- a term at a place
pub at_place : (terms : Terms) (i j : ℕ) (c : ℚ) (t : ℕ × ℚ) (b : Bool) → i < length terms → t ≡ get_or terms i t → b ≡ eq_ℚ t.1 c → t.0 ≡ j
    → (others : Terms) → same_terms (drop i terms) ((j, c) ∷ others) ≡ (b && same_terms (drop (i + 1) terms) others)
at_place terms i j c t b l e s d others =
    ap (λ ts. same_terms ts ((j, c) ∷ others)) (rest_from terms i t l e) ∙ ap (λ a. a && (eq_ℚ t.1 c && same_terms (drop (i + 1) terms) others)) (eq-eqb t.0 j d)
    ∙ ap (λ a. a && same_terms (drop (i + 1) terms) others) (sym s)

-- a list that ends
end_found : (ts : Terms) (i : ℕ) (b : Bool) → leb (length ts) i ≡ b → same_terms (drop i ts) [] ≡ b
end_found [] i b h = ap (λ us. same_terms us []) (drop_all i [] (omega arith)) ∙ sym (le-leb 0 i (omega arith)) ∙ h
end_found (t ∷ ts) i true h = ap (λ us. same_terms us []) (drop_all i (t ∷ ts) (leb-true (length (t ∷ ts)) i h))
end_found (t ∷ ts) i false h = some_left (drop i (t ∷ ts)) (Rattle.std.proofs.lemmas.List.length-drop i (t ∷ ts))
  where
    some_left : (us : Terms) → length us ≡ length (t ∷ ts) - i → same_terms us [] ≡ false
    some_left [] e = let l : i < length (t ∷ ts) = leb-false (length (t ∷ ts)) i h in absurd (omega arith)
    some_left (u ∷ us) e = refl

pub end_is : (ts : Terms) (i : ℕ) → same_terms (drop i ts) [] ≡ leb (length ts) i
end_is ts i = end_found ts i (leb (length ts) i) refl

-- ---- others times a number
regrouped : (a b c : Bool) → (a && (b && c)) ≡ ((a && b) && c)
regrouped true b c = refl
regrouped false b c = refl

module _ (whole : Option Bool) (s : Bool) (left rest ts : Terms) (t : ℕ × ℚ) (k : ℚ) (e : rest ≡ t ∷ ts)
    (so_far : whole ≡ option_map (λ us. s && same_terms left us) (narrow (scaled_terms k rest))) where
  compared_here : whole ≡ option_map (λ us. s && same_terms left us) (narrow (scaled_terms k (t ∷ ts)))
  compared_here = subst (λ r. whole ≡ option_map (λ us. s && same_terms left us) (narrow (scaled_terms k r))) e so_far

  pub compared_stop : stays_narrow (product t.1 k) ≡ false → whole ≡ None
  compared_stop w = compared_here ∙ ap (option_map (λ us. s && same_terms left us)) (stops (product t.1 k) (λ x. turned_into (in_front t.0 x) (scaled_terms k ts)) w)

  compared_go : (c : ℚ) → c ≡ t.1 *ℚ k → stays_narrow (product t.1 k) ≡ true → whole ≡ option_map (λ us. s && same_terms left us) (option_map (in_front t.0 c) (narrow (scaled_terms k ts)))
  compared_go c h w =
      compared_here
      ∙ ap (option_map (λ us. s && same_terms left us)) (goes_on (product t.1 k) (λ x. turned_into (in_front t.0 x) (scaled_terms k ts)) c h w ∙ narrow-turned_into (in_front t.0 c) (scaled_terms k ts))

  pub compared_zero : (c : ℚ) → c ≡ t.1 *ℚ k → stays_narrow (product t.1 k) ≡ true → c ≡ zero_ℚ → whole ≡ option_map (λ us. s && same_terms left us) (narrow (scaled_terms k ts))
  compared_zero c h w z = compared_go c h w ∙ by_cases (narrow (scaled_terms k ts))
    where
      by_cases : (o : Option Terms) → option_map (λ us. s && same_terms left us) (option_map (in_front t.0 c) o) ≡ option_map (λ us. s && same_terms left us) o
      by_cases None = refl
      by_cases (Some us) = ap (λ vs. Some (s && same_terms left vs)) (front_zero t.0 c us z)

  pub compared_some : (c : ℚ) → c ≡ t.1 *ℚ k → stays_narrow (product t.1 k) ≡ true → c ≢ zero_ℚ → (b : Bool) (others : Terms)
      → ((us : Terms) → same_terms left ((t.0, c) ∷ us) ≡ (b && same_terms others us)) → whole ≡ option_map (λ us. (s && b) && same_terms others us) (narrow (scaled_terms k ts))
  compared_some c h w z b others g = compared_go c h w ∙ by_cases (narrow (scaled_terms k ts))
    where
      by_cases : (o : Option Terms) → option_map (λ us. s && same_terms left us) (option_map (in_front t.0 c) o) ≡ option_map (λ us. (s && b) && same_terms others us) o
      by_cases None = refl
      by_cases (Some us) = ap Some (ap (λ vs. s && same_terms left vs) (front_some t.0 c us z) ∙ ap (λ r. s && r) (g us) ∙ regrouped s b (same_terms others us))

pub compared_end : (whole : Option Bool) (s : Bool) (terms others : Terms) (i j : ℕ) (k : ℚ) → length others ≤ j
    → whole ≡ option_map (λ us. s && same_terms (drop i terms) us) (narrow (scaled_terms k (drop j others))) → whole ≡ Some (s && leb (length terms) i)
compared_end whole s terms others i j k h e =
    e ∙ ap (λ us. option_map (λ us. s && same_terms (drop i terms) us) (narrow (scaled_terms k us))) (drop_all j others h) ∙ ap (λ b. Some (s && b)) (end_is terms i)

-- ---- terms behind others
pub behind_nothing : (ts : Terms) → IsBehind ts []
behind_nothing [] = tt
behind_nothing (t ∷ ts) = (tt, behind_nothing ts)

lower : (j k : ℕ) (us : Terms) → j ≤ k → IsBelow k us → IsBelow j us
lower j k [] h b = tt
lower j k (u ∷ us) h b = omega arith

-- where the last of terms that rise is below others, all are
pub behind_last : (n : ℕ) (ts us : Terms) (t : ℕ × ℚ) (i : ℕ) → RiseFrom n ts → length ts ≡ suc i → t ≡ get_or ts i t → IsBelow t.0 us → IsBehind ts us
behind_last n [] us t i r l e b = tt
behind_last n (v ∷ []) us t zero r l e b = (subst (λ (w : ℕ × ℚ). IsBelow w.0 us) e b, tt)
behind_last n (v ∷ []) us t (suc i) r l e b = absurd (omega arith)
behind_last n (v ∷ (w ∷ ws)) us t zero r l e b = absurd (omega arith)
behind_last n (v ∷ (w ∷ ws)) us t (suc i) r l e b =
    let rest = behind_last (suc v.0) (w ∷ ws) us t i r.2 (omega arith) e b in
    let above : suc v.0 ≤ w.0 = r.2.0 in
    (lower v.0 w.0 us (omega arith) rest.0, rest)

pub some_there : (ts : Terms) (b : Bool) → b ≡ (length ts == 0) → b ≡ false → length ts ≡ suc (length ts - 1)
some_there ts b e h = let n : ¬ (length ts ≡ 0) = eqb-false (length ts) 0 (sym e ∙ h) in omega (arith, n)

nothing_there : (ts : Terms) → length ts ≡ 0 → ts ≡ []
nothing_there [] h = refl
nothing_there (t ∷ ts) h = absurd (omega arith)

pub first_empty : (ts us : Terms) (b : Bool) → b ≡ (length ts == 0) → b ≡ true → IsBehind ts us
first_empty ts us b e h = subst (λ vs. IsBehind vs us) (sym (nothing_there ts (eqb-true (length ts) 0 (sym e ∙ h)))) tt

pub second_empty : (ts us : Terms) (b : Bool) → b ≡ (length us == 0) → b ≡ true → IsBehind ts us
second_empty ts us b e h = subst (IsBehind ts) (sym (nothing_there us (eqb-true (length us) 0 (sym e ∙ h)))) (behind_nothing ts)

pub below_first : (j : ℕ) (us : Terms) (u : ℕ × ℚ) → u ≡ get_or us 0 u → j < u.0 → IsBelow j us
below_first j [] u e h = tt
below_first j (v ∷ us) u e h = subst (λ (w : ℕ × ℚ). j < w.0) e h

pub behind_merged : (ts us : Terms) → IsBehind ts us → narrow (merged ts us) ≡ Some (ts ++ us)
behind_merged [] us b = refl
behind_merged (t ∷ ts) [] b = merged_nil (t ∷ ts) ∙ ap Some (sym (Rattle.std.proofs.Common.append-nil (t ∷ ts)))
behind_merged (t ∷ ts) (u ∷ us) b = first_is t u ts us b.0 ∙ ap (option_map (λ vs. t ∷ vs)) (behind_merged ts (u ∷ us) b.1)

-- ---- two lists, place by place
pub same_step : (whole : Bool) (left right : Terms) (i : ℕ) (u : ℕ × ℚ) (b : Bool) → whole ≡ same_terms (drop i left) (drop i right) → i < length right → u ≡ get_or right i u
    → ((others : Terms) → same_terms (drop i left) ((u.0, u.1) ∷ others) ≡ (b && same_terms (drop (i + 1) left) others)) → whole ≡ (b && same_terms (drop (i + 1) left) (drop (i + 1) right))
same_step whole left right i u b h l e g = h ∙ ap (same_terms (drop i left)) (rest_from right i u l e) ∙ g (drop (i + 1) right)

pub same_end : (whole : Bool) (left right : Terms) (i : ℕ) → whole ≡ same_terms (drop i left) (drop i right) → length right ≡ i → whole ≡ leb (length left) (length right)
same_end whole left right i h e = h ∙ ap (same_terms (drop i left)) (drop_all i right (omega arith)) ∙ end_is left i ∙ ap (leb (length left)) (sym e)

pub told_behind : (left right : Terms) (t u : ℕ × ℚ) → RiseFrom 0 left → length left ≡ suc (length left - 1) → t ≡ get_or left (length left - 1) t → u ≡ get_or right 0 u
    → IsTrue (nat_lt (get_or left (length left - 1) t).0 (get_or right 0 u).0) → IsBehind left right
told_behind left right t u r l e d h =
    let k : (get_or left (length left - 1) t).0 < (get_or right 0 u).0 = ltb-true (get_or left (length left - 1) t).0 (get_or right 0 u).0 h in
    behind_last 0 left right t (length left - 1) r l e
    (below_first t.0 right u d (subst (λ (v : ℕ × ℚ). t.0 < v.0) (sym d) (subst (λ (v : ℕ × ℚ). v.0 < (get_or right 0 u).0) (sym e) k)))

pub and_true : (s n b : Bool) → s ≡ true → n ≡ b → n ≡ (s && b)
and_true s n b h e = e ∙ sym (ap (λ a. a && b) h)

pub and_false : (s n b : Bool) → s ≡ false → n ≡ false → n ≡ (s && b)
and_false s n b h e = e ∙ sym (ap (λ a. a && b) h)

pub compared_next : (whole : Option Bool) (s n b : Bool) (terms rest ts : Terms) (i m : ℕ) (t : ℕ × ℚ) (k c : ℚ) → rest ≡ t ∷ ts
    → whole ≡ option_map (λ us. s && same_terms (drop i terms) us) (narrow (scaled_terms k rest)) → c ≡ t.1 *ℚ k → stays_narrow (product t.1 k) ≡ true → c ≢ zero_ℚ
    → ((us : Terms) → same_terms (drop i terms) ((t.0, c) ∷ us) ≡ (b && same_terms (drop (i + 1) terms) us)) → n ≡ (s && b) → m ≡ i + 1
    → whole ≡ option_map (λ us. n && same_terms (drop m terms) us) (narrow (scaled_terms k ts))
compared_next whole s n b terms rest ts i m t k c e so_far h w z g d q =
    compared_some whole s (drop i terms) rest ts t k e so_far c h w z b (drop (i + 1) terms) g
    ∙ (λ j. option_map (λ us. (sym d) j && same_terms (drop ((sym q) j) terms) us) (narrow (scaled_terms k ts)))

pub compared_on : (whole : Option Bool) (s n : Bool) (terms rest ts : Terms) (i m : ℕ) (t : ℕ × ℚ) (k c : ℚ) → rest ≡ t ∷ ts
    → whole ≡ option_map (λ us. s && same_terms (drop i terms) us) (narrow (scaled_terms k rest)) → c ≡ t.1 *ℚ k → stays_narrow (product t.1 k) ≡ true → c ≡ zero_ℚ
    → n ≡ s → m ≡ i → whole ≡ option_map (λ us. n && same_terms (drop m terms) us) (narrow (scaled_terms k ts))
compared_on whole s n terms rest ts i m t k c e so_far h w z d q =
    compared_zero whole s (drop i terms) rest ts t k e so_far c h w z
    ∙ (λ j. option_map (λ us. (sym d) j && same_terms (drop ((sym q) j) terms) us) (narrow (scaled_terms k ts)))

-- ---- terms below a bound
behind_reach : (ts : Terms) (n : ℕ) → IsBehind ts ((n, zero_ℚ) ∷ []) → ReachTo ts n
behind_reach [] n b = tt
behind_reach (t ∷ ts) n b = (b.0, behind_reach ts n b.1)

reach_at : (ts : Terms) (n i : ℕ) (t : ℕ × ℚ) → ReachTo ts n → i < length ts → t ≡ get_or ts i t → t.0 < n
reach_at [] n i t r l e = absurd (omega arith)
reach_at (v ∷ ts) n zero t r l e = subst (λ (w : ℕ × ℚ). w.0 < n) (sym e) r.0
reach_at (v ∷ ts) n (suc i) t r l e = reach_at ts n i t r.1 (omega arith) e

pub no_terms_reach : (ts : Terms) (n : ℕ) (b : Bool) → b ≡ (length ts == 0) → b ≡ true → IsTrue true ↔ ReachTo ts n
no_terms_reach ts n b e h = ((λ _. subst (λ vs. ReachTo vs n) (sym (nothing_there ts (eqb-true (length ts) 0 (sym e ∙ h)))) tt), (λ _. refl))

pub told_reach : (ts : Terms) (t : ℕ × ℚ) (n : ℕ) → RiseFrom 0 ts → length ts ≡ suc (length ts - 1) → t ≡ get_or ts (length ts - 1) t
    → IsTrue (nat_lt (get_or ts (length ts - 1) t).0 n) ↔ ReachTo ts n
told_reach ts t n r l e = (
  (λ h.
      let k : (get_or ts (length ts - 1) t).0 < n = ltb-true (get_or ts (length ts - 1) t).0 n h in
      behind_reach ts n (behind_last 0 ts ((n, zero_ℚ) ∷ []) t (length ts - 1) r l e (subst (λ (w : ℕ × ℚ). w.0 < n) (sym e) k))),
  (λ s. lt-ltb (get_or ts (length ts - 1) t).0 n (subst (λ (w : ℕ × ℚ). w.0 < n) e (reach_at ts n (length ts - 1) t s (omega arith) e))),
)

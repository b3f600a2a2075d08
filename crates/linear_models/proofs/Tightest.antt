-- The tightest of several bounds, and bounds of what is whole rounded inwards.
use Rattle.std.proofs.Common.{◌≡◌, ◌↔◌, Bool, true, false, refl, sym, ap, ◌∙◌, List, [], ◌∷◌, Option, Some, None, cond, subst, ⊎_elim}
use Rattle.std.specs.Option.{option_map}
use Rattle.fractions.specs.Rational.{ℚ, neg_ℚ, ◌≤ℚ◌, ◌<ℚ◌, le_ℚ, numerator}
use Rattle.fractions.specs.Whole.{whole_ℚ}
use Rattle.fractions.specs.Floor.{floor_ℚ}
use Rattle.fractions.proofs.Order.{le_trans, le_of_lt, neg_le}
use Rattle.fractions.proofs.Tests.{le_iff, le_or_lt}
use Rattle.fractions.proofs.Laws.{neg-neg}
use Rattle.fractions.proofs.Whole.{whole-le, whole-neg}
use Rattle.fractions.proofs.Floor.{floor_is_greatest}
use Rattle.optimality.specs.Optimal.{IsWhole}
use Rattle.linear_models.proofs.Wholes.{whole_is, is_whole}
use Rattle.linear_models.specs.Box.{lesser, greater}
use Rattle.linear_models.specs.Bounds.{highest, lowest, up, down, ceiling_ℚ, where_so}

pub some_is : {x y : ℚ} → Some x ≡ Some y → x ≡ y
some_is e = cc

-- each of the numbers is at most x, or at least x
abbrev pub AllBelow : List ℚ → ℚ → Type 0
AllBelow [] x = Unit {0}
AllBelow (c ∷ cs) x = (c ≤ℚ x) × AllBelow cs x

abbrev pub AllAbove : List ℚ → ℚ → Type 0
AllAbove [] x = Unit {0}
AllAbove (c ∷ cs) x = (x ≤ℚ c) × AllAbove cs x

abbrev pub IfThereBelow : Option ℚ → ℚ → Type 0
IfThereBelow o x = (b : ℚ) → o ≡ Some b → b ≤ℚ x

abbrev pub IfThereAbove : Option ℚ → ℚ → Type 0
IfThereAbove o x = (b : ℚ) → o ≡ Some b → x ≤ℚ b

not_at_most : (x y : ℚ) → le_ℚ x y ≡ false → y ≤ℚ x
not_at_most x y e = ⊎_elim (λ (h : x ≤ℚ y). absurd (clash ((le_iff x y).1 h))) (λ (h : y <ℚ x). le_of_lt _ _ h) (le_or_lt x y)
  where
    clash : le_ℚ x y ≡ true → ⊥
    clash q = let k : true ≡ false = sym q ∙ e in cc

pub greater_is : (o : Option ℚ) (c x : ℚ) → (greater o c ≤ℚ x) ↔ (IfThereBelow o x × (c ≤ℚ x))
greater_is None c x = (λ h. (λ b e. cc, h), λ h. h.1)
greater_is (Some b) c x = cases (le_ℚ c b) refl
  where
    cases : (v : Bool) → le_ℚ c b ≡ v → (cond v b c ≤ℚ x) ↔ (IfThereBelow (Some b) x × (c ≤ℚ x))
    cases true e = (λ h. (λ d q. subst (λ t. t ≤ℚ x) (some_is q) h, le_trans _ _ _ ((le_iff c b).0 e) h), λ h. h.0 b refl)
    cases false e = (λ h. (λ d q. subst (λ t. t ≤ℚ x) (some_is q) (le_trans _ _ _ (not_at_most c b e) h), h), λ h. h.1)

pub lesser_is : (o : Option ℚ) (c x : ℚ) → (x ≤ℚ lesser o c) ↔ (IfThereAbove o x × (x ≤ℚ c))
lesser_is None c x = (λ h. (λ b e. cc, h), λ h. h.1)
lesser_is (Some b) c x = cases (le_ℚ b c) refl
  where
    cases : (v : Bool) → le_ℚ b c ≡ v → (x ≤ℚ cond v b c) ↔ (IfThereAbove (Some b) x × (x ≤ℚ c))
    cases true e = (λ h. (λ d q. subst (λ t. x ≤ℚ t) (some_is q) h, le_trans _ _ _ h ((le_iff b c).0 e)), λ h. h.0 b refl)
    cases false e = (λ h. (λ d q. subst (λ t. x ≤ℚ t) (some_is q) (le_trans _ _ _ h (not_at_most b c e)), h), λ h. h.1)

pub highest_is : (cs : List ℚ) (x : ℚ) → AllBelow cs x ↔ IfThereBelow (highest cs) x
highest_is [] x = (λ h b e. cc, λ h. tt)
highest_is (c ∷ cs) x =
    let g = greater_is (highest cs) c x in let r = highest_is cs x in (
      λ h b e. subst (λ t. t ≤ℚ x) (some_is e) (g.1 (r.0 h.1, h.0)),
      λ h. let k = g.0 (h (greater (highest cs) c) refl) in (k.1, r.1 k.0),
    )

pub lowest_is : (cs : List ℚ) (x : ℚ) → AllAbove cs x ↔ IfThereAbove (lowest cs) x
lowest_is [] x = (λ h b e. cc, λ h. tt)
lowest_is (c ∷ cs) x =
    let g = lesser_is (lowest cs) c x in let r = lowest_is cs x in (
      λ h b e. subst (λ t. x ≤ℚ t) (some_is e) (g.1 (r.0 h.1, h.0)),
      λ h. let k = g.0 (h (lesser (lowest cs) c) refl) in (k.1, r.1 k.0),
    )

-- ---- rounding
down_whole : (b x : ℚ) → IsWhole x → (x ≤ℚ whole_ℚ (floor_ℚ b)) ↔ (x ≤ℚ b)
down_whole b x w = (
  λ h. le_trans _ _ _ h (floor_is_greatest b).not_above,
  λ h. let e = whole_is x w in subst (λ t. t ≤ℚ whole_ℚ (floor_ℚ b)) (sym e) ((whole-le _ _).1 ((floor_is_greatest b).greatest (numerator x) (subst (λ t. t ≤ℚ b) e h))),
)

neg_whole : (x : ℚ) → IsWhole x → IsWhole (neg_ℚ x)
neg_whole x w = is_whole _ _ (ap neg_ℚ (whole_is x w) ∙ sym (whole-neg (numerator x)))

flipped : (x y : ℚ) → (x ≤ℚ y) ↔ (neg_ℚ y ≤ℚ neg_ℚ x)
flipped x y = (neg_le x y, λ h. rw (neg-neg, neg-neg) at (neg_le _ _ h))

up_whole : (b x : ℚ) → IsWhole x → (ceiling_ℚ b ≤ℚ x) ↔ (b ≤ℚ x)
up_whole b x w =
    let d = down_whole (neg_ℚ b) (neg_ℚ x) (neg_whole x w) in (
      λ h. (flipped b x).1 (d.0 (subst (λ t. neg_ℚ x ≤ℚ t) (neg-neg _) (neg_le _ _ h))),
      λ h. subst (λ t. ceiling_ℚ b ≤ℚ t) (neg-neg x) (neg_le _ _ (d.1 (neg_le _ _ h))),
    )

up_is : (v : Bool) (b x : ℚ) → (v ≡ true → IsWhole x) → (up v b ≤ℚ x) ↔ (b ≤ℚ x)
up_is true b x w = up_whole b x (w refl)
up_is false b x w = (λ h. h, λ h. h)

down_is : (v : Bool) (b x : ℚ) → (v ≡ true → IsWhole x) → (x ≤ℚ down v b) ↔ (x ≤ℚ b)
down_is true b x w = down_whole b x (w refl)
down_is false b x w = (λ h. h, λ h. h)

pub rounded_up : (v : Bool) (o : Option ℚ) (x : ℚ) → (v ≡ true → IsWhole x) → IfThereBelow o x ↔ IfThereBelow (option_map (up v) o) x
rounded_up v None x w = (λ h b e. cc, λ h b e. cc)
rounded_up v (Some c) x w =
    let u = up_is v c x w in (λ h b e. subst (λ t. t ≤ℚ x) (some_is e) (u.1 (h c refl)), λ h b e. subst (λ t. t ≤ℚ x) (some_is e) (u.0 (h (up v c) refl)))

pub rounded_down : (v : Bool) (o : Option ℚ) (x : ℚ) → (v ≡ true → IsWhole x) → IfThereAbove o x ↔ IfThereAbove (option_map (down v) o) x
rounded_down v None x w = (λ h b e. cc, λ h b e. cc)
rounded_down v (Some c) x w =
    let u = down_is v c x w in (λ h b e. subst (λ t. x ≤ℚ t) (some_is e) (u.1 (h c refl)), λ h b e. subst (λ t. x ≤ℚ t) (some_is e) (u.0 (h (down v c) refl)))

-- a bound that is there only in some cases
pub where_below : (b : Bool) (c x : ℚ) → AllBelow (where_so b c) x ↔ (b ≡ true → c ≤ℚ x)
where_below true c x = (λ h e. h.0, λ h. (h refl, tt))
where_below false c x = (λ h e. cc, λ h. tt)

pub where_above : (b : Bool) (c x : ℚ) → AllAbove (where_so b c) x ↔ (b ≡ true → x ≤ℚ c)
where_above true c x = (λ h e. h.0, λ h. (h refl, tt))
where_above false c x = (λ h e. cc, λ h. tt)

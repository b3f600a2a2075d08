-- Lists of terms that don't fit in place.
use Rattle.std.proofs.Common.{◌≡◌, refl, sym, ap, ◌∙◌, ℕ, suc, ◌<◌, ◌≤◌, ◌+◌, Bool, true, false, if◌then◌else◌, List, [], ◌∷◌, ◌++◌, Option, Some, None, Result, Ok, Err, IfErr, length, length-append, drop, ◌-◌, arith, rules}
use Rattle.std.specs.Result.{OnErr}
use Rattle.std.proofs.lemmas.List.{length-drop}
use Rattle.fractions.specs.Rational.{ℚ, zero_ℚ, eq_ℚ}
use Rattle.calculations.specs.Calculation.{Calculation, narrow}
use Rattle.calculations.proofs.CalculationLaws.{behind_answers}
use Rattle.affine_forms.specs.declared.stop.FormStop.{FormStop}
use Rattle.affine_forms.specs.declared.stop.FormStop.TheVariants as stops
use Rattle.affine_forms.specs.Forms.{negated_terms}
use Rattle.affine_forms.specs.Lists.{NeedsRoomFor}
use Rattle.affine_forms.specs.Steps.{in_front}

abbrev pub Terms : Type 0
Terms = List (ℕ × ℚ)

some_is : (a b : Terms) → Some a ≡ Some b → a ≡ b
some_is a b e = search rules

longer : (front ts us : Terms) → Some (front ++ us) ≡ Some ts → length front ≤ length ts
longer front ts us e = rw (sym (some_is (front ++ us) ts e), length-append front us) (omega arith)

none_is_none : (ts : Terms) → ¬ (None ≡ Some ts)
none_is_none ts e = search rules

-- what stands behind a front is at least as long
behind_is_long : (whole o : Option Terms) (front ts : Terms) → whole ≡ behind_answers front o → whole ≡ Some ts → length front ≤ length ts
behind_is_long whole None front ts h e = absurd (none_is_none ts (sym h ∙ e))
behind_is_long whole (Some us) front ts h e = longer front ts us (sym h ∙ e)

pub needs_room : (c : Calculation Terms) (o : Option Terms) (front : Terms) → narrow c ≡ behind_answers front o → 2 < length front → NeedsRoomFor c
needs_room c o front h l = λ ts e. let k : length front ≤ length ts = behind_is_long (narrow c) o front ts h e in omega arith

pub needs_room_at_end : (c : Calculation Terms) (all : Terms) → narrow c ≡ Some all → 2 < length all → NeedsRoomFor c
needs_room_at_end c all h l = λ ts e. rw (← some_is all ts (sym h ∙ e)) l

-- a stop may be want of memory then
pub may_stop : {A : Type 0} (c : Calculation Terms) (r : Result A FormStop) → NeedsRoomFor c → IfErr r (λ stop. stop ≡ stops.Memory → NeedsRoomFor c)
may_stop c (Ok x) h = tt
may_stop c (Err e) h = λ _. h

-- a fact that holds at any rate
pub at_err : {A E : Type 0} (r : Result A E) (P : Type 0) → P → OnErr r P
at_err (Ok x) P h = tt
at_err (Err e) P h = h

pub one_more : (front : Terms) (t : ℕ × ℚ) → 2 ≤ length front → 2 < length (front ++ t ∷ [])
one_more front t h = rw (length-append front (t ∷ [])) (omega arith)

-- ---- signs turned
negated_length : (ts : Terms) → length (negated_terms ts) ≡ length ts
negated_length [] = refl
negated_length (t ∷ ts) = ap suc (negated_length ts)

pub negated_long : (terms turned rest ts : Terms) (t : ℕ × ℚ) → negated_terms terms ≡ turned ++ negated_terms rest → rest ≡ t ∷ ts → 2 ≤ length turned → 2 < length terms
negated_long terms turned rest ts t h e l =
    let n : length terms ≡ length turned + length (negated_terms rest) = sym (negated_length terms) ∙ ap length h ∙ length-append turned (negated_terms rest) in
    let m : length (negated_terms rest) ≡ suc (length ts) = negated_length rest ∙ ap length e in
    omega arith

-- ---- what is left behind the front
pub front_long : (front left right : Terms) → 2 < length front + length left → 2 < length ((front ++ left) ++ right)
front_long front left right h = rw (length-append (front ++ left) right, length-append front left) (omega arith)

pub both_long : (front left right : Terms) → 2 < length (front ++ left) + length right → 2 < length ((front ++ left) ++ right)
both_long front left right h = rw (length-append (front ++ left) right) h

-- ---- terms so far
pub few_pushed : (new front : Terms) (t : ℕ × ℚ) (n k : ℕ) → new ≡ front ++ t ∷ [] → length front ≤ n → k ≡ n + 1 → length new ≤ k
few_pushed new front t n k e l d = let m : length new ≡ length front + 1 = ap length e ∙ length-append front (t ∷ []) in omega arith

front_short : (j : ℕ) (c : ℚ) (b : Bool) → length {A = ℕ × ℚ} (if b then [] else (j, c) ∷ []) ≤ 1
front_short j c true = omega arith
front_short j c false = omega arith

pub some_short : (front : Terms) (j : ℕ) (c : ℚ) → length (front ++ in_front j c []) ≤ length front + 1
some_short front j c =
    let s : length (in_front j c []) ≤ 1 = front_short j c (eq_ℚ c zero_ℚ) in
    let m : length (front ++ in_front j c []) ≡ length front + length (in_front j c []) = length-append front (in_front j c []) in
    omega arith

pub few_some_pushed : (new front : Terms) (j : ℕ) (c : ℚ) (n k : ℕ) → new ≡ front ++ in_front j c [] → length front ≤ n → k ≡ n + 1 → length new ≤ k
few_some_pushed new front j c n k e l d = let m : length new ≡ length (front ++ in_front j c []) = ap length e in let s : length (front ++ in_front j c []) ≤ length front + 1 = some_short front j c in omega arith

pub both_pushed : (new front : Terms) (k : ℕ) (c : ℚ) (i j : ℕ) → new ≡ front ++ in_front k c [] → length front ≤ i + j → length new ≤ (i + 1) + (j + 1)
both_pushed new front k c i j e l = let m : length new ≤ i + j + 1 = few_some_pushed new front k c (i + j) (i + j + 1) e l refl in omega arith

pub both_want : (front : Terms) (k : ℕ) (c : ℚ) (i j m n : ℕ) → 2 < length (front ++ in_front k c []) → length front ≤ i + j → i < m → j < n → 2 < m + n
both_want front k c i j m n h l a b = let s : length (front ++ in_front k c []) ≤ length front + 1 = some_short front k c in omega arith

pub left_wants : (front left right : Terms) (i j : ℕ) → 2 < length front + length (drop i left) → length front ≤ i + j → i ≤ length left → j ≤ length right → 2 < length left + length right
left_wants front left right i j h l a b = let d : length (drop i left) ≡ length left - i = length-drop i left in omega arith

pub right_wants : (front left right : Terms) (i j : ℕ) → 2 < length (front ++ drop i left) + length (drop j right) → length front ≤ i + j → i ≤ length left → j ≤ length right → 2 < length left + length right
right_wants front left right i j h l a b =
    let d : length (drop i left) ≡ length left - i = length-drop i left in
    let e : length (drop j right) ≡ length right - j = length-drop j right in
    let s : length (front ++ drop i left) ≡ length front + length (drop i left) = length-append front (drop i left) in
    omega arith

pub at_stop : {A : Type 0} (r : Result A FormStop) (P : Type 0) → P → IfErr r (λ s. s ≡ stops.Memory → P)
at_stop (Ok x) P h = tt
at_stop (Err s) P h = λ _. h

pub one_wants : (front : Terms) (k : ℕ) (c : ℚ) (i n : ℕ) → 2 < length (front ++ in_front k c []) → length front ≤ i → i < n → 2 < n
one_wants front k c i n h l a = let s : length (front ++ in_front k c []) ≤ length front + 1 = some_short front k c in omega arith

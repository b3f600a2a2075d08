-- AND and OR of open values.
use Rattle.std.specs.Prelude.{not, ◌+◌, ◌++◌, ◌||◌, option_map, flat_map}
use Rattle.std.specs.List.{AllByRecursion, filter_map, cons_option, list_any, list_all}
use Rattle.std.proofs.Common.{◌≡◌, refl, sym, ap, ◌∙◌, subst, Bool, true, false, true≢false, List, [], ◌∷◌, map, ◌⊎◌, inl, inr, ℕ, suc, Option, Some, None, Result, Ok, Err, arith}
use Rattle.calculations.specs.Calculation.{exact}
use Rattle.cell_refs.specs.declared.error_kind.ErrorKind.{ErrorKind}
use Rattle.sheet_model.specs.Conversions.{logical_in}
use Rattle.sheet_model.specs.Tests.{is_zero}
use Rattle.sheet_model.specs.declared.value.Value.{Value}
use Rattle.sheet_model.specs.declared.value.Value.TheVariants.{Logical, Error}
use Rattle.sheet_model.specs.declared.grid.Arg.{Arg}
use Rattle.sheet_model.specs.declared.grid.Arg.TheVariants as arg
use Rattle.sheet_funcs.specs.Arguments.{on_ok, all_or_error, behind_first}
use Rattle.sheet_funcs.specs.Items.{logical_at, logicals_in, logicals_of}
use Rattle.sheet_funcs.specs.Logic.{and_of, or_of, of_some}
use Rattle.affine_forms.specs.Forms.{Assignment, worth}
use Rattle.form_values.specs.Meaning.{abs_at, arg_at, elements_of}
use Rattle.form_values.proofs.Opening.{IsAbs}
use Rattle.affine_forms.specs.Relations.{holds}
use Rattle.form_values.specs.Refusals.{Varies}
use Rattle.form_values.specs.Trials.{one}
use Rattle.affine_forms.specs.declared.rel.Rel.TheVariants as rel
use Rattle.form_values.specs.declared.abs.Abs.{Abs}
use Rattle.form_values.specs.declared.abs.Abs.TheVariants.{Known, Affine, Test}
use Rattle.form_values.specs.declared.abs.AbsArg.{AbsArg}
use Rattle.form_values.specs.declared.abs.AbsArg.TheVariants.{One, Area}
use Rattle.form_table.specs.Logic.{Truth, known, none, opened, of_logical, truth_of, element_truth, truths_in, truths_of, first_error, known_in, open_in, of_open, is_same, decided_by, of_truths, junction}
use Rattle.form_truth.proofs.Right.{IsRightArg, ArgumentVaries}
use Rattle.form_truth.proofs.Collecting.{AreSound}
use Rattle.form_truth.proofs.Fitting.{affine_varies, test_varies}
use Rattle.form_truth.proofs.Grids.{At, grid_varies}
use Rattle.form_truth.proofs.SingleRows.{not_zero}

-- ---- what each is at an assignment
abbrev pub IsTruth : Assignment → Truth → Result Bool ErrorKind → Type 0
IsTruth x (known b) r = r ≡ Ok b
IsTruth x (none k) r = r ≡ Err k
IsTruth x (opened i a) r = (b : Bool) × (r ≡ Ok b) × (abs_at x a ≡ Logical b)

abbrev pub AreTruths : Assignment → List Truth → List (Result Bool ErrorKind) → Type 0
AreTruths x [] [] = Unit {0}
AreTruths x (t ∷ ts) (r ∷ rs) = IsTruth x t r × AreTruths x ts rs
AreTruths x _ _ = ⊥

truths_append : (x : Assignment) (ts us : List Truth) (rs ss : List (Result Bool ErrorKind)) → AreTruths x ts rs → AreTruths x us ss → AreTruths x (ts ++ us) (rs ++ ss)
truths_append x [] us [] ss h k = k
truths_append x (t ∷ ts) us (r ∷ rs) ss h k = (h.0, truths_append x ts us rs ss h.1 k)
truths_append x [] us (r ∷ rs) ss h k = absurd h
truths_append x (t ∷ ts) us [] ss h k = absurd h

of_result : (x : Assignment) (r : Result Bool ErrorKind) → IsTruth x (of_logical r) r
of_result x (Ok b) = refl
of_result x (Err k) = refl

single_truth : (x : Assignment) (i : ℕ) (a : Abs) → IsTruth x (truth_of i a) (logical_in (abs_at x a))
single_truth x i (Known v) = of_result x (logical_in v)
single_truth x i (Affine o) = (not (is_zero (worth x o.form)), refl, ap Logical (sym (not_zero (worth x o.form))))
single_truth x i (Test o r) = (holds r (worth x o.form), refl, refl)

of_element : (x : Assignment) (o : Option (Result Bool ErrorKind)) (ts : List Truth) (rs : List (Result Bool ErrorKind)) → AreTruths x ts rs → AreTruths x (cons_option (option_map of_logical o) ts) (cons_option o rs)
of_element x None ts rs h = h
of_element x (Some r) ts rs h = (of_result x r, h)

area_truths : (x : Assignment) (i : ℕ) (items : List Abs) → AreTruths x (filter_map (element_truth i) items) (filter_map logical_at (map (abs_at x) items))
area_truths x i [] = tt
area_truths x i (Known v ∷ items) = of_element x (logical_at v) _ _ (area_truths x i items)
area_truths x i (Affine o ∷ items) = ((not (is_zero (worth x o.form)), refl, ap Logical (sym (not_zero (worth x o.form)))), area_truths x i items)
area_truths x i (Test o r ∷ items) = ((holds r (worth x o.form), refl, refl), area_truths x i items)

arg_truths : (x : Assignment) (i : ℕ) (a : AbsArg) → AreTruths x (truths_in i a) (logicals_in (arg_at x a))
arg_truths x i (One a) = (single_truth x i a, tt)
arg_truths x i (Area g) = area_truths x i g.items

all_truths : (x : Assignment) (n : ℕ) (args : List AbsArg) → AreTruths x (truths_of n args) (flat_map logicals_in (map (arg_at x) args))
all_truths x n [] = tt
all_truths x n (a ∷ args) = truths_append x (truths_in n a) _ (logicals_in (arg_at x a)) _ (arg_truths x n a) (all_truths x (n + 1) args)

-- ---- the first error, or all logicals
truths_fail : (x : Assignment) (ts : List Truth) (rs : List (Result Bool ErrorKind)) (k : ErrorKind) → AreTruths x ts rs → first_error ts ≡ Some k → all_or_error rs ≡ Err k
truths_fail x [] [] k h e = cc
truths_fail x (none l ∷ ts) (r ∷ rs) k h e = let s : l ≡ k = cc in ap (λ r. all_or_error (r ∷ rs)) h.0 ∙ ap Err s
truths_fail x (known b ∷ ts) (r ∷ rs) k h e = ap (λ r. all_or_error (r ∷ rs)) h.0 ∙ ap (behind_first b) (truths_fail x ts rs k h.1 e)
truths_fail x (opened i a ∷ ts) (r ∷ rs) k h e = ap (λ r. all_or_error (r ∷ rs)) h.0.1 ∙ ap (behind_first h.0.0) (truths_fail x ts rs k h.1 e)
truths_fail x [] (r ∷ rs) k h e = absurd h
truths_fail x (t ∷ ts) [] k h e = absurd h

-- the logical that each stands for
abbrev pub StandsFor : Assignment → Truth → Bool → Type 0
StandsFor x (known c) b = b ≡ c
StandsFor x (none k) b = ⊥
StandsFor x (opened i a) b = abs_at x a ≡ Logical b

abbrev pub StandFor : Assignment → List Truth → List Bool → Type 0
StandFor x [] [] = Unit {0}
StandFor x (t ∷ ts) (b ∷ bs) = StandsFor x t b × StandFor x ts bs
StandFor x _ _ = ⊥

truths_give : (x : Assignment) (ts : List Truth) (rs : List (Result Bool ErrorKind)) → AreTruths x ts rs → first_error ts ≡ None → (bs : List Bool) × (all_or_error rs ≡ Ok bs) × StandFor x ts bs
truths_give x [] [] h e = ([], refl, tt)
truths_give x (none l ∷ ts) (r ∷ rs) h e = cc
truths_give x (known b ∷ ts) (r ∷ rs) h e =
    let g = truths_give x ts rs h.1 e in (b ∷ g.0, ap (λ r. all_or_error (r ∷ rs)) h.0 ∙ ap (behind_first b) g.1, (refl, g.2))
truths_give x (opened i a ∷ ts) (r ∷ rs) h e =
    let g = truths_give x ts rs h.1 e in (h.0.0 ∷ g.0, ap (λ r. all_or_error (r ∷ rs)) h.0.1 ∙ ap (behind_first h.0.0) g.1, (h.0.2, g.2))
truths_give x [] (r ∷ rs) h e = absurd h
truths_give x (t ∷ ts) [] h e = absurd h

-- ---- the first argument with an open logical
first_of : (n : ℕ) (a : Abs) (us : List (ℕ × Abs)) (p : ℕ × Abs) (rest : List (ℕ × Abs)) → (n, a) ∷ us ≡ p ∷ rest → p.0 ≡ n
first_of n a us p rest e = let s : (n, a) ≡ p = cc in sym (ap (λ (q : ℕ × Abs). q.0) s)

of_result_open : (r : Result Bool ErrorKind) (us : List Truth) → filter_map open_in (of_logical r ∷ us) ≡ filter_map open_in us
of_result_open (Ok b) us = refl
of_result_open (Err k) us = refl

of_element_open : (o : Option (Result Bool ErrorKind)) (us : List Truth) → filter_map open_in (cons_option (option_map of_logical o) us) ≡ filter_map open_in us
of_element_open None us = refl
of_element_open (Some r) us = of_result_open r us

cons_append : (o : Option Truth) (ts us : List Truth) → cons_option o ts ++ us ≡ cons_option o (ts ++ us)
cons_append None ts us = refl
cons_append (Some t) ts us = refl

-- the first is among these elements, or among what follows
abbrev pub FirstIn : ℕ → List Abs → List Truth → ℕ × Abs → List (ℕ × Abs) → Type 0
FirstIn n items us p rest = ((p.0 ≡ n) × At items (λ a. Varies (λ x. abs_at x a))) ⊎ (filter_map open_in us ≡ p ∷ rest)

behind : (n : ℕ) (a : Abs) (items : List Abs) (us : List Truth) (p : ℕ × Abs) (rest : List (ℕ × Abs)) → FirstIn n items us p rest → FirstIn n (a ∷ items) us p rest
behind n a items us p rest (inl h) = inl (h.0, record { place = suc h.1.place; element = h.1.element; is_there = h.1.is_there; so = h.1.so })
behind n a items us p rest (inr e) = inr e

area_first : (n : ℕ) (items : List Abs) (us : List Truth) (p : ℕ × Abs) (rest : List (ℕ × Abs)) → AllByRecursion IsAbs items → filter_map open_in (filter_map (element_truth n) items ++ us) ≡ p ∷ rest → FirstIn n items us p rest
area_first n [] us p rest h e = inr e
area_first n (Known v ∷ items) us p rest h e =
    behind n (Known v) items us p rest
    (area_first n items us p rest h.1
    (sym (ap (filter_map open_in) (cons_append (option_map of_logical (logical_at v)) (filter_map (element_truth n) items) us) ∙ of_element_open (logical_at v) (filter_map (element_truth n) items ++ us)) ∙ e))
area_first n (Affine f ∷ items) us p rest h e =
    inl (first_of n (Test f rel.Ne) _ p rest e, record { place = 0; element = Affine f; is_there = refl; so = affine_varies f h.0 })
area_first n (Test f r ∷ items) us p rest h e =
    inl (first_of n (Test f r) _ p rest e, record { place = 0; element = Test f r; is_there = refl; so = test_varies f r h.0 })

one_same : (v w : Value) → arg.One v ≡ arg.One w → v ≡ w
one_same v w e = cc

one_varies : (b : Abs) → Varies (λ x. abs_at x b) → Varies (λ x. arg_at x (One b))
one_varies b v = record { one = v.one; other = v.other; differ = λ e. v.differ (one_same _ _ e) }

arg_first : (n : ℕ) (a : AbsArg) (us : List Truth) (p : ℕ × Abs) (rest : List (ℕ × Abs)) → AllByRecursion IsAbs (elements_of a) → filter_map open_in (truths_in n a ++ us) ≡ p ∷ rest
    → ((p.0 ≡ n) × Varies (λ x. arg_at x a)) ⊎ (filter_map open_in us ≡ p ∷ rest)
arg_first n (One (Known v)) us p rest h e = inr (sym (of_result_open (logical_in v) us) ∙ e)
arg_first n (One (Affine f)) us p rest h e = inl (first_of n (Test f rel.Ne) _ p rest e, one_varies (Affine f) (affine_varies f h.0))
arg_first n (One (Test f r)) us p rest h e = inl (first_of n (Test f r) _ p rest e, one_varies (Test f r) (test_varies f r h.0))
arg_first n (Area g) us p rest h e = by_place (area_first n g.items us p rest h e)
  where
    by_place : FirstIn n g.items us p rest → ((p.0 ≡ n) × Varies (λ x. arg_at x (Area g))) ⊎ (filter_map open_in us ≡ p ∷ rest)
    by_place (inl s) = inl (s.0, grid_varies g s.1)
    by_place (inr s) = inr s

first_varies : (n : ℕ) (args : List AbsArg) (p : ℕ × Abs) (rest : List (ℕ × Abs)) → AreSound args → filter_map open_in (truths_of n args) ≡ p ∷ rest → (k : ℕ) × (p.0 ≡ n + k) × ArgumentVaries arg_at args k
first_varies n [] p rest h e = cc
first_varies n (a ∷ args) p rest h e = by_place (λ d. first_varies (n + 1) args p rest h.1 d) (arg_first n a (truths_of (n + 1) args) p rest h.0 e)
  where
    by_place : (filter_map open_in (truths_of (n + 1) args) ≡ p ∷ rest → (k : ℕ) × (p.0 ≡ (n + 1) + k) × ArgumentVaries arg_at args k)
        → ((p.0 ≡ n) × Varies (λ x. arg_at x a)) ⊎ (filter_map open_in (truths_of (n + 1) args) ≡ p ∷ rest) → (k : ℕ) × (p.0 ≡ n + k) × ArgumentVaries arg_at (a ∷ args) k
    by_place ih (inl s) = let j : p.0 ≡ n = s.0 in (0, omega arith, record { argument = a; is_there = refl; varies = s.1 })
    by_place ih (inr d) =
        let r = ih d in
        let j : p.0 ≡ (n + 1) + r.0 = r.1 in
        (suc r.0, omega arith, record { argument = r.2.argument; is_there = r.2.is_there; varies = r.2.varies })

-- ---- what decides: one logical alone turns the function, the other leaves it to the rest
module _ (d : Bool) (all : List Bool → Bool) (of_none : all [] ≡ not d) (hit : (bs : List Bool) → all (d ∷ bs) ≡ d) (miss : (bs : List Bool) → all (not d ∷ bs) ≡ all bs) where
  same_is : (d b : Bool) → is_same d b ≡ true → b ≡ d
  same_is true b e = e
  same_is false true e = sym e
  same_is false false e = refl

  other_is : (d b : Bool) → is_same d b ≡ false → b ≡ not d
  other_is true b e = e
  other_is false true e = refl
  other_is false false e = sym e

  hit_by : (b : Bool) (bs : List Bool) → b ≡ d → all (b ∷ bs) ≡ d
  hit_by b bs e = ap (λ b. all (b ∷ bs)) e ∙ hit bs

  miss_by : (b : Bool) (bs : List Bool) → b ≡ not d → all (b ∷ bs) ≡ all bs
  miss_by b bs e = ap (λ b. all (b ∷ bs)) e ∙ miss bs

  kept : (b : Bool) (bs : List Bool) → all bs ≡ d → all (b ∷ bs) ≡ d
  kept b bs h = by_test (is_same d b) refl
    where
      by_test : (t : Bool) → is_same d b ≡ t → all (b ∷ bs) ≡ d
      by_test true e = hit_by b bs (same_is d b e)
      by_test false e = miss_by b bs (other_is d b e) ∙ h

  -- a known one decides
  decides : (x : Assignment) (ts : List Truth) (bs : List Bool) → StandFor x ts bs → list_any (is_same d) (filter_map known_in ts) ≡ true → all bs ≡ d
  decides x [] [] h e = absurd (true≢false (sym e))
  decides x (known c ∷ ts) (b ∷ bs) h e = by_test (λ k. decides x ts bs h.1 k) (is_same d c) refl e
    where
      by_test : (list_any (is_same d) (filter_map known_in ts) ≡ true → all bs ≡ d) → (t : Bool) → is_same d c ≡ t → (t || list_any (is_same d) (filter_map known_in ts)) ≡ true → all (b ∷ bs) ≡ d
      by_test ih true s k = hit_by b bs (h.0 ∙ same_is d c s)
      by_test ih false s k = kept b bs (ih k)
  decides x (opened i a ∷ ts) (b ∷ bs) h e = kept b bs (decides x ts bs h.1 e)
  decides x (none k ∷ ts) (b ∷ bs) h e = absurd h.0
  decides x [] (b ∷ bs) h e = absurd h
  decides x (t ∷ ts) [] h e = absurd h

  first_undeciding : (b : Bool) (bs : List Bool) → list_any (is_same d) (b ∷ bs) ≡ false → (b ≡ not d) × (list_any (is_same d) bs ≡ false)
  first_undeciding b bs e = by_test (is_same d b) refl e
    where
      by_test : (t : Bool) → is_same d b ≡ t → (t || list_any (is_same d) bs) ≡ false → (b ≡ not d) × (list_any (is_same d) bs ≡ false)
      by_test true s k = absurd (true≢false k)
      by_test false s k = (other_is d b s, k)

  -- no known one decides, and none is open
  none_decides : (x : Assignment) (ts : List Truth) (bs : List Bool) → StandFor x ts bs → list_any (is_same d) (filter_map known_in ts) ≡ false → filter_map open_in ts ≡ [] → all bs ≡ not d
  none_decides x [] [] h e n = of_none
  none_decides x (known c ∷ ts) (b ∷ bs) h e n =
      let s = first_undeciding c (filter_map known_in ts) e in miss_by b bs (h.0 ∙ s.0) ∙ none_decides x ts bs h.1 s.1 n
  none_decides x (opened i a ∷ ts) (b ∷ bs) h e n = cc
  none_decides x (none k ∷ ts) (b ∷ bs) h e n = absurd h.0
  none_decides x [] (b ∷ bs) h e n = absurd h
  none_decides x (t ∷ ts) [] h e n = absurd h

  same_tail : (p q : ℕ × Abs) (us vs : List (ℕ × Abs)) → p ∷ us ≡ q ∷ vs → (p ≡ q) × (us ≡ vs)
  same_tail p q us vs e = (cc, cc)

  -- and one is open
  open_decides : (b : Bool) (bs : List Bool) → all bs ≡ not d → all (b ∷ bs) ≡ b
  open_decides b bs h = by_test (is_same d b) refl
    where
      by_test : (t : Bool) → is_same d b ≡ t → all (b ∷ bs) ≡ b
      by_test true e = hit_by b bs (same_is d b e) ∙ sym (same_is d b e)
      by_test false e = miss_by b bs (other_is d b e) ∙ h ∙ sym (other_is d b e)

  one_open : (x : Assignment) (ts : List Truth) (bs : List Bool) (p : ℕ × Abs) → StandFor x ts bs → list_any (is_same d) (filter_map known_in ts) ≡ false → filter_map open_in ts ≡ p ∷ [] → Logical (all bs) ≡ abs_at x p.1
  one_open x [] [] p h e n = cc
  one_open x (known c ∷ ts) (b ∷ bs) p h e n =
      let s = first_undeciding c (filter_map known_in ts) e in ap Logical (miss_by b bs (h.0 ∙ s.0)) ∙ one_open x ts bs p h.1 s.1 n
  one_open x (opened i a ∷ ts) (b ∷ bs) p h e n =
      let s = same_tail (i, a) p (filter_map open_in ts) [] n in
      ap Logical (open_decides b bs (none_decides x ts bs h.1 e s.1)) ∙ sym h.0 ∙ ap (λ (q : ℕ × Abs). abs_at x q.1) s.0
  one_open x (none k ∷ ts) (b ∷ bs) p h e n = absurd h.0
  one_open x [] (b ∷ bs) p h e n = absurd h
  one_open x (t ∷ ts) [] p h e n = absurd h

  -- ---- the row
  module _ (args : List AbsArg) (sound : AreSound args) where
    abbrev at : Assignment → Arg
    at x = exact (on_ok (logicals_of (map (arg_at x) args)) (of_some all))

    at_error : (x : Assignment) (k : ErrorKind) → first_error (truths_of 0 args) ≡ Some k → at x ≡ arg.One (Error k)
    at_error x k e = ap (λ r. exact (on_ok r (of_some all))) (truths_fail x (truths_of 0 args) _ k (all_truths x 0 args) e)

    -- the logicals at an assignment, and what is made of them
    pub record Seen (x : Assignment) (ts : List Truth) : Type 0 where
      pub logicals : List Bool
      pub stand : StandFor x ts logicals
      pub is : at x ≡ exact (of_some all logicals)

    seen : (x : Assignment) (ts : List Truth) → truths_of 0 args ≡ ts → first_error ts ≡ None → Seen x ts
    seen x ts e n =
        let g = truths_give x ts _ (subst (λ ts. AreTruths x ts (flat_map logicals_in (map (arg_at x) args))) e (all_truths x 0 args)) n in
        record { logicals = g.0; stand = g.2; is = ap (λ r. exact (on_ok r (of_some all))) g.1 }

    of_none_seen : (x : Assignment) (bs : List Bool) → StandFor x [] bs → exact (of_some all bs) ≡ arg.One (Error Rattle.cell_refs.specs.declared.error_kind.ErrorKind.TheVariants.Value)
    of_none_seen x [] h = refl
    of_none_seen x (b ∷ bs) h = absurd h

    of_some_seen : (x : Assignment) (t : Truth) (ts : List Truth) (bs : List Bool) → StandFor x (t ∷ ts) bs → exact (of_some all bs) ≡ arg.One (Logical (all bs))
    of_some_seen x t ts [] h = absurd h
    of_some_seen x t ts (b ∷ bs) h = refl

    by_open : (t : Truth) (ts : List Truth) → truths_of 0 args ≡ t ∷ ts → first_error (t ∷ ts) ≡ None → list_any (is_same d) (filter_map known_in (t ∷ ts)) ≡ false
        → (us : List (ℕ × Abs)) → filter_map open_in (t ∷ ts) ≡ us → IsRightArg at args (exact (one (of_open d us)))
    by_open t ts e n k [] s = λ x.
        let g = seen x (t ∷ ts) e n in
        g.is ∙ of_some_seen x t ts g.logicals g.stand ∙ ap (λ b. arg.One (Logical b)) (none_decides x (t ∷ ts) g.logicals g.stand k s)
    by_open t ts e n k (p ∷ []) s = λ x.
        let g = seen x (t ∷ ts) e n in
        g.is ∙ of_some_seen x t ts g.logicals g.stand ∙ ap arg.One (one_open x (t ∷ ts) g.logicals p g.stand k s)
    by_open t ts e n k (p ∷ q ∷ us) s =
        let r = first_varies 0 args p (q ∷ us) sound (ap (filter_map open_in) e ∙ s) in
        let j : p.0 ≡ r.0 = omega (arith, r.1) in
        subst (ArgumentVaries arg_at args) (sym j) r.2

    by_known : (t : Truth) (ts : List Truth) → truths_of 0 args ≡ t ∷ ts → first_error (t ∷ ts) ≡ None → (k : Bool) → list_any (is_same d) (filter_map known_in (t ∷ ts)) ≡ k
        → IsRightArg at args (exact (one (decided_by d k (of_open d (filter_map open_in (t ∷ ts))))))
    by_known t ts e n true k = λ x.
        let g = seen x (t ∷ ts) e n in
        g.is ∙ of_some_seen x t ts g.logicals g.stand ∙ ap (λ b. arg.One (Logical b)) (decides x (t ∷ ts) g.logicals g.stand k)
    by_known t ts e n false k = by_open t ts e n k (filter_map open_in (t ∷ ts)) refl

    by_truths : (ts : List Truth) → truths_of 0 args ≡ ts → (k : Option ErrorKind) → first_error ts ≡ k → IsRightArg at args (exact (one (of_truths d ts k)))
    by_truths ts e (Some k) n = λ x. at_error x k (ap first_error e ∙ n)
    by_truths [] e None n = λ x. let g = seen x [] e n in g.is ∙ of_none_seen x g.logicals g.stand
    by_truths (t ∷ ts) e None n = by_known t ts e n (list_any (is_same d) (filter_map known_in (t ∷ ts))) refl

    pub junction_right : IsRightArg at args (exact (junction d args))
    junction_right = by_truths (truths_of 0 args) refl (first_error (truths_of 0 args)) refl

pub and_right : (args : List AbsArg) → AreSound args → IsRightArg (λ x. exact (and_of (map (arg_at x) args))) args (exact (junction false args))
and_right args h = junction_right false (list_all (λ b. b)) refl (λ bs. refl) (λ bs. refl) args h

pub or_right : (args : List AbsArg) → AreSound args → IsRightArg (λ x. exact (or_of (map (arg_at x) args))) args (exact (junction true args))
or_right args h = junction_right true (list_any (λ b. b)) refl (λ bs. refl) (λ bs. refl) args h

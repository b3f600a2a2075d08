-- What holds along a whole trail, and that what it answers is true.
use Rattle.std.proofs.Common.{◌≡◌, ℕ, suc, refl, sym, ap, ◌∙◌, subst, List, [], ◌∷◌, get_or, true, false, inl, inr}
use Rattle.std.specs.Prelude.{Option, Some, None, slice_get}
use Rattle.std.specs.List.{AllByRecursion}
use Rattle.std.proofs.lemmas.List.Elements.{All-from_recursion, recursion_from_All}
use Rattle.fractions.specs.Rational.{ℚ, neg_ℚ, ◌≤ℚ◌}
use Rattle.fractions.proofs.Order.{le_refl, neg_le}
use Rattle.fractions.proofs.Tests.{lt_iff}
use Rattle.fractions.proofs.Laws.{neg-neg}
use Rattle.optimality.specs.Problem.{Assignment, Goal, greatest, least, reach}
use Rattle.optimality.specs.Groups.{AreDifferent}
use Rattle.optimality.specs.Optimal.{IsBetter}
use Rattle.affine_forms.specs.Forms.{AffineForm}
use Rattle.affine_forms.specs.Assigned.{assigned}
use Rattle.affine_forms.proofs.Worths.{negated_worth}
use Rattle.dictionaries.specs.Dictionary.{Dictionary, pivoted}
use Rattle.dictionaries.specs.Run.{IsOnTheWay}
use Rattle.dictionaries.proofs.Runs.{first_on_the_way, step_on_the_way}
use Rattle.linear_models.specs.Worths.{form_at}
use Rattle.linear_models.specs.Model.{Model, IsGroupOf, IsPoint, IsValid, maximised, objective_of}
use Rattle.linear_models.proofs.Permits.{points_are_permitted}
use Rattle.opt_certificate.proofs.WaysOut.{way_out}
use Rattle.node_pick.specs.Rules.{Rule}
use Rattle.searches.specs.Trees.{Node, Found}
use Rattle.searches.specs.Trails.{State, Work, without_place, is_plain, node_program, Becomes, goes_on, ends, Grows, opens, pivots, stays, grows, SearchUnit, Trail, IsOver, none_waits, one_is_enough, unbounded_at_once, HasNoObjective, HasNoMarks}
use Rattle.searches.specs.Answers.{Answer, optimal, infeasible, Says, best_found, none_found, none_in_second, way_from_found, way_at_once, value_at, IsTrueOf}
use Rattle.searches.specs.Laws.{AnswersAreTrue}
use Rattle.searches.proofs.Members.{In, in_rest}
use Rattle.searches.proofs.Holds.{Holds, IsCovered, waits, reached, back, at_start}
use Rattle.searches.proofs.Ends.{tells, keeps, node_regular}

-- what holds of a state: of one with a node that is worked on, as if that node waited still
abbrev pub HoldsWith : Model → State → Option Work → Type 0
HoldsWith m s None = Holds m s
HoldsWith m s (Some w) = Holds m (back s w.node) × IsOnTheWay (node_program m s.way w.node) w.dictionary

abbrev pub Stands : Model → State → Type 0
Stands m s = HoldsWith m s s.work

-- the opening takes the node from its place to the front
opening_holds : (m : Model) (s : State) (p : ℕ) (node : Node) → slice_get s.waiting p ≡ Some node → Holds m s → Holds m (back (without_place s p) node)
opening_holds m s p node e h = record { covers = λ x q. moved x (h.covers x q); found_is = h.found_is; way_is = h.way_is }
  where
    moved : (x : Assignment) → IsCovered m s x → IsCovered m (back (without_place s p) node) x
    moved x (waits n i w) = waits n (in_rest s.waiting p n node e i) w
    moved x (reached f q l) = reached f q l

becoming : (m : Model) (s : State) (node : Node) (k : ℕ) (d : Dictionary) (t : State) → IsValid m → Holds m (back s node)
    → IsOnTheWay (node_program m s.way node) d → Becomes m s node k d t → Stands m t
becoming m s node k d t v h r (goes_on n) = (h, r)
becoming m s node k d t v h r (ends o e x c) = keeps m s node k o e v h (tells m s.way node d o v r x) c

pub growing : (m : Model) (rule : Rule) (s t : State) (u : SearchUnit) → IsValid m → Stands m s → Grows m rule s u t → Stands m t
growing m rule s t u v h (opens p node t' z o e q b) =
    becoming m (without_place s p) node 0 _ t v (opening_holds m s p node e (subst (HoldsWith m s) z h)) (first_on_the_way _ (node_regular m s.way node v)) b
growing m rule s t u v h (pivots w r c t' z n y b) =
    let k : HoldsWith m s (Some w) = subst (HoldsWith m s) z h in
    becoming m s w.node (suc w.pivots) _ t v k.0
    (step_on_the_way (node_program m s.way w.node) w.dictionary (pivoted w.dictionary r c) k.1 record { row = r; column = c; is_next = n; is_narrow = y; after = refl }) b

pub trail_stands : (m : Model) (rule : Rule) (us : List SearchUnit) (s : State) → IsValid m → Trail m rule us s → Stands m s
trail_stands m rule us s v stays = at_start m
trail_stands m rule us s v (grows vs r u t' l g) = growing m rule r s u v (trail_stands m rule vs r v l) g

-- ---- the answers
some_is : {x y : ℚ} → Some x ≡ Some y → x ≡ y
some_is e = cc

-- what is better has a greater value
not_better : (g : Goal) (f : AffineForm) (a b : Assignment) (x y : ℚ) → Some x ≡ objective_of g f b → Some y ≡ objective_of g f a → form_at (maximised g f) b ≤ℚ form_at (maximised g f) a → IsBetter g x y → ⊥
not_better greatest f a b x y e q h w = (lt_iff _ _).0 w (subst (λ t. t ≤ℚ y) (sym (some_is e)) (subst (λ t. form_at f b ≤ℚ t) (sym (some_is q)) h))
not_better least f a b x y e q h w =
    let k : form_at f a ≤ℚ form_at f b = rw (neg-neg, neg-neg) at (neg_le _ _ (subst (λ t. t ≤ℚ neg_ℚ (form_at f a)) (negated_worth (assigned b) f) (subst (λ t. form_at (maximised least f) b ≤ℚ t) (negated_worth (assigned a) f) h))) in
    (lt_iff _ _).0 w (subst (λ t. t ≤ℚ x) (sym (some_is q)) (subst (λ t. form_at f a ≤ℚ t) (sym (some_is e)) k))
not_better (reach v) f a b x y e q h w = w

same_values : (m : Model) → HasNoObjective m → (x y : Assignment) → value_at m x ≡ value_at m y
same_values m h x y = ap (λ (f : AffineForm). form_at f x) h ∙ sym (ap (λ (f : AffineForm). form_at f y) h)

plain_is : (s : State) → s.way ≡ None → is_plain s.way ≡ false
plain_is s e = ap is_plain e

best_is : (m : Model) (s : State) (f : Found) → Holds m s → IsOver m s → s.way ≡ None → s.found ≡ Some f → IsTrueOf m (optimal f.point f.value)
best_is m s f h o n e = (
  record {
    permitted = (points_are_permitted m f.point).1 (h.found_is f e).is_point;
    best = λ b pb w. not_better m.goal m.objective f.point b w.mine w.other (sym w.mine_is) (sym w.other_is) (subst (λ t. value_at m b ≤ℚ t) (sym value) (by_over o b ((points_are_permitted m b).0 pb))) w.better;
  },
  value,
)
  where
    value : value_at m f.point ≡ f.value
    value = (h.found_is f e).value (plain_is s n)

    f_same : (f g : Found) → Some f ≡ Some g → f ≡ g
    f_same f g e = cc

    covered : (y : Assignment) → s.waiting ≡ [] → IsCovered m s y → value_at m y ≤ℚ f.value
    covered y z (waits k i w) = let j : In [] k = subst (λ (u : List Node). In u k) z i in absurd j
    covered y z (reached g q l) = subst (λ (u : Found). value_at m y ≤ℚ u.value) (f_same g f (sym q ∙ e)) (l (plain_is s n))

    by_over : IsOver m s → (y : Assignment) → IsPoint m y → value_at m y ≤ℚ f.value
    by_over (none_waits z) y p = covered y z (h.covers y p)
    by_over (one_is_enough g (inl t) q) y p = absurd (let s = plain_is s n in let r : true ≡ false = sym t ∙ s in cc)
    by_over (one_is_enough g (inr t) q) y p = subst (λ (u : ℚ). value_at m y ≤ℚ u) (same_values m t y f.point ∙ value) (le_refl _)
    by_over (unbounded_at_once w t q) y p = absurd cc

none_is : (m : Model) (s : State) → Holds m s → s.waiting ≡ [] → s.found ≡ None → IsTrueOf m infeasible
none_is m s h z n y p = covered (h.covers y ((points_are_permitted m y).0 p))
  where
    covered : IsCovered m s y → ⊥
    covered (waits k i w) = subst (λ (u : List Node). In u k) z i
    covered (reached g q l) = absurd cc

-- without whole marks no group has a decision
without_marks : (m : Model) (x : Assignment) (gs : List (List ℕ)) → HasNoMarks m → AllByRecursion (IsGroupOf m) gs → AllByRecursion (AreDifferent x) gs
without_marks m x [] t h = tt
without_marks m x (g ∷ gs) t h = (record { apart = λ i k l n e. absurd (t (get_or g i 0) (h.0.marked i l)) }, without_marks m x gs t h.1)

true_answer : (m : Model) (s : State) (a : Answer) → IsValid m → Holds m s → IsOver m s → Says m s a → IsTrueOf m a
true_answer m s a v h o (best_found f n e) = best_is m s f h o n e
true_answer m s a v h o (none_found n e) = by_over o
  where
    by_over : IsOver m s → IsTrueOf m infeasible
    by_over (none_waits z) = none_is m s h z e
    by_over (one_is_enough g t q) = absurd cc
    by_over (unbounded_at_once w t q) = absurd cc
true_answer m s a v h o (none_in_second w n e k) = by_over o
  where
    by_over : IsOver m s → IsTrueOf m infeasible
    by_over (none_waits z) = none_is m s h z e
    by_over (one_is_enough g t q) = absurd cc
    by_over (unbounded_at_once w' t q) = absurd (k t)
true_answer m s a v h o (way_from_found w f n e) =
    let p = (h.found_is f e).is_point in let d = (h.way_is w n).is_way in (p, (d, way_out m f.point w.direction v p d))
true_answer m s a v h o (way_at_once w t n e) =
    let q = (h.way_is w n).is_point in
    let p : IsPoint m w.point = record { one_each = q.one_each; rows = q.rows; whole = λ j l. absurd (t j l); bounds = q.bounds; different = All-from_recursion (AreDifferent w.point) m.groups (without_marks m w.point m.groups t (recursion_from_All (IsGroupOf m) m.groups v.groups)) } in
    let d = (h.way_is w n).is_way in
    (p, (d, way_out m w.point w.direction v p d))

-- what a search that is over answers is true of the model
pub answers_are_true : AnswersAreTrue
answers_are_true m rule us s a v t n o y = true_answer m s a v (subst (HoldsWith m s) n (trail_stands m rule us s v t)) o y

-- When a search is over, and what it says then.
use Rattle.std.proofs.Common.{◌≡◌, ◌≢◌, ℕ, refl, sym, ap, ap₂, ◌∙◌, subst, List, [], ◌∷◌, length, map, Bool, true, false, ◌⊎◌, inl, inr}
use Rattle.std.specs.Prelude.{Option, Some, None, ◌↔◌, IsTrue, not, ◌==◌}
use Rattle.std.specs.Option.{is_some}
use Rattle.std.proofs.lemmas.Bool.{false≢true}
use Rattle.std.specs.Option.{option_map}
use Rattle.fractions.specs.Rational.{ℚ, zero_ℚ, neg_ℚ}
use Rattle.fractions.proofs.Laws.{neg-neg, neg-zero}
use Rattle.optimality.specs.Problem.{Goal}
use Rattle.affine_forms.specs.Forms.{AffineForm, constant_form, negated, negated_terms}
use Rattle.node_pick.specs.Rules.{free}
use Rattle.linear_models.specs.Model.{Model, IsValid, maximised}
use Rattle.searches.specs.Trees.{Found, Way}
use Rattle.searches.specs.Trails.{State, IsOver, none_waits, one_is_enough, unbounded_at_once, is_plain, HasNoMarks, HasNoObjective}
use Rattle.searches.proofs.Holds.{Holds}
use Rattle.searches.proofs.Trails.{trail_stands, HoldsWith}
use Rattle.node_pick.specs.declared.info.NodeInfo.{NodeInfo}
use Rattle.branch_bound.specs.declared.frontier.Frontier.{Frontier}
use Rattle.branch_bound.specs.declared.frontier.Way.{Way as HeldWay}
use Rattle.branch_bound.specs.declared.search.Search.TheInside.{Inside}
use Rattle.branch_bound.specs.States.{state_of, found_of, way_of, work_of, waiting_of}
use Rattle.branch_bound.specs.Fields.{held_of}
use Rattle.branch_bound.specs.Searches.{HasEnded, HasTrail}
use Rattle.branch_bound.proofs.Telling.{at_rest}

-- ---- no objective
pub form_is_zero : (f : AffineForm) → f.constant ≡ zero_ℚ → f.terms ≡ [] → f ≡ constant_form zero_ℚ
form_is_zero f c t = ap₂ form c t
  where
    form : ℚ → List (ℕ × ℚ) → AffineForm
    form c t = record { constant = c; terms = t }

no_terms : (ts : List (ℕ × ℚ)) → negated_terms ts ≡ [] → ts ≡ []
no_terms [] e = refl
no_terms (t ∷ ts) e = absurd cc

pub negated_is_zero : (f : AffineForm) → (f ≡ constant_form zero_ℚ) ↔ (negated f ≡ constant_form zero_ℚ)
negated_is_zero f = (λ e. ap negated e ∙ form_is_zero (negated (constant_form zero_ℚ)) neg-zero refl, λ e. form_is_zero f (constant e) (no_terms f.terms (ap (λ (g : AffineForm). g.terms) e)))
  where
    constant : negated f ≡ constant_form zero_ℚ → f.constant ≡ zero_ℚ
    constant e = sym (neg-neg f.constant) ∙ ap neg_ℚ (ap (λ (g : AffineForm). g.constant) e) ∙ neg-zero

pub no_objective : (m : Model) (g : Goal) → g ≡ m.goal → maximised g m.objective ≡ constant_form zero_ℚ → HasNoObjective m
no_objective m g e h = subst (λ (k : Goal). maximised k m.objective ≡ constant_form zero_ℚ) e h

pub has_objective : (m : Model) (g : Goal) → g ≡ m.goal → HasNoObjective m → maximised g m.objective ≡ constant_form zero_ℚ
has_objective m g e h = subst (λ (k : Goal). maximised k m.objective ≡ constant_form zero_ℚ) (sym e) h

-- ---- over
pub over_by_found : (m : Model) (s : State) (f : Found) → s.waiting ≢ [] → s.found ≡ Some f → IsOver m s → (is_plain s.way ≡ true) ⊎ HasNoObjective m
over_by_found m s f n e (none_waits h) = absurd (n h)
over_by_found m s f n e (one_is_enough g h q) = h
over_by_found m s f n e (unbounded_at_once w h q) = inl (ap is_plain q)

pub over_by_way : (m : Model) (s : State) → s.waiting ≢ [] → s.found ≡ None → IsOver m s → (w : Way) × HasNoMarks m × (s.way ≡ Some w)
over_by_way m s n e (none_waits h) = absurd (n h)
over_by_way m s n e (one_is_enough g h q) = absurd cc
over_by_way m s n e (unbounded_at_once w h q) = (w, h, q)

-- ---- by what is held
pub some_of : {X : Type 0} (o : Option X) → is_some o ≡ true → (x : X) × (o ≡ Some x)
some_of None e = absurd cc
some_of (Some x) e = (x, refl)

pub none_of : {X : Type 0} (o : Option X) → is_some o ≡ false → o ≡ None
none_of None e = refl
none_of (Some x) e = absurd cc

pub some_waits : (n : ℕ) (xs : List NodeInfo) (b : Bool) → n ≡ length xs → b ≡ (n == 0) → b ≡ false → xs ≢ []
some_waits n xs b e h k z = absurd (false≢true (sym k ∙ h ∙ ap (λ (j : ℕ). j == 0) (e ∙ ap length z)))

no_nodes : {X Y : Type 0} (f : X → Y) (xs : List X) → xs ≢ [] → map f xs ≢ []
no_nodes f [] n e = n refl
no_nodes f (x ∷ xs) n e = absurd cc

pub over_both : (m : Model) (f : Frontier) → is_some f.found ≡ true → is_some f.way ≡ true → IsOver m (state_of f None)
over_both m f e h =
    let x = some_of f.found e in
    let y = some_of f.way h in
    one_is_enough (found_of x.0) (inl (ap (λ (w : Option HeldWay). is_plain (option_map way_of w)) y.1)) (ap (option_map found_of) x.1)

pub over_objective : (m : Model) (f : Frontier) → f.waiting.items ≢ [] → is_some f.found ≡ true → is_some f.way ≡ false → IsOver m (state_of f None) ↔ HasNoObjective m
over_objective m f n e h =
    let x = some_of f.found e in
    let plain : is_plain (option_map way_of f.way) ≡ false = ap (λ (w : Option HeldWay). is_plain (option_map way_of w)) (none_of f.way h) in (
      λ o. elim (over_by_found m (state_of f None) (found_of x.0) (no_nodes (waiting_of f.paths.paths) f.waiting.items n) (ap (option_map found_of) x.1) o) [
        | inl p ↦ absurd (false≢true (sym plain ∙ p))
        | inr q ↦ q
      ],
      λ q. one_is_enough (found_of x.0) (inr q) (ap (option_map found_of) x.1),
    )

pub over_marks : (m : Model) (f : Frontier) (b : Bool) → f.waiting.items ≢ [] → is_some f.found ≡ false → is_some f.way ≡ true → IsTrue b ↔ ¬ (HasNoMarks m) → IsTrue (not b) ↔ IsOver m (state_of f None)
over_marks m f true n e h k = (
  λ t. absurd (false≢true t),
  λ o. absurd (k.0 refl (over_by_way m (state_of f None) (no_nodes (waiting_of f.paths.paths) f.waiting.items n) (ap (option_map found_of) (none_of f.found e)) o).1),
)
over_marks m f false n e h k =
    let y = some_of f.way h in (
      λ t. unbounded_at_once (way_of y.0) (λ j q. absurd (false≢true (k.1 (λ g. g j q)))) (ap (option_map way_of) y.1),
      λ o. refl,
    )

-- a search has ended where no node is worked on and it is over
pub ended_is : (s : Inside) (b : Bool) → is_some s.work ≡ false → IsTrue b ↔ IsOver s.model (state_of s.frontier None) → IsTrue b ↔ HasEnded (held_of s)
ended_is s b e h =
    let z : option_map (work_of s.frontier.paths.paths) s.work ≡ None = ap (option_map (work_of s.frontier.paths.paths)) (none_of s.work e) in
    let q = at_rest s.frontier s.work z in (
      λ t. record { at_rest = z; over = subst (IsOver s.model) q (h.0 t) },
      λ d. h.1 (subst (IsOver s.model) (sym q) d.over),
    )

-- ---- sizes
-- of a search at rest the point that is found, and the way out, have a number for each decision
holds : (m : Model) (n : ℕ) (s : State) → IsValid m → HasTrail m n s → s.work ≡ None → Holds m s
holds m n s v h z = subst (HoldsWith m s) z (trail_stands m free h.units s v h.trail)

pub found_size : (m : Model) (n : ℕ) (s : State) (f : Found) → IsValid m → HasTrail m n s → s.work ≡ None → s.found ≡ Some f → length f.point ≡ length m.whole
found_size m n s f v h z e = ((holds m n s v h z).found_is f e).is_point.one_each

pub way_size : (m : Model) (n : ℕ) (s : State) (w : Way) → IsValid m → HasTrail m n s → s.work ≡ None → s.way ≡ Some w → (length w.point ≡ length m.whole) × (length w.direction ≡ length m.whole)
way_size m n s w v h z e = (((holds m n s v h z).way_is w e).is_point.one_each, ((holds m n s v h z).way_is w e).is_way.one_each)

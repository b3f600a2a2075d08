-- What holds after each unit: every point of the model is in a node that waits, or no better than the point found.
use Rattle.std.proofs.Common.{◌≡◌, ℕ, refl, sym, subst, ◌∷◌, false, inl, inr}
use Rattle.std.specs.Prelude.{Option, Some, None}
use Rattle.fractions.specs.Rational.{◌≤ℚ◌}
use Rattle.optimality.specs.Problem.{Assignment}
use Rattle.linear_models.specs.Box.{InBox}
use Rattle.linear_models.specs.Model.{Model, IsPoint}
use Rattle.linear_models.specs.Laws.{IsBoxPoint}
use Rattle.opt_certificate.specs.Certificate.{IsWayOut}
use Rattle.searches.specs.Trees.{Node, End, new_nodes, root, Found, Way}
use Rattle.searches.specs.Trails.{State, start, ended, is_plain, box_of, waiting_after}
use Rattle.searches.specs.Answers.{value_at}
use Rattle.searches.proofs.Members.{In}

-- a point is in the box of a node that waits, or a found point is at least as good; where the objective is 0 each is
pub data IsCovered (m : Model) (s : State) (x : Assignment) : Type 0 where
  waits : (n : Node) → In s.waiting n → InBox (box_of m n) x → IsCovered m s x
  reached : (f : Found) → s.found ≡ Some f → (is_plain s.way ≡ false → value_at m x ≤ℚ f.value) → IsCovered m s x

pub record IsTrueFound (m : Model) (way : Option Way) (f : Found) : Type 0 where
  pub is_point : IsPoint m f.point
  pub value : is_plain way ≡ false → value_at m f.point ≡ f.value

pub record IsTrueWay (m : Model) (w : Way) : Type 0 where
  pub is_point : IsBoxPoint m m.bounds w.point
  pub is_way : IsWayOut m w.direction

pub record Holds (m : Model) (s : State) : Type 0 where
  pub covers : (x : Assignment) → IsPoint m x → IsCovered m s x
  pub found_is : (f : Found) → s.found ≡ Some f → IsTrueFound m s.way f
  pub way_is : (w : Way) → s.way ≡ Some w → IsTrueWay m w

pub at_start : (m : Model) → Holds m start
at_start m = record {
  covers = λ x h. waits (root 0) (inl refl) h.bounds;
  found_is = λ f e. absurd cc;
  way_is = λ w e. absurd cc;
}

-- a state with the node back in front of those that wait
abbrev pub back : State → Node → State
back s node = record s { waiting = node ∷ s.waiting; work = None }

-- the end of a node covers what was covered, if it covers the points of the node's box, keeps those that wait and what the found point covers
pub end_covers : (m : Model) (s : State) (node : Node) (k : ℕ) (e : End) → Holds m (back s node)
    → ((n : Node) → In s.waiting n → In (waiting_after e s.waiting (new_nodes s.count node e)) n)
    → ((x : Assignment) → IsPoint m x → InBox (box_of m node) x → IsCovered m (ended s node k e) x)
    → ((x : Assignment) (f : Found) → s.found ≡ Some f → (is_plain s.way ≡ false → value_at m x ≤ℚ f.value) → IsCovered m (ended s node k e) x)
    → (x : Assignment) → IsPoint m x → IsCovered m (ended s node k e) x
end_covers m s node k e h stay inside kept x p = cases (h.covers x p)
  where
    cases : IsCovered m (back s node) x → IsCovered m (ended s node k e) x
    cases (waits n (inl q) w) = inside x p (subst (λ (u : Node). InBox (box_of m u) x) (sym q) w)
    cases (waits n (inr j) w) = waits n (stay n j) w
    cases (reached f q l) = kept x f q l

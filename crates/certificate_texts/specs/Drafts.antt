-- What is read of a certificate, and what is still to come. No public clause cites this module.
use Rattle.std.specs.Prelude.{◌≡◌, ◌≢◌, ◌<◌, ◌≤◌, ◌+◌, ◌^◌, ℕ, suc, Bool, true, false, List, [], ◌∷◌, ◌++◌, length, map, Some, IsSome}
use Rattle.fractions.specs.Rational.{ℚ}
use Rattle.opt_certificate.specs.Certificate.{Claim, optimal, infeasible, unbounded}
use Rattle.opt_certificate.specs.Nodes.{Node, split_at, best_leaf, empty_leaf, clash_leaf}
use Rattle.opt_certificate.specs.Trees.{node_of}
use Rattle.certificate_lines.specs.Line.{Line, claim_line, point_line, end_line, said_optimal, said_unbounded, IsLine, line_text, line_weight, weight}
use Rattle.certificate_lines.specs.Cert.{claim_lines}
use Rattle.certificate_lines.specs.Heads.{most_weight}
use Rattle.certificate_lines.specs.Machine.{State, at_claim, at_point, at_start, at_ray, at_trees, at_end, step}
use Rattle.certificate_lines.specs.Reading.{ReadTo, MayFollow}
use Rattle.certificate_texts.specs.Nodes.{node_line}
use Rattle.certificate_texts.specs.declared.draft.Draft.{Draft}
use Rattle.certificate_texts.specs.declared.draft.Kind.{Kind}
use Rattle.certificate_texts.specs.declared.draft.Kind.TheVariants as kinds
use Rattle.certificate_texts.specs.declared.draft.State.{State as Stage}
use Rattle.certificate_texts.specs.declared.draft.State.TheVariants as stages

-- what is to come
abbrev pub state_of : Stage → State
state_of stages.Claim = at_claim
state_of stages.Point = at_point
state_of stages.Start = at_start
state_of stages.Ray = at_ray
state_of (stages.Trees n) = at_trees n
state_of stages.Nothing = at_end

-- how many trees are to come
abbrev pub waiting_in : Stage → ℕ
waiting_in stages.Claim = 0
waiting_in stages.Point = 0
waiting_in stages.Start = 0
waiting_in stages.Ray = 0
waiting_in (stages.Trees n) = n
waiting_in stages.Nothing = 0

-- the claim, of a point and a direction
abbrev pub claim_in : Kind → List ℚ → List ℚ → Claim
claim_in kinds.Optimal a d = optimal a
claim_in kinds.Infeasible a d = infeasible
claim_in kinds.Unbounded a d = unbounded a d

-- the lines of the claim, and those of the nodes
abbrev pub head_lines : Draft → List Line
head_lines d = claim_lines (claim_in d.kind d.point.items d.ray.items) d.value

abbrev pub nodes_lines : Draft → List Line
nodes_lines d = map node_line (map node_of d.nodes.items)

-- the lines that are read
abbrev pub lines_in : Stage → Draft → List Line
lines_in stages.Claim d = []
lines_in stages.Point d = claim_line (said_optimal d.value) ∷ []
lines_in stages.Start d = claim_line said_unbounded ∷ []
lines_in stages.Ray d = claim_line said_unbounded ∷ point_line d.point.items ∷ []
lines_in (stages.Trees n) d = head_lines d ++ nodes_lines d
lines_in stages.Nothing d = head_lines d ++ (nodes_lines d ++ (end_line ∷ []))

abbrev pub lines_of : Draft → List Line
lines_of d = lines_in d.state d

-- there is no node before the claim is whole
abbrev pub IsBare : Stage → Draft → Type 0
IsBare stages.Claim d = d.nodes.items ≡ []
IsBare stages.Point d = d.nodes.items ≡ []
IsBare stages.Start d = d.nodes.items ≡ []
IsBare stages.Ray d = d.nodes.items ≡ []
IsBare (stages.Trees n) d = Unit {0}
IsBare stages.Nothing d = Unit {0}

-- what holds of each
pub record IsOpen (d : Draft) : Type 0 where
  pub bare : IsBare d.state d
  pub few : waiting_in d.state < 2 ^ 32
  pub light : d.weight ≤ most_weight

-- a leaf of so many rows
abbrev pub IsLeaf : Node → ℕ → Type 0
IsLeaf (split_at j f lower upper) rows = ⊥
IsLeaf (best_leaf ys) rows = rows ≡ length ys
IsLeaf (empty_leaf ys) rows = rows ≡ length ys
IsLeaf (clash_leaf i j) rows = rows ≡ 0

-- one line more is read
pub record Follows (d : Draft) (l : Line) (e : Draft) : Type 0 where
  pub lines : lines_of e ≡ lines_of d ++ (l ∷ [])
  pub next : step (state_of d.state) l ≡ Some (state_of e.state)
  pub weight : e.weight ≡ d.weight + line_weight l
  pub light : e.weight ≤ most_weight
  pub bare : IsBare e.state e
  pub few : waiting_in e.state ≤ suc (waiting_in d.state)

-- it is read, or can't stand there, or is too heavy
abbrev pub Taken : Draft → Line → Bool → Draft → Type 0
Taken d l true e = Follows d l e
Taken d l false e = IsSome (step (state_of d.state) l) → d.weight + line_weight l ≤ most_weight → ⊥

-- the text is that of a line that is read, or of none that may follow
abbrev pub TextTaken : Draft → List ℕ → Bool → Draft → Type 0
TextTaken d text true e = (l : Line) × (IsLine l × (text ≡ line_text l) × Follows d l e)
TextTaken d text false e = (l : Line) → MayFollow (state_of d.state) d.weight l → text ≢ line_text l

-- how far a text is read, over so many lines
pub record IsReadTo (text : List ℕ) (d : Draft) (rest : List ℕ) (count : ℕ) : Type 0 where
  pub read : ReadTo text (lines_of d) (state_of d.state) rest
  pub weight : weight (lines_of d) ≡ d.weight
  pub bare : IsBare d.state d
  pub few : waiting_in d.state ≤ suc count
  pub counted : length (lines_of d) ≡ count

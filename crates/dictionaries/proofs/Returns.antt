-- Turns of one phase, one after the other: which variables enter and leave where they come back to their first basis, and that they never do.
use Rattle.std.proofs.Common.{◌≡◌, ◌≢◌, ◌⊎◌, inl, inr, ⊎_elim, ℕ, ◌<◌, ◌≤◌, refl, sym, ◌∙◌, subst, List, [], ◌∷◌, arith}
use Rattle.fractions.specs.Rational.{ℚ, ◌≤ℚ◌, zero_ℚ}
use Rattle.fractions.specs.Vectors.{at}
use Rattle.fractions.proofs.Order.{le_refl, le_trans}
use Rattle.linear_programs.specs.Program.{Program}
use Rattle.dictionaries.specs.Dictionary.{Dictionary, row_of, IsBasic, SameBasis, IsDictionaryOf}
use Rattle.dictionaries.specs.Reading.{solution_at}
use Rattle.dictionaries.specs.Bland.{Phase, one, two, goal_of}
use Rattle.dictionaries.specs.Run.{last_of}
use Rattle.dictionaries.proofs.Solutions.{dictionary_once}
use Rattle.dictionaries.proofs.Bases.{basic_or, not_basic_too, basis_tells_dictionary}
use Rattle.dictionaries.proofs.Turns.{IsTurn, entering, leaving, IsSound, turn_sound, turn_back, turn_there, turn_in, IsBasicSolution, has_solution, turn_solution, goal_grows, goal_stays}
use Rattle.dictionaries.proofs.Clash.{no_clash}

-- each dictionary is a turn after the one before, d the first
abbrev pub Turns : Phase → Dictionary → List Dictionary → Type 0
Turns ph d [] = Unit {0}
Turns ph d (e ∷ es) = IsTurn ph d e × Turns ph e es

-- ---- what holds at some step, or at each
abbrev Somewhere : (ph : Phase) → ((d e : Dictionary) → IsTurn ph d e → Type 0) → (d : Dictionary) (later : List Dictionary) → Turns ph d later → Type 0
Somewhere ph P d [] r = ⊥
Somewhere ph P d (e ∷ es) r = P d e r.0 ⊎ Somewhere ph P e es r.1

abbrev Everywhere : (ph : Phase) → ((d e : Dictionary) → IsTurn ph d e → Type 0) → (d : Dictionary) (later : List Dictionary) → Turns ph d later → Type 0
Everywhere ph P d [] r = Unit {0}
Everywhere ph P d (e ∷ es) r = P d e r.0 × Everywhere ph P e es r.1

found : (ph : Phase) (P Q : (d e : Dictionary) → IsTurn ph d e → Type 0) (d : Dictionary) (later : List Dictionary) (r : Turns ph d later) → Somewhere ph P d later r → Everywhere ph Q d later r
    → (f : Dictionary) × (g : Dictionary) × (n : IsTurn ph f g) × P f g n × Q f g n
found ph P Q d [] r s a = absurd s
found ph P Q d (e ∷ es) r (inl h) a = (d, e, r.0, h, a.0)
found ph P Q d (e ∷ es) r (inr s) a = found ph P Q e es r.1 s a.1

every_map : (ph : Phase) (P Q : (d e : Dictionary) → IsTurn ph d e → Type 0) (d : Dictionary) (later : List Dictionary) (r : Turns ph d later)
    → ((d e : Dictionary) (n : IsTurn ph d e) → P d e n → Q d e n) → Everywhere ph P d later r → Everywhere ph Q d later r
every_map ph P Q d [] r f a = tt
every_map ph P Q d (e ∷ es) r f a = (f d e r.0 a.0, every_map ph P Q e es r.1 f a.1)

some_map : (ph : Phase) (P Q R : (d e : Dictionary) → IsTurn ph d e → Type 0) (d : Dictionary) (later : List Dictionary) (r : Turns ph d later)
    → ((d e : Dictionary) (n : IsTurn ph d e) → P d e n → Q d e n → R d e n) → Somewhere ph P d later r → Everywhere ph Q d later r → Somewhere ph R d later r
some_map ph P Q R d [] r f s a = s
some_map ph P Q R d (e ∷ es) r f (inl h) a = inl (f d e r.0 h a.0)
some_map ph P Q R d (e ∷ es) r f (inr s) a = inr (some_map ph P Q R e es r.1 f s a.1)

-- ---- which variables enter and leave
abbrev Enter : (ph : Phase) (v : ℕ) (d e : Dictionary) → IsTurn ph d e → Type 0
Enter ph v d e n = entering n ≡ v

abbrev Leave : (ph : Phase) (v : ℕ) (d e : Dictionary) → IsTurn ph d e → Type 0
Leave ph v d e n = leaving n ≡ v

abbrev Basic : (ph : Phase) (v : ℕ) (d e : Dictionary) → IsTurn ph d e → Type 0
Basic ph v d e n = IsBasic d v

abbrev Free : (ph : Phase) (v : ℕ) (d e : Dictionary) → IsTurn ph d e → Type 0
Free ph v d e n = ¬ (IsBasic d v)

gained_last : (ph : Phase) (v : ℕ) (d : Dictionary) (later : List Dictionary) (r : Turns ph d later) → IsBasic (last_of d later) v → IsBasic d v ⊎ Somewhere ph (Enter ph v) d later r
gained_last ph v d [] r b = inl b
gained_last ph v d (e ∷ es) r b = ⊎_elim (λ h. ⊎_elim (λ q. inr (inl q)) inl (turn_back v r.0 h)) (λ s. inr (inr s)) (gained_last ph v e es r.1 b)

gained : (ph : Phase) (v : ℕ) (d : Dictionary) (later : List Dictionary) (r : Turns ph d later) → Somewhere ph (Basic ph v) d later r → IsBasic d v ⊎ Somewhere ph (Enter ph v) d later r
gained ph v d [] r s = absurd s
gained ph v d (e ∷ es) r (inl b) = inl b
gained ph v d (e ∷ es) r (inr s) = ⊎_elim (λ h. ⊎_elim (λ q. inr (inl q)) inl (turn_back v r.0 h)) (λ s. inr (inr s)) (gained ph v e es r.1 s)

gained_after : (ph : Phase) (v : ℕ) (d : Dictionary) (later : List Dictionary) (r : Turns ph d later) → Somewhere ph (Free ph v) d later r → IsBasic (last_of d later) v
    → Somewhere ph (Enter ph v) d later r
gained_after ph v d [] r s b = absurd s
gained_after ph v d (e ∷ es) r (inl n) b = ⊎_elim (λ h. absurd (n h)) (λ s. s) (gained_last ph v d (e ∷ es) r b)
gained_after ph v d (e ∷ es) r (inr s) b = inr (gained_after ph v e es r.1 s b)

lost_last : (ph : Phase) (v : ℕ) (d : Dictionary) (later : List Dictionary) (r : Turns ph d later) → IsBasic d v → ¬ (IsBasic (last_of d later) v) → Somewhere ph (Leave ph v) d later r
lost_last ph v d [] r b n = absurd (n b)
lost_last ph v d (e ∷ es) r b n = ⊎_elim inl (λ h. inr (lost_last ph v e es r.1 h n)) (turn_there v r.0 b)

lost : (ph : Phase) (v : ℕ) (d : Dictionary) (later : List Dictionary) (r : Turns ph d later) → IsBasic d v → Somewhere ph (Free ph v) d later r → Somewhere ph (Leave ph v) d later r
lost ph v d [] r b s = absurd s
lost ph v d (e ∷ es) r b (inl n) = absurd (n b)
lost ph v d (e ∷ es) r b (inr s) = ⊎_elim inl (λ h. inr (lost ph v e es r.1 h s)) (turn_there v r.0 b)

entered_lost : (ph : Phase) (v : ℕ) (d : Dictionary) (later : List Dictionary) (r : Turns ph d later) → Somewhere ph (Enter ph v) d later r → ¬ (IsBasic (last_of d later) v)
    → Somewhere ph (Leave ph v) d later r
entered_lost ph v d [] r s n = absurd s
entered_lost ph v d (e ∷ es) r (inl q) n = inr (lost_last ph v e es r.1 (subst (λ v. IsBasic e v) q (turn_in r.0)) n)
entered_lost ph v d (e ∷ es) r (inr s) n = inr (entered_lost ph v e es r.1 s n)

-- in a run that ends with its first basis, what is basic at one place and not at another enters, and what enters leaves
moved_enters : (ph : Phase) (v : ℕ) (d : Dictionary) (later : List Dictionary) (r : Turns ph d later) → SameBasis d (last_of d later)
    → Somewhere ph (Basic ph v) d later r → Somewhere ph (Free ph v) d later r → Somewhere ph (Enter ph v) d later r
moved_enters ph v d later r same b f = ⊎_elim
    (λ h. gained_after ph v d later r f ((same v).0 h))
    (λ n. ⊎_elim (λ h. absurd (n h)) (λ s. s) (gained ph v d later r b))
    (basic_or d v)

enters_leaves : (ph : Phase) (v : ℕ) (d : Dictionary) (later : List Dictionary) (r : Turns ph d later) → SameBasis d (last_of d later)
    → Somewhere ph (Enter ph v) d later r → Somewhere ph (Free ph v) d later r → Somewhere ph (Leave ph v) d later r
enters_leaves ph v d later r same s f = ⊎_elim
    (λ h. lost ph v d later r h f)
    (λ n. entered_lost ph v d later r s (λ h. n ((same v).1 h)))
    (basic_or d v)

-- the greatest variable that enters
greatest : (ph : Phase) (d e : Dictionary) (es : List Dictionary) (r : Turns ph d (e ∷ es))
    → (t : ℕ) × Somewhere ph (Enter ph t) d (e ∷ es) r × ((v : ℕ) → Somewhere ph (Enter ph v) d (e ∷ es) r → v ≤ t)
greatest ph d e [] r = (entering r.0, inl refl, λ v s. ⊎_elim (λ q. omega arith) (λ h. absurd h) s)
greatest ph d e (f ∷ fs) r = greater (greatest ph e f fs r.1) (larger (entering r.0) (greatest ph e f fs r.1).0)
  where
    larger : (a b : ℕ) → (a ≤ b) ⊎ (b ≤ a)
    larger a b = grind arith

    greater : (g : (t : ℕ) × Somewhere ph (Enter ph t) e (f ∷ fs) r.1 × ((v : ℕ) → Somewhere ph (Enter ph v) e (f ∷ fs) r.1 → v ≤ t))
        → (entering r.0 ≤ g.0) ⊎ (g.0 ≤ entering r.0)
        → (t : ℕ) × Somewhere ph (Enter ph t) d (e ∷ f ∷ fs) r × ((v : ℕ) → Somewhere ph (Enter ph v) d (e ∷ f ∷ fs) r → v ≤ t)
    greater g (inl h) = (g.0, inr g.1, λ v s. ⊎_elim (λ q. omega arith) (λ i. g.2 v i) s)
    greater g (inr h) = (entering r.0, inl refl, λ v s. ⊎_elim (λ q. omega arith) (λ i. let k : v ≤ g.0 = g.2 v i in omega arith) s)

-- what enters is not variable 0, and was not basic
enters_some : (ph : Phase) (v : ℕ) (d : Dictionary) (later : List Dictionary) (r : Turns ph d later) → Somewhere ph (Enter ph v) d later r → v ≢ 0
enters_some ph v d [] r s = absurd s
enters_some ph v d (e ∷ es) r (inl q) = subst (λ v. v ≢ 0) q r.0.enters.improves.variable
enters_some ph v d (e ∷ es) r (inr s) = enters_some ph v e es r.1 s

-- ---- each turn, where the last goal is no higher than the first
record Still (ph : Phase) (p : Program) (x : ℕ → ℚ) (d e : Dictionary) (n : IsTurn ph d e) : Type 0 where
  sound : IsSound p d
  solution : IsBasicSolution d x
  still : at (row_of d n.row) 0 ≡ zero_ℚ

pub turns_sound : (ph : Phase) (p : Program) (d : Dictionary) (later : List Dictionary) → IsSound p d → Turns ph d later → IsSound p (last_of d later)
turns_sound ph p d [] s r = s
turns_sound ph p d (e ∷ es) s r = turns_sound ph p e es (turn_sound ph p d e s r.0) r.1

rises : (ph : Phase) (p : Program) (d : Dictionary) (later : List Dictionary) → IsSound p d → Turns ph d later → at (goal_of ph d) 0 ≤ℚ at (goal_of ph (last_of d later)) 0
rises ph p d [] s r = le_refl _
rises ph p d (e ∷ es) s r = le_trans _ _ _ (goal_grows r.0 s.feasible) (rises ph p e es (turn_sound ph p d e s r.0) r.1)

each_still : (ph : Phase) (p : Program) (x : ℕ → ℚ) (d : Dictionary) (later : List Dictionary) (r : Turns ph d later)
    → IsSound p d → IsBasicSolution d x → at (goal_of ph (last_of d later)) 0 ≤ℚ at (goal_of ph d) 0 → Everywhere ph (Still ph p x) d later r
each_still ph p x d [] r s b h = tt
each_still ph p x d (e ∷ es) r s b h =
    let s' = turn_sound ph p d e s r.0 in
    let z = goal_stays r.0 s.feasible (le_trans _ _ _ (rises ph p e es s' r.1) h) in (
      record { sound = s; solution = b; still = z },
      each_still ph p x e es r.1 s' (turn_solution ph p d e x s r.0 z b) (le_trans _ _ _ h (goal_grows r.0 s.feasible)),
    )

-- equal bases have equal goals
same_goal : (ph : Phase) (p : Program) (d e : Dictionary) → IsDictionaryOf p d → IsDictionaryOf p e → SameBasis d e → at (goal_of ph e) 0 ≡ at (goal_of ph d) 0
same_goal one p d e k l same = sym (basis_tells_dictionary p d e k l same).auxiliary.constant
same_goal two p d e k l same = sym (basis_tells_dictionary p d e k l same).objective.constant

-- ---- what a step of the run shows of the whole
record Within (ph : Phase) (d : Dictionary) (later : List Dictionary) (r : Turns ph d later) (f g : Dictionary) (n : IsTurn ph f g) : Type 0 where
  entering : Somewhere ph (Enter ph (entering n)) d later r
  basic : (v : ℕ) → IsBasic f v → Somewhere ph (Basic ph v) d later r
  free : (v : ℕ) → ¬ (IsBasic f v) → Somewhere ph (Free ph v) d later r

each_within : (ph : Phase) (d : Dictionary) (later : List Dictionary) (r : Turns ph d later) → Everywhere ph (Within ph d later r) d later r
each_within ph d [] r = tt
each_within ph d (e ∷ es) r = (
  record { entering = inl refl; basic = λ v h. inl h; free = λ v h. inl h },
  every_map ph (Within ph e es r.1) (Within ph d (e ∷ es) r) e es r.1
      (λ f g n w. record { entering = inr w.entering; basic = λ v h. inr (w.basic v h); free = λ v h. inr (w.free v h) }) (each_within ph e es r.1),
)

every_both : (ph : Phase) (P Q : (d e : Dictionary) → IsTurn ph d e → Type 0) (d : Dictionary) (later : List Dictionary) (r : Turns ph d later)
    → Everywhere ph P d later r → Everywhere ph Q d later r → Everywhere ph (λ d e n. P d e n × Q d e n) d later r
every_both ph P Q d [] r a b = tt
every_both ph P Q d (e ∷ es) r a b = ((a.0, b.0), every_both ph P Q e es r.1 a.1 b.1)

abbrev Known : (ph : Phase) (p : Program) (d : Dictionary) (later : List Dictionary) (r : Turns ph d later) (f g : Dictionary) → IsTurn ph f g → Type 0
Known ph p d later r f g n = Still ph p (solution_at d []) f g n × Within ph d later r f g n

-- ---- no run comes back to its basis
pub no_return : (ph : Phase) (p : Program) (d e : Dictionary) (es : List Dictionary) → IsSound p d → Turns ph d (e ∷ es) → SameBasis d (last_of e es) → ⊥
no_return ph p d e es w r same =
    let s = turns_sound ph p d (e ∷ es) w r in
    let z : at (goal_of ph (last_of e es)) 0 ≡ at (goal_of ph d) 0 = same_goal ph p d (last_of e es) w.dictionary s.dictionary same in
    let still : Everywhere ph (Still ph p (solution_at d [])) d (e ∷ es) r =
    each_still ph p (solution_at d []) d (e ∷ es) r w (has_solution p d w.dictionary) (subst (λ t. t ≤ℚ at (goal_of ph d) 0) (sym z) (le_refl (at (goal_of ph d) 0))) in
    let all : Everywhere ph (Known ph p d (e ∷ es) r) d (e ∷ es) r = every_both ph (Still ph p (solution_at d [])) (Within ph d (e ∷ es) r) d (e ∷ es) r still (each_within ph d (e ∷ es) r) in
    let t = greatest ph d e es r in
    let free : Somewhere ph (Free ph t.0) d (e ∷ es) r = some_map ph (Enter ph t.0) (Known ph p d (e ∷ es) r) (Free ph t.0) d (e ∷ es) r (enters_free t.0) t.1 all in
    clash t.0 t.2 (found ph (Leave ph t.0) (Known ph p d (e ∷ es) r) d (e ∷ es) r (enters_leaves ph t.0 d (e ∷ es) r same t.1 free) all) (found ph (Enter ph t.0) (Known ph p d (e ∷ es) r) d (e ∷ es) r t.1 all)
  where
    enters_free : (v : ℕ) (f g : Dictionary) (n : IsTurn ph f g) → entering n ≡ v → Known ph p d (e ∷ es) r f g n → ¬ (IsBasic f v)
    enters_free v f g n q b i = not_basic_too f v (dictionary_once p f b.0.sound.dictionary) i (n.column, n.enters.improves.column, q)

    clash : (t : ℕ) → ((v : ℕ) → Somewhere ph (Enter ph v) d (e ∷ es) r → v ≤ t)
        → (f : Dictionary) × (g : Dictionary) × (n : IsTurn ph f g) × (leaving n ≡ t) × Known ph p d (e ∷ es) r f g n
        → (f : Dictionary) × (g : Dictionary) × (n : IsTurn ph f g) × (entering n ≡ t) × Known ph p d (e ∷ es) r f g n → ⊥
    clash t most a b =
        let i : entering a.2 ≤ t = most (entering a.2) a.4.1.entering in
        let k : entering a.2 ≢ t = λ q. enters_free t a.0 a.1 a.2 q a.4 (a.2.row, a.2.leaves.candidate.row, a.3) in
        no_clash ph p a.0 b.0 a.2.column a.2.row b.2.column (solution_at d []) record {
          first = a.4.0.sound.dictionary;
          second = b.4.0.sound.dictionary;
          solves_first = a.4.0.solution;
          solves_second = b.4.0.solution;
          enters = a.2.enters;
          leaves = a.2.leaves;
          returns = b.2.enters;
          variable = b.3 ∙ sym a.3;
          still = a.4.0.still;
          smaller = subst (λ v. entering a.2 < v) (sym a.3) (less (entering a.2) t i k);
          moving = λ v m n.
              let s = moved_enters ph v d (e ∷ es) r same (a.4.1.basic v m) (b.4.1.free v (λ o. not_basic_too b.0 v (dictionary_once p b.0 b.4.0.sound.dictionary) o n)) in
              (enters_some ph v d (e ∷ es) r s, subst (λ t. v ≤ t) (sym a.3) (most v s));
        }
      where
        less : (x y : ℕ) → x ≤ y → x ≢ y → x < y
        less x y h n = omega arith

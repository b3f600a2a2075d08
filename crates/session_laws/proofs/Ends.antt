-- A search by a rule that names a node has one end, which is told in one way and writes the same.
use Rattle.std.proofs.Common.{◌≡◌, ◌<◌, ◌≤◌, ◌+◌, ◌∙◌, ℕ, List, length, Option, Some, None, refl, sym, ap, subst, arith}
use Rattle.std.specs.Prelude.{Vec, map, slice_index}
use Rattle.std.specs.Global.{Global}
use Rattle.fractions.specs.Rational.{ℚ}
use Rattle.optimality.specs.Problem.{Assignment}
use Rattle.cell_refs.specs.declared.cell.Cell.{Cell}
use Rattle.linear_models.specs.Model.{Model}
use Rattle.node_pick.specs.Rules.{free}
use Rattle.search_paths.specs.Steps.{step_of}
use Rattle.searches.specs.Answers as answers
use Rattle.searches.specs.Trails as trails
use Rattle.searches.proofs.Answering.{one_answer}
use Rattle.simplex.specs.Solved.{IsWidePivot}
use Rattle.workbook.specs.State.{State}
use Rattle.solver_names.specs.Statement.{Statement}
use Rattle.commands.specs.declared.answer.Answer.{Answer}
use Rattle.commands.specs.declared.answer.Answer.TheVariants as answer
use Rattle.commands.specs.declared.answer.PathStep.{PathStep}
use Rattle.session.specs.FromSheetSolving.{EndsWith, HasOpenLeaf, Searched, Task, total}
use Rattle.session.specs.FromSheetSolving.{HasNoRoom, IsSolved, Solves, StandsAt, by_cells}
use Rattle.session_laws.specs.Answers.{SameAnswer}
use Rattle.session_laws.proofs.Same.{equal_are_same, same_by}
use Rattle.session_laws.proofs.Tasks.{Follows, IsLast, asked_last, last_is_one, over_last, spent_last, wide_last}
use Rattle.session_laws.proofs.Trails.{one_pivot, same_work, trail_on}

some_is : {A : Type 0} {x y : A} → Some x ≡ Some y → x ≡ y
some_is e = cc

none_or_some : {A : Type 0} {x : A} → None ≡ Some x → ⊥
none_or_some e = absurd cc

module _ (task : Task) (m : Model) (before : State) (st : Statement) where
  -- ---- a search that is over
  -- an optimum is written, or a cell has no room for its number
  pub data Writes (x : Assignment) (a : Answer) (after : State) : Type 0 where
    written : (value : Option ℚ) → a ≡ answer.Optimal value → IsSolved before after st x value → Writes x a after
    no_room : (c : Cell) → a ≡ answer.NoRoom c → HasNoRoom before st x c → after ≡ before → Writes x a after

  -- what is answered where the search answers this
  abbrev pub Answers : answers.Answer → Answer → State → Type 0
  Answers (answers.optimal x v) a after = Writes x a after
  Answers answers.infeasible a after = (a ≡ answer.Infeasible) × (after ≡ before)
  Answers (answers.unbounded x d) a after = (a ≡ answer.Unbounded) × (after ≡ before)

  one_write : (x : Assignment) (a b : Answer) (i j : State) → Writes x a i → Writes x b j → (a ≡ b) × (i ≡ j)
  one_write x a b i j (written v e h) (written w f k) = (e ∙ (ap answer.Optimal (sym h.worth ∙ k.worth) ∙ sym f), h.written ∙ sym k.written)
  one_write x a b i j (written v e h) (no_room c f k s) = absurd (none_or_some (sym h.room ∙ k.full))
  one_write x a b i j (no_room c e h s) (written w f k) = absurd (none_or_some (sym k.room ∙ h.full))
  one_write x a b i j (no_room c e h s) (no_room d f k r) = (e ∙ (ap answer.NoRoom (some_is (sym h.full ∙ k.full)) ∙ sym f), s ∙ sym r)

  one_told : (end : answers.Answer) (a b : Answer) (i j : State) → Answers end a i → Answers end b j → (a ≡ b) × (i ≡ j)
  one_told (answers.optimal x v) a b i j h k = one_write x a b i j h k
  one_told answers.infeasible a b i j h k = (h.0 ∙ sym k.0, h.1 ∙ sym k.1)
  one_told (answers.unbounded x d) a b i j h k = (h.0 ∙ sym k.0, h.1 ∙ sym k.1)

  -- ---- where a search stands after so many units, and what is answered
  pub data AtEnd (n : ℕ) (s : trails.State) (a : Answer) (after : State) : Type 0 where
    over : (end : answers.Answer) → EndsWith m s end → Answers end a after → AtEnd n s a after
    wide : (path : Vec PathStep Global) (basis : Vec ℕ Global) (leaves enters : ℕ) → a ≡ answer.WidePivot path basis leaves enters
        → StandsAt task st.decisions n s path.items basis.items leaves enters → after ≡ before → AtEnd n s a after
    spent : (k : ℕ) → a ≡ answer.Budget k → k ≡ task.spent + n → task.budget ≤ k → HasOpenLeaf m s → after ≡ before → AtEnd n s a after

  record Ended (a : Answer) (after : State) : Type 0 where
    search : Searched task m
    at_end : AtEnd (length search.units) search.state a after

  ended : (a : Answer) (after : State) → Solves task before st m a after → Ended a after
  ended (answer.Optimal value) after h = record { search = h.0; at_end = over (answers.optimal h.1 h.2) h.3 (written value refl h.4) }
  ended answer.Infeasible after h = record { search = h.0; at_end = over answers.infeasible h.1 (refl, h.3) }
  ended answer.Unbounded after h = record { search = h.0; at_end = over (answers.unbounded h.1 h.2) h.3 (refl, h.5) }
  ended (answer.WidePivot path basis leaves enters) after h = record { search = h.0; at_end = wide path basis leaves enters refl h.1 h.2 }
  ended (answer.Budget n) after h = record { search = h.0; at_end = spent n refl h.1 h.2 h.3 h.4 }
  ended (answer.NoRoom c) after h = record { search = h.0; at_end = over (answers.optimal h.1 h.2) h.3 (no_room c refl h.4 h.5) }
  ended _ after h = absurd h

  module _ (follows : Follows m task) where
    -- no units of the task go on from there
    pub end_is_last : (t : Searched task m) (a : Answer) (after : State) → AtEnd (length t.units) t.state a after → IsLast m task follows t
    end_is_last t a after (over end e told) = over_last m task follows t e.at_rest e.over
    end_is_last t a after (wide path basis leaves enters is stands same) = wide_last m task follows t stands.steps basis.items leaves enters stands.wide
    end_is_last t a after (spent k is count whole leaf same) = spent_last m task follows t (subst (λ (l : ℕ). task.budget ≤ l) count whole)

    -- ---- wide pivots
    -- at a state to which a trail leads, a pivot that isn't narrow is told in one way
    same_wide : (us : List trails.SearchUnit) (s : trails.State) (n k : ℕ) (a b : Answer) (path steps : Vec PathStep Global) (basis given : Vec ℕ Global) (leaves enters out entered : ℕ) → trails.Trail m free us s
        → a ≡ answer.WidePivot path basis leaves enters → b ≡ answer.WidePivot steps given out entered
        → StandsAt task st.decisions n s path.items basis.items leaves enters → StandsAt task st.decisions k s steps.items given.items out entered → SameAnswer a b
    same_wide us s n k a b path steps basis given leaves enters out entered trail e f h i =
        let v = h.wide.0 in
        let w = i.wide.0 in
        let same : v ≡ w = same_work (sym h.wide.1 ∙ i.wide.1) in
        let p : IsWidePivot w.dictionary basis.items leaves enters = subst (λ (x : trails.Work). IsWidePivot x.dictionary basis.items leaves enters) same h.wide.2.pivot in
        let q = i.wide.2.pivot in
        let one = one_pivot m us s w p.row p.column q.row q.column follows.valid trail i.wide.1 p.is_next q.is_next in
        same_by a b (answer.WidePivot path basis leaves enters) (answer.WidePivot steps given out entered) e f (
          h.cells ∙ (ap (by_cells st.decisions) (h.wide.2.path_is ∙ (ap (λ (x : trails.Work). map step_of x.node.path) same ∙ sym i.wide.2.path_is)) ∙ sym i.cells),
          p.basis ∙ sym q.basis,
          p.leaving ∙ (ap (slice_index w.dictionary.basic) one.0 ∙ sym q.leaving),
          p.entering ∙ (ap (slice_index w.dictionary.nonbasic) one.1 ∙ sym q.entering),
        )

    -- ---- all ends
    -- of ends after as many units, at one state
    pub same_end : (us : List trails.SearchUnit) (n : ℕ) (s : trails.State) (a b : Answer) (i j : State) → trails.Trail m free us s → AtEnd n s a i → AtEnd n s b j → SameAnswer a b × (i ≡ j)
    same_end us n s a b i j trail (over end e told) (over fin f also) =
        let all = one_answer m s in
        let same : end ≡ fin = all.2 end e.says ∙ sym (all.2 fin f.says) in
        let one = one_told fin a b i j (subst (λ (x : answers.Answer). Answers x a i) same told) also in
        (equal_are_same a b one.0, one.1)
    same_end us n s a b i j trail (over end e told) (wide path basis leaves enters is stands same) = absurd (none_or_some (sym e.at_rest ∙ stands.wide.1))
    same_end us n s a b i j trail (over end e told) (spent k is count whole leaf same) = absurd (leaf (e.at_rest, e.over))
    same_end us n s a b i j trail (wide path basis leaves enters is stands same) (over fin f also) = absurd (none_or_some (sym f.at_rest ∙ stands.wide.1))
    same_end us n s a b i j trail (wide path basis leaves enters is stands same) (wide steps given out entered so there unchanged) =
        (same_wide us s n n a b path steps basis given leaves enters out entered trail is so stands there, same ∙ sym unchanged)
    same_end us n s a b i j trail (wide path basis leaves enters is stands same) (spent k so count whole leaf unchanged) = let l : task.spent + n < task.budget = stands.left.within in absurd (omega (arith, l, count, whole))
    same_end us n s a b i j trail (spent k is count whole leaf same) (over fin f also) = absurd (leaf (f.at_rest, f.over))
    same_end us n s a b i j trail (spent k is count whole leaf same) (wide steps given out entered so there unchanged) = let l : task.spent + n < task.budget = there.left.within in absurd (omega (arith, l, count, whole))
    same_end us n s a b i j trail (spent k is count whole leaf same) (spent l so count' whole' leaf' unchanged) =
        (equal_are_same a b (is ∙ (ap answer.Budget (count ∙ sym count') ∙ sym so)), same ∙ sym unchanged)

    pub one_end : (a b : Answer) (i j : State) → Solves task before st m a i → Solves task before st m b j → SameAnswer a b × (i ≡ j)
    one_end a b i j h k =
        let x = ended a i h in
        let y = ended b j k in
        let one = last_is_one m task follows x.search y.search (end_is_last x.search a i x.at_end) (end_is_last y.search b j y.at_end) in
        let trail = trail_on m task.rule follows.valid follows.named follows.units task.from follows.trail y.search.units y.search.state y.search.leads in
        let at_end : AtEnd (length y.search.units) y.search.state a i =
        subst (λ (us : List trails.SearchUnit). AtEnd (length us) y.search.state a i) one.0 (subst (λ (s : trails.State). AtEnd (length x.search.units) s a i) one.1 x.at_end) in
        same_end _ (length y.search.units) y.search.state a b i j trail at_end y.at_end

    -- a search that ends hasn't more to be done
    pub not_more : (t : Searched task m) (a : Answer) (after : State) → length t.units ≡ task.units → total t < task.budget → HasOpenLeaf m t.state → Solves task before st m a after → ⊥
    not_more t a after asked within leaf h =
        let x = ended a after h in
        let one = last_is_one m task follows t x.search (asked_last m task follows t asked) (end_is_last x.search a after x.at_end) in
        by_end x.at_end (ap length one.0) one.1
      where
        by_end : {n : ℕ} {s : trails.State} → AtEnd n s a after → length t.units ≡ n → t.state ≡ s → ⊥
        by_end (over end e told) count same = subst (λ (s : trails.State). HasOpenLeaf m s) same leaf (e.at_rest, e.over)
        by_end (wide path basis leaves enters is stands unchanged) count same = let l = stands.left.asked in absurd (omega (arith, l, count, asked))
        by_end (spent k is number whole still unchanged) count same = absurd (omega (arith, number, whole, count, within))

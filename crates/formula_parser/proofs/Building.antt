-- What the code keeps shows the tree.
use Rattle.std.proofs.Common.{◌≡◌, ℕ, suc, ◌≤◌, max, min, Bool, true, false, cond, List, [], ◌∷◌, length, Option, Some, None, refl, sym, ap, ◌∙◌, arith}
use Rattle.std.specs.Prelude.{map, not, ◌&&◌, ◌||◌, nat_le}
use Rattle.std.specs.Option.{option_map, option_and_then}
use Rattle.std.proofs.lemmas.Bool.Decides.{nat_tests}
use Rattle.cell_refs.specs.declared.span.Span.{Span}
use Rattle.formula_ast.specs.declared.func.Func.{Func}
use Rattle.formula_ast.specs.Functions.{func_in}
use Rattle.formula_ast.specs.Measures.{height_of, greatest_height}
use Rattle.formula_ast.specs.Sound.{count}
use Rattle.formula_ast.specs.Tree.{Tree, Infix, Percent, trees}
use Rattle.formula_grammar.specs.Symbols.{Setting, bytes_of, from_to}
use Rattle.formula_grammar.specs.Parts.{Prefix, Positive, Negative, call_tree, prefix_tree}
use Rattle.formula_grammar.specs.Making.{Shows}
use Rattle.formula_grammar.specs.Faults.{have_part, is_lost, is_miscounted, is_wide}
use Rattle.formula_parser.specs.declared.branch.Branch.{Branch}
use Rattle.formula_parser.specs.declared.branch.Faults.{Faults}
use Rattle.formula_parser.specs.declared.branch.Part.{Part}
use Rattle.formula_parser.specs.Built.{all_trees, any_faults, both, branch, branch_of, built, either, faults_of, is_whole, miscounts, most_of, over_call, over_one, over_two, part_of, refuses, taller}

-- whether there is a fault
abbrev pub some_fault : Faults → Bool
some_fault f = f.lost || (f.miscounted || f.wide)

-- what is lower and has no other fault is whole too
pub whole_below : (h k : ℕ) (v w : Bool) → (nat_le k 512 && not w) ≡ true → h ≤ k → (w ≡ false → v ≡ false) → (nat_le h 512 && not v) ≡ true
whole_below h k v w e le clean = grind (arith, nat_tests)

-- a tree over another is kept where both are whole, or lost
kept_one : (f : Tree → Tree) (t : Tree) (b c : Bool) → (b ≡ true → c ≡ true) → cond b (Some (f t)) None ≡ cond b (option_map f (cond c (Some t) None)) None
kept_one f t true true h = refl
kept_one f t true false h = absurd (let k = h refl in cc)
kept_one f t false c h = refl

-- the same over two trees
kept_two : (f : Tree → Tree → Tree) (t u : Tree) (b c d : Bool) → (b ≡ true → c ≡ true) → (b ≡ true → d ≡ true) → cond b (Some (f t u)) None ≡ cond b (both f (cond c (Some t) None) (cond d (Some u) None)) None
kept_two f t u true true true h k = refl
kept_two f t u true true false h k = absurd (let j = k refl in cc)
kept_two f t u true false d h k = absurd (let j = h refl in cc)
kept_two f t u false c d h k = refl

-- the same over a list of trees
kept_all : (f : List Tree → Tree) (ts : List Tree) (b : Bool) (o : Option (List Tree)) → (b ≡ true → o ≡ Some ts) → cond b (Some (f ts)) None ≡ cond b (option_map f o) None
kept_all f ts true o h = sym (ap (option_map f) (h refl))
kept_all f ts false o h = refl

-- what is whole is low enough
at_most : (k : ℕ) (w : Bool) → (nat_le k 512 && not w) ≡ true → k ≤ 512
at_most k w z = grind (arith, nat_tests)

-- what stands below what is whole is low enough
below_taller : (h : ℕ) (w : Bool) → (nat_le (taller h) 512 && not w) ≡ true → h ≤ taller h
below_taller h w z = let le : taller h ≤ 512 = at_most (taller h) w z in omega arith

-- ---- faults

-- where neither side has a fault, the left side has none
or_left : (a b c d e f : Bool) → ((a || d) || ((b || e) || (c || f))) ≡ false → (a || (b || c)) ≡ false
or_left false false false d e f h = refl
or_left true b c d e f h = absurd cc
or_left false true c true e f h = absurd cc
or_left false true c false e f h = absurd cc
or_left false false true true e f h = absurd cc
or_left false false true false true f h = absurd cc
or_left false false true false false f h = absurd cc

-- nor has the right side
or_right : (a b c d e f : Bool) → ((a || d) || ((b || e) || (c || f))) ≡ false → (d || (e || f)) ≡ false
or_right false false false d e f h = h
or_right true b c d e f h = absurd cc
or_right false true c true e f h = absurd cc
or_right false true c false e f h = absurd cc
or_right false false true true e f h = absurd cc
or_right false false true false true f h = absurd cc
or_right false false true false false f h = absurd cc

-- the same of faults
none_left : (v w : Faults) → some_fault (either v w) ≡ false → some_fault v ≡ false
none_left v w = or_left v.lost v.miscounted v.wide w.lost w.miscounted w.wide

-- the same of the right side
none_right : (v w : Faults) → some_fault (either v w) ≡ false → some_fault w ≡ false
none_right v w = or_right v.lost v.miscounted v.wide w.lost w.miscounted w.wide

-- without a test that fails the others fail still
less_counted : (a b m c : Bool) → (a || ((m || b) || c)) ≡ false → (a || (b || c)) ≡ false
less_counted true b m c h = absurd cc
less_counted false b true c h = absurd cc
less_counted false b false c h = h

-- a call without faults has arguments without faults
none_below : (m : Bool) (w : Faults) → some_fault (miscounts m w) ≡ false → some_fault w ≡ false
none_below m w = less_counted w.lost w.miscounted m w.wide

-- ---- over one part, and over two

-- what is kept of a tree over another
pub over_one_is : (f : Tree → Tree) (t : Tree) → branch (Some (f t)) (min 513 (suc (height_of t))) (faults_of t) ≡ over_one f (branch_of t)
over_one_is f t =
    let e : min 513 (suc (height_of t)) ≡ taller (min 513 (height_of t)) = omega arith in
    ap (λ n. branch (Some (f t)) n (faults_of t)) e
    ∙ ap (λ (o : Option Tree). let b : Branch = record { expr = o; height = taller (min 513 (height_of t)); faults = faults_of t } in b)
    (kept_one f t (is_whole (taller (min 513 (height_of t))) (faults_of t)) (is_whole (min 513 (height_of t)) (faults_of t)) (λ w. smaller (min 513 (height_of t)) (some_fault (faults_of t)) w))
  where
    smaller : (h : ℕ) (v : Bool) → (nat_le (taller h) 512 && not v) ≡ true → (nat_le h 512 && not v) ≡ true
    smaller h v w = whole_below h (taller h) v v w (below_taller h v w) (λ e. e)

-- what is kept of a tree over two others
pub over_two_is : (f : Tree → Tree → Tree) (t u : Tree) → branch (Some (f t u)) (min 513 (suc (max (height_of t) (height_of u)))) (either (faults_of t) (faults_of u)) ≡ over_two f (branch_of t) (branch_of u)
over_two_is f t u =
    let g = min 513 (height_of t) in
    let h = min 513 (height_of u) in
    let w = either (faults_of t) (faults_of u) in
    ap (λ n. branch (Some (f t u)) n w) (heights (height_of t) (height_of u))
    ∙ ap (λ (o : Option Tree). let b : Branch = record { expr = o; height = taller (max g h); faults = w } in b)
    (kept_two f t u (is_whole (taller (max g h)) w) (is_whole g (faults_of t)) (is_whole h (faults_of u))
    (λ z. left g h (some_fault (faults_of t)) (some_fault w) z (none_left (faults_of t) (faults_of u)))
    (λ z. right g h (some_fault (faults_of u)) (some_fault w) z (none_right (faults_of t) (faults_of u))))
  where
    heights : (g h : ℕ) → min 513 (suc (max g h)) ≡ taller (max (min 513 g) (min 513 h))
    heights g h = omega arith

    left : (g h : ℕ) (v w : Bool) → (nat_le (taller (max g h)) 512 && not w) ≡ true → (w ≡ false → v ≡ false) → (nat_le g 512 && not v) ≡ true
    left g h v w z k = let le = below_taller (max g h) w z in whole_below g (taller (max g h)) v w z (omega arith) k

    right : (g h : ℕ) (v w : Bool) → (nat_le (taller (max g h)) 512 && not w) ≡ true → (w ≡ false → v ≡ false) → (nat_le h 512 && not v) ≡ true
    right g h v w z k = let le = below_taller (max g h) w z in whole_below h (taller (max g h)) v w z (omega arith) k

-- ---- over the arguments of a call

-- the faults of some trees
abbrev faults_in : List Tree → Faults
faults_in ts = record { lost = have_part is_lost (trees ts); miscounted = have_part is_miscounted (trees ts); wide = have_part is_wide (trees ts) }

-- the greatest of the heights that are kept
most_is : (ts : List Tree) → most_of (map branch_of ts) ≡ min 513 (greatest_height (trees ts))
most_is [] = refl
most_is (t ∷ ts) = let e = most_is ts in omega arith

-- the faults that are kept of some trees
faults_are : (ts : List Tree) → any_faults (map branch_of ts) ≡ faults_in ts
faults_are [] = refl
faults_are (t ∷ ts) = ap (either (faults_of t)) (faults_are ts)

-- as many branches as trees
as_many : (ts : List Tree) → length (map branch_of ts) ≡ count (trees ts)
as_many [] = refl
as_many (t ∷ ts) = ap suc (as_many ts)

-- the trees below what is whole are kept
all_kept : (ts : List Tree) (k : ℕ) (w : Bool) → (nat_le k 512 && not w) ≡ true → most_of (map branch_of ts) ≤ k → (w ≡ false → some_fault (any_faults (map branch_of ts)) ≡ false) → all_trees (map branch_of ts) ≡ Some ts
all_kept [] k w z le none = refl
all_kept (t ∷ ts) k w z le none =
    let first : is_whole (min 513 (height_of t)) (faults_of t) ≡ true = whole_below (min 513 (height_of t)) k (some_fault (faults_of t)) w z (omega arith) (λ e. none_left (faults_of t) (any_faults (map branch_of ts)) (none e)) in
    ap (λ b. option_and_then (λ x. option_map (λ xs. x ∷ xs) (all_trees (map branch_of ts))) (cond b (Some t) None)) first
    ∙ ap (λ o. option_map (λ xs. t ∷ xs) o) (all_kept ts k w z (omega arith) (λ e. none_right (faults_of t) (any_faults (map branch_of ts)) (none e)))

-- a call is one higher than its highest argument
call_height : (func : Option Func) (name : List ℕ) (at : Span) (ts : List Tree) → height_of (call_tree func name at ts) ≡ suc (greatest_height (trees ts))
call_height (Some f) name at ts = refl
call_height None name at ts = refl

-- the faults of a call are those of its arguments, and its own
call_faults : (func : Option Func) (name : List ℕ) (at : Span) (ts : List Tree) → faults_of (call_tree func name at ts) ≡ miscounts (refuses func (count (trees ts))) (faults_in ts)
call_faults (Some f) name at ts = refl
call_faults None name at ts = refl

-- what is kept of a call
pub over_call_is : (func : Option Func) (name : List ℕ) (at : Span) (ts : List Tree) → branch_of (call_tree func name at ts) ≡ over_call func name at (map branch_of ts)
over_call_is func name at ts =
    let xs = map branch_of ts in
    let w = miscounts (refuses func (length xs)) (any_faults xs) in
    let height : min 513 (height_of (call_tree func name at ts)) ≡ taller (most_of xs) = heights (height_of (call_tree func name at ts)) (greatest_height (trees ts)) (most_of (map branch_of ts)) (call_height func name at ts) (most_is ts) in
    let faults : faults_of (call_tree func name at ts) ≡ w =
    call_faults func name at ts ∙ ap (λ n. miscounts (refuses func n) (faults_in ts)) (sym (as_many ts)) ∙ ap (miscounts (refuses func (length xs))) (sym (faults_are ts)) in
    ap (λ n. branch (Some (call_tree func name at ts)) n (faults_of (call_tree func name at ts))) height
    ∙ ap (branch (Some (call_tree func name at ts)) (taller (most_of xs))) faults
    ∙ ap (λ (o : Option Tree). let b : Branch = record { expr = o; height = taller (most_of xs); faults = w } in b)
    (kept_all (call_tree func name at) ts (is_whole (taller (most_of xs)) w) (all_trees xs)
    (λ z. all_kept ts (taller (most_of xs)) (some_fault w) z (below_taller (most_of xs) (some_fault w) z) (none_below (refuses func (length xs)) (any_faults xs))))
  where
    heights : (h g m : ℕ) → h ≡ suc g → m ≡ min 513 g → min 513 h ≡ taller m
    heights h g m e k = omega arith

-- ---- what the code makes

-- equal branches at one place
pub at_place : (at : Span) {m n : Branch} → m ≡ n → ◌≡◌ {A = Part} (record { branch = m; place = at }) (record { branch = n; place = at })
at_place at e = ap (λ (m : Branch). let b : Part = record { branch = m; place = at } in b) e

-- what the code makes of the parts of a formula shows their trees
unfoldable pub built_shows : (S : Setting) → Shows S (built S)
built_shows S = record {
  show = part_of;
  show_arg = branch_of;
  joined = λ op x y. let at = from_to x.place y.place in at_place at (over_two_is (Infix at op) x.tree y.tree);
  prefixed = λ prefix s x. let at = from_to s.span x.place in at_place at (prefix_is prefix at x.tree);
  in_hundredths = λ x s. let at = from_to x.place s.span in at_place at (over_one_is (Percent at) x.tree);
  enclosed = λ s x t. refl;
  leaf = λ x. refl;
  called = λ s xs t. let at = from_to s.span t.span in at_place at (over_call_is (func_in (bytes_of S s)) (bytes_of S s) at xs);
  missing = λ before. refl;
  given = λ x. refl;
}
  where
    prefix_is : (prefix : Prefix) (at : Span) (t : Tree) → branch_of (prefix_tree prefix at t) ≡ over_one (prefix_tree prefix at) (branch_of t)
    prefix_is Positive at t = over_one_is (prefix_tree Positive at) t
    prefix_is Negative at t = over_one_is (prefix_tree Negative at) t

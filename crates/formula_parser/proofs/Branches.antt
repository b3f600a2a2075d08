-- Branches, one after the other, and the branch of a call.
use Rattle.std.proofs.Common.{◌≡◌, ◌≤◌, ◌⊎◌, inl, inr, ℕ, suc, Bool, true, false, cond, List, [], ◌∷◌, ◌++◌, length, Option, Some, None, refl, sym, ap, subst, ◌∙◌, append_assoc, append-nil, arith}
use Rattle.std.specs.Prelude.{◌↔◌, All, IfNone, IfSome, IsTrue, not, ◌&&◌, ◌||◌, nat_eq, nat_le}
use Rattle.std.specs.Option.{option_map, option_and_then}
use Rattle.std.proofs.lemmas.Bool.Decides.{nat_tests}
use Rattle.std.proofs.lemmas.List.Elements.{All-head, All-tail}
use Rattle.cell_refs.specs.declared.span.Span.{Span}
use Rattle.formula_ast.specs.declared.func.Func.{Func}
use Rattle.formula_ast.specs.Functions as functions
use Rattle.formula_ast.specs.Functions.{Takes, least_of}
use Rattle.formula_ast.specs.Sound.{AreSoundWithin, IsSound, IsWithin}
use Rattle.formula_ast.specs.Tree.{Tree, span_of, trees}
use Rattle.formula_grammar.specs.Faults.{takes}
use Rattle.formula_grammar.specs.Parts.{call_tree}
use Rattle.formula_parser.specs.declared.branch.Branch.{Branch}
use Rattle.formula_parser.specs.declared.branch.Faults.{Faults}
use Rattle.formula_parser.specs.Built.{all_trees, any_faults, branch, is_whole, miscounts, most_of, over_call, refuses, taller}
use Rattle.formula_parser.specs.Placed.{IsBetween}

-- ---- the trees of branches

-- the trees of the branches that are left, behind those that are there
abbrev pub behind : List Tree → List Branch → Option (List Tree)
behind ts bs = option_map (λ us. ts ++ us) (all_trees bs)

-- behind no tree
pub none_behind : (bs : List Branch) → behind [] bs ≡ all_trees bs
none_behind bs = same (all_trees bs)
  where
    same : (o : Option (List Tree)) → option_map (λ us. [] ++ us) o ≡ o
    same None = refl
    same (Some us) = refl

-- one tree more
pub one_behind : (ts us : List Tree) (b : Branch) (bs cs : List Branch) (t : Tree) (whole : Option (List Tree)) → cs ≡ b ∷ bs → b.expr ≡ Some t → us ≡ ts ++ t ∷ [] → behind ts cs ≡ whole → behind us bs ≡ whole
one_behind ts us b bs cs t whole is some more so_far =
    ap (λ vs. behind vs bs) more ∙ sym (moved (all_trees bs))
    ∙ sym (ap (behind ts) is ∙ ap (λ o. option_map (λ vs. ts ++ vs) (option_and_then (λ u. option_map (λ vs. u ∷ vs) (all_trees bs)) o)) some)
    ∙ so_far
  where
    moved : (o : Option (List Tree)) → option_map (λ vs. ts ++ vs) (option_map (λ vs. t ∷ vs) o) ≡ option_map (λ vs. (ts ++ t ∷ []) ++ vs) o
    moved None = refl
    moved (Some vs) = ap Some (sym (append_assoc ts (t ∷ []) vs))

-- a branch without a tree
pub lost_behind : (ts : List Tree) (b : Branch) (bs cs : List Branch) (whole : Option (List Tree)) → cs ≡ b ∷ bs → b.expr ≡ None → behind ts cs ≡ whole → None ≡ whole
lost_behind ts b bs cs whole is none so_far =
    sym (ap (behind ts) is ∙ ap (λ o. option_map (λ vs. ts ++ vs) (option_and_then (λ u. option_map (λ vs. u ∷ vs) (all_trees bs)) o)) none) ∙ so_far

-- no branch is left
pub all_behind : (ts : List Tree) (cs : List Branch) (whole : Option (List Tree)) → length cs ≡ 0 → behind ts cs ≡ whole → Some ts ≡ whole
all_behind ts [] whole is so_far = sym (ap Some (append-nil ts)) ∙ so_far
all_behind ts (b ∷ bs) whole is so_far = absurd (omega arith)

-- the first tree, and the others
all_cons : (b : Branch) (bs : List Branch) (ts : List Tree) → all_trees (b ∷ bs) ≡ Some ts → (t : Tree) × (us : List Tree) × (b.expr ≡ Some t) × (all_trees bs ≡ Some us) × (t ∷ us ≡ ts)
all_cons b bs ts e = both_case b.expr (all_trees bs) e
  where
    both_case : (o : Option Tree) (p : Option (List Tree)) → option_and_then (λ t. option_map (λ us. t ∷ us) p) o ≡ Some ts → (t : Tree) × (us : List Tree) × (o ≡ Some t) × (p ≡ Some us) × (t ∷ us ≡ ts)
    both_case None p e = absurd cc
    both_case (Some t) None e = absurd cc
    both_case (Some t) (Some us) e = (t, us, refl, refl, (cc))

-- as many trees as branches
pub same_length : (bs : List Branch) (ts : List Tree) → all_trees bs ≡ Some ts → length ts ≡ length bs
same_length [] ts e = let none : [] ≡ ts = cc in sym (ap length none)
same_length (b ∷ bs) ts e = let c = all_cons b bs ts e in sym (ap length c.4) ∙ ap suc (same_length bs c.1 c.3)

-- the trees of branches within a place lie within it
pub trees_within : (place : Span) (bs : List Branch) (ts : List Tree) → All (IsBetween place) bs → all_trees bs ≡ Some ts → All IsSound ts → AreSoundWithin place (trees ts)
trees_within place [] ts h e s = let none : [] ≡ ts = cc in subst (λ us. AreSoundWithin place (trees us)) none tt
trees_within place (b ∷ bs) ts h e s =
    let c = all_cons b bs ts e in
    let sound : All IsSound (c.0 ∷ c.1) = subst (All IsSound) (sym c.4) s in
    subst (λ us. AreSoundWithin place (trees us)) c.4 (
      subst (λ o. IfSome o (λ t. IsWithin (span_of t) place)) c.2 (All-head (IsBetween place) b bs h),
      All-head IsSound c.0 c.1 sound,
      trees_within place bs c.1 (All-tail (IsBetween place) b bs h) c.3 (All-tail IsSound c.0 c.1 sound),
    )

-- ---- how many arguments a function takes

-- the test of how many arguments a function takes, and what it says
takes_true : (l m n : ℕ) → l ≤ n → (m ≡ 255) ⊎ (n ≤ m) → (nat_le l n && (nat_eq m 255 || nat_le n m)) ≡ true
takes_true l m n h (inl k) = grind (arith, nat_tests)
takes_true l m n h (inr k) = grind (arith, nat_tests)

-- so many arguments are not too few
least_true : (l m n : ℕ) → (nat_le l n && (nat_eq m 255 || nat_le n m)) ≡ true → l ≤ n
least_true l m n h = grind (arith, nat_tests)

-- nor too many
most_true : (l m n : ℕ) → (nat_le l n && (nat_eq m 255 || nat_le n m)) ≡ true → (m ≡ 255) ⊎ (n ≤ m)
most_true l m n h = grind (arith, nat_tests)

-- what says whether a function takes so many arguments is the test
pub takes_is : (f : Func) (n : ℕ) (r : Bool) → (IsTrue r ↔ Takes f n) → r ≡ takes f n
takes_is f n true is = let t = is.0 refl in sym (takes_true (least_of f) (functions.most_of f) n t.least t.most)
takes_is f n false is = other (takes f n) (λ e. is.1 (record { least = least_true (least_of f) (functions.most_of f) n e; most = most_true (least_of f) (functions.most_of f) n e }))
  where
    other : (b : Bool) → (b ≡ true → IsTrue false) → false ≡ b
    other true h = absurd (let k = h refl in cc)
    other false h = refl

-- ---- the branch of a call

-- what has a fault is not whole
never : (k l b m w : Bool) → b ≡ true → (k && not (l || ((b || m) || w))) ≡ false
never k l false m w e = absurd cc
never true true true m w e = refl
never true false true m w e = refl
never false l true m w e = refl

-- a call with too few or too many arguments has no tree
not_whole : (h : ℕ) (b : Bool) (f : Faults) (o p : Option Tree) → b ≡ true → branch o h (miscounts b f) ≡ branch p h (miscounts b f)
not_whole h b f o p e =
    let lost : is_whole h (miscounts b f) ≡ false = never (nat_le h 512) f.lost b f.miscounted f.wide e in
    let with_tree = λ (q : Option Tree). let x : Branch = record { expr = q; height = h; faults = miscounts b f } in x in
    ap (λ c. with_tree (cond c o None)) lost ∙ sym (ap (λ c. with_tree (cond c p None)) lost)

module _ (func : Option Func) (name : List ℕ) (place : Span) where
  -- what is made of a call
  pub call_branch : (bs : List Branch) (args : Option (List Tree)) (o : Option Tree) → args ≡ all_trees bs → IfSome o (λ e. option_map (call_tree func name place) args ≡ Some e) → IfNone o (IfSome args (λ ts. refuses func (length ts) ≡ true))
      → branch o (taller (most_of bs)) (miscounts (refuses func (length bs)) (any_faults bs)) ≡ over_call func name place bs
  call_branch bs args (Some e) is call none = ap (λ o. branch o (taller (most_of bs)) (miscounts (refuses func (length bs)) (any_faults bs))) (sym call ∙ ap (option_map (call_tree func name place)) is)
  call_branch bs None None is call none = ap (λ o. branch o (taller (most_of bs)) (miscounts (refuses func (length bs)) (any_faults bs))) (ap (option_map (call_tree func name place)) is)
  call_branch bs (Some ts) None is call none =
      not_whole (taller (most_of bs)) (refuses func (length bs)) (any_faults bs) None (option_map (call_tree func name place) (all_trees bs))
      (ap (refuses func) (sym (same_length bs ts (sym is))) ∙ none)

  -- the tree of a call stands in its place
  call_stands : (f : Option Func) (ts : List Tree) → IsWithin (span_of (call_tree f name place ts)) place
  call_stands None ts = record { start = omega arith; end = omega arith }
  call_stands (Some f) ts = record { start = omega arith; end = omega arith }

  -- also where it is lost
  stands : (b : Bool) (o : Option (List Tree)) → IfSome (cond b (option_map (call_tree func name place) o) None) (λ t. IsWithin (span_of t) place)
  stands false o = tt
  stands true None = tt
  stands true (Some ts) = call_stands func ts

  -- a call stands in its place
  pub call_between : (bs : List Branch) → IsBetween place (over_call func name place bs)
  call_between bs = stands (is_whole (taller (most_of bs)) (miscounts (refuses func (length bs)) (any_faults bs))) (all_trees bs)

  -- the same, with the trees still in memory
  pub call_made : {V : Type 0} (items : V → List Tree) (bs : List Branch) (args : Option V) (o : Option Tree) (height : ℕ) (faults : Faults) → height ≡ taller (most_of bs) → faults ≡ miscounts (refuses func (length bs)) (any_faults bs)
      → option_map items args ≡ all_trees bs → IfSome o (λ e. option_map (call_tree func name place) (option_map items args) ≡ Some e) → IfNone o (IfSome args (λ v. refuses func (length (items v)) ≡ true))
      → branch o height faults ≡ over_call func name place bs
  call_made items bs None o height faults h f is call none = ap (λ n. branch o n faults) h ∙ ap (branch o (taller (most_of bs))) f ∙ call_branch bs None o is call none
  call_made items bs (Some v) o height faults h f is call none = ap (λ n. branch o n faults) h ∙ ap (branch o (taller (most_of bs))) f ∙ call_branch bs (Some (items v)) o is call none

-- the trees in memory lie within the place of the branches
pub all_within : {V : Type 0} (items : V → List Tree) (place : Span) (bs : List Branch) (args : Option V) → All (IsBetween place) bs → option_map items args ≡ all_trees bs → IfSome args (λ v. All IsSound (items v))
    → IfSome args (λ v. AreSoundWithin place (trees (items v)))
all_within items place bs None h is s = tt
all_within items place bs (Some v) h is s = trees_within place bs (items v) h (sym is) s

-- Cells, and the names in the formulas that are held of them.
use Rattle.std.proofs.Common.{◌≡◌, ◌<◌, ◌+◌, ◌∙◌, ℕ, Bool, true, false, cond, List, Option, Some, None, length, map, take, get_or, refl, sym, ap, subst}
use Rattle.std.specs.Prelude.{◌||◌, String, option_map, unwrap_or}
use Rattle.std.specs.BTreeMap.{BTreeMap, get_by_text, is_at}
use Rattle.std.specs.BTreeSet.{BTreeSet, contains}
use Rattle.std.specs.Char.{to_ascii_lowercase}
use Rattle.std.specs.Global.{Global}
use Rattle.std.specs.Map.{update}
use Rattle.std.specs.Str.{bytes_eq}
use Rattle.std.proofs.lemmas.Slice.Eq.{bytes_eq-Decides}
use Rattle.cell_refs.specs.declared.cell.Cell.{Cell}
use Rattle.cell_refs.specs.Cells.{cell_cmp}
use Rattle.cell_refs.specs.Names.{same_letters}
use Rattle.cell_refs.proofs.Order.{exact_cells}
use Rattle.cell_refs.proofs.Places.{other}
use Rattle.formula_ast.specs.Tree.{Tree, trees}
use Rattle.workbook.specs.declared.held.Held.{Held}
use Rattle.workbook.specs.declared.held.Said.{Said}
use Rattle.workbook.specs.declared.users.Users.{Users}
use Rattle.workbook.specs.Filling.{AreHeldAlike}
use Rattle.workbook.specs.Held.{held_at, spelled_tree}
use Rattle.workbook.specs.Renamed.{resaid, said_at}
use Rattle.workbook.specs.Uses.{any_use, is_wanted, some_use}
use Rattle.workbook.specs.Users.{AllAreCovered, Grows, IsCovered, KnowsAllUses, KnowsUses, has_cell, knows}
use Rattle.workbook.proofs.Keeping.{HeldCells, equal_of, same_held}
use Rattle.workbook.proofs.UsedNames.{any-next}

-- ---- the names of a tree
-- a name in other letters has the same cells
pub same_name : (users : Users) (cell : Cell) (a b : List ℕ) → same_letters a b ≡ true → knows users a cell ≡ true → knows users b cell ≡ true
same_name users cell a b h known = sym (ap (λ letters. has_cell (get_by_text users.cells letters) cell) (other a b h)) ∙ known

-- ---- one name that gets cells
pub still_there : (b has : Bool) → has ≡ true → cond b true has ≡ true
still_there true has e = refl
still_there false has e = e

module _ (m n : BTreeMap (String Global) (BTreeSet Cell)) (letters : List ℕ) (cells : BTreeSet Cell)
    (is : (other : List ℕ) → get_by_text n other ≡ update bytes_eq (get_by_text m) letters (Some cells) other) where
  at_name : (name : List ℕ) (b : Bool) → bytes_eq letters (map to_ascii_lowercase name) ≡ b
      → get_by_text n (map to_ascii_lowercase name) ≡ cond b (Some cells) (get_by_text m (map to_ascii_lowercase name))
  at_name name b e = is (map to_ascii_lowercase name) ∙ ap (λ b. cond b (Some cells) (get_by_text m (map to_ascii_lowercase name))) e

  pub grown_at : (was : Option (BTreeSet Cell)) → get_by_text m letters ≡ was → ((q : Cell) → has_cell was q ≡ true → contains cell_cmp cells q ≡ true)
      → Grows (record { cells = m }) (record { cells = n })
  grown_at was at more name q known = by (bytes_eq letters (map to_ascii_lowercase name)) refl
    where
      by : (b : Bool) → bytes_eq letters (map to_ascii_lowercase name) ≡ b → knows (record { cells = n }) name q ≡ true
      by true e =
          let same : letters ≡ map to_ascii_lowercase name = (bytes_eq-Decides letters (map to_ascii_lowercase name)).0 e in
          ap (λ o. has_cell o q) (at_name name true e) ∙ more q (sym (ap (λ o. has_cell o q) at) ∙ ap (λ l. has_cell (get_by_text m l) q) same ∙ known)
      by false e = ap (λ o. has_cell o q) (at_name name false e) ∙ known

  pub known_at : (name : List ℕ) (cell : Cell) → letters ≡ map to_ascii_lowercase name → contains cell_cmp cells cell ≡ true → knows (record { cells = n }) name cell ≡ true
  known_at name cell same has =
      ap (λ o. has_cell o cell) (at_name name true ((bytes_eq-Decides letters (map to_ascii_lowercase name)).1 same)) ∙ has

module _ (before after : Users) (cell : Cell) (grows : Grows before after) where
  -- of two tests, what passes the first was known before
  pub either_known : (f g : List ℕ → Bool) → ((name : List ℕ) → f name ≡ true → knows before name cell ≡ true) → ((name : List ℕ) → g name ≡ true → knows after name cell ≡ true)
      → (name : List ℕ) → (f name || g name) ≡ true → knows after name cell ≡ true
  either_known f g first second name h = by (f name) refl h
    where
      by : (b : Bool) → f name ≡ b → (b || g name) ≡ true → knows after name cell ≡ true
      by true e k = grows name cell (first name e)
      by false e k = second name k

  -- one more part
  pub more_known : (ts : List Tree) (i : ℕ) (t : Tree) → i < length ts → t ≡ get_or ts i t → KnowsAllUses before cell (trees (take i ts)) → KnowsUses after cell t
      → KnowsAllUses after cell (trees (take (i + 1) ts))
  more_known ts i t lt at first here name h =
      either_known (λ n. any_use (is_wanted (Some n)) (trees (take i ts))) (λ n. some_use (is_wanted (Some n)) t) first here name
      (sym (any-next (is_wanted (Some name)) ts i t lt at) ∙ h)

pub grows_on : (a b c : Users) → Grows a b → Grows b c → Grows a c
grows_on a b c first second name cell known = second name cell (first name cell known)

-- ---- what is held of the cells
pub still_covered : (before after : Users) (cell : Cell) (o : Option Tree) → Grows before after → IsCovered before cell o → IsCovered after cell o
still_covered before after cell None grows is = tt
still_covered before after cell (Some t) grows is = λ name h. grows name cell (is name h)

module _ (before after : Users) (es : HeldCells) (grows : Grows before after) (covered : AllAreCovered before es) where
  pub all_grown : AllAreCovered after es
  all_grown q g some = still_covered before after q (spelled_tree g) grows (covered q g some)

  -- with something else in a cell
  pub covered_put : (fs : HeldCells) (k : Cell) (h : Held) → ((q : Cell) → held_at fs q ≡ cond (is_at (cell_cmp k) q) (Some h) (held_at es q)) → IsCovered after k (spelled_tree h)
      → AllAreCovered after fs
  covered_put fs k h is own q g some = by (is_at (cell_cmp k) q) refl (sym (is q) ∙ some)
    where
      by : (b : Bool) → is_at (cell_cmp k) q ≡ b → cond b (Some h) (held_at es q) ≡ Some g → IsCovered after q (spelled_tree g)
      by true t e =
          subst (λ x. IsCovered after q (spelled_tree x)) (same_held h g e)
          (subst (λ x. IsCovered after x (spelled_tree h)) (exact_cells k q (equal_of (cell_cmp k q) t)) own)
      by false t e = all_grown q g e

module _ (users : Users) (es fs : HeldCells) (covered : AllAreCovered users es) where
  -- with nothing in a cell
  pub covered_taken : (k : Cell) → ((q : Cell) → held_at fs q ≡ cond (is_at (cell_cmp k) q) None (held_at es q)) → AllAreCovered users fs
  covered_taken k is q g some = by (is_at (cell_cmp k) q) (sym (is q) ∙ some)
    where
      by : (b : Bool) → cond b None (held_at es q) ≡ Some g → IsCovered users q (spelled_tree g)
      by true e = absurd cc
      by false e = covered q g e

  -- with the same trees
  same_trees : ((q : Cell) → option_map spelled_tree (held_at fs q) ≡ option_map spelled_tree (held_at es q)) → AllAreCovered users fs
  same_trees is q g some = by (held_at es q) refl (sym (ap (option_map spelled_tree) some) ∙ is q)
    where
      by : (o : Option Held) → held_at es q ≡ o → Some (spelled_tree g) ≡ option_map spelled_tree (held_at es q) → IsCovered users q (spelled_tree g)
      by None e same = absurd (let k : Some (spelled_tree g) ≡ None = same ∙ ap (option_map spelled_tree) e in cc)
      by (Some h) e same =
          let k : Some (spelled_tree g) ≡ Some (spelled_tree h) = same ∙ ap (option_map spelled_tree) e in
          subst (IsCovered users q) (sym (ap (λ o. unwrap_or o (spelled_tree g)) k)) (covered q h e)

  pub covered_alike : AreHeldAlike es fs → AllAreCovered users fs
  covered_alike alike = same_trees (λ q. ap (option_map spelled_tree) (alike.each q))

  tree_stays : (r : Option Said) (o : Option Held) → option_map spelled_tree (resaid r o) ≡ option_map spelled_tree o
  tree_stays None o = refl
  tree_stays (Some s) None = refl
  tree_stays (Some s) (Some h) = refl

  -- with something else that is said of the texts
  pub covered_resaid : (said : List (Cell × Said)) → ((q : Cell) → held_at fs q ≡ resaid (said_at said q) (held_at es q)) → AllAreCovered users fs
  covered_resaid said now = same_trees (λ q. ap (option_map spelled_tree) (now q) ∙ tree_stays (said_at said q) (held_at es q))

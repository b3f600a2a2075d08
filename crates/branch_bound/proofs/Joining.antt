-- Openings, ends and trails as what is held changes.
use Rattle.std.proofs.Common.{◌≡◌, ℕ, suc, zero, ◌+◌, ◌<◌, refl, sym, ap, ap₂, ◌∙◌, subst, List, [], ◌∷◌, ◌++◌, length, map, take, drop, arith}
use Rattle.std.specs.Prelude.{Option, Some, None, slice_get}
use Rattle.std.specs.List.{remove, AllByRecursion}
use Rattle.std.specs.Option.{option_map}
use Rattle.fractions.specs.Rational.{ℚ}
use Rattle.linear_programs.specs.Program.{Program}
use Rattle.dictionaries.specs.Dictionary.{Dictionary}
use Rattle.node_pick.specs.Rules.{Rule, depth_first, best_first, oldest_first, free, Follows}
use Rattle.node_pick.specs.Messages.{Message, news}
use Rattle.node_pick.specs.declared.info.NodeInfo.{NodeInfo}
use Rattle.node_pick.specs.declared.info.NodeEvent.{NodeEvent}
use Rattle.linear_models.specs.Model.{Model}
use Rattle.searches.specs.Trees.{Part, Node, End, info}
use Rattle.searches.specs.Trees as trees
use Rattle.searches.specs.Trails.{State, box_of, node_program, ended, ends, Grows, opens, pivots, SearchUnit, Leads, stays, grows}
use Rattle.searches.specs.Messages.{news_of}
use Rattle.search_ends.specs.Ends.{IsEndOf}
use Rattle.branch_bound.specs.declared.frontier.Found.{Found}
use Rattle.branch_bound.specs.Searches.{HasTrail}
use Rattle.branch_bound.specs.Told.{Became}
use Rattle.branch_bound.specs.States.{waiting_of, found_of, value_of, IsListed, AreListed}

-- ---- the end of a node
pub became_end : (m : Model) (s t : State) (node : Node) (k : ℕ) (d : Dictionary) (p : Program) (best : Option ℚ) (e : End) (heard : List Message → Type 0) (v : NodeEvent)
    → p ≡ node_program m s.way node → option_map (λ (f : trees.Found). f.value) s.found ≡ best → IsEndOf m (box_of m node) best p d e → t ≡ ended s node k e → v ≡ news_of node.number s.count e → heard (news v ∷ [])
    → Became m s node k d t heard
became_end m s t node k d p best e heard v q f h z y n =
    subst (λ (x : State). Became m s node k d x heard) (sym z) record {
      becomes = ends h.outcome e (subst (λ (r : Program). Rattle.searches.specs.Trails.Finishes r d h.outcome) q h.finishes) (h.comes s.found f);
      hears = subst (λ (x : NodeEvent). heard (news x ∷ [])) y n;
    }

pub same_value : (found : Option Found) → option_map (λ (f : trees.Found). f.value) (option_map found_of found) ≡ option_map value_of found
same_value None = refl
same_value (Some f) = refl

-- ---- the list of the picker
info_of : (ps : List (List Part)) (i : NodeInfo) → IsListed ps i → info (waiting_of ps i) ≡ i
info_of ps i h = ap (as_listed i.number i.bound) (sym h.depth)
  where
    as_listed : ℕ → Option ℚ → ℕ → NodeInfo
    as_listed n b d = record { number = n; depth = d; bound = b }

pub infos : (ps : List (List Part)) (is : List NodeInfo) → AreListed ps is → map info (map (waiting_of ps) is) ≡ is
infos ps [] h = refl
infos ps (i ∷ is) h = ap₂ (λ (x : NodeInfo) (xs : List NodeInfo). x ∷ xs) (info_of ps i h.0) (infos ps is h.1)

pub listed_at : (ps : List (List Part)) (is : List NodeInfo) (p : ℕ) (i : NodeInfo) → AreListed ps is → slice_get is p ≡ Some i → IsListed ps i
listed_at ps [] p i h e = absurd cc
listed_at ps (j ∷ is) zero i h e = subst (IsListed ps) (inner j i e) h.0
  where
    inner : (j i : NodeInfo) → Some j ≡ Some i → j ≡ i
    inner j i e = cc
listed_at ps (j ∷ is) (suc p) i h e = listed_at ps is p i h.1 e

pub map-slice_get : {X Y : Type 0} (f : X → Y) (xs : List X) (p : ℕ) (x : X) → slice_get xs p ≡ Some x → slice_get (map f xs) p ≡ Some (f x)
map-slice_get f [] p x e = absurd cc
map-slice_get f (y ∷ xs) zero x e = ap (option_map f) e
map-slice_get f (y ∷ xs) (suc p) x e = map-slice_get f xs p x e

pub map-remove : {X Y : Type 0} (f : X → Y) (xs : List X) (p : ℕ) → map f (remove xs p) ≡ remove (map f xs) p
map-remove f [] zero = refl
map-remove f [] (suc p) = refl
map-remove f (x ∷ xs) zero = refl
map-remove f (x ∷ xs) (suc p) = ap (λ ys. f x ∷ ys) (map-remove f xs p)

pub all_left : {X : Type 0} (P : X → Type 0) (xs : List X) (p : ℕ) → AllByRecursion P xs → AllByRecursion P (remove xs p)
all_left P [] zero h = tt
all_left P [] (suc p) h = tt
all_left P (x ∷ xs) zero h = h.1
all_left P (x ∷ xs) (suc p) h = (h.0, all_left P xs p h.1)

-- ---- trails
within : (rule : Rule) (w : List NodeInfo) (p : ℕ) → Follows rule w p → p < length w
within depth_first w p f = f.place
within best_first w p f = f.place
within oldest_first w p f = f.place
within free w p f = f

free_grows : (m : Model) (rule : Rule) (s t : State) (u : SearchUnit) → Grows m rule s u t → Grows m free s u t
free_grows m rule s t u (opens p node t' z o e q b) = opens p node t z o e (within rule (map info s.waiting) p q) b
free_grows m rule s t u (pivots w r c t' z n y b) = pivots w r c t z n y b

pub trail_grows : (m : Model) (rule : Rule) (n : ℕ) (s t : State) (u : SearchUnit) → HasTrail m n s → Grows m rule s u t → HasTrail m (n + 1) t
trail_grows m rule n s t u h g = record {
  units = u ∷ h.units;
  trail = grows h.units s u t h.trail (free_grows m rule s t u g);
  count = (let e = h.count in omega (arith, e));
}

-- ---- what was lent is written back
back : {X : Type 0} (new old : List X) → length new ≡ length old → take (length old) (new ++ drop (length new) old) ≡ new
back [] [] e = refl
back [] (y ∷ old) e = absurd cc
back (x ∷ new) [] e = absurd cc
back (x ∷ new) (y ∷ old) e = ap (λ zs. x ∷ zs) (back new old (omega (arith, e)))

pub written_back : {X : Type 0} (n : ℕ) (new old : List X) → n ≡ length old → length new ≡ length old → take n (new ++ drop (length new) old) ≡ new
written_back n new old e h = ap (λ (k : ℕ). take k (new ++ drop (length new) old)) e ∙ back new old h

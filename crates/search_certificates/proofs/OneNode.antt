-- A number is that of one node, which was opened once or waits.
use Rattle.std.proofs.Common.{◌≡◌, ℕ, suc, ◌<◌, ◌≤◌, refl, sym, ap, ◌∙◌, subst, List, [], ◌∷◌, ◌++◌, arith, inl, inr, ◌⊎◌}
use Rattle.std.specs.Prelude.{Some, slice_get}
use Rattle.linear_models.specs.Model.{Model}
use Rattle.node_pick.specs.Rules.{Rule}
use Rattle.searches.specs.Trees.{Node, Part, Ending}
use Rattle.searches.specs.Trails.{State, Opened, SearchUnit, Trail}
use Rattle.searches.specs.Laws.{Lacks, AreDistinct}
use Rattle.searches.proofs.Members.{In, in_place}
use Rattle.searches.proofs.Numbers.{Rises, numbers_rise}
use Rattle.searches.proofs.Once.{numbers, no_node_twice}
use Rattle.search_certificates.specs.Nodes.{IsOpened, IsWaiting, IsThere}
use Rattle.search_certificates.proofs.Kept.{InOpened, record_of, is_in}

-- no two nodes of the state have one number
pub record IsNumbered (s : State) : Type 0 where
  pub distinct : AreDistinct (numbers s.opened)
  pub apart : (n : Node) → In s.waiting n → Lacks (numbers s.opened) n.number
  pub rising : Rises 0 s.count s.waiting

pub trail_numbered : (m : Model) (rule : Rule) (us : List SearchUnit) (s : State) → Trail m rule us s → IsNumbered s
trail_numbered m rule us s l = let h = no_node_twice m rule us s l in record { distinct = h.distinct; apart = h.waiting; rising = numbers_rise m rule us s l }

-- ---- opened nodes
pub lacks_each : (os : List Opened) (o : Opened) (k : ℕ) → InOpened os o → Lacks (numbers os) k → o.node.number ≡ k → ⊥
lacks_each [] o k i l e = i
lacks_each (p ∷ os) o k (inl q) l e = l.0 (ap (λ (o : Opened). o.node.number) q ∙ e)
lacks_each (p ∷ os) o k (inr i) l e = lacks_each os o k i l.1 e

pub one_opened : (os : List Opened) (o p : Opened) → AreDistinct (numbers os) → InOpened os o → InOpened os p → o.node.number ≡ p.node.number → o ≡ p
one_opened [] o p d i j e = absurd i
one_opened (x ∷ os) o p d (inl q) (inl r) e = sym q ∙ r
one_opened (x ∷ os) o p d (inl q) (inr j) e = absurd (lacks_each os p x.node.number j d.0 (sym e ∙ sym (ap (λ (o : Opened). o.node.number) q)))
one_opened (x ∷ os) o p d (inr i) (inl r) e = absurd (lacks_each os o x.node.number i d.0 (e ∙ sym (ap (λ (o : Opened). o.node.number) r)))
one_opened (x ∷ os) o p d (inr i) (inr j) e = one_opened os o p d.1 i j e

-- ---- nodes that wait
above : (low high : ℕ) (ns : List Node) (n : Node) → Rises low high ns → In ns n → low ≤ n.number
above low high [] n r h = absurd h
above low high (m ∷ ns) n r (inl e) = subst (λ (u : Node). low ≤ u.number) e r.0
above low high (m ∷ ns) n r (inr h) = let z = above (suc m.number) high ns n r.1 h in let y : low ≤ m.number = r.0 in omega (arith, z, y)

one_waiting : (low high : ℕ) (ns : List Node) (n k : Node) → Rises low high ns → In ns n → In ns k → n.number ≡ k.number → n ≡ k
one_waiting low high [] n k r i j e = absurd i
one_waiting low high (x ∷ ns) n k r (inl p) (inl q) e = sym p ∙ q
one_waiting low high (x ∷ ns) n k r (inl p) (inr j) e = let z = above (suc x.number) high ns k r.1 j in let y = ap (λ (u : Node). u.number) p in absurd (omega (arith, z, y, e))
one_waiting low high (x ∷ ns) n k r (inr i) (inl q) e = let z = above (suc x.number) high ns n r.1 i in let y = ap (λ (u : Node). u.number) q in absurd (omega (arith, z, y, e))
one_waiting low high (x ∷ ns) n k r (inr i) (inr j) e = one_waiting (suc x.number) high ns n k r.1 i j e

-- ---- nodes of a state
pub not_both : (s : State) (n k : Node) (e : Ending) → IsNumbered s → IsOpened s n e → IsWaiting s k → n.number ≡ k.number → ⊥
not_both s n k e h o w q = lacks_each s.opened (record_of o) k.number (is_in s n e o) (h.apart k (in_place s.waiting w.0 k w.1)) q

pub one_node : (s : State) (n k : Node) → IsNumbered s → IsThere s n → IsThere s k → n.number ≡ k.number → n ≡ k
one_node s n k h (inl (e, o)) (inl (f, p)) q = ap (λ (o : Opened). o.node) (one_opened s.opened (record_of o) (record_of p) h.distinct (is_in s n e o) (is_in s k f p) q)
one_node s n k h (inl (e, o)) (inr w) q = absurd (not_both s n k e h o w q)
one_node s n k h (inr w) (inl (f, p)) q = absurd (not_both s k n f h p w (sym q))
one_node s n k h (inr w) (inr x) q = one_waiting 0 s.count s.waiting n k h.rising (in_place s.waiting w.0 n w.1) (in_place s.waiting x.0 k x.1) q

pub one_ending : (s : State) (n : Node) (e f : Ending) → IsNumbered s → IsOpened s n e → IsOpened s n f → e ≡ f
one_ending s n e f h o p = ap (λ (o : Opened). o.ending) (one_opened s.opened (record_of o) (record_of p) h.distinct (is_in s n e o) (is_in s n f p) refl)

-- ---- paths
pub one_part : (ps : List Part) (p q : Part) → ps ++ p ∷ [] ≡ ps ++ q ∷ [] → p ≡ q
one_part [] p q e = cc
one_part (x ∷ ps) p q e = one_part ps p q (rest _ _ _ e)
  where
    rest : (x : Part) (xs ys : List Part) → x ∷ xs ≡ x ∷ ys → xs ≡ ys
    rest x xs ys e = cc

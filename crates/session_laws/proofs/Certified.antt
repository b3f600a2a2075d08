-- What is answered where a sheet's certificate is asked for is one.
use Rattle.std.proofs.Common.{◌≡◌, ◌<◌, ◌≤◌, ◌+◌, ◌∙◌, ℕ, List, length, Option, Some, None, refl, sym, ap, subst, arith}
use Rattle.std.specs.Prelude.{Vec}
use Rattle.std.specs.Global.{Global}
use Rattle.fractions.specs.Rational.{ℚ}
use Rattle.linear_models.specs.Model.{Model}
use Rattle.node_pick.specs.Rules.{free}
use Rattle.opt_certificate.specs.Certificate.{Claim, Tree, infeasible, optimal, unbounded}
use Rattle.opt_certificate.specs.Claims.{claim_of}
use Rattle.opt_certificate.specs.Nodes.{IsListed, Node}
use Rattle.certificate_texts.specs.declared.cert.Cert.{Cert}
use Rattle.searches.specs.Answers as answers
use Rattle.searches.specs.Trails as trails
use Rattle.searches.proofs.Answering.{one_answer}
use Rattle.search_certificates.specs.Laws.{IsSearchTree}
use Rattle.search_certificates.specs.Trees.{IsTreeOf}
use Rattle.search_certificates.specs.Weights.{weight_of}
use Rattle.search_certificates.proofs.OneTree.{search_tree_is_one}
use Rattle.search_trees.specs.Trees.{IsLight, most_weight}
use Rattle.workbook.specs.State.{State}
use Rattle.solver_names.specs.Statement.{Statement}
use Rattle.commands.specs.declared.answer.Answer.{Answer}
use Rattle.commands.specs.declared.answer.Answer.TheVariants as answer
use Rattle.commands.specs.declared.answer.PathStep.{PathStep}
use Rattle.sheet_certificates.specs.Certified.{AnswersCertificate, HasTreeOf, IsTrueOf}
use Rattle.session.specs.FromSheetSolving.{EndsWith, HasOpenLeaf, Searched, StandsAt, Task}
use Rattle.session_laws.specs.Answers.{SameAnswer}
use Rattle.session_laws.proofs.Ends.{AtEnd, end_is_last, same_end, spent, wide}
use Rattle.session_laws.proofs.Same.{equal_are_same, same_by}
use Rattle.session_laws.proofs.Tasks.{Follows, IsLast, last_is_one, over_last}
use Rattle.session_laws.proofs.Trails.{trail_on}

none_or_some : {A : Type 0} {x : A} → None ≡ Some x → ⊥
none_or_some e = absurd cc

some_is : {A : Type 0} {x y : A} → Some x ≡ Some y → x ≡ y
some_is e = cc

-- what is told with a claim that is true is one
one_value : (book : State) (s : Statement) (claim : Claim) (v w : Option ℚ) → IsTrueOf book s claim v → IsTrueOf book s claim w → v ≡ w
one_value book s (optimal numbers) v w h k = sym h.1 ∙ k.1
one_value book s infeasible v w h k = h.1 ∙ sym k.1
one_value book s (unbounded point direction) v w h k = h.1 ∙ sym k.1

one_listing : (t : Option Tree) (xs ys : List Node) → IsListed xs t → IsListed ys t → xs ≡ ys
one_listing None xs ys h k = h ∙ sym k
one_listing (Some t) xs ys h k = h ∙ sym k

module _ (task : Task) (m : Model) (book : State) (st : Statement) where
  -- ---- a search that is over
  -- its certificate is shown, or its tree is too large
  data Shown (s : trails.State) (end : answers.Answer) (a : Answer) : Type 0 where
    shown : (c : Cert) → a ≡ answer.Cert c → HasTreeOf m s end c → IsTrueOf book st (claim_of c.claim) c.value → Shown s end a
    large : (w : ℕ) (t : Tree) → a ≡ answer.CertLimit w → IsTreeOf m s end (Some t) → w ≡ weight_of m m.bounds t → most_weight < w → Shown s end a

  data CertEnd (n : ℕ) (s : trails.State) (a : Answer) : Type 0 where
    over : (end : answers.Answer) → EndsWith m s end → Shown s end a → CertEnd n s a
    stuck : (path : Vec PathStep Global) (basis : Vec ℕ Global) (leaves enters : ℕ) → a ≡ answer.WidePivot path basis leaves enters
        → StandsAt task st.decisions n s path.items basis.items leaves enters → CertEnd n s a
    out : (k : ℕ) → a ≡ answer.Budget k → k ≡ task.spent + n → task.budget ≤ k → HasOpenLeaf m s → CertEnd n s a

  record Ended (a : Answer) : Type 0 where
    search : Searched task m
    at_end : CertEnd (length search.units) search.state a

  ended : (a : Answer) → AnswersCertificate task book st m a → Ended a
  ended (answer.Cert c) h = record { search = h.search; at_end = over h.answer h.ends (shown c refl h.has_tree h.is_true) }
  ended (answer.CertLimit w) h = record { search = h.search; at_end = over h.answer h.ends (large w h.tree refl h.is_tree h.weight_is h.heavy) }
  ended (answer.WidePivot path basis leaves enters) h = record { search = h.0; at_end = stuck path basis leaves enters refl h.1 }
  ended (answer.Budget n) h = record { search = h.0; at_end = out n refl h.1 h.2 h.3 }
  ended _ h = absurd h

  module _ (follows : Follows m task) where
    certificate_last : (t : Searched task m) (a : Answer) → CertEnd (length t.units) t.state a → IsLast m task follows t
    certificate_last t a (over end e told) = over_last m task follows t e.at_rest e.over
    certificate_last t a (stuck path basis leaves enters is stands) = end_is_last task m book st follows t a book (wide path basis leaves enters is stands refl)
    certificate_last t a (out k is count whole leaf) = end_is_last task m book st follows t a book (spent k is count whole leaf refl)

    -- ---- one tree
    module _ (us : List trails.SearchUnit) (s : trails.State) (trail : trails.Trail m free us s) (end : answers.Answer) (e : EndsWith m s end) where
      of_search : (t : Option Tree) → IsTreeOf m s end t → IsSearchTree m s end t
      of_search t is = record {
        rule = free;
        units = us;
        trail = trail;
        at_rest = e.at_rest;
        over = e.over;
        says = e.says;
        is_tree = is;
      }

      one_tree : (t u : Option Tree) → IsTreeOf m s end t → IsTreeOf m s end u → t ≡ u
      one_tree t u h k = search_tree_is_one m s end t u follows.valid (of_search t h) (of_search u k)

      same_certificate : (c d : Cert) (a b : Answer) → a ≡ answer.Cert c → b ≡ answer.Cert d → HasTreeOf m s end c → HasTreeOf m s end d → IsTrueOf book st (claim_of c.claim) c.value
          → IsTrueOf book st (claim_of d.claim) d.value → SameAnswer a b
      same_certificate c d a b e f h k true_c true_d =
          let tree = one_tree h.tree k.tree h.is_tree k.is_tree in
          let claim : claim_of c.claim ≡ claim_of d.claim = h.claim ∙ sym k.claim in
          same_by a b (answer.Cert c) (answer.Cert d) e f (
            one_listing k.tree c.tree d.tree (subst (λ (t : Option Tree). IsListed c.tree t) tree h.listed) k.listed,
            claim,
            one_value book st (claim_of d.claim) c.value d.value (subst (λ (x : Claim). IsTrueOf book st x c.value) claim true_c) true_d,
          )

      not_both : (c : Cert) (w : ℕ) (t : Tree) → HasTreeOf m s end c → IsTreeOf m s end (Some t) → w ≡ weight_of m m.bounds t → most_weight < w → ⊥
      not_both c w t h is weight above = by_tree h.tree (one_tree h.tree (Some t) h.is_tree is) h.light
        where
          by_tree : (u : Option Tree) → u ≡ Some t → IsLight m u → ⊥
          by_tree None e light = none_or_some e
          by_tree (Some u) e light =
              let less : weight_of m m.bounds t ≤ most_weight = subst (λ (x : Tree). weight_of m m.bounds x ≤ most_weight) (some_is e) light in
              absurd (omega (arith, less, weight, above))

      same_shown : (a b : Answer) → Shown s end a → Shown s end b → SameAnswer a b
      same_shown a b (shown c is h x) (shown d so k y) = same_certificate c d a b is so h k x y
      same_shown a b (shown c is h x) (large w t so k weight above) = absurd (not_both c w t h k weight above)
      same_shown a b (large w t is h weight above) (shown d so k y) = absurd (not_both d w t k h weight above)
      same_shown a b (large w t is h weight above) (large v u so k heavy beyond) =
          equal_are_same a b (is ∙ (ap answer.CertLimit (weight ∙ (ap (weight_of m m.bounds) (some_is (one_tree (Some t) (Some u) h k)) ∙ sym heavy)) ∙ sym so))

    -- ---- all ends
    same_certified : (us : List trails.SearchUnit) (n : ℕ) (s : trails.State) (a b : Answer) → trails.Trail m free us s → CertEnd n s a → CertEnd n s b → SameAnswer a b
    same_certified us n s a b trail (over end e told) (over fin f also) =
        let all = one_answer m s in
        let same : end ≡ fin = all.2 end e.says ∙ sym (all.2 fin f.says) in
        same_shown us s trail fin f a b (subst (λ (x : answers.Answer). Shown s x a) same told) also
    same_certified us n s a b trail (over end e told) (stuck path basis leaves enters is stands) = absurd (none_or_some (sym e.at_rest ∙ stands.wide.1))
    same_certified us n s a b trail (over end e told) (out k is count whole leaf) = absurd (leaf (e.at_rest, e.over))
    same_certified us n s a b trail (stuck path basis leaves enters is stands) (over fin f also) = absurd (none_or_some (sym f.at_rest ∙ stands.wide.1))
    same_certified us n s a b trail (out k is count whole leaf) (over fin f also) = absurd (leaf (f.at_rest, f.over))
    same_certified us n s a b trail (stuck path basis leaves enters is stands) (stuck steps given left entered so there) =
        (same_end task m book st follows us n s a b book book trail (wide path basis leaves enters is stands refl) (wide steps given left entered so there refl)).0
    same_certified us n s a b trail (stuck path basis leaves enters is stands) (out k so count whole leaf) =
        (same_end task m book st follows us n s a b book book trail (wide path basis leaves enters is stands refl) (spent k so count whole leaf refl)).0
    same_certified us n s a b trail (out k is count whole leaf) (stuck steps given left entered so there) =
        (same_end task m book st follows us n s a b book book trail (spent k is count whole leaf refl) (wide steps given left entered so there refl)).0
    same_certified us n s a b trail (out k is count whole leaf) (out l so other all still) =
        (same_end task m book st follows us n s a b book book trail (spent k is count whole leaf refl) (spent l so other all still refl)).0

    pub certified_once : (a b : Answer) → AnswersCertificate task book st m a → AnswersCertificate task book st m b → SameAnswer a b
    certified_once a b h k =
        let x = ended a h in
        let y = ended b k in
        let one = last_is_one m task follows x.search y.search (certificate_last x.search a x.at_end) (certificate_last y.search b y.at_end) in
        let trail = trail_on m task.rule follows.valid follows.named follows.units task.from follows.trail y.search.units y.search.state y.search.leads in
        let at_end : CertEnd (length y.search.units) y.search.state a =
        subst (λ (us : List trails.SearchUnit). CertEnd (length us) y.search.state a) one.0 (subst (λ (s : trails.State). CertEnd (length x.search.units) s a) one.1 x.at_end) in
        same_certified _ (length y.search.units) y.search.state a b trail at_end y.at_end

-- The certificate of a search has a text of its own, which is light enough to be read.
use Rattle.std.proofs.Common.{◌≡◌, ◌≤◌, ◌<◌, inl, inr, refl, sym, subst, arith, cond, length, Bool, true, false, List, [], ◌∷◌, Option, Some, None}
use Rattle.std.specs.Prelude.{IfSome}
use Rattle.fractions.specs.Rational.{ℚ, eq_ℚ, zero_ℚ}
use Rattle.fractions.proofs.Order.{eq_iff}
use Rattle.linear_models.specs.Box.{Box}
use Rattle.linear_programs.specs.Program.{Program}
use Rattle.dictionaries.specs.Reading.{multipliers}
use Rattle.linear_models.specs.Model.{IsValid, Model, maximised}
use Rattle.linear_models.specs.Worths.{form_at}
use Rattle.opt_certificate.specs.Claims.{claim_of}
use Rattle.opt_certificate.specs.Certificate.{Certifies, Claim, Proves, Tree, best, clash, empty, infeasible, lower_child, optimal, split, unbounded, upper_child}
use Rattle.certificate_lines.specs.Cert.{Cert, HasParts, cert_weight, tree_lines}
use Rattle.certificate_lines.specs.Heads.{most_weight}
use Rattle.certificate_lines.specs.Line.{end_line, weight}
use Rattle.certificate_lines.proofs.Stops.{weight-append}
use Rattle.certificate_texts.specs.Fits.{EndsOtherwise, HasNumbers, HasText, LeavesEndOtherwise}
use Rattle.searches.specs.Answers as answers
use Rattle.searches.specs.Trails as trails
use Rattle.searches.specs.Trees.{Node}
use Rattle.search_certificates.specs.Laws.{IsSearchTree}
use Rattle.search_certificates.specs.Leaves.{GivesBest, GivesEmpty, put_before, without_last_zeros}
use Rattle.search_certificates.specs.Trees.{IsTreeAt, IsTreeOf, claim_of_answer}
use Rattle.search_certificates.specs.Weights.{weight_of}
use Rattle.search_certificates.proofs.Certifying.{search_trees_certify}
use Rattle.search_trees.specs.Trees.{IsLight}
use Rattle.workbook.specs.State.{State}
use Rattle.solver_names.specs.Statement.{Statement}
use Rattle.sheet_certificates.specs.Certified.{IsTrueOf}
use Rattle.sheet_certificates.specs.Laws.{CertificatesAreReadable, CertificatesReadBack, printed_of}

-- ---- the multipliers of a leaf don't end with 0
none_end : EndsOtherwise []
none_end [] e = absurd cc
none_end (z ∷ zs) e = absurd cc

put_ends : (y : ℚ) (ys : List ℚ) → EndsOtherwise ys → EndsOtherwise (put_before y ys)
put_ends y [] h = by_test (eq_ℚ y zero_ℚ) refl
  where
    alone : (eq_ℚ y zero_ℚ ≡ false) → EndsOtherwise (y ∷ [])
    alone e [] q =
        let is : y ≡ zero_ℚ = cc in
        let yes : eq_ℚ y zero_ℚ ≡ true = (eq_iff y zero_ℚ).1 is in
        absurd cc
    alone e (z ∷ zs) q = none_end zs cc

    by_test : (b : Bool) → eq_ℚ y zero_ℚ ≡ b → EndsOtherwise (cond b [] (y ∷ []))
    by_test true e = none_end
    by_test false e = alone e
put_ends y (x ∷ xs) h = longer
  where
    longer : EndsOtherwise (y ∷ x ∷ xs)
    longer [] e = absurd cc
    longer (z ∷ zs) e = h zs cc

trimmed_ends : (ys : List ℚ) → EndsOtherwise (without_last_zeros ys)
trimmed_ends [] = none_end
trimmed_ends (y ∷ ys) = put_ends y (without_last_zeros ys) (trimmed_ends ys)

best_end : (p : Program) (ys : List ℚ) → GivesBest p ys → EndsOtherwise ys
best_end p ys h = subst EndsOtherwise (sym h.are) (trimmed_ends (multipliers p h.dictionary.nonbasic h.dictionary.objective))

empty_end : (p : Program) (ys : List ℚ) → GivesEmpty p ys → EndsOtherwise ys
empty_end p ys h = subst EndsOtherwise (sym h.are) (trimmed_ends (multipliers p h.dictionary.nonbasic h.dictionary.auxiliary))

leaves_end : (m : Model) (s : trails.State) (n : Node) (t : Tree) → IsTreeAt m s n t → LeavesEndOtherwise t
leaves_end m s n (split j f low high) h = (leaves_end m s h.0 low h.3.0, leaves_end m s h.1 high h.3.1)
leaves_end m s n (best ys) (inl h) = best_end (trails.node_program m s.way n) ys h.1
leaves_end m s n (best ys) (inr h) = subst EndsOtherwise (sym h.1) none_end
leaves_end m s n (empty ys) h = empty_end (trails.node_program m s.way n) ys h.1
leaves_end m s n (clash i k) h = tt

-- ---- its lines weigh no more than the tree
lines_light : (m : Model) (target : Option ℚ) (box : Box) (t : Tree) → Proves m target box t → weight (tree_lines t) ≤ weight_of m box t
lines_light m target box (split j f low high) h =
    let a = lines_light m target (lower_child box j f) low h.1 in
    let b = lines_light m target (upper_child box j f) high h.2 in
    let w = weight-append (tree_lines low) (tree_lines high) in
    omega (arith, a, b, w)
lines_light m None box (best ys) h = absurd h
lines_light m (Some b) box (best ys) h = let few = h.0 in omega (arith, few)
lines_light m target box (empty ys) h = let few = h.0 in omega (arith, few)
lines_light m target box (clash i k) h = omega arith

-- ---- all of it
-- a value is told with an optimal point alone
abbrev IsValued : Claim → Option ℚ → Type 0
IsValued (optimal x) value = Unit {0}
IsValued infeasible value = value ≡ None
IsValued (unbounded x d) value = value ≡ None

module _ (m : Model) (s : trails.State) (tree : Option Tree) (value : Option ℚ) (valid : IsValid m) (some : 0 < length m.whole) where
  abbrev made : Claim → Cert
  made claim = record { tree = tree; claim = claim; value = value }

  parts_are : (a : answers.Answer) → IsTreeOf m s a tree → IsValued (claim_of_answer a) value → HasParts (claim_of_answer a) tree value
  parts_are (answers.optimal x v) t told = (t.0, t.1)
  parts_are answers.infeasible t told = ((t.0, t.1), told)
  parts_are (answers.unbounded x d) t told = (t, told)

  numbers_are : (a : answers.Answer) → Certifies m tree (claim_of_answer a) → HasNumbers (claim_of_answer a)
  numbers_are (answers.optimal x v) h = let size = h.0.one_each in omega (arith, size, some)
  numbers_are answers.infeasible h = tt
  numbers_are (answers.unbounded x d) h =
      let size = h.0.one_each in
      let other = h.1.one_each in
      (omega (arith, size, some), omega (arith, other, some))

  leaves_are : (a : answers.Answer) → IsTreeOf m s a tree → IfSome tree LeavesEndOtherwise
  leaves_are (answers.optimal x v) t = subst (λ (tree : Option Tree). IfSome tree LeavesEndOtherwise) (sym t.1) (leaves_end m s t.2.0 t.0 t.2.2)
  leaves_are answers.infeasible t = subst (λ (tree : Option Tree). IfSome tree LeavesEndOtherwise) (sym t.1) (leaves_end m s t.2.0 t.0 t.2.2)
  leaves_are (answers.unbounded x d) t = subst (λ (tree : Option Tree). IfSome tree LeavesEndOtherwise) (sym t) tt

  is_light : (a : answers.Answer) → Certifies m tree (claim_of_answer a) → IsLight m tree → cert_weight (made (claim_of_answer a)) ≤ most_weight
  is_light (answers.optimal x v) h light =
      let p = h.1 in
      let k = lines_light m (Some (form_at (maximised m.goal m.objective) x)) m.bounds p.0 p.2 in
      let w = weight-append (tree_lines p.0) (end_line ∷ []) in
      let l : weight_of m m.bounds p.0 ≤ most_weight = subst (IsLight m) p.1 light in
      subst (λ (tree : Option Tree). cert_weight (record { tree = tree; claim = optimal x; value = value }) ≤ most_weight) (sym p.1) (omega (arith, k, w, l))
  is_light answers.infeasible h light =
      let k = lines_light m None m.bounds h.0 h.2 in
      let w = weight-append (tree_lines h.0) (end_line ∷ []) in
      let l : weight_of m m.bounds h.0 ≤ most_weight = subst (IsLight m) h.1 light in
      subst (λ (tree : Option Tree). cert_weight (record { tree = tree; claim = infeasible; value = value }) ≤ most_weight) (sym h.1) (omega (arith, k, w, l))
  is_light (answers.unbounded x d) h light = omega arith

  is_text : (a : answers.Answer) (claim : Claim) → IsSearchTree m s a tree → IsLight m tree → claim ≡ claim_of_answer a → IsValued claim value → HasText (made claim) × (cert_weight (made claim) ≤ most_weight)
  is_text a claim h light e told =
      let certifies = search_trees_certify m s a tree valid h in
      subst (λ (claim : Claim). HasText (made claim) × (cert_weight (made claim) ≤ most_weight)) (sym e)
      (record { parts = parts_are a h.is_tree (subst (λ (claim : Claim). IsValued claim value) e told); numbers = numbers_are a certifies; leaves = leaves_are a h.is_tree }, is_light a certifies light)

-- ---- the certificate of a sheet
-- its value is told with an optimal point alone
is_valued : (book : State) (s : Statement) (claim : Claim) (value : Option ℚ) → IsTrueOf book s claim value → IsValued claim value
is_valued book s (optimal x) value h = tt
is_valued book s infeasible value h = h.1
is_valued book s (unbounded x d) value h = h.1

pub certificates_are_readable : CertificatesAreReadable
certificates_are_readable rule budget book s m c valid some h =
    let t = h.has_tree in
    let searched : IsSearchTree m h.search.state h.answer t.tree =
    record { rule = rule; units = h.search.units; trail = h.search.leads; at_rest = h.ends.at_rest; over = h.ends.over; says = h.ends.says; is_tree = t.is_tree } in
    let text = is_text m h.search.state t.tree c.value valid some h.answer (claim_of c.claim) searched t.light t.claim (is_valued book s (claim_of c.claim) c.value h.is_true) in
    record { text = text.0; light = text.1 }

pub certificates_read_back : CertificatesReadBack
certificates_read_back rule budget book s m c valid some h reads =
    let readable = certificates_are_readable rule budget book s m c valid some h in
    reads (printed_of c h) record { tree = h.has_tree.listed; claim = refl; value = refl } readable.text readable.light

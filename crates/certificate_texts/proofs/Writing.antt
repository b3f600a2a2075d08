-- What is written, line by line.
use Rattle.std.proofs.Common.{◌≡◌, ◌≢◌, ◌∙◌, ℕ, suc, ◌+◌, Bool, true, false, cond, List, [], ◌∷◌, ◌++◌, map, Option, Some, None, refl, sym, ap, ap₂, append_assoc, append-nil, ℤ, pos}
use Rattle.fractions.specs.Rational.{ℚ, zero_ℚ, eq_ℚ}
use Rattle.fractions.proofs.Order.{eq_iff}
use Rattle.opt_certificate.specs.Certificate.{Tree, split, best, empty, clash, Claim, optimal, infeasible, unbounded}
use Rattle.opt_certificate.specs.Nodes.{Node, listing, size, IsListed}
use Rattle.certificate_lines.specs.Line.{Line, split_line, clash_line, end_line, pair_text, pair_words, value_words, spaced, text_of}
use Rattle.certificate_lines.specs.Cert.{claim_lines, tree_lines, node_lines, cert_text}
use Rattle.certificate_texts.specs.Nodes.{node_line, listed_lines, listed_text}
use Rattle.std.specs.Prelude.{codes}
use Rattle.fractions.specs.Whole.{whole_ℚ}
use Rattle.frac128.specs.Printed.{printed}
use Rattle.certificate_texts.proofs.NumberLists.{spaced-append}
use Rattle.certificate_lines.proofs.Texts.{text-append}

-- ---- pairs
chosen : (k : ℕ) (y : ℚ) (ys : List ℚ) (t : Bool) → cond t (pair_words (suc k) ys) (pair_text k y ∷ pair_words (suc k) ys) ≡ cond t [] (pair_text k y ∷ []) ++ pair_words (suc k) ys
chosen k y ys true = refl
chosen k y ys false = refl

pub pairs-next : (k : ℕ) (y : ℚ) (ys : List ℚ) → spaced (pair_words k (y ∷ ys)) ≡ spaced (pair_words k (y ∷ [])) ++ spaced (pair_words (suc k) ys)
pairs-next k y ys = ap spaced (chosen k y ys (eq_ℚ y zero_ℚ)) ∙ spaced-append (pair_words k (y ∷ [])) (pair_words (suc k) ys)

pub pair_none : (k : ℕ) (y : ℚ) → y ≡ zero_ℚ → pair_words k (y ∷ []) ≡ []
pair_none k y e = ap (λ t. cond t [] (pair_text k y ∷ [])) ((eq_iff y zero_ℚ).1 e)

pub pair_some : (k : ℕ) (y : ℚ) → y ≢ zero_ℚ → pair_words k (y ∷ []) ≡ pair_text k y ∷ []
pair_some k y n = by_test (eq_ℚ y zero_ℚ) (eq_iff y zero_ℚ).0
  where
    by_test : (t : Bool) → (t ≡ true → y ≡ zero_ℚ) → cond t [] (pair_text k y ∷ []) ≡ pair_text k y ∷ []
    by_test true h = absurd (n (h refl))
    by_test false h = refl

-- ---- nodes
pub map-append : (xs ys : List Node) → map node_line (xs ++ ys) ≡ map node_line xs ++ map node_line ys
map-append [] ys = refl
map-append (x ∷ xs) ys = ap (λ r. node_line x ∷ r) (map-append xs ys)

pub listed-tree : (k : ℕ) (t : Tree) → map node_line (listing k t) ≡ tree_lines t
listed-tree k (split j f l u) =
    ap (λ r. split_line j f ∷ r) (map-append (listing (k + 1) l) (listing (k + (1 + size l)) u) ∙ ap₂ (λ x y. x ++ y) (listed-tree (k + 1) l) (listed-tree (k + (1 + size l)) u))
listed-tree k (best ys) = refl
listed-tree k (empty ys) = refl
listed-tree k (clash i j) = refl

listed : (nodes : List Node) (t : Option Tree) (c : Claim) → IsListed nodes t → listed_lines c nodes ≡ node_lines c t
listed nodes None (optimal a) h = ap (map node_line) h
listed nodes None infeasible h = ap (map node_line) h
listed nodes (Some t) (optimal a) h = ap (map node_line) h ∙ listed-tree 0 t
listed nodes (Some t) infeasible h = ap (map node_line) h ∙ listed-tree 0 t
listed nodes None (unbounded a d) h = refl
listed nodes (Some t) (unbounded a d) h = refl

-- the text of a tree's nodes is that of its certificate
pub listed-text : (nodes : List Node) (t : Option Tree) (c : Claim) (v : Option ℚ) → IsListed nodes t → listed_text c v nodes ≡ cert_text (record { tree = t; claim = c; value = v })
listed-text nodes t c v h = ap (λ r. text_of (claim_lines c v ++ (r ++ (end_line ∷ [])))) (listed nodes t c h)

-- ---- piece by piece
pub pair_written : (k : ℕ) (y : ℚ) (z : ℤ) (old a b e : List ℕ) → y ≢ zero_ℚ → a ≡ old ++ (32 ∷ printed (whole_ℚ z)) → b ≡ a ++ (58 ∷ []) → e ≡ b ++ printed y → z ≡ pos (suc k)
    → e ≡ old ++ spaced (pair_words (suc k) (y ∷ []))
pair_written k y z old a b e n f g h same =
    h ∙ ap (λ r. r ++ printed y) (g ∙ ap (λ r. r ++ (58 ∷ [])) f)
    ∙ ap (λ r. r ++ printed y) (append_assoc old (32 ∷ printed (whole_ℚ z)) (58 ∷ []))
    ∙ append_assoc old (32 ∷ (printed (whole_ℚ z) ++ (58 ∷ []))) (printed y)
    ∙ ap (λ r. old ++ (32 ∷ r)) (append_assoc (printed (whole_ℚ z)) (58 ∷ []) (printed y) ∙ ap (λ w. printed (whole_ℚ w) ++ (58 ∷ printed y)) same ∙ sym (append-nil (pair_text (suc k) y)))
    ∙ ap (λ ws. old ++ spaced ws) (sym (pair_some (suc k) y n))

pub split_written : (j : ℕ) (floor y z : ℤ) (old a b d e : List ℕ) → a ≡ old ++ codes "split" → b ≡ a ++ (32 ∷ printed (whole_ℚ z)) → d ≡ b ++ (32 ∷ printed (whole_ℚ y)) → e ≡ d ++ (10 ∷ []) → z ≡ pos (suc j) → y ≡ floor
    → e ≡ old ++ text_of (split_line j floor ∷ [])
split_written j floor y z old a b d e f g h k same fold =
    k ∙ ap (λ r. r ++ (10 ∷ [])) (h ∙ ap₂ (λ r w. r ++ (32 ∷ printed (whole_ℚ w))) (g ∙ ap₂ (λ r w. r ++ (32 ∷ printed (whole_ℚ w))) f same) fold)
    ∙ simp append_assoc

pub clash_written : (i j : ℕ) (y z : ℤ) (old a b d e : List ℕ) → a ≡ old ++ codes "clash" → b ≡ a ++ (32 ∷ printed (whole_ℚ z)) → d ≡ b ++ (32 ∷ printed (whole_ℚ y)) → e ≡ d ++ (10 ∷ []) → z ≡ pos (suc i) → y ≡ pos (suc j)
    → e ≡ old ++ text_of (clash_line i j ∷ [])
clash_written i j y z old a b d e f g h k same other =
    k ∙ ap (λ r. r ++ (10 ∷ [])) (h ∙ ap₂ (λ r w. r ++ (32 ∷ printed (whole_ℚ w))) (g ∙ ap₂ (λ r w. r ++ (32 ∷ printed (whole_ℚ w))) f same) other)
    ∙ simp append_assoc

pub lines_written : (cl ns : List Line) (old a b e : List ℕ) → a ≡ old ++ text_of cl → b ≡ a ++ text_of ns → e ≡ b ++ text_of (end_line ∷ []) → e ≡ old ++ text_of (cl ++ (ns ++ (end_line ∷ [])))
lines_written cl ns old a b e f g h =
    h ∙ ap (λ r. r ++ text_of (end_line ∷ [])) (g ∙ ap (λ r. r ++ text_of ns) f)
    ∙ ap (λ r. r ++ text_of (end_line ∷ [])) (append_assoc old (text_of cl) (text_of ns))
    ∙ append_assoc old (text_of cl ++ text_of ns) (text_of (end_line ∷ []))
    ∙ ap (λ r. old ++ r) (append_assoc (text_of cl) (text_of ns) (text_of (end_line ∷ [])) ∙ ap (λ r. text_of cl ++ r) (sym (text-append ns (end_line ∷ []))) ∙ sym (text-append cl (ns ++ (end_line ∷ []))))

pub optimal_written : (v : Option ℚ) (p : List ℚ) (old a b d e f : List ℕ) → a ≡ old ++ codes "cert optimal" → b ≡ a ++ spaced (value_words v) → d ≡ b ++ (10 ∷ codes "point") → e ≡ d ++ spaced (map printed p) → f ≡ e ++ (10 ∷ [])
    → f ≡ old ++ text_of (claim_lines (optimal p) v)
optimal_written v p old a b d e f g h i j k =
    k ∙ ap (λ r. r ++ (10 ∷ [])) (j ∙ ap (λ r. r ++ spaced (map printed p)) (i ∙ ap (λ r. r ++ (10 ∷ codes "point")) (h ∙ ap (λ r. r ++ spaced (value_words v)) g)))
    ∙ simp append_assoc

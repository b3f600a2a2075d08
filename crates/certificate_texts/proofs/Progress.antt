-- How far a text is read, line by line.
use Rattle.std.proofs.Common.{◌≡◌, ◌≢◌, ◌∙◌, ℕ, suc, ◌+◌, ◌^◌, ◌≤◌, Bool, true, false, List, [], ◌∷◌, ◌++◌, length, length-append, map, Some, refl, sym, ap, subst, append_assoc, append-nil, arith}
use Rattle.std.specs.Prelude.{IsSome}
use Rattle.std.proofs.lemmas.List.{length-map}
use Rattle.std.specs.List.{AllByRecursion}
use Rattle.opt_certificate.specs.Trees.{node_of}
use Rattle.certificate_lines.specs.Cutting.{Lacks}
use Rattle.certificate_lines.specs.Line.{Line, end_line, IsLine, line_text, line_weight, text_of, weight}
use Rattle.certificate_lines.specs.Heads.{most_weight}
use Rattle.certificate_lines.specs.Machine.{at_claim, at_end, step, run}
use Rattle.certificate_lines.specs.Reading.{ReadTo, MayFollow, IsStuck}
use Rattle.certificate_lines.proofs.Cuts.{cut, all-append, all-back}
use Rattle.certificate_lines.proofs.Machines.{run-append}
use Rattle.certificate_lines.proofs.Stops.{weight-append}
use Rattle.certificate_lines.proofs.Texts.{text-append, text-next}
use Rattle.certificate_lines.proofs.Words.{line_lacks, same_line}
use Rattle.certificate_texts.specs.Answers.{IsBlank, IsWhole}
use Rattle.certificate_texts.specs.Lines.{IsLight}
use Rattle.certificate_texts.specs.Nodes.{node_line}
use Rattle.certificate_texts.specs.Drafts.{state_of, waiting_in, head_lines, nodes_lines, lines_in, lines_of, IsBare, IsOpen, IsReadTo, Taken, TextTaken}
use Rattle.certificate_texts.specs.declared.draft.Draft.{Draft}
use Rattle.certificate_texts.specs.declared.draft.State.{State as Stage}
use Rattle.certificate_texts.specs.declared.draft.State.TheVariants as stages

-- ---- where nothing is read
claim_first : (s : Stage) → state_of s ≡ at_claim → s ≡ stages.Claim
claim_first stages.Claim e = refl
claim_first stages.Point e = absurd (cc e)
claim_first stages.Start e = absurd (cc e)
claim_first stages.Ray e = absurd (cc e)
claim_first (stages.Trees n) e = absurd (cc e)
claim_first stages.Nothing e = absurd (cc e)

pub read_none : (text : List ℕ) (d : Draft) → IsBlank d → IsReadTo text d text 0
read_none text d b =
    let s : d.state ≡ stages.Claim = claim_first d.state b.state in
    let none : lines_of d ≡ [] = ap (λ t. lines_in t d) s in
    let zero : d.weight ≡ 0 = b.weight in
    record {
      read = record {
        are = subst (AllByRecursion IsLine) (sym none) tt;
        state_is = ap (λ ls. run ls (Some at_claim)) none ∙ ap Some (sym b.state);
        light = subst (λ ls. weight ls ≤ most_weight) (sym none) (omega arith);
        joined = ap (λ ls. text_of ls ++ text) (sym none);
      };
      weight = ap weight none ∙ sym zero;
      bare = subst (λ t. IsBare t d) (sym s) b.nodes;
      few = subst (λ t. waiting_in t ≤ suc 0) (sym s) (omega arith);
      counted = ap length none;
    }

-- ---- one line more
pub read_more : (text : List ℕ) (d e : Draft) (rest line behind : List ℕ) (n : ℕ) → IsReadTo text d rest n → rest ≡ line ++ (10 ∷ behind) → TextTaken d line true e → IsReadTo text e behind (n + 1)
read_more text d e rest line behind n r j t =
    let l = t.0 in
    let f = t.1.2 in
    let heavy : weight (lines_of e) ≡ e.weight = let a : weight (lines_of e) ≡ weight (lines_of d) + weight (l ∷ []) = ap weight f.lines ∙ weight-append (lines_of d) (l ∷ []) in
    let b = f.weight in let c = r.weight in omega arith in
    let light = f.light in
    let few = f.few in
    let before = r.few in
    let count : length (lines_of e) ≡ length (lines_of d) + 1 = ap length f.lines ∙ length-append (lines_of d) (l ∷ []) in
    let counted = r.counted in
    record {
      read = record {
        are = subst (AllByRecursion IsLine) (sym f.lines) (all-append IsLine (lines_of d) (l ∷ []) r.read.are (t.1.0, tt));
        state_is = ap (λ ls. run ls (Some at_claim)) f.lines ∙ run-append (lines_of d) (l ∷ []) (Some at_claim) ∙ ap (run (l ∷ [])) r.read.state_is ∙ f.next;
        light = omega arith;
        joined = r.read.joined ∙ ap (λ x. text_of (lines_of d) ++ x) (j ∙ ap (λ x. x ++ (10 ∷ behind)) t.1.1 ∙ sym (text-next l [] behind))
            ∙ sym (append_assoc (text_of (lines_of d)) (text_of (l ∷ [])) behind) ∙ ap (λ x. x ++ behind) (sym (text-append (lines_of d) (l ∷ [])) ∙ ap text_of (sym f.lines));
      };
      weight = heavy;
      bare = f.bare;
      few = omega arith;
      counted = omega arith;
    }

-- ---- how large everything is
lines_short : (ls : List Line) (rest : List ℕ) → length ls ≤ length (text_of ls ++ rest)
lines_short [] rest = omega arith
lines_short (l ∷ ls) rest =
    let r = lines_short ls rest in
    let a : length (text_of (l ∷ ls) ++ rest) ≡ length (line_text l) + suc (length (text_of ls ++ rest)) = ap length (text-next l ls rest) ∙ length-append (line_text l) (10 ∷ (text_of ls ++ rest)) in
    omega arith

pub lines_within : (text : List ℕ) (d : Draft) (rest : List ℕ) (n : ℕ) → IsReadTo text d rest n → length text ≤ 2 ^ 24 → n ≤ 2 ^ 24
lines_within text d rest n r h =
    let a = lines_short (lines_of d) rest in
    let b : length text ≡ length (text_of (lines_of d) ++ rest) = ap length r.read.joined in
    let c = r.counted in
    omega arith

pub is_open : (text : List ℕ) (d : Draft) (rest : List ℕ) (n : ℕ) → IsReadTo text d rest n → length text ≤ 2 ^ 24 → IsOpen d
is_open text d rest n r h =
    let a = lines_within text d rest n r h in
    let few = r.few in
    let w = r.weight in
    let l = r.read.light in
    record { bare = r.bare; few = omega arith; light = omega arith }

-- ---- where the text stops
pub stopped_at : (text : List ℕ) (d : Draft) (rest : List ℕ) (n : ℕ) → IsReadTo text d rest n → (state_of d.state ≡ at_end → rest ≢ [])
    → ((l : Line) (more : List ℕ) → MayFollow (state_of d.state) d.weight l → rest ≢ line_text l ++ (10 ∷ more)) → IsStuck text (n + 1)
stopped_at text d rest n r u f = record {
  lines = lines_of d;
  state = state_of d.state;
  rest = rest;
  read = r.read;
  number = let c = r.counted in omega (arith, c);
  unfinished = u;
  no_line = λ l more m. f l more (subst (λ w. MayFollow (state_of d.state) w l) r.weight m);
}

no_feed : (line more x : List ℕ) → Lacks 10 x → x ≡ line ++ (10 ∷ more) → ⊥
no_feed line more x h e = (all-back (λ b. b ≢ 10) line (10 ∷ more) (subst (Lacks 10) e h)).0 refl

-- no line feed is left
pub stuck_unfed : (text : List ℕ) (d : Draft) (rest line end : List ℕ) (n : ℕ) → IsReadTo text d rest n → state_of d.state ≢ at_end → rest ≡ line ++ end → Lacks 10 line → end ≡ [] → IsStuck text (n + 1)
stuck_unfed text d rest line end n r s j l e =
    stopped_at text d rest n r (λ q. absurd (s q)) (λ k more m q. no_feed (line_text k) more line l (sym (append-nil line) ∙ ap (λ x. line ++ x) (sym e) ∙ sym j ∙ q))

-- no line may follow
pub stuck_line : (text : List ℕ) (d e : Draft) (rest line behind : List ℕ) (n : ℕ) → IsReadTo text d rest n → state_of d.state ≢ at_end → rest ≡ line ++ (10 ∷ behind) → Lacks 10 line → TextTaken d line false e → IsStuck text (n + 1)
stuck_line text d e rest line behind n r s j l t =
    stopped_at text d rest n r (λ q. absurd (s q)) (λ k more m q. let c = cut 10 line (line_text k) behind more l (line_lacks k m.is) (sym j ∙ q) in t k m c.front)

-- something stands behind the last line
pub stuck_behind : (text : List ℕ) (d : Draft) (rest : List ℕ) (n : ℕ) → IsReadTo text d rest n → state_of d.state ≡ at_end → rest ≢ [] → IsStuck text (n + 1)
stuck_behind text d rest n r s b =
    stopped_at text d rest n r (λ q. b) (λ k more m q. let h = subst (λ t. IsSome (step t k)) s m.next in absurd (cc h))

-- all is read
pub all_read : (text : List ℕ) (d : Draft) (rest : List ℕ) (n : ℕ) → IsReadTo text d rest n → state_of d.state ≡ at_end → rest ≡ [] → ReadTo text (lines_of d) at_end [] × (state_of d.state ≡ at_end)
all_read text d rest n r s e = (subst (λ x. ReadTo text (lines_of d) at_end x) e (subst (λ t. ReadTo text (lines_of d) t rest) s r.read), s)

-- ---- one line's text
-- a line that is read and that follows, or not
pub text_taken : (d e : Draft) (text : List ℕ) (l : Line) (most : ℕ) (b : Bool) → IsLight most l × (text ≡ line_text l) → Taken d l b e → TextTaken d text b e
text_taken d e text l most true r t = (l, (r.0.is, r.1, t))
text_taken d e text l most false r t = λ k m q. let same = same_line l k r.0.is m.is (sym r.1 ∙ q) in t (subst (λ x. IsSome (step (state_of d.state) x)) (sym same) m.next) (subst (λ x. d.weight + line_weight x ≤ most_weight) (sym same) m.light)

-- no line is read
pub text_none : (d e : Draft) (text : List ℕ) (most : ℕ) → most_weight ≡ suc most → ((l : Line) → IsLight most l → text ≢ line_text l) → TextTaken d text false e
text_none d e text most m r = λ k h. let light = h.light in r k (record { is = h.is; light = omega arith })

-- ---- a whole one
pub whole_state : (s : Stage) → state_of s ≡ at_end → s ≡ stages.Nothing
whole_state stages.Claim e = absurd (cc e)
whole_state stages.Point e = absurd (cc e)
whole_state stages.Start e = absurd (cc e)
whole_state stages.Ray e = absurd (cc e)
whole_state (stages.Trees n) e = absurd (cc e)
whole_state stages.Nothing e = refl

pub whole_lines : (d : Draft) → state_of d.state ≡ at_end → lines_of d ≡ head_lines d ++ (nodes_lines d ++ (end_line ∷ []))
whole_lines d e = ap (λ t. lines_in t d) (whole_state d.state e)

pub is_whole : (text : List ℕ) (d : Draft) → ReadTo text (lines_of d) at_end [] × (state_of d.state ≡ at_end) → length text ≤ 2 ^ 24 → IsWhole d
is_whole text d r h =
    let a = lines_short (lines_of d) [] in
    let b : length text ≡ length (text_of (lines_of d) ++ []) = ap length r.0.joined in
    let c : length (lines_of d) ≡ length (head_lines d) + length (nodes_lines d ++ (end_line ∷ [])) = ap length (whole_lines d r.1) ∙ length-append (head_lines d) (nodes_lines d ++ (end_line ∷ [])) in
    let e : length (nodes_lines d ++ (end_line ∷ [])) ≡ length (nodes_lines d) + 1 = length-append (nodes_lines d) (end_line ∷ []) in
    let f : length (nodes_lines d) ≡ length d.nodes.items = length-map (map node_of d.nodes.items) node_line ∙ length-map d.nodes.items node_of in
    record { lines = r.0.are; read = r.0.state_is; state = r.1; size = omega arith }

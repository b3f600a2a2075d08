-- Lines in a row.
use Rattle.std.proofs.Common.{◌≡◌, ◌∙◌, ℕ, List, [], ◌∷◌, ◌++◌, refl, sym, ap, append_assoc}
use Rattle.std.specs.List.{join_with_byte}
use Rattle.model_lines.specs.Ended.{ended}

ended-append : (a b : List (List ℕ)) → ended (a ++ b) ≡ ended a ++ ended b
ended-append [] b = refl
ended-append (l ∷ a) b = ap (λ x. l ++ (10 ∷ x)) (ended-append a b) ∙ sym (append_assoc l (10 ∷ ended a) (ended b))

-- the last line has no end
joined : (lines : List (List ℕ)) (last : List ℕ) → join_with_byte 10 (lines ++ last ∷ []) ≡ ended lines ++ last
joined [] last = refl
joined (l ∷ []) last = sym (append_assoc l (10 ∷ []) last)
joined (l ∷ m ∷ lines) last = ap (λ x. l ++ (10 ∷ x)) (joined (m ∷ lines) last) ∙ sym (append_assoc l (10 ∷ ended (m ∷ lines)) last)

-- a first line, rows, cells, groups and a last line
in_parts : (first : List ℕ) (rows cells groups : List (List ℕ)) (last : List ℕ)
    → join_with_byte 10 (first ∷ (rows ++ (cells ++ (groups ++ last ∷ [])))) ≡ ended (first ∷ []) ++ (ended rows ++ (ended cells ++ (ended groups ++ last)))
in_parts first rows cells groups last =
    let regrouped : (rows ++ (cells ++ groups)) ++ last ∷ [] ≡ rows ++ (cells ++ (groups ++ last ∷ [])) = simp append_assoc in
    let parts : ended (first ∷ (rows ++ (cells ++ groups))) ≡ ended (first ∷ []) ++ (ended rows ++ (ended cells ++ ended groups)) =
    ended-append (first ∷ []) (rows ++ (cells ++ groups))
    ∙ ap (λ l. ended (first ∷ []) ++ l) (ended-append rows (cells ++ groups) ∙ ap (λ l. ended rows ++ l) (ended-append cells groups)) in
    let all : (ended (first ∷ []) ++ (ended rows ++ (ended cells ++ ended groups))) ++ last ≡ ended (first ∷ []) ++ (ended rows ++ (ended cells ++ (ended groups ++ last))) = simp append_assoc in
    ap (λ ls. join_with_byte 10 (first ∷ ls)) (sym regrouped) ∙ joined (first ∷ (rows ++ (cells ++ groups))) last ∙ ap (λ l. l ++ last) parts ∙ all

-- the parts one after the other
pub put_together : (old aimed rowed celled grouped new first : List ℕ) (rows cells groups : List (List ℕ)) (last : List ℕ) → aimed ≡ old ++ ended (first ∷ []) → rowed ≡ aimed ++ ended rows
    → celled ≡ rowed ++ ended cells → grouped ≡ celled ++ ended groups → new ≡ grouped ++ last → new ≡ old ++ join_with_byte 10 (first ∷ (rows ++ (cells ++ (groups ++ last ∷ []))))
put_together old aimed rowed celled grouped new first rows cells groups last a r c g e =
    let regrouped : ((((old ++ ended (first ∷ [])) ++ ended rows) ++ ended cells) ++ ended groups) ++ last ≡ old ++ (ended (first ∷ []) ++ (ended rows ++ (ended cells ++ (ended groups ++ last)))) =
    simp append_assoc in
    e ∙ ap (λ l. l ++ last) (g ∙ ap (λ l. l ++ ended groups) (c ∙ ap (λ l. l ++ ended cells) (r ∙ ap (λ l. l ++ ended rows) a))) ∙ regrouped
    ∙ ap (λ l. old ++ l) (sym (in_parts first rows cells groups last))

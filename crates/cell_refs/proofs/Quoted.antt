-- Names in quotes.
use Rattle.std.proofs.Common.{◌≡◌, ◌≢◌, ◌∙◌, ℕ, ◌<◌, Bool, true, false, cond, List, [], ◌∷◌, ◌++◌, length, Option, Some, None, refl, sym, ap, append_assoc, append-nil, arith, lit<}
use Rattle.std.specs.Prelude.{encode_utf8, option_map}
use Rattle.std.proofs.lemmas.Str.{encode_ascii, length-encode, len_utf8_bounds}
use Rattle.cell_refs.specs.Sheets.{behind_quote, unquoted}
use Rattle.cell_refs.proofs.Others.{NoQuotes, other_char}

-- what is left of a name, where a quote stands just before or none does
abbrev pub left_of : Bool → List ℕ → Option (List ℕ)
left_of false text = unquoted text
left_of true text = behind_quote text

-- with what stands before it
abbrev pub joined : List ℕ → Option (List ℕ) → Option (List ℕ)
joined name None = None
joined name (Some rest) = Some (name ++ rest)

joined_twice : (a b : List ℕ) (o : Option (List ℕ)) → joined (a ++ b) o ≡ joined a (joined b o)
joined_twice a b None = refl
joined_twice a b (Some rest) = ap Some (append_assoc a b rest)

pub joined_none : (o : Option (List ℕ)) → o ≡ joined [] o
joined_none None = refl
joined_none (Some rest) = refl

one_more : (b : ℕ) (bs : List ℕ) (o : Option (List ℕ)) → option_map (λ name. b ∷ name) (joined bs o) ≡ joined (b ∷ bs) o
one_more b bs None = refl
one_more b bs (Some rest) = refl

others : (cs after : List ℕ) → NoQuotes 39 cs → unquoted (cs ++ after) ≡ joined cs (unquoted after)
others [] after h = joined_none (unquoted after)
others (c ∷ cs) after h =
    ap (λ t. cond t (behind_quote (cs ++ after)) (option_map (λ name. c ∷ name) (unquoted (cs ++ after)))) h.0
    ∙ ap (λ o. option_map (λ name. c ∷ name) o) (others cs after h.1) ∙ one_more c cs (unquoted after)

-- a character that is no quote, behind none
pub stays : (c : ℕ) (old new rest after : List ℕ) (total : Option (List ℕ)) → c ≢ 39 → rest ≡ encode_utf8 c ++ after → new ≡ old ++ encode_utf8 c
    → joined old (unquoted rest) ≡ total → joined new (unquoted after) ≡ total
stays c old new rest after total other is more so_far =
    ap (λ l. joined l (unquoted after)) more ∙ joined_twice old (encode_utf8 c) (unquoted after)
    ∙ ap (joined old) (sym (others (encode_utf8 c) after (other_char 39 c (lit< tt) other)) ∙ sym (ap unquoted is)) ∙ so_far

no_more : (cs after : List ℕ) → NoQuotes 39 cs → 0 < length cs → behind_quote (cs ++ after) ≡ None
no_more [] after h some = absurd (omega (arith, some))
no_more (c ∷ cs) after h some = ap (λ t. cond t (option_map (λ name. 39 ∷ name) (unquoted (cs ++ after))) None) h.0

-- and behind a quote, which was no closing one at the end
pub goes_on : (c : ℕ) (old rest after : List ℕ) (total : Option (List ℕ)) → c ≢ 39 → rest ≡ encode_utf8 c ++ after → joined old (behind_quote rest) ≡ total → None ≡ total
goes_on c old rest after total other is so_far =
    sym (ap (λ o. joined old o) (ap behind_quote is ∙ no_more (encode_utf8 c) after (other_char 39 c (lit< tt) other) (omega (arith, length-encode c, len_utf8_bounds c)))) ∙ so_far

quote_first : (c : ℕ) (rest after : List ℕ) → c ≡ 39 → rest ≡ encode_utf8 c ++ after → rest ≡ 39 ∷ after
quote_first c rest after same is = is ∙ ap (λ d. encode_utf8 d ++ after) same ∙ ap (λ l. l ++ after) (encode_ascii 39 (lit< tt))

-- a quote behind none
pub first_quote : (c : ℕ) (old rest after : List ℕ) (total : Option (List ℕ)) → c ≡ 39 → rest ≡ encode_utf8 c ++ after
    → joined old (unquoted rest) ≡ total → joined old (behind_quote after) ≡ total
first_quote c old rest after total same is so_far = ap (λ l. joined old (unquoted l)) (sym (quote_first c rest after same is)) ∙ so_far

second : (old : List ℕ) (o : Option (List ℕ)) → joined (old ++ 39 ∷ []) o ≡ joined old (option_map (λ name. 39 ∷ name) o)
second old None = refl
second old (Some rest) = ap Some (append_assoc old (39 ∷ []) rest)

-- the second of two quotes
pub second_quote : (c : ℕ) (old new rest after : List ℕ) (total : Option (List ℕ)) → c ≡ 39 → rest ≡ encode_utf8 c ++ after → new ≡ old ++ encode_utf8 c
    → joined old (behind_quote rest) ≡ total → joined new (unquoted after) ≡ total
second_quote c old new rest after total same is more so_far =
    ap (λ l. joined l (unquoted after)) (more ∙ ap (λ d. old ++ encode_utf8 d) same ∙ ap (λ l. old ++ l) (encode_ascii 39 (lit< tt)))
    ∙ second old (unquoted after) ∙ ap (λ l. joined old (behind_quote l)) (sym (quote_first c rest after same is)) ∙ so_far

-- the end of the text
pub closed : (name rest : List ℕ) (total : Option (List ℕ)) → rest ≡ [] → joined name (behind_quote rest) ≡ total → Some name ≡ total
closed name rest total is so_far = ap Some (sym (append-nil name)) ∙ ap (λ l. joined name (behind_quote l)) (sym is) ∙ so_far

pub not_closed : (name rest : List ℕ) (total : Option (List ℕ)) → rest ≡ [] → joined name (unquoted rest) ≡ total → None ≡ total
not_closed name rest total is so_far = ap (λ l. joined name (unquoted l)) (sym is) ∙ so_far

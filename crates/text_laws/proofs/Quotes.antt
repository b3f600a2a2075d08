-- Texts in quotes.
use Rattle.std.proofs.Common.{◌≡◌, ℕ, suc, ◌+◌, Bool, true, false, cond, eqb, List, [], ◌∷◌, ◌++◌, length, Option, Some, None, refl, sym, ap, ◌∙◌, arith}
use Rattle.std.specs.Option.{option_map}
use Rattle.std.proofs.lemmas.Bool.{eqb-true, eq-eqb}
use Rattle.formula_lexer.specs.Front.{quoted_len}
use Rattle.text_laws.specs.FrontTokens.{doubled, begins}

-- what stands up to the closing quote, with it
abbrev pub body : ℕ → List ℕ → List ℕ
body q content = doubled q content ++ q ∷ []

-- ---- what is quoted is found

other : (q b : ℕ) (bytes : List ℕ) → eqb b q ≡ false → quoted_len q (b ∷ bytes) ≡ option_map (λ n. 1 + n) (quoted_len q bytes)
unfolding quoted_len
other q b [] e = ap (λ t. cond t (Some 1) None) e
other q b (c ∷ bytes) e = ap (λ t. cond t (cond (eqb c q) (option_map (λ n. 2 + n) (quoted_len q bytes)) (Some 1)) (option_map (λ n. 1 + n) (quoted_len q (c ∷ bytes)))) e

twice : (q : ℕ) (bytes : List ℕ) → quoted_len q (q ∷ q ∷ bytes) ≡ option_map (λ n. 2 + n) (quoted_len q bytes)
unfolding quoted_len
twice q bytes =
    ap (λ t. cond t (cond t (option_map (λ n. 2 + n) (quoted_len q bytes)) (Some 1)) (option_map (λ n. 1 + n) (quoted_len q (q ∷ bytes)))) (eq-eqb q q refl)

closing : (q : ℕ) (rest : List ℕ) → begins q rest ≡ false → quoted_len q (q ∷ rest) ≡ Some 1
unfolding quoted_len
closing q [] e = ap (λ t. cond t (Some 1) None) (eq-eqb q q refl)
closing q (c ∷ rest) e =
    ap (λ t. cond t (cond (eqb c q) (option_map (λ n. 2 + n) (quoted_len q rest)) (Some 1)) (option_map (λ n. 1 + n) (quoted_len q (c ∷ rest)))) (eq-eqb q q refl)
    ∙ ap (λ t. cond t (option_map (λ n. 2 + n) (quoted_len q rest)) (Some 1)) e

plus : (k n : ℕ) (o : Option ℕ) → o ≡ Some n → option_map (λ m. k + m) o ≡ Some (k + n)
plus k n o e = ap (option_map (λ m. k + m)) e

pub quote_found : (q : ℕ) (content rest : List ℕ) → begins q rest ≡ false → quoted_len q (body q content ++ rest) ≡ Some (length (body q content))
quote_found q [] rest e = closing q rest e
quote_found q (b ∷ content) rest e = by (eqb b q) refl (quote_found q content rest e)
  where
    one : (n : ℕ) → Some (1 + n) ≡ Some (suc n)
    one n = ap Some (omega arith)

    two : (n : ℕ) → Some (2 + n) ≡ Some (suc (suc n))
    two n = ap Some (omega arith)

    by : (t : Bool) → eqb b q ≡ t → quoted_len q (body q content ++ rest) ≡ Some (length (body q content))
        → quoted_len q ((cond t (q ∷ q ∷ doubled q content) (b ∷ doubled q content) ++ q ∷ []) ++ rest) ≡ Some (length (cond t (q ∷ q ∷ doubled q content) (b ∷ doubled q content) ++ q ∷ []))
    by true is h = twice q (body q content ++ rest) ∙ plus 2 _ _ h ∙ two (length (body q content))
    by false is h = other q b (body q content ++ rest) is ∙ plus 1 _ _ h ∙ one (length (body q content))

-- ---- what is found is quoted

pub record Closed (q : ℕ) (bytes : List ℕ) (n : ℕ) : Type 0 where
  pub content : List ℕ
  pub rest : List ℕ
  pub parts : bytes ≡ body q content ++ rest
  pub size : length (body q content) ≡ n
  pub closes : begins q rest ≡ false

mapped : (k n : ℕ) (o : Option ℕ) → option_map (λ m. k + m) o ≡ Some n → (m : ℕ) × (o ≡ Some m) × (n ≡ k + m)
mapped k n None h = absurd cc
mapped k n (Some m) h = (m, refl, cc)

at_once : (q b n : ℕ) (rest : List ℕ) → b ≡ q → 1 ≡ n → begins q rest ≡ false → Closed q (b ∷ rest) n
at_once q b n rest is one e = record { content = []; rest = rest; parts = ap (λ c. c ∷ rest) is; size = one; closes = e }

abbrev joined : (q b : ℕ) (content rest : List ℕ) → List ℕ
joined q b content rest = (doubled q (b ∷ content) ++ q ∷ []) ++ rest

pair_later : (q b c m n : ℕ) (bytes : List ℕ) → eqb b q ≡ true → eqb c q ≡ true → n ≡ 2 + m → Closed q bytes m → Closed q (b ∷ c ∷ bytes) n
pair_later q b c m n bytes one two is r = record {
  content = q ∷ r.content;
  rest = r.rest;
  parts =
      ap (λ x. x ∷ c ∷ bytes) (eqb-true b q one) ∙ ap (λ x. q ∷ x ∷ bytes) (eqb-true c q two) ∙ ap (λ x. q ∷ q ∷ x) r.parts
      ∙ ap (λ t. (cond t (q ∷ q ∷ doubled q r.content) (q ∷ doubled q r.content) ++ q ∷ []) ++ r.rest) (sym (eq-eqb q q refl));
  size = ap (λ t. length (cond t (q ∷ q ∷ doubled q r.content) (q ∷ doubled q r.content) ++ q ∷ [])) (eq-eqb q q refl) ∙ (let s = r.size in omega arith);
  closes = r.closes;
}

other_later : (q b m n : ℕ) (bytes : List ℕ) → eqb b q ≡ false → n ≡ 1 + m → Closed q bytes m → Closed q (b ∷ bytes) n
other_later q b m n bytes e is r = record {
  content = b ∷ r.content;
  rest = r.rest;
  parts = ap (λ x. b ∷ x) r.parts ∙ ap (λ t. (cond t (q ∷ q ∷ doubled q r.content) (b ∷ doubled q r.content) ++ q ∷ []) ++ r.rest) (sym e);
  size = ap (λ t. length (cond t (q ∷ q ∷ doubled q r.content) (b ∷ doubled q r.content) ++ q ∷ [])) e ∙ (let s = r.size in omega arith);
  closes = r.closes;
}

pub quote_is : (q n : ℕ) (bytes : List ℕ) → quoted_len q bytes ≡ Some n → Closed q bytes n
unfolding quoted_len
quote_is q n [] h = absurd cc
quote_is q n (b ∷ []) h = by (eqb b q) refl h
  where
    by : (t : Bool) → eqb b q ≡ t → cond t (Some 1) None ≡ Some n → Closed q (b ∷ []) n
    by true is h = at_once q b n [] (eqb-true b q is) (cc) refl
    by false is h = absurd cc
quote_is q n (b ∷ c ∷ bytes) h = by (eqb b q) refl (eqb c q) refl (λ m e. quote_is q m bytes e) (λ m e. quote_is q m (c ∷ bytes) e) h
  where
    by : (t : Bool) → eqb b q ≡ t → (u : Bool) → eqb c q ≡ u → ((m : ℕ) → quoted_len q bytes ≡ Some m → Closed q bytes m) → ((m : ℕ) → quoted_len q (c ∷ bytes) ≡ Some m → Closed q (c ∷ bytes) m)
        → cond t (cond u (option_map (λ m. 2 + m) (quoted_len q bytes)) (Some 1)) (option_map (λ m. 1 + m) (quoted_len q (c ∷ bytes))) ≡ Some n → Closed q (b ∷ c ∷ bytes) n
    by true is true also two one h = let m = mapped 2 n (quoted_len q bytes) h in pair_later q b c m.0 n bytes is also m.2 (two m.0 m.1)
    by true is false also two one h = at_once q b n (c ∷ bytes) (eqb-true b q is) (cc) also
    by false is u also two one h = let m = mapped 1 n (quoted_len q (c ∷ bytes)) h in other_later q b m.0 n (c ∷ bytes) is m.2 (one m.0 m.1)

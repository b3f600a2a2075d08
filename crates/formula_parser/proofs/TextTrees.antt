-- The tree of a text as a function, and as what the text spells.
use Rattle.std.proofs.Common.{◌≡◌, ℕ, zero, suc, ◌+◌, ◌<◌, ◌≤◌, Bool, true, false, cond, List, [], ◌∷◌, length, length-drop, drop, Option, Some, None, Result, Ok, Err, refl, sym, ap, subst, ◌∙◌, arith, inl, inr}
use Rattle.std.proofs.lemmas.Bool.{cases_lt}
use Rattle.std.proofs.lemmas.Bool.Decides.{nat_tests}
use Rattle.std.specs.Prelude.{nat_le, is_none, map, option_map}
use Rattle.std.specs.Option.{option_and_then}
use Rattle.formula_ast.specs.Tree.{Tree}
use Rattle.formula_lexer.specs.declared.token.TokenKind.{TokenKind}
use Rattle.formula_lexer.specs.declared.token.Token.{Token}
use Rattle.formula_lexer.specs.Front.{front, is_blank}
use Rattle.formula_lexer.specs.Tokens.{token, Tokens, NoToken, ends, blank, begins}
use Rattle.formula_lexer.proofs.Slices.{front_fits}
use Rattle.formula_lexer.proofs.Cuts.{one_list, none_where_stuck}
use Rattle.formula_grammar.specs.declared.symbol.Symbol.{Symbol}
use Rattle.formula_grammar.specs.Symbols.{Setting, symbols_of}
use Rattle.formula_grammar.specs.Parts.{Part, called}
use Rattle.formula_grammar.specs.Making.{plain, Shows}
use Rattle.formula_grammar.specs.Depth.{most_open}
use Rattle.formula_grammar.specs.Formula.{IsTooDeep, SpellsFormula, SpellsText}
use Rattle.formula_grammar.specs.LeafReading.{reference_at}
use Rattle.formula_grammar.specs.Reading.{formula_at}
use Rattle.formula_grammar.proofs.Whole.{found, read}
use Rattle.formula_parser.specs.Answers.{Answers, behind_mark, fault_of}
use Rattle.formula_parser.specs.Leaves.{area_of}
use Rattle.formula_parser.specs.TextTrees.{area_in, tokens_from, tokens_in, tree_of_symbols, tree_in, without_fault, to_the_end, TreesAreSpelled, IsTreeIn}
use Rattle.formula_parser.specs.declared.fault.ParseFault.{ParseFault}
use Rattle.formula_parser.specs.declared.fault.ParseFault.TheVariants as fault
use Rattle.formula_parser.proofs.MarkReading.{mark_read, mark_there, mark_room}

-- ---- tokens
-- the tokens that a text has are found
tokens_found : (n : ℕ) {at : ℕ} {bytes : List ℕ} {ts : List Token} → Tokens at bytes ts → length bytes < n → tokens_from n at bytes ≡ Some ts
unfolding tokens_from
tokens_found zero cut h = absurd (omega arith)
tokens_found (suc n) ends h = refl
tokens_found (suc n) (blank {at} {b} {bytes} {ts} is rest) h =
    ap (λ t. cond t (tokens_from n (suc at) bytes) (option_and_then (λ (f : TokenKind × ℕ). option_map (λ us. token f.0 at f.1 ∷ us) (tokens_from n (at + f.1) (drop f.1 (b ∷ bytes)))) (front (b ∷ bytes)))) is
    ∙ tokens_found n rest (omega (arith, h))
tokens_found (suc n) (begins {at} {b} {bytes} {ts} kind len is e rest) h =
    let fits = (front_fits b bytes).fits kind len e in
    let less : length (drop len (b ∷ bytes)) < n = let k = length-drop len (b ∷ bytes) in omega (arith, h, fits.0, fits.1, k) in
    ap (λ t. cond t (tokens_from n (suc at) bytes) (option_and_then (λ (f : TokenKind × ℕ). option_map (λ us. token f.0 at f.1 ∷ us) (tokens_from n (at + f.1) (drop f.1 (b ∷ bytes)))) (front (b ∷ bytes)))) is
    ∙ ap (option_and_then (λ (f : TokenKind × ℕ). option_map (λ us. token f.0 at f.1 ∷ us) (tokens_from n (at + f.1) (drop f.1 (b ∷ bytes))))) e
    ∙ ap (option_map (λ us. token kind at len ∷ us)) (tokens_found n rest less)

-- the tokens that are found are those of the text
cut_found : (n at : ℕ) (bytes : List ℕ) (ts : List Token) → tokens_from n at bytes ≡ Some ts → Tokens at bytes ts
unfolding tokens_from
cut_found zero at bytes ts e = absurd cc
cut_found (suc n) at [] ts e = let k : [] ≡ ts = cc in subst (Tokens at []) k ends
cut_found (suc n) at (b ∷ bytes) ts e = by_blank (λ to from us h. cut_found n to from us h) (is_blank b) refl e
  where
    rest_of : Option (TokenKind × ℕ) → Option (List Token)
    rest_of = option_and_then (λ (f : TokenKind × ℕ). option_map (λ us. token f.0 at f.1 ∷ us) (tokens_from n (at + f.1) (drop f.1 (b ∷ bytes))))

    Later : Type 0
    Later = (to : ℕ) (from : List ℕ) (us : List Token) → tokens_from n to from ≡ Some us → Tokens to from us

    behind : Later → (kind : TokenKind) (len : ℕ) (o : Option (List Token)) → tokens_from n (at + len) (drop len (b ∷ bytes)) ≡ o → is_blank b ≡ false → front (b ∷ bytes) ≡ Some (kind, len)
        → option_map (λ us. token kind at len ∷ us) o ≡ Some ts → Tokens at (b ∷ bytes) ts
    behind later kind len None o is f h = absurd cc
    behind later kind len (Some us) o is f h =
        let k : token kind at len ∷ us ≡ ts = cc in
        subst (Tokens at (b ∷ bytes)) k (begins kind len is f (later (at + len) (drop len (b ∷ bytes)) us o))

    by_front : Later → (f : Option (TokenKind × ℕ)) → front (b ∷ bytes) ≡ f → is_blank b ≡ false → rest_of f ≡ Some ts → Tokens at (b ∷ bytes) ts
    by_front later None f is h = absurd cc
    by_front later (Some (kind, len)) f is h = behind later kind len (tokens_from n (at + len) (drop len (b ∷ bytes))) refl is f h

    by_blank : Later → (t : Bool) → is_blank b ≡ t → cond t (tokens_from n (suc at) bytes) (rest_of (front (b ∷ bytes))) ≡ Some ts → Tokens at (b ∷ bytes) ts
    by_blank later true is h = blank is (later (suc at) bytes ts h)
    by_blank later false is h = by_front later (front (b ∷ bytes)) refl is h

-- ---- symbols
all_themselves : (xs : List Tree) → map (λ x. x) xs ≡ xs
all_themselves [] = refl
all_themselves (x ∷ xs) = ap (λ ys. x ∷ ys) (all_themselves xs)

-- trees show themselves
abbrev themselves : (S : Setting) → Shows S (plain S)
themselves S = record {
  show = λ x. x;
  show_arg = λ x. x;
  joined = λ op x y. refl;
  prefixed = λ prefix s x. refl;
  in_hundredths = λ x s. refl;
  enclosed = λ s x t. refl;
  leaf = λ x. refl;
  called = λ s xs t. ap (λ ys. called S s ys t) (sym (all_themselves xs));
  missing = λ before. refl;
  given = λ x. refl;
}

ended : {A : Type 0} (o : Option (A × List Symbol)) (x : A) → to_the_end o ≡ Some x → o ≡ Some (x, [])
ended None x e = absurd cc
ended (Some (y, [])) x e = let k : y ≡ x = cc in ap (λ z. Some (z, [])) k
ended (Some (y, (s ∷ ss))) x e = absurd cc

-- the tree of some symbols is spelled by them
symbols_sound : (S : Setting) (ss : List Symbol) (t : Tree) → tree_of_symbols S ss ≡ Some t → (most_open 0 ss ≤ 64) × SpellsFormula S ss t
symbols_sound S ss t e = by_room (nat_le (most_open 0 ss) 64) refl e
  where
    parts : (b : List Symbol) (o : Option Part) → behind_mark S ss ≡ Some b → to_the_end (formula_at S (plain S) 65 b) ≡ o → option_map (λ (p : Part). p.tree) o ≡ Some t → SpellsFormula S ss t
    parts b None mark read h = absurd cc
    parts b (Some p) mark read h =
        let m = mark_read S ss b mark in
        let f = found S (plain S) (themselves S) 65 b p [] (ended (formula_at S (plain S) 65 b) p read) refl in
        let is : p.tree ≡ t = cc in
        record { mark = m.mark; behind = b; part = f.part; are = m.are; marks = m.marks; spells = f.spells; is = ap (λ (q : Part). q.tree) f.is ∙ is }

    by_mark : (o : Option (List Symbol)) → behind_mark S ss ≡ o → option_and_then (λ b. option_map (λ (p : Part). p.tree) (to_the_end (formula_at S (plain S) 65 b))) o ≡ Some t → SpellsFormula S ss t
    by_mark None mark h = absurd cc
    by_mark (Some b) mark h = parts b (to_the_end (formula_at S (plain S) 65 b)) mark refl h

    by_room : (c : Bool) → nat_le (most_open 0 ss) 64 ≡ c
        → cond c (option_and_then (λ b. option_map (λ (p : Part). p.tree) (to_the_end (formula_at S (plain S) 65 b))) (behind_mark S ss)) None ≡ Some t
        → (most_open 0 ss ≤ 64) × SpellsFormula S ss t
    by_room true room h = (grind (arith, nat_tests), by_mark (behind_mark S ss) refl h)
    by_room false room h = absurd cc

-- a tree that is spelled is that of the symbols
symbols_complete : (S : Setting) (ss : List Symbol) (t : Tree) → most_open 0 ss ≤ 64 → SpellsFormula S ss t → tree_of_symbols S ss ≡ Some t
symbols_complete S ss t room f =
    let mark : behind_mark S ss ≡ Some f.behind = ap (behind_mark S) f.are ∙ mark_there f.marks f.spells in
    let fits : most_open 0 f.behind ≤ 64 = mark_room 0 64 f.behind f.marks (subst (λ c. most_open 0 c ≤ 64) f.are room) in
    let there = read S (plain S) (themselves S) 64 f.behind t (record { part = f.part; is = f.is; spells = f.spells }) fits in
    let test : nat_le (most_open 0 ss) 64 ≡ true = grind (arith, nat_tests) in
    ap (λ c. cond c (option_and_then (λ b. option_map (λ (p : Part). p.tree) (to_the_end (formula_at S (plain S) 65 b))) (behind_mark S ss)) None) test
    ∙ ap (option_and_then (λ b. option_map (λ (p : Part). p.tree) (to_the_end (formula_at S (plain S) 65 b)))) mark
    ∙ ap (λ o. option_map (λ (p : Part). p.tree) (to_the_end o)) there
    ∙ ap Some f.is

-- ---- texts
kept : (t u : Tree) → without_fault t ≡ Some u → (fault_of t ≡ None) × (t ≡ u)
kept t u e = by (fault_of t) refl e
  where
    by : (o : Option ParseFault) → fault_of t ≡ o → cond (is_none o) (Some t) None ≡ Some u → (fault_of t ≡ None) × (t ≡ u)
    by None f h = (f, cc)
    by (Some x) f h = absurd cc

text_sound : (S : Setting) (t : Tree) → tree_in S ≡ Some t → (IsTooDeep S → ⊥) × SpellsText S t × (fault_of t ≡ None)
unfolding tree_in
text_sound S t e = by_tokens (tokens_in S.text) refl e
  where
    by_tree : (ts : List Token) (o : Option Tree) → Tokens 0 S.text ts → tree_of_symbols S (symbols_of S.text ts) ≡ o → option_and_then without_fault o ≡ Some t
        → (IsTooDeep S → ⊥) × SpellsText S t × (fault_of t ≡ None)
    by_tree ts None cut is h = absurd cc
    by_tree ts (Some u) cut is h =
        let k = kept u t h in
        let s = symbols_sound S (symbols_of S.text ts) u is in (
          λ deep. let more : 64 < most_open 0 (symbols_of S.text ts) = subst (λ us. 64 < most_open 0 (symbols_of S.text us)) (one_list deep.cut ts cut) deep.deep in let room = s.0 in omega arith,
          record { tokens = ts; cut = cut; spells = subst (SpellsFormula S (symbols_of S.text ts)) k.1 s.1 },
          subst (λ v. fault_of v ≡ None) k.1 k.0,
        )

    by_tokens : (o : Option (List Token)) → tokens_in S.text ≡ o → option_and_then without_fault (option_and_then (λ ts. tree_of_symbols S (symbols_of S.text ts)) o) ≡ Some t
        → (IsTooDeep S → ⊥) × SpellsText S t × (fault_of t ≡ None)
    by_tokens None is h = absurd cc
    by_tokens (Some ts) is h = by_tree ts (tree_of_symbols S (symbols_of S.text ts)) (cut_found (suc (length S.text)) 0 S.text ts is) refl h

room_of : (S : Setting) (s : List Token) → Tokens 0 S.text s → (IsTooDeep S → ⊥) → most_open 0 (symbols_of S.text s) ≤ 64
room_of S ts cut shallow = elim (cases_lt 64 (most_open 0 (symbols_of S.text ts))) [ inl lt ↦ absurd (shallow (record { tokens = ts; cut = cut; deep = lt })) | inr le ↦ le ]

text_complete : (S : Setting) (t : Tree) → (IsTooDeep S → ⊥) × SpellsText S t × (fault_of t ≡ None) → tree_in S ≡ Some t
unfolding tree_in
text_complete S t h =
    let s = h.1 in
    let cut : tokens_in S.text ≡ Some s.tokens = tokens_found (suc (length S.text)) s.cut (omega arith) in
    ap (λ o. option_and_then without_fault (option_and_then (λ ts. tree_of_symbols S (symbols_of S.text ts)) o)) cut
    ∙ ap (option_and_then without_fault) (symbols_complete S (symbols_of S.text s.tokens) t (room_of S s.tokens s.cut h.0) s.spells)
    ∙ ap (λ f. cond (is_none f) (Some t) None) h.2

-- the tree of a text is the one that it spells
pub trees_are_spelled : TreesAreSpelled
trees_are_spelled S t = (text_sound S t, text_complete S t)

-- what is answered of a text is its tree
none_by : (S : Setting) → ((t : Tree) → tree_in S ≡ Some t → ⊥) → tree_in S ≡ None
none_by S h = by (tree_in S) refl
  where
    by : (o : Option Tree) → tree_in S ≡ o → o ≡ None
    by None e = refl
    by (Some t) e = absurd (h t e)

none_with_fault : (S : Setting) (f : ParseFault) (u : Tree) → ((a b : Tree) → SpellsText S a → SpellsText S b → a ≡ b) → SpellsText S u → fault_of u ≡ Some f → tree_in S ≡ None
none_with_fault S f u one s e =
    none_by S (λ t is. let k = text_sound S t is in let same : fault_of u ≡ None = subst (λ v. fault_of v ≡ None) (one t u k.1 s) k.2 in let no_fault : Some f ≡ None = sym e ∙ same in cc)

pub answered : (S : Setting) → ((a b : Tree) → SpellsText S a → SpellsText S b → a ≡ b) → (r : Result Tree ParseFault) → Answers S r → IsTreeIn S r
answered S one (Ok t) a = text_complete S t a
answered S one (Err fault.Memory) a = tt
answered S one (Err fault.Syntax) a = none_by S (λ t is. a.1 t (text_sound S t is).1)
answered S one (Err fault.TooDeep) a = elim a [
  | inl deep ↦ none_by S (λ t is. (text_sound S t is).0 deep)
  | inr h ↦ none_with_fault S fault.TooDeep h.0 one h.1 h.2
]
answered S one (Err fault.UnknownSheet) a = none_with_fault S fault.UnknownSheet a.1.0 one a.1.1 a.1.2
answered S one (Err fault.ArgumentCount) a = none_with_fault S fault.ArgumentCount a.1.0 one a.1.1 a.1.2
answered S one (Err fault.WideNumeral) a = none_with_fault S fault.WideNumeral a.1.0 one a.1.1 a.1.2

-- ---- callers
-- a text in which a byte begins no token has no tokens
pub stuck : (text : List ℕ) (place : ℕ) → NoToken 0 text place → tokens_in text ≡ None
stuck text place h = by (tokens_in text) refl
  where
    by : (o : Option (List Token)) → tokens_in text ≡ o → o ≡ None
    by None e = refl
    by (Some ts) e = absurd (none_where_stuck h ts (cut_found (suc (length text)) 0 text ts e))

-- and no area
pub stuck_area : (S : Setting) (place : ℕ) → NoToken 0 S.text place → None ≡ area_in S
unfolding area_in
stuck_area S place h = sym (ap (λ o. option_and_then (λ ts. option_and_then area_of (to_the_end (reference_at S (symbols_of S.text ts)))) o) (stuck S.text place h))

-- the area of a text with these tokens
pub area_cut : (S : Setting) (ts : List Token) → Tokens 0 S.text ts → option_and_then area_of (to_the_end (reference_at S (symbols_of S.text ts))) ≡ area_in S
unfolding area_in
area_cut S ts cut =
    sym (ap (λ o. option_and_then (λ us. option_and_then area_of (to_the_end (reference_at S (symbols_of S.text us)))) o) (tokens_found (suc (length S.text)) cut (omega arith)))

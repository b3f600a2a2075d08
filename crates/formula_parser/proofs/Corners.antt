-- Reading corners, references and unions, step by step.
use Rattle.std.proofs.Common.{◌≡◌, ◌∙◌, ◌⊎◌, inl, inr, ℕ, Bool, true, false, cond, List, [], ◌∷◌, Option, Some, None, Result, refl, sym, ap, subst}
use Rattle.std.specs.Option.{option_and_then, option_map}
use Rattle.cell_refs.specs.Address.{address_in}
use Rattle.formula_ast.specs.Tree.{Referred}
use Rattle.formula_grammar.specs.declared.symbol.Sign.{Sign}
use Rattle.formula_grammar.specs.declared.symbol.Sign.TheVariants as sign
use Rattle.formula_grammar.specs.declared.symbol.Symbol.{Symbol}
use Rattle.formula_grammar.specs.Symbols.{Setting, bytes_of}
use Rattle.formula_grammar.specs.Words.{Given, Named, Corner, corner_on, sheet_of}
use Rattle.formula_grammar.specs.WordReading.{split_corner, word_corner}
use Rattle.formula_grammar.specs.Loops.{Found, Reader}
use Rattle.formula_grammar.specs.References.{area_between}
use Rattle.formula_grammar.specs.LeafReading.{is_word, is_point, is_sheet_mark, is_colon, is_close_square, one_at, starts_with, address_at, behind_sheet_at, corner_by, corner_at, inner_by, inner_at, second_at, brackets_at, plain_at, reference_by, reference_at}
use Rattle.formula_parser.specs.declared.stop.Stop as stopped
use Rattle.formula_parser.specs.declared.stop.Stop.TheVariants as stops
use Rattle.formula_parser.specs.Given.{Fails, Gives}
use Rattle.formula_parser.specs.Leaves.{area_of}
use Rattle.formula_parser.proofs.Steps.{fails_first}
use Rattle.formula_grammar.proofs.Turns.{some_is}
use Rattle.cell_refs.specs.Areas.{Area}

-- the same is given where the reading is the same
pub gives_as : {X Y : Type 0} (view : X → Y) (result : Result X stopped.Stop) (read same : Option Y) → Gives view result read → same ≡ read → Gives view result same
gives_as view result read same h e = subst (Gives view result) (sym e) h

-- ---- the symbol at the front

pub one_none : (test : Sign → Bool) (ss : List Symbol) → ss ≡ [] → one_at test ss ≡ None
unfolding one_at
one_none test ss e = ap (one_at test) e

pub one_other : (test : Sign → Bool) (ss : List Symbol) (s : Symbol) (rest : List Symbol) → ss ≡ s ∷ rest → test s.sign ≡ false → one_at test ss ≡ None
unfolding one_at
one_other test ss s rest e h = ap (one_at test) e ∙ ap (λ b. cond {A = Option (Symbol × List Symbol)} b (Some (s, rest)) None) h

pub one_such : (test : Sign → Bool) (ss : List Symbol) (s : Symbol) (rest : List Symbol) → ss ≡ s ∷ rest → test s.sign ≡ true → one_at test ss ≡ Some (s, rest)
unfolding one_at
one_such test ss s rest e h = ap (one_at test) e ∙ ap (λ b. cond {A = Option (Symbol × List Symbol)} b (Some (s, rest)) None) h

pub no_word : (g : Sign) → (g ≡ sign.Word → ⊥) → is_word g ≡ false
no_word sign.Word h = absurd (h refl)
no_word _ h = refl

pub no_point : (g : Sign) → (g ≡ sign.Point → ⊥) → is_point g ≡ false
no_point sign.Point h = absurd (h refl)
no_point _ h = refl

pub no_sheet_mark : (g : Sign) → (g ≡ sign.Exclamation → ⊥) → (g ≡ sign.Point → ⊥) → is_sheet_mark g ≡ false
no_sheet_mark sign.Exclamation h k = absurd (h refl)
no_sheet_mark sign.Point h k = absurd (k refl)
no_sheet_mark _ h k = refl

pub some_sheet_mark : (g : Sign) → (g ≡ sign.Exclamation) ⊎ (g ≡ sign.Point) → is_sheet_mark g ≡ true
some_sheet_mark g (inl h) = ap is_sheet_mark h
some_sheet_mark g (inr h) = ap is_sheet_mark h

-- ---- an address

module _ (S : Setting) (sheet : Given) (ss : List Symbol) where
  pub no_address : one_at is_word ss ≡ None → address_at S sheet ss ≡ None
  unfolding address_at
  no_address h = ap (option_and_then (λ (u : Symbol × List Symbol). option_and_then (λ (c : Corner). Some (c, u.1)) (corner_on sheet (address_in (bytes_of S u.0))))) h

  bad_address : (u : Symbol) (rest : List Symbol) → one_at is_word ss ≡ Some (u, rest) → corner_on sheet (address_in (bytes_of S u)) ≡ None → address_at S sheet ss ≡ None
  unfolding address_at
  bad_address u rest h k =
      ap (option_and_then (λ (u : Symbol × List Symbol). option_and_then (λ (c : Corner). Some (c, u.1)) (corner_on sheet (address_in (bytes_of S u.0))))) h
      ∙ ap (option_and_then (λ (c : Corner). Some (c, rest))) k

  good_address : (u : Symbol) (rest : List Symbol) (c : Corner) → one_at is_word ss ≡ Some (u, rest) → corner_on sheet (address_in (bytes_of S u)) ≡ Some c → address_at S sheet ss ≡ Some (c, rest)
  unfolding address_at
  good_address u rest c h k =
      ap (option_and_then (λ (u : Symbol × List Symbol). option_and_then (λ (c : Corner). Some (c, u.1)) (corner_on sheet (address_in (bytes_of S u.0))))) h
      ∙ ap (option_and_then (λ (c : Corner). Some (c, rest))) k

  pub address_none : ss ≡ [] → address_at S sheet ss ≡ None
  address_none e = no_address (one_none is_word ss e)

  pub address_other : (u : Symbol) (rest : List Symbol) → ss ≡ u ∷ rest → (u.sign ≡ sign.Word → ⊥) → address_at S sheet ss ≡ None
  address_other u rest e h = no_address (one_other is_word ss u rest e (no_word u.sign h))

  pub address_bad : (u : Symbol) (rest : List Symbol) (bytes : List ℕ) → ss ≡ u ∷ rest → u.sign ≡ sign.Word → bytes ≡ bytes_of S u → None ≡ corner_on sheet (address_in bytes) → address_at S sheet ss ≡ None
  address_bad u rest bytes e h b k = bad_address u rest (one_such is_word ss u rest e (ap is_word h)) (ap (λ l. corner_on sheet (address_in l)) (sym b) ∙ sym k)

  pub address_good : (u : Symbol) (rest : List Symbol) (bytes : List ℕ) (c : Corner) → ss ≡ u ∷ rest → u.sign ≡ sign.Word → bytes ≡ bytes_of S u → Some c ≡ corner_on sheet (address_in bytes) → address_at S sheet ss ≡ Some (c, rest)
  address_good u rest bytes c e h b k = good_address u rest c (one_such is_word ss u rest e (ap is_word h)) (ap (λ l. corner_on sheet (address_in l)) (sym b) ∙ sym k)

-- ---- behind a sheet

module _ (S : Setting) (mark : Sign → Bool) (s : Symbol) (ss : List Symbol) where
  pub sheet_none : None ≡ sheet_of S s → behind_sheet_at S mark s ss ≡ None
  unfolding behind_sheet_at
  sheet_none h = ap (option_and_then (λ name. option_and_then (λ (t : Symbol × List Symbol). address_at S (Named name) t.1) (one_at mark ss))) (sym h)

  pub mark_none : (name : List ℕ) → Some name ≡ sheet_of S s → one_at mark ss ≡ None → behind_sheet_at S mark s ss ≡ None
  unfolding behind_sheet_at
  mark_none name h k =
      ap (option_and_then (λ name. option_and_then (λ (t : Symbol × List Symbol). address_at S (Named name) t.1) (one_at mark ss))) (sym h)
      ∙ ap (option_and_then (λ (t : Symbol × List Symbol). address_at S (Named name) t.1)) k

  pub mark_some : (name : List ℕ) (t : Symbol) (rest : List Symbol) → Some name ≡ sheet_of S s → one_at mark ss ≡ Some (t, rest) → behind_sheet_at S mark s ss ≡ address_at S (Named name) rest
  unfolding behind_sheet_at
  mark_some name t rest h k =
      ap (option_and_then (λ name. option_and_then (λ (t : Symbol × List Symbol). address_at S (Named name) t.1) (one_at mark ss))) (sym h)
      ∙ ap (option_and_then (λ (t : Symbol × List Symbol). address_at S (Named name) t.1)) k

-- ---- corners

module _ (S : Setting) (ss : List Symbol) where
  pub corner_none : ss ≡ [] → corner_at S ss ≡ None
  unfolding corner_at
  corner_none e = ap (corner_at S) e

  pub corner_of_word : (s : Symbol) (rest : List Symbol) (g : Sign) → ss ≡ s ∷ rest → s.sign ≡ g → corner_at S ss ≡ corner_by S s g rest
  unfolding corner_at
  corner_of_word s rest g e h = ap (corner_at S) e ∙ ap (λ g. corner_by S s g rest) h

  pub corner_other : (s : Symbol) (rest : List Symbol) → ss ≡ s ∷ rest → (s.sign ≡ sign.Word → ⊥) → corner_at S ss ≡ behind_sheet_at S is_sheet_mark s rest
  unfolding corner_at
  corner_other s rest e h = ap (corner_at S) e ∙ by s.sign h
    where
      by : (g : Sign) → (g ≡ sign.Word → ⊥) → corner_by S s g rest ≡ behind_sheet_at S is_sheet_mark s rest
      by sign.Word h = absurd (h refl)
      by _ h = refl

  pub plain_marked : (s : Symbol) → true ≡ starts_with is_sheet_mark ss → corner_by S s sign.Word ss ≡ behind_sheet_at S is_sheet_mark s ss
  plain_marked s k = ap (λ b. cond b (behind_sheet_at S is_sheet_mark s ss) (option_and_then (λ c. Some (c, ss)) (word_corner S (bytes_of S s)))) (sym k)

  pub plain_alone : (s : Symbol) (bytes : List ℕ) (o : Option Corner) → false ≡ starts_with is_sheet_mark ss → bytes ≡ bytes_of S s → o ≡ word_corner S bytes → corner_by S s sign.Word ss ≡ option_and_then (λ c. Some (c, ss)) o
  plain_alone s bytes o k b w =
      ap (λ b. cond b (behind_sheet_at S is_sheet_mark s ss) (option_and_then (λ c. Some (c, ss)) (word_corner S (bytes_of S s)))) (sym k)
      ∙ ap (option_and_then (λ c. Some (c, ss))) (ap (word_corner S) (sym b) ∙ sym w)

  pub inner_none : ss ≡ [] → inner_at S ss ≡ None
  unfolding inner_at
  inner_none e = ap (inner_at S) e

  pub inner_of : (s : Symbol) (rest : List Symbol) (g : Sign) → ss ≡ s ∷ rest → s.sign ≡ g → inner_at S ss ≡ inner_by S s g rest
  unfolding inner_at
  inner_of s rest g e h = ap (inner_at S) e ∙ ap (λ g. inner_by S s g rest) h

  pub inner_other : (s : Symbol) (rest : List Symbol) → ss ≡ s ∷ rest → (s.sign ≡ sign.Point → ⊥) → (s.sign ≡ sign.Word → ⊥) → inner_at S ss ≡ behind_sheet_at S is_point s rest
  unfolding inner_at
  inner_other s rest e h k = ap (inner_at S) e ∙ by s.sign h k
    where
      by : (g : Sign) → (g ≡ sign.Point → ⊥) → (g ≡ sign.Word → ⊥) → inner_by S s g rest ≡ behind_sheet_at S is_point s rest
      by sign.Point h k = absurd (h refl)
      by sign.Word h k = absurd (k refl)
      by _ h k = refl

  pub word_marked : (s : Symbol) → true ≡ starts_with is_point ss → inner_by S s sign.Word ss ≡ behind_sheet_at S is_point s ss
  word_marked s k = ap (λ b. cond b (behind_sheet_at S is_point s ss) (option_and_then (λ c. Some (c, ss)) (split_corner (bytes_of S s)))) (sym k)

  pub word_alone : (s : Symbol) (bytes : List ℕ) (o : Option Corner) → false ≡ starts_with is_point ss → bytes ≡ bytes_of S s → o ≡ split_corner bytes → inner_by S s sign.Word ss ≡ option_and_then (λ c. Some (c, ss)) o
  word_alone s bytes o k b w =
      ap (λ b. cond b (behind_sheet_at S is_point s ss) (option_and_then (λ c. Some (c, ss)) (split_corner (bytes_of S s)))) (sym k)
      ∙ ap (option_and_then (λ c. Some (c, ss))) (ap split_corner (sym b) ∙ sym w)

-- ---- references

-- the area of what was read
abbrev pub with_area : Found Referred → Option (Option Area × List Symbol)
with_area o = option_map (λ (f : Referred × List Symbol). (area_of f.0, f.1)) o

abbrev pub area_and : List Symbol → Option Referred → Option (Option Area × List Symbol)
area_and rest o = option_map (λ r. (area_of r, rest)) o

pub no_colon : (g : Sign) → (g ≡ sign.Colon → ⊥) → is_colon g ≡ false
no_colon sign.Colon h = absurd (h refl)
no_colon _ h = refl

pub no_close_square : (g : Sign) → (g ≡ sign.CloseSquare → ⊥) → is_close_square g ≡ false
no_close_square sign.CloseSquare h = absurd (h refl)
no_close_square _ h = refl

no_start : (test : Sign → Bool) (ss : List Symbol) → ss ≡ [] → starts_with test ss ≡ false
no_start test ss e = ap (starts_with test) e

other_start : (test : Sign → Bool) (ss : List Symbol) (s : Symbol) (rest : List Symbol) → ss ≡ s ∷ rest → test s.sign ≡ false → starts_with test ss ≡ false
other_start test ss s rest e h = ap (starts_with test) e ∙ h

fails_view : {A B : Type 0} (f : A → B) (e : stopped.Stop) (o : Option A) → Fails e o → Fails e (option_map f o)
fails_view f stops.Memory o h = tt
fails_view f stops.Syntax o h = ap (option_map f) h

none_view : {A B : Type 0} (f : A → B) (o : Option A) → option_map f o ≡ None → o ≡ None
none_view f None h = refl
none_view f (Some x) h = absurd cc

module _ (S : Setting) (corner : Reader Corner) (c : Corner) (ss : List Symbol) where
  abbrev behind_colon : List Symbol → Found Referred
  behind_colon ss = option_and_then (λ (t : Symbol × List Symbol). option_and_then (λ (d : Corner × List Symbol). option_and_then (λ (r : Referred). Some (r, d.1)) (area_between S c d.0)) (corner t.1)) (one_at is_colon ss)

  alone : starts_with is_colon ss ≡ false → with_area (second_at S corner c ss) ≡ area_and ss (area_between S c c)
  unfolding second_at
  alone h =
      ap (λ b. with_area (cond b (behind_colon ss) (option_and_then (λ r. Some (r, ss)) (area_between S c c)))) h ∙ by (area_between S c c)
    where
      by : (o : Option Referred) → with_area (option_and_then (λ r. Some (r, ss)) o) ≡ area_and ss o
      by None = refl
      by (Some r) = refl

  pub second_end : ss ≡ [] → with_area (second_at S corner c ss) ≡ area_and ss (area_between S c c)
  second_end e = alone (no_start is_colon ss e)

  pub second_other : (s : Symbol) (rest : List Symbol) → ss ≡ s ∷ rest → (s.sign ≡ sign.Colon → ⊥) → with_area (second_at S corner c ss) ≡ area_and ss (area_between S c c)
  second_other s rest e h = alone (other_start is_colon ss s rest e (no_colon s.sign h))

  colon_there : (s : Symbol) (rest : List Symbol) → ss ≡ s ∷ rest → s.sign ≡ sign.Colon
      → second_at S corner c ss ≡ option_and_then (λ (d : Corner × List Symbol). option_and_then (λ (r : Referred). Some (r, d.1)) (area_between S c d.0)) (corner rest)
  unfolding second_at
  colon_there s rest e h =
      ap (λ b. cond b (behind_colon ss) (option_and_then (λ r. Some (r, ss)) (area_between S c c))) (ap (starts_with is_colon) e ∙ ap is_colon h)
      ∙ ap (option_and_then (λ (t : Symbol × List Symbol). option_and_then (λ (d : Corner × List Symbol). option_and_then (λ (r : Referred). Some (r, d.1)) (area_between S c d.0)) (corner t.1))) (one_such is_colon ss s rest e (ap is_colon h))

  pub second_fails : (s : Symbol) (rest : List Symbol) (e : stopped.Stop) → ss ≡ s ∷ rest → s.sign ≡ sign.Colon → Fails e (corner rest) → Fails e (with_area (second_at S corner c ss))
  second_fails s rest e is h f =
      subst (λ o. Fails e (with_area o)) (sym (colon_there s rest is h))
      (fails_view (λ (f : Referred × List Symbol). (area_of f.0, f.1)) e _ (fails_first e (corner rest) (λ (d : Corner × List Symbol). option_and_then (λ (r : Referred). Some (r, d.1)) (area_between S c d.0)) f))

  pub second_some : (s : Symbol) (rest : List Symbol) (d : Corner) (after : List Symbol) → ss ≡ s ∷ rest → s.sign ≡ sign.Colon → corner rest ≡ Some (d, after) → with_area (second_at S corner c ss) ≡ area_and after (area_between S c d)
  second_some s rest d after is h k =
      ap with_area (colon_there s rest is h ∙ ap (option_and_then (λ (d : Corner × List Symbol). option_and_then (λ (r : Referred). Some (r, d.1)) (area_between S c d.0))) k) ∙ by (area_between S c d)
    where
      by : (o : Option Referred) → with_area (option_and_then (λ r. Some (r, after)) o) ≡ area_and after o
      by None = refl
      by (Some r) = refl

-- the area, where a closing bracket stands in front
abbrev pub closing : Option Area → List Symbol → Option (Option Area × List Symbol)
closing area ss = option_map (λ t. (area, t.1)) (one_at is_close_square ss)

pub over_closing : {o p : Option (Symbol × List Symbol)} (area : Option Area) → o ≡ p → option_map {U = Option Area × List Symbol} (λ t. (area, t.1)) o ≡ option_map (λ t. (area, t.1)) p
over_closing area e = ap (λ o. option_map (λ (t : Symbol × List Symbol). (area, t.1)) o) e

module _ (S : Setting) (ss : List Symbol) where
  pub plain_fails : (e : stopped.Stop) → Fails e (corner_at S ss) → Fails e (with_area (plain_at S ss))
  unfolding plain_at
  plain_fails e h = fails_view (λ (f : Referred × List Symbol). (area_of f.0, f.1)) e _ (fails_first e (corner_at S ss) (λ (c : Corner × List Symbol). second_at S (corner_at S) c.0 c.1) h)

  pub plain_some : (c : Corner) (rest : List Symbol) → corner_at S ss ≡ Some (c, rest) → with_area (plain_at S ss) ≡ with_area (second_at S (corner_at S) c rest)
  unfolding plain_at
  plain_some c rest h = ap (λ o. with_area (option_and_then (λ (c : Corner × List Symbol). second_at S (corner_at S) c.0 c.1) o)) h

  abbrev closed : Referred × List Symbol → Found Referred
  closed r = option_and_then (λ (t : Symbol × List Symbol). Some (r.0, t.1)) (one_at is_close_square r.1)

  inner_there : (c : Corner) (rest : List Symbol) → inner_at S ss ≡ Some (c, rest) → brackets_at S ss ≡ option_and_then closed (second_at S (inner_at S) c rest)
  unfolding brackets_at
  inner_there c rest h = ap (option_and_then (λ (c : Corner × List Symbol). option_and_then (λ (r : Referred × List Symbol). option_and_then (λ (t : Symbol × List Symbol). Some (r.0, t.1)) (one_at is_close_square r.1)) (second_at S (inner_at S) c.0 c.1))) h

  pub brackets_fails : (e : stopped.Stop) → Fails e (inner_at S ss) → Fails e (with_area (brackets_at S ss))
  unfolding brackets_at
  brackets_fails e h =
      fails_view (λ (f : Referred × List Symbol). (area_of f.0, f.1)) e _
      (fails_first e (inner_at S ss) (λ (c : Corner × List Symbol). option_and_then (λ (r : Referred × List Symbol). option_and_then (λ (t : Symbol × List Symbol). Some (r.0, t.1)) (one_at is_close_square r.1)) (second_at S (inner_at S) c.0 c.1)) h)

  pub brackets_fail_second : (c : Corner) (rest : List Symbol) (e : stopped.Stop) → inner_at S ss ≡ Some (c, rest) → Fails e (with_area (second_at S (inner_at S) c rest)) → Fails e (with_area (brackets_at S ss))
  brackets_fail_second c rest stops.Memory h f = tt
  brackets_fail_second c rest stops.Syntax h f = ap with_area (inner_there c rest h ∙ ap (option_and_then closed) (none_view (λ (f : Referred × List Symbol). (area_of f.0, f.1)) _ f))

  pub brackets_then : (c : Corner) (rest : List Symbol) (area : Option Area) (after : List Symbol) → inner_at S ss ≡ Some (c, rest) → with_area (second_at S (inner_at S) c rest) ≡ Some (area, after)
      → with_area (brackets_at S ss) ≡ closing area after
  brackets_then c rest area after h k = ap with_area (inner_there c rest h) ∙ by (second_at S (inner_at S) c rest) k
    where
      over : (r : Referred) (o : Option (Symbol × List Symbol)) → with_area (option_and_then (λ (t : Symbol × List Symbol). Some (r, t.1)) o) ≡ option_map (λ (t : Symbol × List Symbol). (area_of r, t.1)) o
      over r None = refl
      over r (Some t) = refl

      by : (o : Found Referred) → with_area o ≡ Some (area, after) → with_area (option_and_then closed o) ≡ closing area after
      by None e = absurd cc
      by (Some r) e =
          let both : (area_of r.0, r.1) ≡ (area, after) = some_is (area_of r.0, r.1) (area, after) e in
          over r.0 (one_at is_close_square r.1) ∙ ap (λ (f : Option Area × List Symbol). closing f.0 f.1) both

  pub reference_none : ss ≡ [] → reference_at S ss ≡ None
  unfolding reference_at
  reference_none e = ap (reference_at S) e

  pub reference_square : (s : Symbol) (rest : List Symbol) → ss ≡ s ∷ rest → s.sign ≡ sign.OpenSquare → with_area (reference_at S ss) ≡ with_area (brackets_at S rest)
  unfolding reference_at
  reference_square s rest e h = ap with_area (ap (reference_at S) e ∙ ap (λ g. reference_by S g s rest) h)

  pub reference_other : (s : Symbol) (rest : List Symbol) → ss ≡ s ∷ rest → (s.sign ≡ sign.OpenSquare → ⊥) → with_area (reference_at S ss) ≡ with_area (plain_at S ss)
  unfolding reference_at
  reference_other s rest e h = ap with_area (ap (reference_at S) e ∙ by s.sign h ∙ ap (plain_at S) (sym e))
    where
      by : (g : Sign) → (g ≡ sign.OpenSquare → ⊥) → reference_by S g s rest ≡ plain_at S (s ∷ rest)
      by sign.OpenSquare h = absurd (h refl)
      by _ h = refl

-- Reading unions of references, turn by turn.
use Rattle.std.proofs.Common.{◌≡◌, ◌∙◌, ◌<◌, Bool, false, cond, List, [], ◌∷◌, ◌++◌, length, Option, Some, None, refl, sym, ap, subst, append-nil, arith}
use Rattle.std.specs.Prelude.{◌||◌, All, IfSome}
use Rattle.std.proofs.lemmas.List.Elements.{All-append, All-cons}
use Rattle.std.specs.Option.{option_and_then, option_map}
use Rattle.cell_refs.specs.Areas.{Area, IsOnSheet}
use Rattle.formula_ast.specs.Tree.{Referred, Listed, Unlisted}
use Rattle.formula_ast.specs.Measures.{listed}
use Rattle.formula_grammar.specs.declared.symbol.Symbol.{Symbol}
use Rattle.formula_grammar.specs.Faults.{some_unlisted}
use Rattle.formula_grammar.specs.Symbols.{Setting}
use Rattle.formula_grammar.specs.References.{SpellsReference}
use Rattle.formula_grammar.specs.Loops.{Found, Stop as Stopped, Go, go_on, all_turns}
use Rattle.formula_grammar.specs.LeafReading.{is_tilde, starts_with, reference_at, union_turn, union_at}
use Rattle.formula_grammar.proofs.Turns.{Takes, all_fail, all_go, all_stop, shorter, some_is}
use Rattle.formula_grammar.proofs.LeafSound.{goes, reference_sound}
use Rattle.formula_parser.specs.declared.stop.Stop as stopped
use Rattle.formula_parser.specs.declared.stop.Stop.TheVariants as stops
use Rattle.formula_parser.specs.Given.{Fails, StartsWith}
use Rattle.formula_parser.specs.Leaves.{IsAdded, area_of, areas_of, is_missing, some_area}
use Rattle.formula_parser.proofs.Corners.{with_area}

-- the areas of what was read
abbrev pub with_areas : Found (List Referred) → Option ((List Area × Bool) × List Symbol)
with_areas o = option_map (λ (f : List Referred × List Symbol). (areas_of f.0, f.1)) o

listed_more : (rs : List Referred) (r : Referred) → listed (rs ++ r ∷ []) ≡ listed rs ++ some_area (area_of r)
listed_more [] (Listed a) = refl
listed_more [] (Unlisted name) = refl
listed_more (Listed a ∷ rs) r = ap (λ l. a ∷ l) (listed_more rs r)
listed_more (Unlisted name ∷ rs) r = listed_more rs r

unlisted_more : (rs : List Referred) (r : Referred) → some_unlisted (rs ++ r ∷ []) ≡ (some_unlisted rs || is_missing (area_of r))
unlisted_more [] (Listed a) = refl
unlisted_more [] (Unlisted name) = refl
unlisted_more (Listed a ∷ rs) r = unlisted_more rs r
unlisted_more (Unlisted name ∷ rs) r = refl

-- a reference that was found
area_found : (o : Found Referred) (a : Option Area) (rest : List Symbol) → with_area o ≡ Some (a, rest) → (r : Referred) × (o ≡ Some (r, rest)) × (area_of r ≡ a)
area_found None a rest e = absurd cc
area_found (Some f) a rest e =
    let both : (area_of f.0, f.1) ≡ (a, rest) = some_is (area_of f.0, f.1) (a, rest) e in
    (f.0, ap (λ (g : Option Area × List Symbol). Some (f.0, g.1)) both, ap (λ (g : Option Area × List Symbol). g.0) both)

-- no reference was found
none_found : (o : Found Referred) → with_area o ≡ None → o ≡ None
none_found None e = refl
none_found (Some f) e = absurd cc

-- areas on sheets, and one more
pub all_more : (areas more : List Area) (a : Option Area) → All IsOnSheet areas → IfSome a IsOnSheet → more ≡ areas ++ some_area a → All IsOnSheet more
all_more areas more None h k e = subst (All IsOnSheet) (sym (e ∙ append-nil areas)) h
all_more areas more (Some a) h k e = subst (All IsOnSheet) (sym e) (All-append IsOnSheet areas (a ∷ []) h (All-cons IsOnSheet a [] k (λ i d lt. absurd (omega arith))))

-- what was read of a union so far, before the rest
pub record IsJoined (S : Setting) (symbols : List Symbol) (areas : List Area) (lost : Bool) (rest : List Symbol) : Type 0 where
  pub references : List Referred
  pub areas_are : listed references ≡ areas
  pub lost_is : some_unlisted references ≡ lost
  pub goes_on : all_turns (union_turn S) references rest ≡ union_at S symbols

module _ (S : Setting) where
  takes : Takes (union_turn S)
  takes rs [] y rest e = absurd cc
  takes rs (s ∷ ss) y rest e =
      let g = goes S (is_tilde s.sign) (λ r. rs ++ r ∷ []) (reference_at S ss) y rest e in
      let less = shorter (SpellsReference S) ss (g.1, rest) (reference_sound S ss (g.1, rest) g.2) in
      omega arith

  turn_of : (rs : List Referred) (rest behind : List Symbol) → StartsWith is_tilde rest behind → union_turn S rs rest ≡ go_on (λ r. rs ++ r ∷ []) (reference_at S behind)
  turn_of rs rest behind h = ap (union_turn S rs) h.front ∙ ap (λ b. cond b (go_on (λ r. rs ++ r ∷ []) (reference_at S behind)) Stopped) h.passes

  turn_goes : (rs : List Referred) (rest behind : List Symbol) (r : Referred) (others : List Symbol) → StartsWith is_tilde rest behind → reference_at S behind ≡ Some (r, others) → union_turn S rs rest ≡ Go (rs ++ r ∷ []) others
  turn_goes rs rest behind r others h k = turn_of rs rest behind h ∙ ap (go_on (λ r. rs ++ r ∷ [])) k

  stops_at : (rs : List Referred) (rest : List Symbol) → starts_with is_tilde rest ≡ false → union_turn S rs rest ≡ Stopped
  stops_at rs [] h = refl
  stops_at rs (s ∷ ss) h = ap (λ b. cond b (go_on (λ r. rs ++ r ∷ []) (reference_at S ss)) Stopped) h

  -- each turn leaves fewer symbols
  pub union_less : (rest behind : List Symbol) (a : Option Area) (others : List Symbol) → StartsWith is_tilde rest behind → with_area (reference_at S behind) ≡ Some (a, others) → length others < length rest
  union_less rest behind a others h k = let r = area_found (reference_at S behind) a others k in takes [] rest ([] ++ r.0 ∷ []) others (turn_goes [] rest behind r.0 others h r.1)

  module _ (ss : List Symbol) where
    pub union_fails_first : (e : stopped.Stop) → Fails e (with_area (reference_at S ss)) → Fails e (with_areas (union_at S ss))
    unfolding union_at
    union_fails_first stops.Memory h = tt
    union_fails_first stops.Syntax h = ap (λ o. with_areas (option_and_then (λ (r : Referred × List Symbol). all_turns (union_turn S) (r.0 ∷ []) r.1) o)) (none_found (reference_at S ss) h)

    pub union_begins : (a : Option Area) (rest : List Symbol) (areas : List Area) (lost : Bool) → with_area (reference_at S ss) ≡ Some (a, rest) → areas ≡ some_area a → lost ≡ is_missing a → IsJoined S ss areas lost rest
    unfolding union_at
    union_begins a rest areas lost h k l =
        let r = area_found (reference_at S ss) a rest h in
        record {
          references = r.0 ∷ [];
          areas_are = listed_more [] r.0 ∙ ap some_area r.2 ∙ sym k;
          lost_is = unlisted_more [] r.0 ∙ ap is_missing r.2 ∙ sym l;
          goes_on = sym (ap (option_and_then (λ (r : Referred × List Symbol). all_turns (union_turn S) (r.0 ∷ []) r.1)) r.1);
        }

    -- the first reference is added to none
    pub added_first : (none areas : List Area) (lost : Bool) (rest : List Symbol) → none ≡ [] → IsAdded S ss none false areas lost rest → IsJoined S ss areas lost rest
    added_first none areas lost rest empty a = union_begins a.area rest areas lost a.read (a.areas_are ∙ ap (λ l. l ++ some_area a.area) empty) a.lost_is

    pub union_goes : (a : Option Area) (areas more : List Area) (lost missing : Bool) (rest behind others : List Symbol) → IsJoined S ss areas lost rest → StartsWith is_tilde rest behind → with_area (reference_at S behind) ≡ Some (a, others)
        → more ≡ areas ++ some_area a → missing ≡ (lost || is_missing a) → IsJoined S ss more missing others
    union_goes a areas more lost missing rest behind others so_far h k m n =
        let r = area_found (reference_at S behind) a others k in
        record {
          references = so_far.references ++ r.0 ∷ [];
          areas_are = listed_more so_far.references r.0 ∙ ap (λ l. l ++ some_area (area_of r.0)) so_far.areas_are ∙ ap (λ o. areas ++ some_area o) r.2 ∙ sym m;
          lost_is = unlisted_more so_far.references r.0 ∙ ap (λ b. b || is_missing (area_of r.0)) so_far.lost_is ∙ ap (λ o. lost || is_missing o) r.2 ∙ sym n;
          goes_on = sym (all_go (union_turn S) takes so_far.references rest (so_far.references ++ r.0 ∷ []) others (turn_goes so_far.references rest behind r.0 others h r.1)) ∙ so_far.goes_on;
        }

    pub union_fails : (e : stopped.Stop) (areas : List Area) (lost : Bool) (rest behind : List Symbol) → IsJoined S ss areas lost rest → StartsWith is_tilde rest behind → Fails e (with_area (reference_at S behind)) → Fails e (with_areas (union_at S ss))
    union_fails stops.Memory areas lost rest behind so_far h f = tt
    union_fails stops.Syntax areas lost rest behind so_far h f =
        ap with_areas (sym so_far.goes_on ∙ all_fail (union_turn S) so_far.references rest (turn_of so_far.references rest behind h ∙ ap (go_on (λ r. so_far.references ++ r ∷ [])) (none_found (reference_at S behind) f)))

    pub union_done : (areas : List Area) (lost : Bool) (rest : List Symbol) → IsJoined S ss areas lost rest → starts_with is_tilde rest ≡ false → with_areas (union_at S ss) ≡ Some ((areas, lost), rest)
    union_done areas lost rest so_far h =
        ap with_areas (sym so_far.goes_on ∙ all_stop (union_turn S) so_far.references rest (stops_at so_far.references rest h))
        ∙ ap (λ l. Some ((l, some_unlisted so_far.references), rest)) so_far.areas_are ∙ ap (λ b. Some ((areas, b), rest)) so_far.lost_is

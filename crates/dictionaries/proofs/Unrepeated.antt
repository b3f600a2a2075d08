-- No two dictionaries of a run have the same basic variables: those of one phase by Bland's argument, and the phases are apart.
use Rattle.std.proofs.Common.{◌≡◌, ◌≢◌, ◌⊎◌, inl, inr, ℕ, zero, suc, ◌<◌, refl, sym, ap, ◌∙◌, subst, List, [], ◌∷◌, length, get_or, arith}
use Rattle.std.specs.Prelude.{All}
use Rattle.std.proofs.lemmas.List.{get_or-set_same, get_or-set_other, length-set}
use Rattle.std.proofs.lemmas.List.Kept.{AllPairs-cons}
use Rattle.linear_programs.specs.Program.{Program}
use Rattle.dictionaries.specs.Dictionary.{Dictionary, pivoted, IsBasic, IsNonBasic, SameBasis, IsDictionaryOf}
use Rattle.dictionaries.specs.Bland.{NextPivot, begins, goes_on, retires, IsBlandPivot, Phase, one, two, goal_of, IsInPhase}
use Rattle.dictionaries.specs.Run.{IsNext, Follow, last_of, IsOnTheWay, NeverReturns, NoneStandsTwice}
use Rattle.dictionaries.proofs.Solutions.{dictionary_once}
use Rattle.dictionaries.proofs.Determined.{not_negative}
use Rattle.dictionaries.proofs.Bases.{not_basic_too, at_counts, at_or, counts_at, none_counts, same_feasible}
use Rattle.dictionaries.proofs.Runs.{made_leaves, step_is_dictionary, step_feasible, step_on_the_way}
use Rattle.dictionaries.proofs.Turns.{IsTurn, IsSound}
use Rattle.dictionaries.proofs.Returns.{Turns, no_return}

-- ---- sound dictionaries, those of a run but for a first one with a negative constant
on_the_way : (p : Program) (d : Dictionary) → IsSound p d → IsOnTheWay p d
on_the_way p d s = record { dictionary = s.dictionary; feasible = inr s.feasible }

step_sound : (p : Program) (d e : Dictionary) → IsOnTheWay p d → IsNext d e → IsSound p e
step_sound p d e w n = record { dictionary = step_is_dictionary p d e w n; feasible = step_feasible p d e w n }

last_sound : (p : Program) (d : Dictionary) (later : List Dictionary) → IsSound p d → Follow d later → IsSound p (last_of d later)
last_sound p d [] s f = s
last_sound p d (e ∷ es) s f = last_sound p e es (step_sound p d e (on_the_way p d s) f.0) f.1

-- a basic variable has a place after a step
place_kept : (p : Program) (d e : Dictionary) (v : ℕ) → IsDictionaryOf p d → IsDictionaryOf p e → IsBasic d v → IsBasic e v ⊎ IsNonBasic e v
place_kept p d e v k l b = elim (at_or e.basic v) [
  | inl c ↦ inl c
  | inr n ↦ inr (counts_at e.nonbasic v (omega (arith, k.places v, l.places v, at_counts d.basic v b, none_counts e.basic v n)))
]

-- ---- phase 2 goes on
-- a step of the phase is a turn
turn_of : (h : Phase) (p : Program) (d e : Dictionary) → IsSound p d → (n : IsNext d e) → IsBlandPivot d (goal_of h d) n.row n.column → IsTurn h d e
turn_of h p d e s n b = record { row = n.row; column = n.column; enters = b.enters; leaves = made_leaves d n.row n.column s.dictionary.shaped b.pivot_row n.is_narrow; after = n.after }

-- what isn't at the column of the pivot stays non-basic
stays_nonbasic : (d : Dictionary) (r c v : ℕ) → get_or d.nonbasic c 0 ≢ v → IsNonBasic d v → IsNonBasic (pivoted d r c) v
stays_nonbasic d r c v n b = (b.0, rw length-set b.1, get_or-set_other d.nonbasic c b.0 _ 0 (λ q. n (sym (ap (λ j. get_or d.nonbasic j 0) q) ∙ b.2)) ∙ b.2)

record GoesOnInTwo (d : Dictionary) (later : List Dictionary) : Type 0 where
  turns : Turns two d later
  end : IsNonBasic (last_of d later) 0

-- a step of phase 2, with what the steps after it do
two_next : (p : Program) (d e : Dictionary) (es : List Dictionary) → IsSound p d → IsNonBasic d 0 → IsTurn two d e → (IsNonBasic e 0 → GoesOnInTwo e es) → GoesOnInTwo d (e ∷ es)
two_next p d e es s z n go =
    let g = go (subst (λ e. IsNonBasic e 0) (sym n.after) (stays_nonbasic d n.row n.column 0 n.enters.improves.variable z)) in
    record { turns = (n, g.turns); end = g.end }

two_turn : (p : Program) (d e : Dictionary) → IsSound p d → IsNonBasic d 0 → IsNext d e → IsTurn two d e
two_turn p d e s z n = cases n.is_next
  where
    by_phase : (h : Phase) → IsInPhase h d → IsBlandPivot d (goal_of h d) n.row n.column → IsTurn two d e
    by_phase one i b = absurd (not_basic_too d 0 (dictionary_once p d s.dictionary) i z)
    by_phase two i b = turn_of two p d e s n b

    cases : NextPivot d n.row n.column → IsTurn two d e
    cases (begins b) = absurd (not_negative d n.row s.feasible b.row b.negative)
    cases (goes_on h i b) = by_phase h i b
    cases (retires i o q b) = absurd (not_basic_too d 0 (dictionary_once p d s.dictionary) i z)

in_two : (p : Program) (d : Dictionary) (later : List Dictionary) → IsSound p d → IsNonBasic d 0 → Follow d later → GoesOnInTwo d later
in_two p d [] s z f = record { turns = tt; end = z }
in_two p d (e ∷ es) s z f =
    two_next p d e es s z (two_turn p d e s z f.0) (λ b. in_two p e es (step_sound p d e (on_the_way p d s) f.0) b f.1)

-- ---- phase 1 up to where variable 0 is basic
-- the steps after this one keep to phase 1 where variable 0 is basic at their end
one_next : (p : Program) (d e : Dictionary) (es : List Dictionary) → IsSound p d → IsBasic d 0 → (f : Follow d (e ∷ es)) → IsBasic (last_of e es) 0
    → (IsBasic e 0 → Turns one e es) → Turns one d (e ∷ es)
one_next p d e es s z f l go = cases f.0.is_next
  where
    sound : IsSound p e
    sound = step_sound p d e (on_the_way p d s) f.0

    not_two : IsNonBasic e 0 → ⊥
    not_two n = not_basic_too (last_of e es) 0 (dictionary_once p (last_of e es) (last_sound p e es sound f.1).dictionary) l (in_two p e es sound n f.1).end

    next : IsTurn one d e → Turns one d (e ∷ es)
    next n = elim (place_kept p d e 0 s.dictionary sound.dictionary z) [
      | inl b ↦ (n, go b)
      | inr b ↦ absurd (not_two b)
    ]

    by_phase : (h : Phase) → IsInPhase h d → IsBlandPivot d (goal_of h d) f.0.row f.0.column → Turns one d (e ∷ es)
    by_phase one i b = next (turn_of one p d e s f.0 b)
    by_phase two i b = absurd (not_basic_too d 0 (dictionary_once p d s.dictionary) z i.0)

    cases : NextPivot d f.0.row f.0.column → Turns one d (e ∷ es)
    cases (begins b) = absurd (not_basic_too d 0 (dictionary_once p d s.dictionary) z (f.0.column, b.column, b.extra))
    cases (goes_on h i b) = by_phase h i b
    cases (retires i o q b) =
        absurd (not_two (subst (λ e. IsNonBasic e 0) (sym f.0.after) (f.0.column, rw length-set b.column, get_or-set_same d.nonbasic f.0.column _ 0 b.column ∙ b.extra)))

in_one : (p : Program) (d : Dictionary) (later : List Dictionary) → IsSound p d → IsBasic d 0 → Follow d later → IsBasic (last_of d later) 0 → Turns one d later
in_one p d [] s z f l = tt
in_one p d (e ∷ es) s z f l = one_next p d e es s z f l (λ b. in_one p e es (step_sound p d e (on_the_way p d s) f.0) b f.1 l)

-- ---- a dictionary and a later one
feasible_or_not : (p : Program) (d e : Dictionary) (es : List Dictionary) → IsOnTheWay p d → Follow d (e ∷ es) → SameBasis d (last_of e es) → IsSound p d
feasible_or_not p d e es w f same =
    let l = last_sound p e es (step_sound p d e w f.0) f.1 in
    record { dictionary = w.dictionary; feasible = same_feasible p d (last_of e es) w.dictionary l.dictionary same l.feasible }

pub never_again : (p : Program) (d e : Dictionary) (es : List Dictionary) → IsOnTheWay p d → Follow d (e ∷ es) → SameBasis d (last_of e es) → ⊥
never_again p d e es w f same = cases f.0.is_next
  where
    s : IsSound p d
    s = feasible_or_not p d e es w f same

    by_one : IsBasic d 0 → ⊥
    by_one i = no_return one p d e es s (in_one p d (e ∷ es) s i f ((same 0).0 i)) same

    by_phase : (h : Phase) → IsInPhase h d → ⊥
    by_phase one i = by_one i
    by_phase two i = no_return two p d e es s (in_two p d (e ∷ es) s i.0 f).turns same

    cases : NextPivot d f.0.row f.0.column → ⊥
    cases (begins b) = not_negative d f.0.row s.feasible b.row b.negative
    cases (goes_on h i b) = by_phase h i
    cases (retires i o q b) = by_one i

-- ---- each two dictionaries of a run
upto : (d e : Dictionary) (es : List Dictionary) (k : ℕ) (x : Dictionary) → Follow d (e ∷ es) → k < length (e ∷ es)
    → (front : List Dictionary) × Follow d (e ∷ front) × (last_of e front ≡ get_or (e ∷ es) k x)
upto d e es zero x f h = ([], (f.0, tt), refl)
upto d e [] (suc k) x f h = absurd (omega arith)
upto d e (g ∷ gs) (suc k) x f h = let u = upto e g gs k x f.1 (omega arith) in (g ∷ u.0, (f.0, u.1), u.2)

apart_from_later : (p : Program) (d : Dictionary) (later : List Dictionary) → IsOnTheWay p d → Follow d later → All (λ e. ¬ (SameBasis d e)) later
apart_from_later p d [] w f i x h = absurd (omega arith)
apart_from_later p d (e ∷ es) w f i x h = λ same.
    let u = upto d e es i x f h in
    never_again p d e u.0 w u.1 (subst (λ g. SameBasis d g) (sym u.2) same)

pub never_returns : NeverReturns
never_returns p d [] w f = AllPairs-cons (λ d e. ¬ (SameBasis d e)) d [] (apart_from_later p d [] w f) (λ i j x a b. absurd (omega arith))
never_returns p d (e ∷ es) w f =
    AllPairs-cons (λ d e. ¬ (SameBasis d e)) d (e ∷ es) (apart_from_later p d (e ∷ es) w f) (never_returns p e es (step_on_the_way p d e w f.0) f.1)

pub none_stands_twice : NoneStandsTwice
none_stands_twice p d later w f i j x a b q =
    never_returns p d later w f i j x a b (λ v. (λ h. subst (λ e. IsBasic e v) q h, λ h. subst (λ e. IsBasic e v) (sym q) h))

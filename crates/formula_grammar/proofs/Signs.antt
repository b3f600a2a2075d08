-- Signs: how far a part may reach before them, and how many brackets they open.
use Rattle.std.proofs.Common.{◌≡◌, ℕ, suc, ◌<◌, ◌≤◌, true, false, List, [], ◌∷◌, Some, refl, ap, subst, arith}
use Rattle.std.specs.Prelude.{◌||◌}
use Rattle.std.specs.Option.{option_map_or}
use Rattle.cell_refs.specs.declared.op.Op.{Op}
use Rattle.formula_grammar.specs.declared.symbol.Sign.{Sign}
use Rattle.formula_grammar.specs.declared.symbol.Sign.TheVariants as sign
use Rattle.formula_grammar.specs.declared.symbol.Symbol.{Symbol}
use Rattle.formula_grammar.specs.Parts.{operator_of, level_of, prefix_of, is_percent, is_separator, is_close, Prefix}
use Rattle.formula_grammar.specs.Reading.{ends_arg}
use Rattle.formula_grammar.specs.Depth.{opened, most_open}

-- ---- signs

abbrev pub other_reach : Sign → ℕ
other_reach sign.Open = 0
other_reach sign.Colon = 0
other_reach sign.Point = 0
other_reach sign.Exclamation = 0
other_reach sign.Tilde = 0
other_reach sign.Percent = 1
other_reach _ = 7

-- a part may end before a sign if its level is below this
abbrev pub reach : Sign → ℕ
reach g = option_map_or (λ op. suc (level_of op)) (operator_of g) (other_reach g)

abbrev pub ahead : List Symbol → ℕ
ahead [] = 7
ahead (s ∷ ss) = reach s.sign

pub operator_reach : (g : Sign) (op : Op) → operator_of g ≡ Some op → reach g ≡ suc (level_of op)
operator_reach g op e = ap (λ o. option_map_or (λ op. suc (level_of op)) o (other_reach g)) e

pub operator_opens : (g : Sign) (op : Op) (n : ℕ) → operator_of g ≡ Some op → opened g n ≡ n
operator_opens sign.Open op n e = absurd cc
operator_opens sign.OpenSquare op n e = absurd cc
operator_opens sign.OpenBrace op n e = absurd cc
operator_opens sign.Close op n e = absurd cc
operator_opens sign.CloseSquare op n e = absurd cc
operator_opens sign.CloseBrace op n e = absurd cc
operator_opens _ op n e = refl

pub prefix_opens : (g : Sign) (make : Prefix) (n : ℕ) → prefix_of g ≡ Some make → opened g n ≡ n
prefix_opens sign.Plus make n e = refl
prefix_opens sign.Minus make n e = refl
prefix_opens _ make n e = absurd cc

pub percent_opens : (g : Sign) (n : ℕ) → is_percent g ≡ true → opened g n ≡ n
percent_opens sign.Percent n e = refl
percent_opens _ n e = absurd cc

pub percent_reach : (g : Sign) → is_percent g ≡ true → reach g ≡ 1
percent_reach sign.Percent e = refl
percent_reach _ e = absurd cc

pub separator_opens : (g : Sign) (n : ℕ) → is_separator g ≡ true → opened g n ≡ n
separator_opens sign.Semicolon n e = refl
separator_opens sign.Comma n e = refl
separator_opens _ n e = absurd cc

pub separator_open : (g : Sign) → is_separator g ≡ true → is_close g ≡ false
separator_open sign.Semicolon e = refl
separator_open sign.Comma e = refl
separator_open _ e = absurd cc

pub separator_ends : (g : Sign) → is_separator g ≡ true → (is_separator g || is_close g) ≡ true
separator_ends sign.Semicolon e = refl
separator_ends sign.Comma e = refl
separator_ends _ e = absurd cc

pub ends_reach : (g : Sign) → (is_separator g || is_close g) ≡ true → reach g ≡ 7
ends_reach sign.Semicolon e = refl
ends_reach sign.Comma e = refl
ends_reach sign.Close e = refl
ends_reach _ e = absurd cc

pub ends_ahead : (ss : List Symbol) → ends_arg ss ≡ true → ahead ss ≡ 7
ends_ahead [] e = refl
ends_ahead (s ∷ ss) e = ends_reach s.sign e

pub not_percent : (g : Sign) → 1 < reach g → is_percent g ≡ false
not_percent sign.Percent h = absurd (omega arith)
not_percent _ h = refl

-- ---- brackets

pub open_least : (n : ℕ) (ss : List Symbol) → n ≤ most_open n ss
open_least n [] = omega arith
open_least n (s ∷ ss) = omega arith

-- what is left has no more open than the whole, after a sign that opens none
pub room_after : (n limit : ℕ) (s : Symbol) (ss : List Symbol) (m : ℕ) → opened s.sign n ≡ m → most_open n (s ∷ ss) ≤ limit → most_open m ss ≤ limit
room_after n limit s ss m e h =
    let k : most_open (opened s.sign n) ss ≤ limit = omega arith in subst (λ j. most_open j ss ≤ limit) e k

-- Three pickers in a row.
use Rattle.std.proofs.Common.{◌≡◌, ◌++◌, ◌∷◌, [], List, length, refl, subst, sym}
use Rattle.std.specs.Prelude.{map}
use Rattle.node_pick.specs.Rules.{Rule, best_first, depth_first, oldest_first}

-- the rule of a picker of a kind that is known
pub rule_by_kind : {X : Type 0} {F : X → Type 0} (rule : (i : X) → F i → Rule) (i j : X) (r : Rule) (v : F i) → i ≡ j → ((w : F j) → rule j w ≡ r) → rule i v ≡ r
rule_by_kind {X} {F} rule i j r v e h = subst (λ (k : X). (w : F k) → rule k w ≡ r) (sym e) h v

pub three : {X : Type 0} (rule : X → Rule) (a b c : X) (none one two all : List X) → none ≡ [] → one ≡ none ++ a ∷ [] → two ≡ one ++ b ∷ [] → all ≡ two ++ c ∷ [] → rule a ≡ depth_first → rule b ≡ best_first → rule c ≡ oldest_first
    → map rule all ≡ depth_first ∷ best_first ∷ oldest_first ∷ []
three rule a b c none one two all n o t l d e f = rw (l, t, o, n, d, e, f) refl

pub three_are_three : {X : Type 0} (a b c : X) (none one two all : List X) → none ≡ [] → one ≡ none ++ a ∷ [] → two ≡ one ++ b ∷ [] → all ≡ two ++ c ∷ [] → length all ≡ 3
three_are_three a b c none one two all n o t l = rw (l, t, o, n) refl

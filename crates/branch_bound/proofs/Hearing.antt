-- What a picker has heard after further messages.
use Rattle.std.proofs.Common.{◌≡◌, sym, subst, List, [], ◌∷◌, ◌++◌, append-nil, append_assoc}
use Rattle.node_pick.specs.Messages.{Message, Hears, news}
use Rattle.node_pick.specs.declared.info.NodeInfo.{NodeInfo}
use Rattle.node_pick.specs.declared.info.NodeEvent.TheVariants as events

pub hears_none : (a : List Message → Type 0) → Hears a a []
hears_none a = λ xs p. subst a (sym (append-nil xs)) p

pub hears_then : (a b c : List Message → Type 0) (ms ns : List Message) → Hears a b ms → Hears b c ns → Hears a c (ms ++ ns)
hears_then a b c ms ns f g = λ xs p. subst c (append_assoc xs ms ns) (g (xs ++ ms) (f xs p))

-- a message, and then the opening of the node
pub hears_opened : (a b c : List Message → Type 0) (m : Message) (i j : NodeInfo) → i ≡ j → Hears a b (m ∷ []) → Hears b c (news (events.Opened i.number) ∷ []) → Hears a c (m ∷ news (events.Opened j.number) ∷ [])
hears_opened a b c m i j e f g =
    subst (λ (k : NodeInfo). Hears a c (m ∷ news (events.Opened k.number) ∷ [])) e (hears_then a b c (m ∷ []) (news (events.Opened i.number) ∷ []) f g)

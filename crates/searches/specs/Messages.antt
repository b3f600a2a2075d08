-- What a picker hears in the course of a search, unit by unit.
use Rattle.std.specs.Prelude.{ℕ, ◌+◌, List, [], ◌∷◌, ◌++◌, map}
use Rattle.dictionaries.specs.Dictionary.{Dictionary}
use Rattle.node_pick.specs.Rules.{Rule}
use Rattle.node_pick.specs.Messages.{Message, question, news}
use Rattle.node_pick.specs.declared.info.NodeEvent.{NodeEvent}
use Rattle.node_pick.specs.declared.info.NodeEvent.TheVariants as events
use Rattle.linear_models.specs.Model.{Model}
use Rattle.searches.specs.Trees.{Node, End, empty, beaten, whole, split, clash, endless, info}
use Rattle.searches.specs.Trails.{State, SearchUnit, Becomes, goes_on, ends, Grows, opens, pivots, Leads, stays, grows}

-- the end of a node of this number, where the next numbers are from n on: it is split in two parts, its point is a whole one and found, or it is closed
abbrev pub news_of : ℕ → ℕ → End → NodeEvent
news_of number n (split j f value) = events.Split number n (n + 1)
news_of number n (whole point value) = events.Whole number
news_of number n empty = events.Closed number
news_of number n (beaten value) = events.Closed number
news_of number n (clash i j value) = events.Closed number
news_of number n (endless point direction) = events.Closed number

-- of a node that has come to a dictionary: its end, if it is one
abbrev pub end_messages : {m : Model} {s : State} {node : Node} {k : ℕ} {d : Dictionary} {t : State} → Becomes m s node k d t → List Message
end_messages (goes_on n) = []
end_messages {s = s} {node = node} (ends o e f c) = news (news_of node.number s.count e) ∷ []

-- of a unit: before an opening the question, with the answer that is followed, and then what was opened; at last the end, if the node has come to it
abbrev pub unit_messages : {m : Model} {rule : Rule} {s : State} {u : SearchUnit} {t : State} → Grows m rule s u t → List Message
unit_messages {s = s} (opens p node t w o g f b) = question (map info s.waiting) p ∷ news (events.Opened node.number) ∷ end_messages b
unit_messages (pivots w r c t z n i b) = end_messages b

-- of all units, the first one first
abbrev pub trail_messages : {m : Model} {rule : Rule} {s : State} {us : List SearchUnit} {t : State} → Leads m rule s us t → List Message
trail_messages stays = []
trail_messages (grows us t u t' l g) = trail_messages l ++ unit_messages g

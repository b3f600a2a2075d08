-- What a picker hears in the course of a search.
use Rattle.std.specs.Prelude.{ℕ, List, ◌++◌}
use Rattle.node_pick.specs.declared.info.NodeInfo.{NodeInfo}
use Rattle.node_pick.specs.declared.info.NodeEvent.{NodeEvent}

-- a question, which node of these is opened next, with the place that it answers; or an event
pub data Message : Type 0 where
  question : (waiting : List NodeInfo) (answer : ℕ) → Message
  news : (what : NodeEvent) → Message

-- whoever may have heard some messages before may have heard these after them since
abbrev pub Hears : (List Message → Type 0) → (List Message → Type 0) → List Message → Type 0
Hears before after these = (messages : List Message) → before messages → after (messages ++ these)

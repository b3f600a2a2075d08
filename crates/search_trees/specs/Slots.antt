-- What becomes of each node in the tree, by its number. No public clause cites this module.
use Rattle.std.specs.Prelude.{◌≡◌, ◌<◌, ◌⊎◌, ℕ, List, length, Some, slice_get, slice_index_or}
use Rattle.branch_bound.specs.declared.frontier.Ending.{Ending}
use Rattle.branch_bound.specs.declared.frontier.Ending.TheVariants as endings
use Rattle.branch_bound.specs.declared.frontier.Visit.{Visit}
use Rattle.search_trees.specs.declared.slots.Slot.{Slot}
use Rattle.search_trees.specs.declared.slots.Slot.TheVariants as slots

abbrev pub slot_by : ℕ → Ending → Slot
slot_by pivots (endings.Parts n) = slots.Parts n
slot_by pivots (endings.Clash i j) = slots.Clash i j
slot_by pivots endings.Leaf = slots.Leaf pivots

-- of a node that was opened
abbrev pub slot_of : Visit → Slot
slot_of v = slot_by v.pivots v.ending

abbrev pub slot_at : List Slot → ℕ → Slot
slot_at ss n = slice_index_or ss n slots.Waits

-- no opened node has the number
abbrev pub IsNever : List Visit → ℕ → Type 0
IsNever os n = (i : ℕ) (v : Visit) → slice_get os i ≡ Some v → v.number ≡ n → ⊥

-- an opened node has it, and this is its slot
pub record IsOnce (os : List Visit) (n : ℕ) (s : Slot) : Type 0 where
  pub place : ℕ
  pub visit : Visit
  pub there : slice_get os place ≡ Some visit
  pub number : visit.number ≡ n
  pub slot : s ≡ slot_of visit

-- the slot of a number
abbrev pub IsSlot : List Visit → ℕ → Slot → Type 0
IsSlot os n s = ((s ≡ slots.Waits) × IsNever os n) ⊎ IsOnce os n s

pub record AreSlots (count : ℕ) (os : List Visit) (ss : List Slot) : Type 0 where
  pub size : length ss ≡ count
  pub each : (n : ℕ) → n < count → IsSlot os n (slot_at ss n)

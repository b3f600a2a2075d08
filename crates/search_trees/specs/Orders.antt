-- Numbers of nodes in preorder. No public clause cites this module.
use Rattle.std.specs.Prelude.{◌≡◌, ◌≢◌, ◌<◌, ◌≤◌, ◌⊎◌, ℕ, suc, List, [], ◌∷◌, ◌++◌, length}
use Rattle.search_trees.specs.declared.slots.Slot.{Slot}
use Rattle.search_trees.specs.declared.slots.Slot.TheVariants as slots
use Rattle.search_trees.specs.Slots.{slot_at}

-- a tree of numbers
pub data Shape : Type 0 where
  leaf : (number : ℕ) → Shape
  parts : (number : ℕ) → (low high : Shape) → Shape

abbrev pub numbers : Shape → List ℕ
numbers (leaf n) = n ∷ []
numbers (parts n low high) = n ∷ (numbers low ++ numbers high)

-- the tree of the number, as the slots have it
abbrev pub IsShape : List Slot → ℕ → Shape → Type 0
IsShape ss k (leaf n) = (n ≡ k) × ((c : ℕ) → slot_at ss k ≢ slots.Parts c)
IsShape ss k (parts n low high) = (n ≡ k) × (c : ℕ) × (slot_at ss k ≡ slots.Parts c) × (IsShape ss c low × IsShape ss (suc c) high)

abbrev pub IsPreorder : List Slot → ℕ → List ℕ → Type 0
IsPreorder ss root order = (t : Shape) × IsShape ss root t × (order ≡ numbers t)

-- the parts of a node from the root on are later nodes
abbrev pub AreLater : ℕ → List Slot → Type 0
AreLater root ss = (n c : ℕ) → root ≤ n → slot_at ss n ≡ slots.Parts c → (n < c) × (suc c < length ss)

abbrev pub IsPartOf : ℕ → ℕ → Type 0
IsPartOf c x = (x ≡ c) ⊎ (x ≡ suc c)

-- and those of no other one
abbrev pub AreApart : ℕ → List Slot → Type 0
AreApart root ss = (n k c d x : ℕ) → root ≤ n → root ≤ k → slot_at ss n ≡ slots.Parts c → slot_at ss k ≡ slots.Parts d → IsPartOf c x → IsPartOf d x → n ≡ k

use Rattle.std.proofs.Common.{◌≡◌, ◌+◌, ℕ, suc, List, [], ◌∷◌, ◌++◌, reverse, arith, refl, ap, ◌∙◌, subst}
use Rattle.std.proofs.lemmas.List.{reverse-reverse, length-reverse}
use Rattle.search_trees.specs.declared.slots.Slot.TheVariants as slots
use Rattle.search_trees.specs.Orders.{IsPreorder}
use Rattle.search_trees.specs.Slots.{slot_at}
use Rattle.search_trees.proofs.Walking.{IsWalked, few_walked, start_walk, whole_walk, leaf_walk, parts_walk, walked_at, listed_more, fewer_walked, next_range, same_at, none_left}
use Rattle.search_trees.proofs.order.preorder.Goals as goal

pub loop-number-init : goal.loop-number-init
loop-number-init c =
    walked_at c.args.slots.now c.args.root _ (c.args.root ∷ []) _ [] (c.in_ok-push.ensures.items ∙ ap (λ xs. xs ++ c.args.root ∷ []) c.new-waiting.ensures.items) (ap reverse c.new-order.ensures.items)
    (start_walk c.args.slots.now c.args.root c.requires.root)

pub bounds : goal.bounds
bounds c =
    (next_range c.args.slots.now c.args.root c.in-Some.number c.loop-number.waiting.items c.pop.new.self.items (reverse c.loop-number.order.items) c.loop-number.invariant c.in-Some.ensures.items).1

pub overflow_add-lower : goal.overflow_add-lower
overflow_add-lower c =
    let ss = c.args.slots.now in
    let n = c.in-Some.number in
    let r = next_range ss c.args.root n c.loop-number.waiting.items c.pop.new.self.items (reverse c.loop-number.order.items) c.loop-number.invariant c.in-Some.ensures.items in
    let slot : slot_at ss n ≡ slots.Parts c.in-Parts.lower = same_at ss n slots.Waits _ r.1 ∙ c.in-Parts.is in
    let l = (c.requires.later n c.in-Parts.lower r.0 slot).1 in
    let m = c.if-slots-gt-MOST_NODES.false in
    omega (arith, l, m)

pub loop-number-smaller-in-Continue-branch-4 : goal.loop-number-smaller-in-Continue-branch-4
loop-number-smaller-in-Continue-branch-4 c =
    fewer_walked c.args.slots.now c.args.root c.loop-number.waiting.items c.pop.new.self.items c.loop-number.order.items c.push-in-Some.new.self.items c.in-Some.number c.loop-number.invariant c.in-Some.ensures.items
    c.in_ok-push-2.ensures.items

pub loop-number-preserved-in-Continue-branch-4 : goal.loop-number-preserved-in-Continue-branch-4
loop-number-preserved-in-Continue-branch-4 c =
    let ss = c.args.slots.now in
    let n = c.in-Some.number in
    let low = c.in-Parts.lower in
    let rest = c.pop.new.self.items in
    let order = c.loop-number.order.items in
    let r = next_range ss c.args.root n c.loop-number.waiting.items rest (reverse order) c.loop-number.invariant c.in-Some.ensures.items in
    let slot : slot_at ss n ≡ slots.Parts low = same_at ss n slots.Waits _ r.1 ∙ c.in-Parts.is in
    let next : low + 1 ≡ suc low = omega arith in
    walked_at ss c.args.root _ ((rest ++ suc low ∷ []) ++ low ∷ []) _ (n ∷ reverse order)
    (c.in_ok-push-4.ensures.items ∙ ap (λ (xs : List ℕ). xs ++ low ∷ []) (c.in_ok-push-3.ensures.items ∙ ap (λ (k : ℕ). rest ++ k ∷ []) next))
    (listed_more order c.push-in-Some.new.self.items n c.in_ok-push-2.ensures.items)
    (parts_walk ss c.args.root n low rest (reverse order) c.requires.later c.requires.apart slot
    (subst (λ (w : List ℕ). IsWalked ss c.args.root w (reverse order)) c.in-Some.ensures.items c.loop-number.invariant))

pub loop-number-smaller : goal.loop-number-smaller
loop-number-smaller c =
    fewer_walked c.args.slots.now c.args.root c.loop-number.waiting.items c.pop.new.self.items c.loop-number.order.items c.push-in-Some.new.self.items c.in-Some.number c.loop-number.invariant c.in-Some.ensures.items
    c.in_ok-push-2.ensures.items

pub loop-number-preserved : goal.loop-number-preserved
loop-number-preserved c =
    let ss = c.args.slots.now in
    let n = c.in-Some.number in
    let rest = c.pop.new.self.items in
    let order = c.loop-number.order.items in
    let r = next_range ss c.args.root n c.loop-number.waiting.items rest (reverse order) c.loop-number.invariant c.in-Some.ensures.items in
    walked_at ss c.args.root _ rest _ (n ∷ reverse order) refl (listed_more order c.push-in-Some.new.self.items n c.in_ok-push-2.ensures.items)
    (leaf_walk ss c.args.root n rest (reverse order) (λ k e. c.in_default-slots.not-Parts k (same_at ss n _ slots.Waits r.1 ∙ e))
    (subst (λ (w : List ℕ). IsWalked ss c.args.root w (reverse order)) c.in-Some.ensures.items c.loop-number.invariant))

pub returns-clause-order : goal.returns-clause-order
returns-clause-order c =
    let ss = c.args.slots.now in
    let order = c.loop-number.order.items in
    let e = c.loop-number.waiting.ok.0 in
    let z = c.in_default.ensures.cases.0 in
    let none = none_left c.loop-number.waiting.items (omega (arith, e, z)) in
    subst (IsPreorder ss c.args.root) (reverse-reverse order) (whole_walk ss c.args.root (reverse order) (subst (λ (w : List ℕ). IsWalked ss c.args.root w (reverse order)) none c.loop-number.invariant))

pub returns-clause-few : goal.returns-clause-few
returns-clause-few c =
    let order = c.loop-number.order.items in
    let a = few_walked c.args.slots.now c.args.root c.loop-number.waiting.items (reverse order) c.loop-number.invariant in
    let b = length-reverse order in
    omega (arith, a, b)

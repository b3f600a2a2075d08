-- Going through a tree: what is left to read is the nodes of the parts that wait.
use Rattle.std.proofs.Common.{◌≡◌, ◌↔◌, ℕ, zero, suc, ◌+◌, ◌<◌, refl, sym, ap, ap₂, ◌∙◌, List, [], ◌∷◌, ◌++◌, length, get_or, drop, Option, Some, subst, arith, append-nil, append_assoc, length-append, length-set, length-drop}
use Rattle.std.specs.Prelude.{All, slice_get}
use Rattle.std.specs.List.{AllByRecursion}
use Rattle.std.proofs.lemmas.List.Elements.{All-from_recursion}
use Rattle.std.proofs.Math.Seq.{drop-cons}
use Rattle.fractions.specs.Rational.{ℚ}
use Rattle.linear_models.specs.Box.{Box}
use Rattle.linear_models.specs.Model.{Model}
use Rattle.opt_certificate.specs.Certificate.{Tree, split, best, empty, clash, lower_child, upper_child}
use Rattle.opt_certificate.specs.Nodes.{Node, split_at, best_leaf, empty_leaf, clash_leaf, size, listing, boxed}
use Rattle.opt_certificate.specs.Checks.{NodeProves, NodeIsNarrow}
use Rattle.linear_models.specs.Laws.{IsBoxOf}
use Rattle.opt_certificate.specs.Walk.{parts_of}

-- the nodes of several trees, one behind the other, from a place on
abbrev pub listing_of : ℕ → List (Box × Tree) → List Node
listing_of k [] = []
listing_of k (p ∷ ps) = listing k p.1 ++ listing_of (k + size p.1) ps

-- and with their boxes
abbrev pub boxed_of : List (Box × Tree) → List (Box × Node)
boxed_of [] = []
boxed_of (p ∷ ps) = boxed p.0 p.1 ++ boxed_of ps

-- the waiting boxes, the next one last
abbrev pub stack_of : List (Box × Tree) → List Box
stack_of [] = []
stack_of (p ∷ ps) = stack_of ps ++ p.0 ∷ []

-- what is left to read from the place k on, and what waits
pub record Walk (n : Model) (nodes : List Node) (all : List (Box × Node)) (k : ℕ) (boxes : List Box) : Type 0 where
  pub pending : List (Box × Tree)
  pub stack : boxes ≡ stack_of pending
  pub listed : drop k nodes ≡ listing_of k pending
  pub rest : drop k all ≡ boxed_of pending
  pub sized : AllByRecursion (λ (p : Box × Tree). IsBoxOf n p.0) pending

pub start : (n : Model) (box : Box) (t : Tree) (nodes : List Node) → nodes ≡ listing 0 t → IsBoxOf n box → Walk n nodes (boxed box t) 0 (box ∷ [])
start n box t nodes e s = record { pending = (box, t) ∷ []; stack = refl; listed = e ∙ sym (append-nil (listing 0 t)); rest = sym (append-nil (boxed box t)); sized = (s, tt) }

all_sized : (n : Model) (ps : List (Box × Tree)) → AllByRecursion (λ (p : Box × Tree). IsBoxOf n p.0) ps → AllByRecursion (IsBoxOf n) (stack_of ps)
all_sized n [] h = tt
all_sized n (p ∷ ps) h = joined (stack_of ps) (all_sized n ps h.1) h.0
  where
    joined : (bs : List Box) → AllByRecursion (IsBoxOf n) bs → IsBoxOf n p.0 → AllByRecursion (IsBoxOf n) (bs ++ p.0 ∷ [])
    joined [] g s = (s, tt)
    joined (b ∷ bs) g s = (g.0, joined bs g.1 s)

pub boxes_sized : (n : Model) (nodes : List Node) (all : List (Box × Node)) (k : ℕ) (boxes : List Box) → Walk n nodes all k boxes → All (IsBoxOf n) boxes
boxes_sized n nodes all k boxes w = All-from_recursion (IsBoxOf n) boxes (subst (AllByRecursion (IsBoxOf n)) (sym w.stack) (all_sized n w.pending w.sized))

-- ---- the front of what is left
pub record Front {X : Type 0} (xs : List X) (k : ℕ) (x : X) (ys : List X) : Type 0 where
  pub element : slice_get xs k ≡ Some x
  pub others : drop (suc k) xs ≡ ys
  pub within : k < length xs

peel : {X : Type 0} (xs : List X) (k : ℕ) (x : X) (ys : List X) → drop k xs ≡ x ∷ ys → Front xs k x ys
peel [] zero x ys e = cc
peel [] (suc k) x ys e = cc
peel (a ∷ xs) zero x ys e = record { element = cc; others = cc; within = omega arith }
peel (a ∷ xs) (suc k) x ys e = let f = peel xs k x ys e in record { element = f.element; others = f.others; within = omega (arith, f.within) }

-- a node, where its box waits, and how the walk goes on
pub record Top (n : Model) (nodes : List Node) (all : List (Box × Node)) (k : ℕ) (boxes : List Box) (node : Node) : Type 0 where
  pub rest : List Box
  pub box : Box
  pub stack : boxes ≡ rest ++ box ∷ []
  pub here : Box × Node
  pub element : slice_get all k ≡ Some here
  pub proves : (m : Model) (target : Option ℚ) → NodeProves m target here ↔ NodeProves m target (box, node)
  pub narrow : (m : Model) → NodeIsNarrow m here ↔ NodeIsNarrow m (box, node)
  pub next : (new : List Box) → new ≡ rest ++ parts_of box node → Walk n nodes all (suc k) new

heads : {X : Type 0} (x y : X) (xs ys : List X) → x ∷ xs ≡ y ∷ ys → x ≡ y
heads x y xs ys e = cc

tails : {X : Type 0} (x y : X) (xs ys : List X) → x ∷ xs ≡ y ∷ ys → xs ≡ ys
tails x y xs ys e = cc

read_front : (nodes : List Node) (k : ℕ) (node first : Node) (others : List Node) → k < length nodes → node ≡ get_or nodes k node → drop k nodes ≡ first ∷ others → (node ≡ first) × (drop (suc k) nodes ≡ others)
read_front nodes k node first others h e d =
    let q : get_or nodes k node ∷ drop (suc k) nodes ≡ first ∷ others = sym (drop-cons nodes k node h) ∙ d in
    (e ∙ heads _ _ _ _ q, tails _ _ _ _ q)

pub top : (n : Model) (nodes : List Node) (all : List (Box × Node)) (k : ℕ) (boxes : List Box) (node : Node) → k < length nodes → node ≡ get_or nodes k node → Walk n nodes all k boxes → Top n nodes all k boxes node
top n nodes all k boxes node h e w = cases w.pending w.stack w.listed w.rest w.sized
  where
    leaf : (b : Box) (l : Node) (ps : List (Box × Tree)) → boxes ≡ stack_of ps ++ b ∷ [] → drop k nodes ≡ l ∷ listing_of (k + 1) ps → drop k all ≡ (b, l) ∷ boxed_of ps
        → AllByRecursion (λ (p : Box × Tree). IsBoxOf n p.0) ps → ((b : Box) → parts_of b l ≡ []) → Top n nodes all k boxes node
    leaf b l ps s d r z none =
        let f = read_front nodes k node l (listing_of (k + 1) ps) h e d in
        let g = peel all k (b, l) (boxed_of ps) r in
        record {
          rest = stack_of ps;
          box = b;
          stack = s;
          here = (b, l);
          element = g.element;
          proves = λ m target. (subst (λ (x : Node). NodeProves m target (b, x)) (sym f.0), subst (λ (x : Node). NodeProves m target (b, x)) f.0);
          narrow = λ m. (subst (λ (x : Node). NodeIsNarrow m (b, x)) (sym f.0), subst (λ (x : Node). NodeIsNarrow m (b, x)) f.0);
          next = λ new q. record {
            pending = ps;
            stack = q ∙ ap (λ (x : Node). stack_of ps ++ parts_of b x) f.0 ∙ ap (λ (xs : List Box). stack_of ps ++ xs) (none b) ∙ append-nil (stack_of ps);
            listed = f.1 ∙ ap (λ (i : ℕ). listing_of i ps) (omega arith);
            rest = g.others;
            sized = z;
          };
        }

    parts : (j : ℕ) (f : Rattle.std.specs.Prelude.ℤ) (l u : Tree) (b : Box) (ps : List (Box × Tree)) → boxes ≡ stack_of ps ++ b ∷ []
        → drop k nodes ≡ split_at j f (k + 1) (k + (1 + size l)) ∷ ((listing (k + 1) l ++ listing (k + (1 + size l)) u) ++ listing_of (k + (1 + (size l + size u))) ps)
        → drop k all ≡ (b, split_at j f 0 0) ∷ ((boxed (lower_child b j f) l ++ boxed (upper_child b j f) u) ++ boxed_of ps)
        → IsBoxOf n b → AllByRecursion (λ (p : Box × Tree). IsBoxOf n p.0) ps → Top n nodes all k boxes node
    parts j f l u b ps s d r z zs =
        let fr = read_front nodes k node _ _ h e d in
        let g = peel all k (b, split_at j f 0 0) _ r in
        record {
          rest = stack_of ps;
          box = b;
          stack = s;
          here = (b, split_at j f 0 0);
          element = g.element;
          proves = λ m target. (subst (λ (x : Node). NodeProves m target (b, x)) (sym fr.0), subst (λ (x : Node). NodeProves m target (b, x)) fr.0);
          narrow = λ m. (subst (λ (x : Node). NodeIsNarrow m (b, x)) (sym fr.0), subst (λ (x : Node). NodeIsNarrow m (b, x)) fr.0);
          next = λ new q. record {
            pending = (lower_child b j f, l) ∷ (upper_child b j f, u) ∷ ps;
            stack = q ∙ ap (λ (x : Node). stack_of ps ++ parts_of b x) fr.0 ∙ sym (append_assoc (stack_of ps) (upper_child b j f ∷ []) (lower_child b j f ∷ []));
            listed = fr.1 ∙ append_assoc (listing (k + 1) l) (listing (k + (1 + size l)) u) _ ∙ moved l u ps (k + 1) (suc k) (k + (1 + size l)) (suc k + size l) (k + (1 + (size l + size u))) ((suc k + size l) + size u) (omega arith) (omega arith) (omega arith);
            rest = g.others ∙ append_assoc (boxed (lower_child b j f) l) (boxed (upper_child b j f) u) (boxed_of ps);
            sized = (record { least = z.least; greatest = length-set b.greatest j _ ∙ z.greatest }, (record { least = length-set b.least j _ ∙ z.least; greatest = z.greatest }, zs));
          };
        }
      where
        moved : (l u : Tree) (ps : List (Box × Tree)) (a a' c c' v v' : ℕ) → a ≡ a' → c ≡ c' → v ≡ v'
            → listing a l ++ (listing c u ++ listing_of v ps) ≡ listing a' l ++ (listing c' u ++ listing_of v' ps)
        moved l u ps a a' c c' v v' p q r = ap₂ (λ x y. listing x l ++ y) p (ap₂ (λ x y. listing x u ++ listing_of y ps) q r)

    cases : (ps : List (Box × Tree)) → boxes ≡ stack_of ps → drop k nodes ≡ listing_of k ps → drop k all ≡ boxed_of ps → AllByRecursion (λ (p : Box × Tree). IsBoxOf n p.0) ps → Top n nodes all k boxes node
    cases [] s d r z = absurd (omega (arith, ap length d, length-drop k nodes))
    cases ((b, split j f l u) ∷ ps) s d r z = parts j f l u b ps s d r z.0 z.1
    cases ((b, best ys) ∷ ps) s d r z = leaf b (best_leaf ys) ps s d r z.1 (λ b. refl)
    cases ((b, empty ys) ∷ ps) s d r z = leaf b (empty_leaf ys) ps s d r z.1 (λ b. refl)
    cases ((b, clash i j) ∷ ps) s d r z = leaf b (clash_leaf i j) ps s d r z.1 (λ b. refl)

-- ---- how many there are
pub length-listing : (k : ℕ) (t : Tree) → length (listing k t) ≡ size t
length-listing k (split j f l u) = omega (arith, length-append (listing (k + 1) l) (listing (k + (1 + size l)) u), length-listing (k + 1) l, length-listing (k + (1 + size l)) u)
length-listing k (best ys) = refl
length-listing k (empty ys) = refl
length-listing k (clash i j) = refl

pub length-boxed : (box : Box) (t : Tree) → length (boxed box t) ≡ size t
length-boxed box (split j f l u) = omega (arith, length-append (boxed (lower_child box j f) l) (boxed (upper_child box j f) u), length-boxed (lower_child box j f) l, length-boxed (upper_child box j f) u)
length-boxed box (best ys) = refl
length-boxed box (empty ys) = refl
length-boxed box (clash i j) = refl

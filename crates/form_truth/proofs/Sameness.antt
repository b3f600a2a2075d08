-- Values that pass the test of equality are equal.
use Rattle.std.specs.Prelude.{◌==◌, ◌&&◌}
use Rattle.std.proofs.Common.{◌≡◌, refl, sym, ap, ap₂, ◌∙◌, Bool, true, false, true≢false, if◌then◌else◌, List, [], ◌∷◌, ℕ}
use Rattle.std.proofs.lemmas.Bool.{eqb-true}
use Rattle.fractions.proofs.Order.{eq_iff}
use Rattle.cell_refs.specs.declared.error_kind.ErrorKind.{ErrorKind}
use Rattle.cell_refs.specs.declared.error_kind.ErrorKind.TheVariants as kind
use Rattle.sheet_model.specs.declared.value.Value.{Value}
use Rattle.sheet_model.specs.declared.value.Value.TheVariants.{Number, Text, Logical, Empty, Error}
use Rattle.affine_forms.specs.Forms.{same_form}
use Rattle.affine_forms.proofs.Multiples.{same_form_is}
use Rattle.form_values.specs.Grids.{Raster}
use Rattle.affine_forms.specs.declared.rel.Rel.{Rel}
use Rattle.affine_forms.specs.declared.rel.Rel.TheVariants as rel
use Rattle.form_values.proofs.Opening.{same_open}
use Rattle.form_values.specs.declared.abs.Abs.{Abs}
use Rattle.form_values.specs.declared.abs.Abs.TheVariants.{Known, Affine, Test}
use Rattle.form_values.specs.declared.abs.AbsArg.{AbsArg}
use Rattle.form_values.specs.declared.abs.AbsArg.TheVariants.{One, Area}
use Rattle.form_table.specs.Choosing.{same_text, same_logical, place_of, same_value, order_of, same_abs, same_items, same_arg}

pub both_true : (p q : Bool) → (p && q) ≡ true → (p ≡ true) × (q ≡ true)
both_true true q h = (refl, h)
both_true false q h = absurd (true≢false (sym h))

same_text_is : (s t : List ℕ) → same_text s t ≡ true → s ≡ t
same_text_is [] [] h = refl
same_text_is [] (c ∷ t) h = absurd (true≢false (sym h))
same_text_is (b ∷ s) [] h = absurd (true≢false (sym h))
same_text_is (b ∷ s) (c ∷ t) h =
    let a = both_true (b == c) (same_text s t) h in
    let e : b ≡ c = eqb-true b c a.0 in
    let r = same_text_is s t a.1 in
    λ i. (e i) ∷ (r i)

same_logical_is : (a b : Bool) → same_logical a b ≡ true → a ≡ b
same_logical_is true b h = sym h
same_logical_is false true h = absurd (true≢false (sym h))
same_logical_is false false h = refl

-- an error by its place
error_at : ℕ → ErrorKind
error_at n =
    if n == 0 then kind.Div0 else if n == 1 then kind.Value else if n == 2 then kind.Ref else if n == 3 then kind.Num
    else if n == 4 then kind.NotAvailable else if n == 5 then kind.Circular else kind.Malformed

error_back : (k : ErrorKind) → error_at (place_of k) ≡ k
unfolding error_at
error_back kind.Div0 = refl
error_back kind.Value = refl
error_back kind.Ref = refl
error_back kind.Num = refl
error_back kind.NotAvailable = refl
error_back kind.Circular = refl
error_back kind.Malformed = refl

pub same_error_is : (k l : ErrorKind) → (place_of k == place_of l) ≡ true → k ≡ l
same_error_is k l h = sym (error_back k) ∙ ap error_at (eqb-true (place_of k) (place_of l) h) ∙ error_back l

relation_at : ℕ → Rel
relation_at n = if n == 0 then rel.Lt else if n == 1 then rel.Le else if n == 2 then rel.Eq else if n == 3 then rel.Ne else if n == 4 then rel.Ge else rel.Gt

relation_back : (r : Rel) → relation_at (order_of r) ≡ r
unfolding relation_at
relation_back rel.Lt = refl
relation_back rel.Le = refl
relation_back rel.Eq = refl
relation_back rel.Ne = refl
relation_back rel.Ge = refl
relation_back rel.Gt = refl

same_relation_is : (r s : Rel) → (order_of r == order_of s) ≡ true → r ≡ s
same_relation_is r s h = sym (relation_back r) ∙ ap relation_at (eqb-true (order_of r) (order_of s) h) ∙ relation_back s

same_value_is : (v w : Value) → same_value v w ≡ true → v ≡ w
same_value_is (Number x) (Number y) h = ap Number ((eq_iff x y).0 h)
same_value_is (Text s) (Text t) h = ap Text (same_text_is s t h)
same_value_is (Logical a) (Logical b) h = ap Logical (same_logical_is a b h)
same_value_is Empty Empty h = refl
same_value_is (Error k) (Error l) h = ap Error (same_error_is k l h)
same_value_is (Number x) (Text t) h = cc
same_value_is (Number x) (Logical b) h = cc
same_value_is (Number x) Empty h = cc
same_value_is (Number x) (Error k) h = cc
same_value_is (Text s) (Number x) h = cc
same_value_is (Text s) (Logical b) h = cc
same_value_is (Text s) Empty h = cc
same_value_is (Text s) (Error k) h = cc
same_value_is (Logical a) (Number x) h = cc
same_value_is (Logical a) (Text t) h = cc
same_value_is (Logical a) Empty h = cc
same_value_is (Logical a) (Error k) h = cc
same_value_is Empty (Number x) h = cc
same_value_is Empty (Text t) h = cc
same_value_is Empty (Logical b) h = cc
same_value_is Empty (Error k) h = cc
same_value_is (Error k) (Number x) h = cc
same_value_is (Error k) (Text t) h = cc
same_value_is (Error k) (Logical b) h = cc
same_value_is (Error k) Empty h = cc

same_abs_is : (a b : Abs) → same_abs a b ≡ true → a ≡ b
same_abs_is (Known v) (Known w) h = ap Known (same_value_is v w h)
same_abs_is (Affine o) (Affine p) h = ap Affine (same_open o p (same_form_is o.form p.form h))
same_abs_is (Test o r) (Test p s) h =
    let a = both_true (same_form o.form p.form) _ h in ap₂ Test (same_open o p (same_form_is o.form p.form a.0)) (same_relation_is r s a.1)
same_abs_is (Known v) (Affine g) h = cc
same_abs_is (Known v) (Test g s) h = cc
same_abs_is (Affine f) (Known w) h = cc
same_abs_is (Affine f) (Test g s) h = cc
same_abs_is (Test f r) (Known w) h = cc
same_abs_is (Test f r) (Affine g) h = cc

same_items_is : (as_ bs : List Abs) → same_items as_ bs ≡ true → as_ ≡ bs
same_items_is [] [] h = refl
same_items_is [] (b ∷ bs) h = absurd (true≢false (sym h))
same_items_is (a ∷ rest) [] h = absurd (true≢false (sym h))
same_items_is (a ∷ rest) (b ∷ bs) h =
    let p = both_true (same_abs a b) _ h in
    let e = same_abs_is a b p.0 in
    let r = same_items_is rest bs p.1 in
    λ i. (e i) ∷ (r i)

same_raster_is : (g h : Raster) → ((g.rows == h.rows) && ((g.columns == h.columns) && same_items g.items h.items)) ≡ true → g ≡ h
same_raster_is g h e =
    let p = both_true (g.rows == h.rows) _ e in
    let q = both_true (g.columns == h.columns) _ p.1 in
    let r : g.rows ≡ h.rows = eqb-true g.rows h.rows p.0 in
    let c : g.columns ≡ h.columns = eqb-true g.columns h.columns q.0 in
    let s = same_items_is g.items h.items q.1 in
    λ i. record { rows = r i; columns = c i; items = s i }

pub same_arg_is : (a b : AbsArg) → same_arg a b ≡ true → a ≡ b
same_arg_is (One a) (One b) h = ap One (same_abs_is a b h)
same_arg_is (Area g) (Area k) h = ap Area (same_raster_is g k h)
same_arg_is (One a) (Area g) h = cc
same_arg_is (Area g) (One b) h = cc

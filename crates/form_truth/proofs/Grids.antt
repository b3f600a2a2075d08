-- A grid with an element that varies.
use Rattle.std.specs.Prelude.{slice_get}
use Rattle.std.proofs.Common.{◌≡◌, sym, ap, ◌∙◌, List, [], ◌∷◌, map, ℕ, zero, suc, Some}
use Rattle.sheet_model.specs.declared.value.Value.{Value}
use Rattle.sheet_model.specs.declared.grid.Arg.TheVariants as arg
use Rattle.form_values.specs.Grids.{Raster}
use Rattle.form_values.specs.Meaning.{abs_at, arg_at}
use Rattle.form_values.specs.Refusals.{Varies}
use Rattle.form_values.specs.declared.abs.Abs.{Abs}
use Rattle.form_values.specs.declared.abs.AbsArg.TheVariants.{Area}

-- an element of some, with what it is told to be
pub record At (items : List Abs) (P : Abs → Type 0) : Type 0 where
  pub place : ℕ
  pub element : Abs
  pub is_there : slice_get items place ≡ Some element
  pub so : P element

-- an element of what is done to each
mapped_get : (v : Abs → Value) (items : List Abs) (n : ℕ) (a : Abs) → slice_get items n ≡ Some a → slice_get (map v items) n ≡ Some (v a)
mapped_get v [] n a e = cc
mapped_get v (b ∷ items) zero a e = let s : b ≡ a = cc in ap (λ b. Some (v b)) s
mapped_get v (b ∷ items) (suc n) a e = mapped_get v items n a e

same_area : (g h : _) → arg.Area g ≡ arg.Area h → g ≡ h
same_area g h e = cc

some_same : (v w : Value) → Some v ≡ Some w → v ≡ w
some_same v w e = cc

-- a grid with an element that varies
pub grid_varies : (g : Raster) → At g.items (λ a. Varies (λ x. abs_at x a)) → Varies (λ x. arg_at x (Area g))
grid_varies g h =
    record {
      one = h.so.one;
      other = h.so.other;
      differ = λ e.
          h.so.differ
          (some_same _ _
          (sym (mapped_get (abs_at h.so.one) g.items h.place h.element h.is_there) ∙ ap (λ (r : Rattle.sheet_model.specs.Grids.Rectangle). slice_get r.items h.place) (same_area _ _ e)
          ∙ mapped_get (abs_at h.so.other) g.items h.place h.element h.is_there));
    }

-- The one value of an argument under an assignment.
use Rattle.std.specs.List.{AllByRecursion}
use Rattle.std.proofs.Common.{◌≡◌, refl, sym, ap, ◌∙◌, List, [], ◌∷◌, map}
use Rattle.sheet_funcs.specs.Arguments as arguments
use Rattle.affine_forms.specs.Forms.{Assignment}
use Rattle.form_values.specs.Meaning.{abs_at, arg_at, elements_of}
use Rattle.form_values.proofs.Opening.{IsAbs}
use Rattle.form_values.specs.Refusals.{Varies}
use Rattle.form_values.specs.declared.abs.Abs.{Abs}
use Rattle.form_values.specs.declared.abs.AbsArg.{AbsArg}
use Rattle.form_values.specs.declared.abs.AbsArg.TheVariants.{One, Area}
use Rattle.form_table.specs.Wanted.{value_of, only_of}

only_at : (x : Assignment) (items : List Abs) → arguments.only_of (map (abs_at x) items) ≡ abs_at x (only_of items)
only_at x [] = refl
only_at x (a ∷ []) = refl
only_at x (a ∷ b ∷ items) = refl

pub value_at : (x : Assignment) (a : AbsArg) → arguments.value_of (arg_at x a) ≡ abs_at x (value_of a)
value_at x (One a) = refl
value_at x (Area g) = only_at x g.items

only_sound : (items : List Abs) → AllByRecursion IsAbs items → IsAbs (only_of items)
only_sound [] h = tt
only_sound (a ∷ []) h = h.0
only_sound (a ∷ b ∷ items) h = tt

pub value_sound : (a : AbsArg) → AllByRecursion IsAbs (elements_of a) → IsAbs (value_of a)
value_sound (One a) h = h.0
value_sound (Area g) h = only_sound g.items h

-- an argument varies where its one value does
pub argument_varies : (a : AbsArg) → Varies (λ x. abs_at x (value_of a)) → Varies (λ x. arg_at x a)
argument_varies a v = record { one = v.one; other = v.other; differ = λ e. v.differ (sym (value_at v.one a) ∙ ap arguments.value_of e ∙ value_at v.other a) }

use Rattle.std.proofs.Common.{ap, sym, ◌∙◌}
use Rattle.fractions.specs.Rational.{neg_ℚ}
use Rattle.sheet_funcs.specs.Lookups.{kind_of}
use Rattle.form_areas.proofs.KnownKeys.{equal_asked, falling_asked, rising_asked}
use Rattle.form_areas.proofs.records.number_of.Goals as goal

pub returns-in-Equal : goal.returns-in-Equal
returns-in-Equal c = ap kind_of c.zero.ensures ∙ equal_asked ∙ sym c.in-Equal.is

pub returns-in-Rising : goal.returns-in-Rising
returns-in-Rising c = ap kind_of c.one.ensures ∙ rising_asked ∙ sym c.in-Rising.is

pub returns-in-Falling : goal.returns-in-Falling
returns-in-Falling c = ap kind_of (c.neg.ensures ∙ ap neg_ℚ c.one-in-Falling.ensures) ∙ falling_asked ∙ sym c.in-Falling.is

-- The examples are computed.
use Rattle.std.proofs.Common.{refl}
use Rattle.formula_lexer.specs.Front.{quoted_len}
use Rattle.text_laws.specs.Examples.{Hold, numbers, others, quotes}

pub numbers_hold : Hold numbers
numbers_hold = (refl, (refl, (refl, (refl, (refl, tt)))))

pub quotes_hold : Hold quotes
unfolding quoted_len
quotes_hold = (refl, (refl, (refl, (refl, tt))))

pub others_hold : Hold others
others_hold = (refl, (refl, (refl, (refl, (refl, (refl, (refl, tt)))))))

use Rattle.text_laws.proofs.References.{references, words}
use Rattle.text_laws.proofs.references_are_spelled.Goals as goal

pub returns : goal.returns
returns c = record { references = references; words = words }

use Rattle.commands.proofs.Spelled as read
use Rattle.commands.proofs.Unspelled as told
use Rattle.commands.proofs.laws.addresses_are_spelled.Goals as goal

pub returns : goal.returns
returns c = λ text a. (read.spelled text a, told.read text a)

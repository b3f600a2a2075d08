use Rattle.searches.proofs.Going.{search_goes_on}
use Rattle.searches.proofs.search_goes_on.Goals as goal

pub returns : goal.returns
returns c = search_goes_on

use Rattle.search_paths.proofs.ByExample.{boxes_are_led}
use Rattle.search_paths.proofs.examples_hold.Goals as goal

pub returns : goal.returns
returns c = boxes_are_led

use Rattle.workbook.proofs.OneWay.{opened_in_one_way}
use Rattle.workbook.proofs.open.files_open_in_one_way.Goals as goal

pub returns : goal.returns
returns c = opened_in_one_way

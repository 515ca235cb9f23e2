use Rattle.values.proofs.Made.{some_serial}
use Rattle.values.proofs.kinds.SerialKind.from_pattern.Goals as goal

pub returns : goal.returns
returns c = some_serial _ _ _

use Rattle.std.proofs.Common.{◌^◌, ◌<◌, arith}
use native.Mathlib.Decide.{dec_lt}
use Rattle.values.specs.Patterns.{count_of}
use Rattle.values.proofs.Made.{some_stamp}
use Rattle.values.proofs.kinds.StampKind.from_pattern.Goals as goal

pub returns : goal.returns
returns c =
    let h : c.args.pattern < 2 ^ 18 = omega arith in
    some_stamp c.args.pattern (dec_lt c.args.pattern (2 ^ 18)) (dec_lt 0 (count_of c.args.pattern)) h _ _ _

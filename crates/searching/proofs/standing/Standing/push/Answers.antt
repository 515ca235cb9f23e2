-- The window is moved over a state that still holds.
use Rattle.std.proofs.Common.{arith}
use Rattle.searching.proofs.Masked.{holds_more}
use Rattle.searching.proofs.standing.Standing.push.Goals as goal

pub move_window-requires : goal.move_window-requires
move_window-requires c = (holds_more c.args.self.now c.args.write _ _ c.requires.0 (omega arith) (omega arith), omega arith)

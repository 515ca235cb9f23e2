use Rattle.std.proofs.Common.{◌/◌, ◌^◌, eqb, sym, ap, ◌∙◌, arith, le-ltb}
use lib.Bits.{and_mask}
use Rattle.masks.proofs.Bits.{no_bit}
use Rattle.masks.proofs.has_bit.Goals as goal

pub returns-then-bit-lt64 : goal.returns-then-bit-lt64
returns-then-bit-lt64 c = ap (λ n. eqb n 1) (and_mask (c.args.mask / 2 ^ c.args.bit) 1)

pub returns-else-bit-lt64 : goal.returns-else-bit-lt64
returns-else-bit-lt64 c = le-ltb c.args.bit 64 c.if-bit-lt64.false ∙ sym (no_bit c.args.mask c.args.bit (omega arith) c.if-bit-lt64.false)

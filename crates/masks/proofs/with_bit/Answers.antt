use Rattle.std.proofs.Common.{◌^◌, ◌||◌, ap, ◌∙◌, arith}
use lib.Bits.{bit_or}
use Rattle.std.proofs.lemmas.Nat.{one_shl}
use Rattle.masks.specs.Masks.{has_bit}
use Rattle.masks.proofs.Bits.{or_bit, one_bit}
use Rattle.masks.proofs.with_bit.Goals as goal

pub returns-then-bit-lt64 : goal.returns-then-bit-lt64
returns-then-bit-lt64 c =
    let mask = c.args.mask in let bit = c.args.bit in
    record {
      below = λ _ b. ap (λ n. has_bit (bit_or mask n) b) (one_shl bit 64 (omega arith)) ∙ or_bit mask (2 ^ bit) b ∙ ap (λ t. has_bit mask b || t) (one_bit bit b);
      above = λ h. absurd (omega arith);
    }

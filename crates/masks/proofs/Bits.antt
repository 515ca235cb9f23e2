-- The bits of a union, and of a single bit. Assumes nothing.
use Rattle.std.proofs.Common.{◌≡◌, ℕ, zero, suc, ◌/◌, ◌%◌, ◌^◌, ◌<◌, ◌≤◌, false, ◌||◌, eqb, sym, refl, ap, ◌∙◌, pow-suc, one-add, arith, pow_pos, pow_mono}
use native.Mathlib.Nat.{div-eq_of_lt}
use lib.Bits.{bit_or, or_shr, or_mod}
use lib.Dec.{eqb-zero-suc, eqb-suc-zero, eqb-suc-suc}
use Rattle.std.proofs.lemmas.Nat.{shr-shr, shl-shr}
use Rattle.masks.specs.Masks.{has_bit}

two_bits : (u v : ℕ) → u < 2 → v < 2 → eqb (bit_or u v) 1 ≡ (eqb u 1 || eqb v 1)
two_bits zero zero h k = refl
two_bits zero (suc zero) h k = refl
two_bits zero (suc (suc v)) h k = absurd (omega arith)
two_bits (suc zero) zero h k = refl
two_bits (suc zero) (suc zero) h k = refl
two_bits (suc zero) (suc (suc v)) h k = absurd (omega arith)
two_bits (suc (suc u)) v h k = absurd (omega arith)

pub or_bit : (a c b : ℕ) → has_bit (bit_or a c) b ≡ (has_bit a b || has_bit c b)
or_bit a c b =
    ap (λ n. eqb (n % 2) 1) (or_shr a c b) ∙ ap (λ n. eqb n 1) (or_mod (a / 2 ^ b) (c / 2 ^ b) 1)
    ∙ two_bits (a / 2 ^ b % 2) (c / 2 ^ b % 2) (omega arith) (omega arith)

half : (x b : ℕ) → 2 ^ suc x / 2 ^ suc b ≡ 2 ^ x / 2 ^ b
half x b =
    ap (λ n. 2 ^ suc x / 2 ^ n) (sym (one-add b)) ∙ sym (shr-shr (2 ^ suc x) 1 b)
    ∙ ap (λ n. n / 2 / 2 ^ b) (pow-suc 2 x) ∙ ap (λ n. n / 2 ^ b) (shl-shr (2 ^ x) 1)

pub one_bit : (x b : ℕ) → has_bit (2 ^ x) b ≡ eqb x b
one_bit zero zero = refl
one_bit zero (suc b) =
    let p = pow_pos b in let q = pow-suc 2 b in
    let h : 1 < 2 ^ suc b = omega arith in
    ap (λ n. eqb (n % 2) 1) (div-eq_of_lt h) ∙ sym (eqb-zero-suc b)
one_bit (suc x) zero =
    let q = pow-suc 2 x in
    let h : 2 ^ suc x / 1 % 2 ≡ 0 = omega arith in
    ap (λ n. eqb n 1) h ∙ sym (eqb-suc-zero x)
one_bit (suc x) (suc b) = ap (λ n. eqb (n % 2) 1) (half x b) ∙ one_bit x b ∙ sym (eqb-suc-suc x b)

-- a mask of 64 bits has none above 63
pub no_bit : (mask b : ℕ) → mask < 2 ^ 64 → 64 ≤ b → has_bit mask b ≡ false
no_bit mask b h k =
    let p = pow_mono {i = 64} {j = b} k in
    let small : mask < 2 ^ b = omega arith in
    ap (λ n. eqb (n % 2) 1) (div-eq_of_lt small)

-- Masks as sets of numbers.
use Rattle.std.proofs.Common.{◌≡◌, ℕ, zero, suc, ◌+◌, ◌-◌, ◌*◌, ◌/◌, ◌%◌, ◌^◌, ◌<◌, ◌≤◌, ◌≢◌, ◌⊎◌, List, [], ◌∷◌, length, get_or, drop, sym, ap, ◌∙◌, subst, ap₂, inl, inr, ⊎_elim, add-mul, pow-suc, arith}
use native.Mathlib.Nat.{zero-div, div_self, div-eq_of_lt}
use lib.Bits.{bit_and, bit_xor, and_shr, xor_shr, and_mod, xor_mod, and_zero_r, xor_zero_r}
use Rattle.std.proofs.lemmas.Nat.{shr-shr, shl-shr, pow_pos, pow_below, pow-add, div-mul-add}
use Rattle.std.proofs.lemmas.Bool.{cases_eq, cases_lt}
use Rattle.searching.proofs.Members.{Diff, diff_tail}

abbrev bit : ℕ → ℕ → ℕ
bit m v = m / 2 ^ v % 2

abbrev pub Has : ℕ → ℕ → Type 0
Has m v = bit m v ≡ 1

-- the mask of a list of different numbers
abbrev pub mask : List ℕ → ℕ
mask [] = 0
mask (w ∷ q) = bit_xor (mask q) (2 ^ w)

bit-bit_and : (a b v : ℕ) → bit (bit_and a b) v ≡ bit_and (bit a v) (bit b v)
bit-bit_and a b v = ap (λ x. x % 2) (and_shr a b v) ∙ and_mod (a / 2 ^ v) (b / 2 ^ v) 1

bit-bit_xor : (a b v : ℕ) → bit (bit_xor a b) v ≡ bit_xor (bit a v) (bit b v)
bit-bit_xor a b v = ap (λ x. x % 2) (xor_shr a b v) ∙ xor_mod (a / 2 ^ v) (b / 2 ^ v) 1

bit_half : (a v : ℕ) → bit (a / 2) v ≡ bit a (1 + v)
bit_half a v = ap (λ x. x % 2) (shr-shr a 1 v)

-- a mask is known by its bits
same_within : (f a b : ℕ) → a ≤ f → b ≤ f → ((v : ℕ) → bit a v ≡ bit b v) → a ≡ b
same_within zero a b ha hb h = omega arith
same_within (suc f) a b ha hb h =
    let half : a / 2 ≡ b / 2 = same_within f (a / 2) (b / 2) (omega arith) (omega arith) (λ v. bit_half a v ∙ h (1 + v) ∙ sym (bit_half b v)) in
    let low : a / 1 % 2 ≡ b / 1 % 2 = h 0 in
    omega arith

pub same_bits : (a b : ℕ) → ((v : ℕ) → bit a v ≡ bit b v) → a ≡ b
same_bits a b h = same_within (a + b) a b (omega arith) (omega arith) h

-- a bit is 0 or 1
pub two_ways : (m v : ℕ) → (bit m v ≡ 0) ⊎ (bit m v ≡ 1)
two_ways m v = ⊎_elim (λ e. inl e) (λ ne. inr (omega arith)) (cases_eq (bit m v) 0)

no_bit : (v : ℕ) → bit 0 v ≡ 0
no_bit v = ap (λ x. x % 2) (zero-div (2 ^ v))

pub apart : (a b : ℕ) → bit_and a b ≡ 0 → (v : ℕ) → Has a v → Has b v → ⊥
apart a b e v x y =
    let z : bit 0 v ≡ bit_and (bit a v) (bit b v) = ap (λ m. bit m v) (sym e) ∙ bit-bit_and a b v in
    let o : bit_and (bit a v) (bit b v) ≡ 1 = ap₂ bit_and x y in
    omega (arith, no_bit v)

pub and_apart : (a b : ℕ) → ((v : ℕ) → Has a v → Has b v → ⊥) → bit_and a b ≡ 0
and_apart a b h =
    same_bits (bit_and a b) 0 (λ v.
    bit-bit_and a b v
    ∙ ⊎_elim
    (λ x. ap (λ y. bit_and y (bit b v)) x)
    (λ x. ⊎_elim (λ y. ap (bit_and (bit a v)) y ∙ and_zero_r (bit a v)) (λ y. absurd (h v x y)) (two_ways b v))
    (two_ways a v)
    ∙ sym (no_bit v))

bit_own : (w : ℕ) → bit (2 ^ w) w ≡ 1
bit_own w = ap (λ x. x % 2) (div_self (pow_pos w))

bit_other : (w v : ℕ) → v ≢ w → bit (2 ^ w) v ≡ 0
bit_other w v ne =
    ⊎_elim
    (λ lt. ap (λ x. x % 2) (div-eq_of_lt (pow_below w v lt)))
    (λ le.
    let s : w ≡ suc (w - v - 1) + v = omega arith in
    let e : 2 ^ w ≡ 2 ^ suc (w - v - 1) * 2 ^ v = ap (λ x. 2 ^ x) s ∙ pow-add 2 (suc (w - v - 1)) v in
    ap (λ x. x / 2 ^ v % 2) e ∙ ap (λ x. x % 2) (shl-shr (2 ^ suc (w - v - 1)) v) ∙ ap (λ x. x % 2) (pow-suc 2 (w - v - 1)) ∙ twice (2 ^ (w - v - 1)))
    (cases_lt w v)
  where
    twice : (x : ℕ) → x * 2 % 2 ≡ 0
    twice x = omega arith

pub diff_drop : (j : ℕ) (r : List ℕ) → Diff r → Diff (drop j r)
diff_drop zero r d = d
diff_drop (suc j) [] d = d
diff_drop (suc j) (w ∷ q) d = diff_drop j q (diff_tail w q d)

pub from_mask : (r : List ℕ) (v : ℕ) → Has (mask r) v → (i : ℕ) × (i < length r) × (get_or r i 0 ≡ v)
from_mask [] v h = absurd (omega (arith, no_bit v))
from_mask (w ∷ q) v h =
    ⊎_elim
    (λ e. (zero, omega arith, sym e))
    (λ ne.
    let x : bit (mask q) v ≡ 1 = sym (xor_zero_r (bit (mask q) v)) ∙ ap (bit_xor (bit (mask q) v)) (sym (bit_other w v ne)) ∙ sym (bit-bit_xor (mask q) (2 ^ w) v) ∙ h in
    let at = from_mask q v x in
    (suc at.0, omega (arith, at.1), at.2))
    (cases_eq v w)

pub into_mask : (r : List ℕ) (i : ℕ) → Diff r → i < length r → Has (mask r) (get_or r i 0)
into_mask [] i d h = absurd (omega arith)
into_mask (w ∷ q) zero d h =
    bit-bit_xor (mask q) (2 ^ w) w
    ∙ ⊎_elim
    (λ z. ap₂ bit_xor z (bit_own w))
    (λ o. let at = from_mask q w o in absurd (d zero (suc at.0) (omega arith) (omega (arith, at.1)) (sym at.2)))
    (two_ways (mask q) w)
into_mask (w ∷ q) (suc i) d h =
    bit-bit_xor (mask q) (2 ^ w) (get_or q i 0)
    ∙ ap (bit_xor (bit (mask q) (get_or q i 0))) (bit_other w (get_or q i 0) (λ e. d zero (suc i) (omega arith) h (sym e)))
    ∙ xor_zero_r (bit (mask q) (get_or q i 0))
    ∙ into_mask q i (diff_tail w q d) (omega arith)

pub only_bit : (u v : ℕ) → Has (2 ^ u) v → v ≡ u
only_bit u v h = ⊎_elim (λ e. e) (λ ne. absurd (omega (arith, bit_other u v ne))) (cases_eq v u)

pub own_bit : (u : ℕ) → Has (2 ^ u) u
own_bit u = bit_own u

-- the numbers below n
abbrev pub full : ℕ → ℕ
full n = 2 ^ n - 1

full_in : (n v : ℕ) → v < n → bit (full n) v ≡ 1
full_in n v h =
    let up : n ≡ suc (n - v - 1) + v = omega arith in
    let some = pow_pos (n - v - 1) in
    let own = pow_pos v in
    let top : 2 ^ suc (n - v - 1) ≡ (2 ^ (n - v - 1) * 2 - 1) + 1 = pow-suc 2 (n - v - 1) ∙ omega arith in
    let split : 2 ^ n ≡ (2 ^ (n - v - 1) * 2 - 1) * 2 ^ v + 1 * 2 ^ v = ap (λ x. 2 ^ x) up ∙ pow-add 2 (suc (n - v - 1)) v ∙ ap (λ x. x * 2 ^ v) top ∙ add-mul (2 ^ (n - v - 1) * 2 - 1) 1 (2 ^ v) in
    let parts : full n ≡ (2 ^ (n - v - 1) * 2 - 1) * 2 ^ v + (2 ^ v - 1) = omega arith in
    ap (λ x. x / 2 ^ v % 2) parts ∙ ap (λ x. x % 2) (div-mul-add (2 ^ (n - v - 1) * 2 - 1) (2 ^ v) (2 ^ v - 1) (omega arith)) ∙ omega arith

full_out : (n v : ℕ) → n ≤ v → bit (full n) v ≡ 0
full_out n v h =
    let some = pow_pos n in
    let le : 2 ^ n ≤ 2 ^ v = ⊎_elim (λ e. let same = ap (λ x. 2 ^ x) e in omega arith) (λ ne. let lt = pow_below n v (omega arith) in omega arith) (cases_eq n v) in
    let lt : full n < 2 ^ v = omega arith in
    ap (λ x. x % 2) (div-eq_of_lt lt)

-- what a mask of members leaves of them
pub absent_in : (n : ℕ) (r : List ℕ) (v : ℕ) → v < n → bit (mask r) v ≡ 0 → Has (bit_xor (full n) (mask r)) v
absent_in n r v h e = bit-bit_xor (full n) (mask r) v ∙ ap₂ bit_xor (full_in n v h) e

pub absent_out : (n : ℕ) (r : List ℕ) (v : ℕ) → ((j : ℕ) → j < length r → get_or r j 0 < n) → Has (bit_xor (full n) (mask r)) v → (v < n) × (bit (mask r) v ≡ 0)
absent_out n r v writes h =
    let both : bit_xor (bit (full n) v) (bit (mask r) v) ≡ 1 = sym (bit-bit_xor (full n) (mask r) v) ∙ h in
    ⊎_elim
    (λ lt. (lt, ⊎_elim (λ e. e) (λ e. let z : bit_xor (bit (full n) v) (bit (mask r) v) ≡ 0 = ap₂ bit_xor (full_in n v lt) e in absurd (omega arith)) (two_ways (mask r) v)))
    (λ le. absurd (⊎_elim
    (λ e. let z : bit_xor (bit (full n) v) (bit (mask r) v) ≡ 0 = ap₂ bit_xor (full_out n v le) e in omega arith)
    (λ e. let at = from_mask r v e in let lt = subst (λ x. x < n) at.2 (writes at.0 at.1) in omega arith)
    (two_ways (mask r) v)))
    (cases_lt v n)

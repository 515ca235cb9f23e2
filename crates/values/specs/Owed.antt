-- What serials and stamps owe as kinds of value: no larger number is a pattern, each value has one, and two are equal exactly when
-- they mean the same. Assumes nothing.
use Rattle.std.specs.Prelude.{◌≡◌, ℕ, ◌+◌, ◌*◌, ◌/◌, ◌^◌, ◌<◌, ◌≤◌, Bool, true, false, Some, None, ◌&&◌, ◌==◌, Decides, nat_eq, refl}
use Rattle.std.proofs.Common.{ap, arith}
use Rattle.std.proofs.Math.Path.{path_j}
use Rattle.std.proofs.lemmas.Bool.{and_from, and_parts, eqb-true, eq-eqb}
use Rattle.std.proofs.Math.Bridge.{le_prop}
use Rattle.std.proofs.Math.Decide.{dec_lt}
use Rattle.values.specs.Kinds.{Spelled}
use Rattle.values.specs.declared.serial.Serial.{Serial}
use Rattle.values.specs.declared.stamp.Stamp.{Stamp}
use Rattle.values.specs.Patterns.{serial_at, serial_of, serial_meaning, mark_of, cabinet_of, count_of, cabinet_low, count_low, stamp_at, stamp_of, stamp_meaning}

-- no number of more than 18 bits is a serial, or a stamp
narrow_serial : (p : ℕ) (d : Dec (p < 2 ^ 18)) → 2 ^ 18 ≤ p → serial_at p d ≡ None
narrow_serial p (yes k) h = absurd (omega arith)
narrow_serial p (no k) h = refl

pub serial_narrow : (p : ℕ) → 2 ^ 18 ≤ p → serial_of p ≡ None
serial_narrow p h = narrow_serial p (dec_lt p (2 ^ 18)) h

narrow_stamp : (p : ℕ) (d : Dec (p < 2 ^ 18)) (e : Dec (0 < count_of p)) → 2 ^ 18 ≤ p → stamp_at p d e ≡ None
narrow_stamp p (yes k) e h = absurd (omega arith)
narrow_stamp p (no k) e h = refl

pub stamp_narrow : (p : ℕ) → 2 ^ 18 ≤ p → stamp_of p ≡ None
stamp_narrow p h = narrow_stamp p (dec_lt p (2 ^ 18)) (dec_lt 0 (count_of p)) h

-- the pattern of a serial is its number
read_serial : (s : Serial) (d : Dec (s.number < 2 ^ 18)) → serial_at s.number d ≡ Some s
read_serial s (yes k) = λ i. Some (record { number = s.number; narrow = le_prop k s.narrow i })
read_serial s (no k) = absurd (k s.narrow)

pub serial_spelled : (s : Serial) → Spelled serial_of s
serial_spelled s = record { pattern = s.number; narrow = s.narrow; is = read_serial s (dec_lt s.number (2 ^ 18)) }

abbrev stamp_from : (mark : Bool) (cabinet count : ℕ) → cabinet ≤ 63 → 1 ≤ count → count ≤ 2047 → Stamp
stamp_from m c n low least most = record { resent = m; cabinet = c; count = n; cabinets = low; least = least; most = most }

-- a stamp is known by its mark, cabinet and count
same_stamp : (s : Stamp) (m : Bool) (c n : ℕ) (low : c ≤ 63) (least : 1 ≤ n) (most : n ≤ 2047) → s.resent ≡ m → s.cabinet ≡ c → s.count ≡ n → stamp_from m c n low least most ≡ s
same_stamp s m c n low least most e f g =
    let marked : (m' : Bool) → s.resent ≡ m' → (low' : s.cabinet ≤ 63) (least' : 1 ≤ s.count) (most' : s.count ≤ 2047) → stamp_from m' s.cabinet s.count low' least' most' ≡ s = λ m' q. path_j (λ y _. (low' : s.cabinet ≤ 63) (least' : 1 ≤ s.count) (most' : s.count ≤ 2047) → stamp_from y s.cabinet s.count low' least' most' ≡ s) (λ low' least' most' i. record { resent = s.resent; cabinet = s.cabinet; count = s.count; cabinets = le_prop low' s.cabinets i; least = le_prop least' s.least i; most = le_prop most' s.most i }) q in
    let counted : (n' : ℕ) → s.count ≡ n' → (low' : s.cabinet ≤ 63) (least' : 1 ≤ n') (most' : n' ≤ 2047) → stamp_from m s.cabinet n' low' least' most' ≡ s = λ n' q. path_j (λ y _. (low' : s.cabinet ≤ 63) (least' : 1 ≤ y) (most' : y ≤ 2047) → stamp_from m s.cabinet y low' least' most' ≡ s) (marked m e) q in
    path_j (λ y _. (low' : y ≤ 63) → stamp_from m y n low' least most ≡ s) (λ low'. counted n g low' least most) f low

-- the pattern of a stamp with this mark, cabinet and count
abbrev pattern_of : Bool → ℕ → ℕ → ℕ
pattern_of true c n = 131072 + c * 2048 + n
pattern_of false c n = c * 2048 + n

pattern_narrow : (m : Bool) (c n : ℕ) → c ≤ 63 → n ≤ 2047 → pattern_of m c n < 2 ^ 18
pattern_narrow true c n low most = omega arith
pattern_narrow false c n low most = omega arith

pattern_mark : (m : Bool) (c n : ℕ) → c ≤ 63 → n ≤ 2047 → m ≡ mark_of (pattern_of m c n)
pattern_mark true c n low most = let e : 1 ≡ (131072 + c * 2048 + n) / 131072 = omega arith in ap (λ q. nat_eq q 1) e
pattern_mark false c n low most = let e : 0 ≡ (c * 2048 + n) / 131072 = omega arith in ap (λ q. nat_eq q 1) e

pattern_cabinet : (m : Bool) (c n : ℕ) → c ≤ 63 → n ≤ 2047 → c ≡ cabinet_of (pattern_of m c n)
pattern_cabinet true c n low most = omega arith
pattern_cabinet false c n low most = omega arith

pattern_count : (m : Bool) (c n : ℕ) → n ≤ 2047 → n ≡ count_of (pattern_of m c n)
pattern_count true c n most = omega arith
pattern_count false c n most = omega arith

-- the pattern of a stamp stands for it
read_stamp : (s : Stamp) (p : ℕ) (d : Dec (p < 2 ^ 18)) (e : Dec (0 < count_of p)) → p < 2 ^ 18 → s.resent ≡ mark_of p → s.cabinet ≡ cabinet_of p → s.count ≡ count_of p → stamp_at p d e ≡ Some s
read_stamp s p (yes k) (yes j) h m c n = ap Some (same_stamp s (mark_of p) (cabinet_of p) (count_of p) (cabinet_low p) j (count_low p) m c n)
read_stamp s p (yes k) (no j) h m c n = absurd (j (let l = s.least in omega arith))
read_stamp s p (no k) e h m c n = absurd (k h)

pub stamp_spelled : (s : Stamp) → Spelled stamp_of s
stamp_spelled s =
    let p = pattern_of s.resent s.cabinet s.count in
    let narrow : p < 2 ^ 18 = pattern_narrow s.resent s.cabinet s.count s.cabinets s.most in
    record {
      pattern = p;
      narrow = narrow;
      is = read_stamp s p (dec_lt p (2 ^ 18)) (dec_lt 0 (count_of p)) narrow (pattern_mark s.resent s.cabinet s.count s.cabinets s.most) (pattern_cabinet s.resent s.cabinet s.count s.cabinets s.most) (pattern_count s.resent s.cabinet s.count s.most);
    }

pub serial_same : (one other : Serial) → Decides (one.number == other.number) (serial_meaning one ≡ serial_meaning other)
serial_same one other = (λ h. ap (λ n. (0, n)) (eqb-true one.number other.number h), λ h. eq-eqb one.number other.number (ap (λ m. m.1) h))

pub stamp_same : (one other : Stamp) → Decides (one.cabinet == other.cabinet && one.count == other.count) (stamp_meaning one ≡ stamp_meaning other)
stamp_same one other = (
  λ h. let e = and_parts (one.cabinet == other.cabinet) (one.count == other.count) h in λ i. (eqb-true one.cabinet other.cabinet e.0 i, eqb-true one.count other.count e.1 i),
  λ h. and_from (one.cabinet == other.cabinet) (one.count == other.count) (eq-eqb one.cabinet other.cabinet (ap (λ m. m.0) h)) (eq-eqb one.count other.count (ap (λ m. m.1) h)),
)

-- What is made of a pattern is what the pattern stands for. Assumes nothing.
use Rattle.std.proofs.Common.{◌≡◌, ℕ, ◌^◌, ◌<◌, ◌≤◌, Some, Option}
use native.Mathlib.Bridge.{le_prop}
use Rattle.values.specs.declared.serial.Serial.{Serial}
use Rattle.values.specs.declared.stamp.Stamp.{Stamp}
use Rattle.values.specs.Patterns.{mark_of, cabinet_of, count_of, cabinet_low, count_low, serial_at, stamp_at}

pub some_serial : (p : ℕ) (d : Dec (p < 2 ^ 18)) (h : p < 2 ^ 18) → ◌≡◌ {A = Option Serial} (Some (record { number = p; narrow = h })) (serial_at p d)
some_serial p (yes k) h = λ i. Some (record { number = p; narrow = le_prop h k i })
some_serial p (no k) h = absurd (k h)

pub some_stamp : (p : ℕ) (d : Dec (p < 2 ^ 18)) (e : Dec (0 < count_of p)) → p < 2 ^ 18 → (low : cabinet_of p ≤ 63) (least : 1 ≤ count_of p) (most : count_of p ≤ 2047) → ◌≡◌ {A = Option Stamp} (Some (record { resent = mark_of p; cabinet = cabinet_of p; count = count_of p; cabinets = low; least = least; most = most })) (stamp_at p d e)
some_stamp p (yes k) (yes j) h low least most = λ i. Some (record { resent = mark_of p; cabinet = cabinet_of p; count = count_of p; cabinets = le_prop low (cabinet_low p) i; least = le_prop least j i; most = le_prop most (count_low p) i })
some_stamp p (yes k) (no j) h low least most = absurd (j least)
some_stamp p (no k) e h low least most = absurd (k h)

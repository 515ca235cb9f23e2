-- Which patterns are serials and stamps, and what those mean. Assumes nothing.
use Rattle.std.specs.Prelude.{ℕ, ◌/◌, ◌%◌, ◌^◌, ◌<◌, ◌≤◌, Bool, Some, None, Option, ◌==◌}
use Rattle.std.proofs.Math.Decide.{dec_lt}
use Rattle.std.proofs.Common.{arith}
use Rattle.values.specs.declared.serial.Serial.{Serial}
use Rattle.values.specs.declared.stamp.Stamp.{Stamp}

-- every pattern of 18 bits is a serial
abbrev pub serial_at : (p : ℕ) → Dec (p < 2 ^ 18) → Option Serial
serial_at p (yes h) = Some (record { number = p; narrow = h })
serial_at p (no h) = None

abbrev pub serial_of : ℕ → Option Serial
serial_of p = serial_at p (dec_lt p (2 ^ 18))

-- a serial means 0 and its number
abbrev pub serial_meaning : Serial → ℕ × ℕ
serial_meaning s = (0, s.number)

-- bit 17 of a pattern is the resend mark, bits 16 to 11 are the cabinet, bits 10 to 0 the count
abbrev pub mark_of : ℕ → Bool
mark_of p = p / 2 ^ 17 == 1

abbrev pub cabinet_of : ℕ → ℕ
cabinet_of p = p / 2 ^ 11 % 64

abbrev pub count_of : ℕ → ℕ
count_of p = p % 2 ^ 11

pub cabinet_low : (p : ℕ) → cabinet_of p ≤ 63
cabinet_low p = omega arith

pub count_low : (p : ℕ) → count_of p ≤ 2047
count_low p = omega arith

-- a pattern of 18 bits is a stamp unless its count is 0
abbrev pub stamp_at : (p : ℕ) → Dec (p < 2 ^ 18) → Dec (0 < count_of p) → Option Stamp
stamp_at p (yes h) (yes k) = Some (record { resent = mark_of p; cabinet = cabinet_of p; count = count_of p; cabinets = cabinet_low p; least = k; most = count_low p })
stamp_at p (yes h) (no k) = None
stamp_at p (no h) d = None

abbrev pub stamp_of : ℕ → Option Stamp
stamp_of p = stamp_at p (dec_lt p (2 ^ 18)) (dec_lt 0 (count_of p))

-- a stamp means its cabinet and its count; the mark is no part of it
abbrev pub stamp_meaning : Stamp → ℕ × ℕ
stamp_meaning s = (s.cabinet, s.count)

-- The bits of an f32 as a whole number: its sign, the rest of it, and the units that the rest stands for.
use Rattle.std.specs.Prelude.{ℕ, zero, suc, ◌+◌, ◌*◌, ◌/◌, ◌%◌, ◌^◌, Bool, leb}

-- ---- the units of a pattern without a sign, below 2139095040, which is the infinity's
-- by the exponent's field x and the digits t
abbrev pub val_of : ℕ → ℕ → ℕ
val_of zero t = t
val_of (suc x) t = (8388608 + t) * 2 ^ x

abbrev pub val : ℕ → ℕ
val b = val_of (b / 8388608) (b % 8388608)

-- ---- the sign bit, 2 ^ 31, stands; and the pattern without it
abbrev pub sign_set : ℕ → Bool
sign_set b = leb 2147483648 b

abbrev pub bare : ℕ → ℕ
bare b = b % 2147483648

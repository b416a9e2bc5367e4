-- Document 01, "Permitted numbers" and "Numbered refusals": elapsed, period and step time. Under "Steps": how a time becomes f32.
use Rattle.std.specs.Prelude.{ℕ, ◌+◌, ◌*◌, ◌^◌, Bool, false, ◌&&◌, nat_le, nat_lt}
use Rattle.std.specs.Prelude.{Float}
use Rattle.std.specs.Float.{binary32}
use Rattle.std.specs.Float.Ieee.{round, add, div}
use Rattle.numbers.specs.Limits.{elapsed_seconds, nanoseconds_below, period_from, period_to}
use Rattle.commands.specs.declared.Time.{Time}

-- elapsed: at most 3600 s, and nanoseconds below 10^9
unfoldable pub elapsed_permitted : Time → Bool
elapsed_permitted t = nat_le t.seconds elapsed_seconds && nat_lt t.nanoseconds nanoseconds_below

abbrev pub in_nanoseconds : Time → ℕ
in_nanoseconds t = t.seconds * 10 ^ 9 + t.nanoseconds

-- a period or a step time: 1 ms to 60 s, and nanoseconds below 10^9
unfoldable pub period_permitted : Time → Bool
period_permitted t =
    nat_lt t.nanoseconds nanoseconds_below
    && nat_le period_from (in_nanoseconds t)
    && nat_le (in_nanoseconds t) period_to

-- a whole number, rounded to f32
unfoldable pub whole_number : ℕ → Float
whole_number n = round binary32 false n 1

-- "Seconds become f32; nanoseconds, rounded to f32, are divided by 10^9 and added."
unfoldable pub in_seconds : Time → Float
in_seconds t =
    add binary32
    (whole_number t.seconds)
    (div binary32 (whole_number t.nanoseconds) (whole_number (10 ^ 9)))

-- Times as f32 seconds, by computation: the longest elapsed time that is let in is 3601; in the core 256 s are 256, and the longest that
-- a `Time` holds counts as 2 ^ 24 s.
use Rattle.std.specs.Prelude.{◌≡◌, ℕ, ◌-◌, ◌^◌}
use mathlib.Core.Path.{refl}
use lib.Ieee.{round, add, div}
use Rattle.commands.specs.Times.{whole_number, in_seconds}
use Rattle.commands.specs.How.{capped}
use Rattle.commands.specs.declared.Time.{Time}

abbrev time : ℕ → ℕ → Time
time s n = record { seconds = s; nanoseconds = n }

longest_elapsed : in_seconds (time 3600 999999999) ≡ whole_number 3601
unfolding in_seconds whole_number round add div
longest_elapsed = refl

past_a_byte : in_seconds (capped (time 256 0)) ≡ whole_number 256
unfolding in_seconds whole_number round add div
past_a_byte = refl

longest_held : in_seconds (capped (time (2 ^ 64 - 1) 0)) ≡ whole_number (2 ^ 24)
unfolding in_seconds whole_number round add div
longest_held = refl

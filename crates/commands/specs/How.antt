-- How ours makes a time f32: whole seconds past 2^24, up to which f32 counts one by one, count as 2^24. Nothing of document 01;
-- the door lets 3600 pass, and below 2^24 nothing is capped (proofs/Uncapped).
use Rattle.std.specs.Prelude.{ℕ, ◌^◌, min}
use Rattle.commands.specs.declared.Time.{Time}

abbrev pub counted : ℕ → ℕ
counted n = min n (2 ^ 24)

abbrev pub capped : Time → Time
capped t = record { seconds = counted t.seconds; nanoseconds = t.nanoseconds }

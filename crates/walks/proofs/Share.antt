-- The share of the longest distance below which a foot is left out, 27/32, in units.
use Rattle.std.specs.Prelude.{ℕ, ◌*◌, ◌^◌}

unfoldable pub part : ℕ
part = 27 * 2 ^ 144

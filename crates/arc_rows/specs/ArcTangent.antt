-- The angles of the directions (128, k), for k from 0 to 128, as counts of 2 ^ -30: what the table of the arc functions holds.
use Rattle.std.specs.Prelude.{ℕ, ◌+◌, ◌-◌, ◌*◌, ◌/◌, ◌^◌}
use Rattle.series.specs.Working.{pw, ev, sin_p, sin_m, cos_p, cos_m}

-- S and C at t, over one denominator, where neither is negative
unfoldable pub sine_at : ℕ → ℕ
unfolding pw ev sin_p sin_m
sine_at t = ev (2 ^ 30) t sin_p - ev (2 ^ 30) t sin_m

unfoldable pub cosine_at : ℕ → ℕ
unfolding pw ev cos_p cos_m
cosine_at t = ev (2 ^ 30) t cos_p - ev (2 ^ 30) t cos_m

-- (128, k) turned back by t is (128 C + k S, k C - 128 S): what is left is so small that it is its tangent
unfoldable pub improved : ℕ → ℕ → ℕ
unfolding sine_at cosine_at
improved k t =
    let s = sine_at t in
    let c = cosine_at t in
    let x = 128 * c + k * s in
    (2 * (t * x + 2 ^ 30 * (k * c) - 2 ^ 30 * (128 * s)) + x) / (2 * x)

-- twice, from a share of an eighth turn, which is 843314857, over 128
unfoldable pub arc_tangent : ℕ → ℕ
unfolding improved
arc_tangent k = improved k (improved k (6588397 * k))

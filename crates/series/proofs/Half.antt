-- S is at least -2 ^ -31 from 0 to the half turn of the table. Assumes nothing.
use Prim.Native.Nat.{ℕ, ◌+◌, ◌*◌, ◌^◌, ◌-◌, ◌≤◌}
use mathlib.Core.Logic.{inl, inr}
use native.Mathlib.Omega.{arith}
use Rattle.series.proofs.Grid.{sp, sm, cp, cm, D}
use Rattle.series.proofs.Reflect.{quarter_back_sin, quarter_on_sin, half_back_sin}
use Rattle.series.proofs.Octant.{cos_half, sin_pos}
use Rattle.series.proofs.Order.{here_or_on}

by_near : (p m s s' d : ℕ) → 2 ^ 31 * (p + s') ≤ 2 ^ 31 * (s + m) + d → m ≤ p → 2 ^ 31 * s' ≤ 2 ^ 31 * s + d
by_near p m s s' d h g = omega arith

of_half : (p m d : ℕ) → d + 2 * m ≤ 2 * p → m ≤ p
of_half p m d h = omega arith

straight : (s s' d : ℕ) → s' ≤ s → 2 ^ 31 * s' ≤ 2 ^ 31 * s + d
straight s s' d h = omega arith

pub sin_low : (n : ℕ) → n ≤ 3373259426 → 2 ^ 31 * sm n ≤ 2 ^ 31 * sp n + D
sin_low n h =
    elim (here_or_on n 851707689) [
      | inl a ↦ straight (sp n) (sm n) D (sin_pos n (omega arith))
      | inr a ↦
          elim (here_or_on n 1686629713) [
            | inl b ↦
                let w = 1686629713 - n in
                let l : w ≤ 851707689 = omega arith in
                by_near (cp w) (cm w) (sp n) (sm n) D (quarter_back_sin n w (omega arith) l).under (of_half (cp w) (cm w) D (cos_half w l))
            | inr b ↦
                elim (here_or_on n 2538337402) [
                  | inl c ↦
                      let w = n - 1686629713 in
                      let l : w ≤ 851707689 = omega arith in
                      by_near (cp w) (cm w) (sp n) (sm n) D (quarter_on_sin n w (omega arith) l).under
                      (of_half (cp w) (cm w) D (cos_half w l))
                  | inr c ↦
                      let w = 3373259426 - n in
                      let l : w ≤ 851707689 = omega arith in
                      by_near (sp w) (sm w) (sp n) (sm n) D (half_back_sin n w (omega arith) l).under (sin_pos w l)
                ]
          ]
    ]

-- The table of arc sines written as a `match`: an arm that passes its computed test holds the lists' numbers, and the last arm is the last
-- place. Assumes nothing.
use Rattle.std.specs.Prelude.{◌≡◌, ℕ, ◌<◌, ◌≤◌, Bool, ◌&&◌, T, eqb}
use mathlib.Core.Path.{sym, ap, ◌∙◌}
use native.Mathlib.Omega.{arith}
use lib.Dec.{eqb→eq}
use lib.Ieee.Fits.{and_l, and_r}
use Rattle.arc_rows.specs.ArcSine.{angle_at, slope_at, bend_at}
use Rattle.arcs.proofs.Tabled.{Beyond, beyond}

-- the test of one row
unfoldable pub listed : ℕ → ℕ → ℕ → ℕ → Bool
unfolding angle_at slope_at bend_at
listed k a b c = eqb a (angle_at k) && (eqb b (slope_at k) && eqb c (bend_at k))

abbrev pub Row : ℕ → ℕ → ℕ → ℕ → Type 0
Row k a b c = (a ≡ angle_at k) × (b ≡ slope_at k) × (c ≡ bend_at k)

-- an arm: k is i, and the arm's numbers pass the test at i
pub held : {k i a b c : ℕ} → k ≡ i → T (listed i a b c) → Row k a b c
unfolding listed
held {k} {i} {a} {b} {c} e p =
    let q = and_r (eqb a (angle_at i)) (eqb b (slope_at i) && eqb c (bend_at i)) p in (
      eqb→eq a (angle_at i) (and_l (eqb a (angle_at i)) (eqb b (slope_at i) && eqb c (bend_at i)) p) ∙ ap angle_at (sym e),
      eqb→eq b (slope_at i) (and_l (eqb b (slope_at i)) (eqb c (bend_at i)) q) ∙ ap slope_at (sym e),
      eqb→eq c (bend_at i) (and_r (eqb b (slope_at i)) (eqb c (bend_at i)) q) ∙ ap bend_at (sym e),
    )

pub held_last : {k a b c : ℕ} → Beyond k 90 → k < 91 → T (listed 90 a b c) → Row k a b c
held_last {k} {a} {b} {c} m h p = held {k = k} {i = 90} {a = a} {b = b} {c = c} (last (beyond k 90 m)) p
  where
    last : 90 ≤ k → k ≡ 90
    last g = omega arith

-- A table of angles written as a `match`: an arm that passes its computed test holds `arc_tangent` and `lean`, and the last arm is the
-- last place. Assumes nothing.
use Rattle.std.specs.Prelude.{◌≡◌, ℕ, zero, suc, ◌+◌, ◌*◌, ◌<◌, ◌≤◌, Bool, ◌&&◌, T, eqb, ltb}
use mathlib.Core.Path.{sym, ap, ◌∙◌, subst}
use native.Mathlib.Nat.{div-le_of_le-mul}
use native.Mathlib.Omega.{arith}
use lib.Dec.{eqb→eq, ltb→lt}
use lib.Ieee.Fits.{and_l, and_r}
use Rattle.arc_rows.specs.ArcTangent.{arc_tangent}
use Rattle.arc_rows.proofs.Rows.{row_size}
use Rattle.arcs.specs.How.{lean}

-- the test of one row
unfoldable pub angled : ℕ → ℕ → ℕ → Bool
unfolding arc_tangent lean
angled k t b = eqb t (arc_tangent k) && eqb b (lean k)

abbrev pub Row : ℕ → ℕ → ℕ → Type 0
Row k t b = (t ≡ arc_tangent k) × (t ≤ 843314857) × (b ≡ lean k) × (b ≤ 2147483648)

pub lean_le : (k : ℕ) → lean k ≤ 2147483648
unfolding lean
lean_le k = div-le_of_le-mul (16384 + k * k) {n = 2147483648} (go (k * k))
  where
    go : (p : ℕ) → 35184372088832 ≤ (16384 + p) * 2147483648
    go p = omega arith

-- an arm: k is i, and the arm's numbers pass the test at i
pub held : {k i t b : ℕ} → k ≡ i → T (angled i t b) → T (ltb i 129) → Row k t b
unfolding angled
held {k} {i} {t} {b} e p l =
    let h : t ≡ arc_tangent i = eqb→eq t (arc_tangent i) (and_l (eqb t (arc_tangent i)) (eqb b (lean i)) p) in
    let j : b ≡ lean i = eqb→eq b (lean i) (and_r (eqb t (arc_tangent i)) (eqb b (lean i)) p) in (
      h ∙ ap arc_tangent (sym e),
      subst (λ (m : ℕ). m ≤ 843314857) (sym h) (row_size i (ltb→lt i 129 l)).2,
      j
          ∙ ap lean (sym e),
      subst (λ (m : ℕ). m ≤ 2147483648) (sym j) (lean_le i),
    )

-- k is none of the first n places
abbrev pub Beyond : ℕ → ℕ → Type 0
Beyond k zero = Unit {0}
Beyond k (suc n) = Beyond k n × (k ≡ n → ⊥)

pub beyond : (k n : ℕ) → Beyond k n → n ≤ k
beyond k zero b = omega arith
beyond k (suc n) b = let h = beyond k n b.0 in omega (arith, b.1)

pub held_last : {k t b : ℕ} → Beyond k 128 → k < 129 → T (angled 128 t b) → Row k t b
held_last {k} {t} {b} m h p = held {k = k} {i = 128} {t = t} {b = b} (last (beyond k 128 m)) p tt
  where
    last : 128 ≤ k → k ≡ 128
    last g = omega arith

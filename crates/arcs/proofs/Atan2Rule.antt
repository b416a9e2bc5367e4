-- From the wedge's sides in units of 2 ^ -30 to document 01's rule for atan2, at any e of F * 2 ^ -22 with F from 4 to 16; and the mirror
-- image for a negative y. Assumes nothing.
use Rattle.std.specs.Prelude.{ℕ, ◌+◌, ◌*◌, ◌<◌, ◌≤◌}
use mathlib.Core.Path.{refl, sym, subst₂}
use native.Mathlib.Nat.{mul-pos}
use native.Mathlib.Omega.{arith}
use Rattle.series.specs.Fractions.{Fraction, ◌÷◌, whole, negative, ◌⊕◌, ◌⊖◌, ◌⊗◌, ◌≋◌, ◌≼◌, ◌≺◌}
use Rattle.series.specs.Series.{S, C}
use Rattle.series.proofs.Fractions.{same_sym, product_same, sum_same, le_same}
use Rattle.series.proofs.Parity.{S_odd, C_even, S_over, C_over}
use Rattle.series.proofs.Grid.{D_pos}
use Rattle.arcs.specs.Wedges.{Angle}
use Rattle.arcs.proofs.StrictOrder.{lt_same}
use Rattle.arcs.proofs.Places.{G, sine_at, cosine_at, S_at, C_at, less_at, plus_at}
use Rattle.arcs.proofs.Turn.{Fine}

module _ (e : Fraction) (E : ℕ) (e_is : e ≋ E ÷ G) (e_pos : 0 < e.over) where
  pub angle_of_lem : (y x t y' x' : Fraction) (n : ℕ) → y' ≋ y → x' ≋ x → t ≋ n ÷ G → 0 < y.over → 0 < x.over → 0 < t.over → 0 < y'.over
      → 0 < x'.over → Fine E y' x' n → Angle e y x t
  angle_of_lem y x t y' x' n hy hx ht py px pt py' px' f = record {
    low =
        let l : t ⊖ e ≋ record { plus = n; minus = E; over = G } = less_at t e n E ht e_is in
        le_same (x' ⊗ sine_at n E) (x ⊗ S (t ⊖ e)) (y' ⊗ cosine_at n E) (y ⊗ C (t ⊖ e)) (mul-pos px' D_pos) (mul-pos py' D_pos)
        (product_same x' x (sine_at n E) (S (t ⊖ e)) hx (same_sym (S (t ⊖ e)) (sine_at n E) (S_at (t ⊖ e) n E l)))
        (product_same y' y (cosine_at n E) (C (t ⊖ e)) hy (same_sym (C (t ⊖ e)) (cosine_at n E) (C_at (t ⊖ e) n E l))) f.low;
    high =
        let l : t ⊕ e ≋ record { plus = n + E; minus = 0; over = G } = plus_at t e n E ht e_is in
        le_same (y' ⊗ cosine_at (n + E) 0) (y ⊗ C (t ⊕ e)) (x' ⊗ sine_at (n + E) 0) (x ⊗ S (t ⊕ e)) (mul-pos py' D_pos) (mul-pos px' D_pos)
        (product_same y' y (cosine_at (n + E) 0) (C (t ⊕ e)) hy (same_sym (C (t ⊕ e)) (cosine_at (n + E) 0) (C_at (t ⊕ e) (n + E) 0 l)))
        (product_same x' x (sine_at (n + E) 0) (S (t ⊕ e)) hx (same_sym (S (t ⊕ e)) (sine_at (n + E) 0) (S_at (t ⊕ e) (n + E) 0 l)))
        f.high;
    ahead =
        lt_same (whole 0) (whole 0) (x' ⊗ cosine_at n 0 ⊕ y' ⊗ sine_at n 0) (x ⊗ C t ⊕ y ⊗ S t) (omega arith)
        (mul-pos (mul-pos px (C_over t pt)) (mul-pos py (S_over t pt))) refl
        (sum_same (x' ⊗ cosine_at n 0) (x ⊗ C t) (y' ⊗ sine_at n 0) (y ⊗ S t)
        (product_same x' x (cosine_at n 0) (C t) hx (same_sym (C t) (cosine_at n 0) (C_at t n 0 ht)))
        (product_same y' y (sine_at n 0) (S t) hy (same_sym (S t) (sine_at n 0) (S_at t n 0 ht)))) f.ahead;
  }

-- ---- the mirror image: y and t with the other sign
turn_le : (a b c d : Fraction) → a ⊗ c ≼ b ⊗ d → negative b ⊗ d ≼ a ⊗ negative c
turn_le a b c d h =
    go a.plus a.minus a.over b.plus b.minus b.over c.plus c.minus c.over d.plus d.minus d.over h
  where
    go : (p m o p' m' o' q l k q' l' k' : ℕ)
        → (p * q + m * l) * (o' * k') + (p' * l' + m' * q') * (o * k) ≤ (p' * q' + m' * l') * (o * k) + (p * l + m * q) * (o' * k')
        → (m' * q' + p' * l') * (o * k) + (p * q + m * l) * (o' * k') ≤ (p * l + m * q) * (o' * k') + (m' * l' + p' * q') * (o * k)
    go p m o p' m' o' q l k q' l' k' g = omega arith

turn_ge : (a b c d : Fraction) → b ⊗ d ≼ a ⊗ c → a ⊗ negative c ≼ negative b ⊗ d
turn_ge a b c d h =
    go a.plus a.minus a.over b.plus b.minus b.over c.plus c.minus c.over d.plus d.minus d.over h
  where
    go : (p m o p' m' o' q l k q' l' k' : ℕ)
        → (p' * q' + m' * l') * (o * k) + (p * l + m * q) * (o' * k') ≤ (p * q + m * l) * (o' * k') + (p' * l' + m' * q') * (o * k)
        → (p * l + m * q) * (o' * k') + (m' * l' + p' * q') * (o * k) ≤ (m' * q' + p' * l') * (o * k) + (p * q + m * l) * (o' * k')
    go p m o p' m' o' q l k q' l' k' g = omega arith

turn_lt : (a b c d : Fraction) → whole 0 ≺ a ⊗ c ⊕ b ⊗ d → whole 0 ≺ a ⊗ c ⊕ negative b ⊗ negative d
turn_lt a b c d h =
    go (a.plus * c.plus + a.minus * c.minus) (a.plus * c.minus + a.minus * c.plus) (a.over * c.over) b.plus b.minus
    d.plus d.minus (b.over * d.over) h
  where
    go : (p m o q l q' l' k : ℕ) → 0 * (o * k) + (m * k + (q * l' + l * q') * o) * 1 < (p * k + (q * q' + l * l') * o) * 1 + 0 * (o * k)
        → 0 * (o * k) + (m * k + (l * q' + q * l') * o) * 1 < (p * k + (l * l' + q * q') * o) * 1 + 0 * (o * k)
    go p m o q l q' l' k g = omega arith

pub mirror : (e y x t : Fraction) → Angle e y x t → Angle e (negative y) x (negative t)
mirror e y x t h = record {
  low =
      subst₂ (λ (s c : Fraction). x ⊗ s ≼ negative y ⊗ c) (sym (S_odd (t ⊕ e))) (sym (C_even (t ⊕ e)))
      (turn_ge x y (S (t ⊕ e)) (C (t ⊕ e)) h.high);
  high =
      subst₂ (λ (s c : Fraction). negative y ⊗ c ≼ x ⊗ s) (sym (S_odd (t ⊖ e))) (sym (C_even (t ⊖ e)))
      (turn_le x y (S (t ⊖ e)) (C (t ⊖ e)) h.low);
  ahead =
      subst₂ (λ (s c : Fraction). whole 0 ≺ x ⊗ c ⊕ negative y ⊗ s) (sym (S_odd t)) (sym (C_even t)) (turn_lt x y (C t) (S t) h.ahead);
}

-- either sign of y; the number t has y's sign

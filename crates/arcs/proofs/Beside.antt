-- A direction that lies beside (X, Y), where Y is near to the root of U ^ 2 - X ^ 2: its cosine lies beside X / U. Assumes nothing.
use Rattle.std.specs.Prelude.{◌≡◌, ℕ, ◌+◌, ◌-◌, ◌*◌, ◌<◌, ◌≤◌, ◌⊎◌}
use mathlib.Core.Path.{sym, ap, subst}
use mathlib.Core.Logic.{inl, inr}
use native.Mathlib.Nat.{le_of_lt, mul-pos, mul-le-mul_left, mul-le-mul_right}
use native.Mathlib.Omega.{arith}
use Rattle.series.proofs.Order.{here_or_on}
use Rattle.arcs.proofs.Transfer.{Root, transfer_up, transfer_down}

-- the pairs of a direction are one long, but for 2 ^ -50
abbrev pub Long : ℕ → ℕ → ℕ → ℕ → ℕ → Type 0
Long c c' s s' d =
    (1125899906842624 * (c * c + c' * c' + (s * s + s' * s'))
    ≤ 1125899906842624 * (2 * (c * c') + 2 * (s * s')) + 1125899906842625 * (d * d))
    × (1125899906842624 * (2 * (c * c') + 2 * (s * s')) + 1125899906842623 * (d * d)
    ≤ 1125899906842624 * (c * c + c' * c' + (s * s + s' * s')))

-- with c = c' + i and s = s' + j
squares_up : (c' i s' j d : ℕ)
    → 1125899906842624 * ((c' + i) * (c' + i) + c' * c' + ((s' + j) * (s' + j) + s' * s'))
    ≤ 1125899906842624 * (2 * ((c' + i) * c') + 2 * ((s' + j) * s')) + 1125899906842625 * (d * d)
    → 1125899906842624 * (i * i + j * j) ≤ 1125899906842625 * (d * d)
squares_up c' i s' j d h = omega arith

squares_down : (c' i s' j d : ℕ)
    → 1125899906842624 * (2 * ((c' + i) * c') + 2 * ((s' + j) * s')) + 1125899906842623 * (d * d)
    ≤ 1125899906842624 * ((c' + i) * (c' + i) + c' * c' + ((s' + j) * (s' + j) + s' * s'))
    → 1125899906842623 * (d * d) ≤ 1125899906842624 * (i * i + j * j)
squares_down c' i s' j d h = omega arith

-- likewise with s' = s + j
squares_turn : (c c' s s' d : ℕ)
    → 1125899906842624 * (2 * (c * c') + 2 * (s * s')) + 1125899906842623 * (d * d)
    ≤ 1125899906842624 * (c * c + c' * c' + (s * s + s' * s'))
    → 1125899906842624 * (2 * (c * c') + 2 * (s' * s)) + 1125899906842623 * (d * d)
    ≤ 1125899906842624 * (c * c + c' * c' + (s' * s' + s * s))
squares_turn c c' s s' d h = omega arith

module _ (U X Y v c c' s s' d : ℕ) (R : Root U X Y) (X_le : X ≤ U) (X_under : X ≤ v) (Y_under : Y ≤ v) (v_pos : 0 < v) (U_pos : 0 < U)
    (L : Long c c' s s' d) (d_pos : 0 < d) where
  -- Y C ≤ X S: then C ≤ X / U
  module _ (h : 33554432 * (Y * c + X * s') + 9 * (v * d) ≤ 33554432 * (Y * c' + X * s)) where
    -- S is above 0 where C is not negative
    sin_above : c' ≤ c → s' ≤ s
    sin_above g = elim (here_or_on s s') [
      | inl k ↦ absurd (no (mul-le-mul_left Y g) (mul-le-mul_left X (le_of_lt k)) (mul-pos v_pos d_pos))
      | inr k ↦ k
    ]
      where
        no : Y * c' ≤ Y * c → X * s ≤ X * s' → 0 < v * d → ⊥
        no a b e = omega arith

    over_it : U ≤ 2 * v → (i j : ℕ) → c' + i ≡ c → s' + j ≡ s → X * d ≤ U * i → ⊥
    over_it w i j ec es g =
        transfer_up U X Y v i j d R X_le Y_under v_pos U_pos d_pos (margin (ap (λ (z : ℕ). Y * z) ec) (ap (λ (z : ℕ). X * z) es)) g
        (squares_up c' i s' j d (subst
        (λ (z : ℕ). 1125899906842624 * (z * z + c' * c' + ((s' + j) * (s' + j) + s' * s'))
        ≤ 1125899906842624 * (2 * (z * c') + 2 * ((s' + j) * s')) + 1125899906842625 * (d * d)) (sym ec)
        (subst (λ (z : ℕ). 1125899906842624 * (c * c + c' * c' + (z * z + s' * s'))
        ≤ 1125899906842624 * (2 * (c * c') + 2 * (z * s')) + 1125899906842625 * (d * d)) (sym es) L.0))) w
      where
        margin : Y * (c' + i) ≡ Y * c → X * (s' + j) ≡ X * s → 33554432 * (Y * i) + 9 * (v * d) ≤ 33554432 * (X * j)
        margin a b = omega arith

    pub upper_side : U ≤ 2 * v → c * U ≤ c' * U + X * d
    upper_side w =
        elim (here_or_on (c' * U + X * d) (c * U)) [
          | inl g ↦
              let e : c' ≤ c = above g in
              let f : s' ≤ s = sin_above e in
              absurd (over_it w (c - c') (s - s') (omega arith) (omega arith) (room (c - c') (omega arith) g))
          | inr g ↦ g
        ]
      where
        above : c' * U + X * d < c * U → c' ≤ c
        above g = elim (here_or_on c c') [ inl k ↦ absurd (no g (mul-le-mul_right U (le_of_lt k))) | inr k ↦ k ]
          where
            no : c' * U + X * d < c * U → c * U ≤ c' * U → ⊥
            no a b = omega arith

        room : (i : ℕ) → c' + i ≡ c → c' * U + X * d < c * U → X * d ≤ U * i
        room i e g = omega (arith, ap (λ (z : ℕ). z * U) e)

  -- X S ≤ Y C: then X / U ≤ C
  module _ (h : 33554432 * (Y * c' + X * s) + 9 * (v * d) ≤ 33554432 * (Y * c + X * s')) (low : 2147483648 * s' ≤ 2147483648 * s + d) where
    -- what is below 0 counts for little
    little : 2147483648 * (X * s') ≤ 2147483648 * (X * s) + v * d
    little = omega (arith, mul-le-mul_left X low, mul-le-mul_right d X_under)

    cos_above : c' ≤ c
    cos_above = elim (here_or_on c c') [ inl k ↦ absurd (no (mul-le-mul_left Y (le_of_lt k)) (mul-pos v_pos d_pos)) | inr k ↦ k ]
      where
        no : Y * c ≤ Y * c' → 0 < v * d → ⊥
        no a b = omega (arith, little)

    under_it : (i j : ℕ) → c' + i ≡ c → (s' + j ≡ s) ⊎ (s + j ≡ s') → U * i ≤ X * d → ⊥
    under_it i j ec es g = transfer_down U X Y v i j d R X_le Y_under v_pos U_pos d_pos (margin es (ap (λ (z : ℕ). Y * z) ec)) g (norm es)
      where
        norm : (s' + j ≡ s) ⊎ (s + j ≡ s') → 1125899906842623 * (d * d) ≤ 1125899906842624 * (i * i + j * j)
        norm (inl e) =
            squares_down c' i s' j d
            (subst (λ (z : ℕ). 1125899906842624 * (2 * (z * c') + 2 * ((s' + j) * s')) + 1125899906842623 * (d * d)
            ≤ 1125899906842624 * (z * z + c' * c' + ((s' + j) * (s' + j) + s' * s'))) (sym ec)
            (subst (λ (z : ℕ). 1125899906842624 * (2 * (c * c') + 2 * (z * s')) + 1125899906842623 * (d * d)
            ≤ 1125899906842624 * (c * c + c' * c' + (z * z + s' * s'))) (sym e) L.1))
        norm (inr e) =
            squares_down c' i s j d (subst
            (λ (z : ℕ). 1125899906842624 * (2 * (z * c') + 2 * ((s + j) * s)) + 1125899906842623 * (d * d)
            ≤ 1125899906842624 * (z * z + c' * c' + ((s + j) * (s + j) + s * s))) (sym ec)
            (subst (λ (z : ℕ). 1125899906842624 * (2 * (c * c') + 2 * (z * s)) + 1125899906842623 * (d * d)
            ≤ 1125899906842624 * (c * c + c' * c' + (z * z + s * s))) (sym e) (squares_turn c c' s s' d L.1)))

        margin : (s' + j ≡ s) ⊎ (s + j ≡ s') → Y * (c' + i) ≡ Y * c → 134217728 * (X * j) + 35 * (v * d) ≤ 134217728 * (Y * i)
        margin (inl e) a = omega (arith, ap (λ (z : ℕ). X * z) e)
        margin (inr e) a = omega (arith, little, ap (λ (z : ℕ). X * z) e)

    either : (s' ≤ s) ⊎ (s ≤ s') → (j : ℕ) × ((s' + j ≡ s) ⊎ (s + j ≡ s'))
    either (inl k) = (s - s', inl (omega arith))
    either (inr k) = (s' - s, inr (omega arith))

    order : (s' ≤ s) ⊎ (s ≤ s')
    order = elim (here_or_on s s') [ inl k ↦ inr (le_of_lt k) | inr k ↦ inl k ]

    pub lower_side : c' * U + X * d ≤ c * U
    lower_side =
        elim (here_or_on (c * U) (c' * U + X * d)) [
          | inl g ↦ let o = either order in absurd (under_it (c - c') o.0 (join cos_above) o.1 (room (c - c') (join cos_above) g))
          | inr g ↦ g
        ]
      where
        join : c' ≤ c → c' + (c - c') ≡ c
        join k = omega arith

        room : (i : ℕ) → c' + i ≡ c → c * U < c' * U + X * d → U * i ≤ X * d
        room i e g = omega (arith, ap (λ (z : ℕ). z * U) e)

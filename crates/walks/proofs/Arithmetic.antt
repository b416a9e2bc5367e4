-- The descent's arithmetic, on whole numbers alone: u is the number 1, the others are in units. Nothing here is about floats.
use Rattle.std.specs.Prelude.{◌≡◌, ℕ, ◌+◌, ◌-◌, ◌*◌, ◌<◌, ◌≤◌, Bool, true, false, not, T, ltb, ◌⊎◌}
use mathlib.Core.Path.{sym, subst}
use mathlib.Core.Logic.{inl, inr}
use native.Mathlib.Nat.{add_comm, le_of_lt, lt_of_not-le, mul-le-mul, mul-le-mul_left, mul-le-mul_right, le_of_mul-le-mul_right}
use native.Mathlib.Omega.{arith}
use lib.Dec.{ltb→lt, nltb→le}
use Rattle.units.specs.Units.{gap}
use Rattle.units.proofs.Errors.{Summed, Multiplied, Within}
use Rattle.units.proofs.Whole.{le_or_lt}

-- ---- (b) the distance Q against the differences X, Y, Z
pub record Dist (X Y Z qx qy qz s1 s Q u : ℕ) : Type 0 where
  pub sx : Multiplied qx (X * X) u
  pub sy : Multiplied qy (Y * Y) u
  pub sz : Multiplied qz (Z * Z) u
  pub two : Summed s1 (qx + qy)
  pub three : Summed s (s1 + qz)
  pub root_up : 1024 * (Q * Q) ≤ 1025 * (s * u)
  pub root_low : 1023 * (s * u) ≤ 1024 * (Q * Q)
  pub big : 1000000 * u ≤ Q * Q

too_far : (xx yy zz qx qy qz s1 s qq u : ℕ) → 1024 * (qx * u) ≤ 1025 * xx + 512 * u → 1024 * (qy * u) ≤ 1025 * yy + 512 * u
    → 1024 * (qz * u) ≤ 1025 * zz + 512 * u
    → 1024 * s1 ≤ 1025 * (qx + qy) + 512 → 1024 * s ≤ 1025 * (s1 + qz) + 512 → 1024 * qq ≤ 1025 * (s * u) → 1000000 * u ≤ qq
    → 256 * xx ≤ 81 * qq → 256 * yy ≤ 81 * qq → 256 * zz ≤ 81 * qq → 0 < u → ⊥
too_far xx yy zz qx qy qz s1 s qq u a b c d e f g x y z U =
    let d' : 1024 * s1 * u ≤ (1025 * (qx + qy) + 512) * u = mul-le-mul_right u d in
    let e' : 1024 * s * u ≤ (1025 * (s1 + qz) + 512) * u = mul-le-mul_right u e in
    omega arith

square : (X Q : ℕ) → 16 * X < 9 * Q → 256 * (X * X) ≤ 81 * (Q * Q)
square X Q h = let k : 16 * X * (16 * X) ≤ 9 * Q * (9 * Q) = mul-le-mul (le_of_lt h) (le_of_lt h) in omega arith

pub pick : (X Y Z qx qy qz s1 s Q u : ℕ) → 0 < u → Dist X Y Z qx qy qz s1 s Q u → (9 * Q ≤ 16 * X) ⊎ ((9 * Q ≤ 16 * Y) ⊎ (9 * Q ≤ 16 * Z))
pick X Y Z qx qy qz s1 s Q u U h =
    go (ltb (16 * X) (9 * Q)) (ltb (16 * Y) (9 * Q)) (ltb (16 * Z) (9 * Q)) (ltb→lt (16 * X) (9 * Q))
    (nltb→le (16 * X) (9 * Q)) (ltb→lt (16 * Y) (9 * Q)) (nltb→le (16 * Y) (9 * Q)) (ltb→lt (16 * Z) (9 * Q))
    (nltb→le (16 * Z) (9 * Q))
  where
    go : (a b c : Bool) → (T a → 16 * X < 9 * Q) → (T (not a) → 9 * Q ≤ 16 * X) → (T b → 16 * Y < 9 * Q)
        → (T (not b) → 9 * Q ≤ 16 * Y) → (T c → 16 * Z < 9 * Q) → (T (not c) → 9 * Q ≤ 16 * Z)
        → (9 * Q ≤ 16 * X) ⊎ ((9 * Q ≤ 16 * Y) ⊎ (9 * Q ≤ 16 * Z))
    go false b c i j k l m n = inl (j tt)
    go true false c i j k l m n = inr (inl (l tt))
    go true true false i j k l m n = inr (inr (n tt))
    go true true true i j k l m n =
        absurd
        (too_far (X * X) (Y * Y) (Z * Z) qx qy qz s1 s (Q * Q) u h.sx.up h.sy.up h.sz.up h.two.up
        h.three.up h.root_up h.big
        (square X Q (i tt)) (square Y Q (k tt)) (square Z Q (m tt)) U)

-- no difference is twice the distance
too_near : (ww qw s1 s qq u rest rest' : ℕ) → 1023 * ww ≤ 1024 * (qw * u) + 512 * u → 1023 * (qw + rest) ≤ 1024 * s1 + 512
    → 1023 * (s1 + rest') ≤ 1024 * s + 512
    → 1023 * (s * u) ≤ 1024 * qq → 1000000 * u ≤ qq → 4 * qq ≤ ww → 0 < u → ⊥
too_near ww qw s1 s qq u r r' a b c d e f U =
    let b' : 1023 * (qw + r) * u ≤ (1024 * s1 + 512) * u = mul-le-mul_right u b in
    let c' : 1023 * (s1 + r') * u ≤ (1024 * s + 512) * u = mul-le-mul_right u c in
    omega arith

too_near_last : (ww qw s1 s qq u : ℕ) → 1023 * ww ≤ 1024 * (qw * u) + 512 * u → 1023 * (s1 + qw) ≤ 1024 * s + 512
    → 1023 * (s * u) ≤ 1024 * qq → 1000000 * u ≤ qq → 4 * qq ≤ ww → 0 < u → ⊥
too_near_last ww qw s1 s qq u a c d e f U =
    let c' : 1023 * (s1 + qw) * u ≤ (1024 * s + 512) * u = mul-le-mul_right u c in
    omega arith

twice : (X Q : ℕ) → 2 * Q ≤ X → 4 * (Q * Q) ≤ X * X
twice X Q h = let k : 2 * Q * (2 * Q) ≤ X * X = mul-le-mul h h in omega arith

swap : (a b c : ℕ) → 1023 * (a + b) ≤ c → 1023 * (b + a) ≤ c
swap a b c h = omega arith

pub under : (X Y Z qx qy qz s1 s Q u : ℕ) → 0 < u → Dist X Y Z qx qy qz s1 s Q u → (X < 2 * Q) × (Y < 2 * Q) × (Z < 2 * Q)
under X Y Z qx qy qz s1 s Q u U h = (
  lt_of_not-le
      (λ (g : 2 * Q ≤ X). too_near (X * X) qx s1 s (Q * Q) u qy qz
      h.sx.low h.two.low h.three.low h.root_low h.big (twice X Q g) U),
  lt_of_not-le
      (λ (g : 2 * Q ≤ Y). too_near (Y * Y) qy s1 s (Q * Q) u qx qz
      h.sy.low (swap qx qy (1024 * s1 + 512) h.two.low) h.three.low h.root_low h.big (twice Y Q g) U),
  lt_of_not-le
      (λ (g : 2 * Q ≤ Z). too_near_last (Z * Z) qz s1 s (Q * Q) u h.sz.low h.three.low h.root_low h.big (twice Z Q g) U),
)

-- ---- one coordinate's move: E is the exact difference, D the rounded one, G = D / Q, H = G * M. An error is a multiple of δ = 2 ^
-- -24; a sum's is 16 * δ
pub record Move (E D G H M Q u δ : ℕ) : Type 0 where
  pub diff : Within D E (16 * δ)
  pub quot : Within (G * Q) (D * u) (Q * δ)
  pub prod : Within (H * u) (G * M) (u * (2 * δ))

-- (c) the move is no longer than the difference, but for rounding
move_up' : (D G M Q u δ : ℕ) → 0 < Q → M ≤ Q → M ≤ u → G * Q ≤ D * u + Q * δ → G * M ≤ D * u + u * δ
move_up' D G M Q u δ QP MQ MU h =
    let a : G * Q * M ≤ (D * u + Q * δ) * M = mul-le-mul_right M h in
    let b : D * u * M ≤ D * u * Q = mul-le-mul_left (D * u) MQ in
    let c : Q * δ * M ≤ Q * δ * u = mul-le-mul_left (Q * δ) MU in
    le_of_mul-le-mul_right {m = G * M} {n = D * u + u * δ} {k = Q} (omega arith) QP

pub move_up : (E D G H M Q u δ : ℕ) → 0 < Q → 0 < u → M ≤ Q → M ≤ u → Move E D G H M Q u δ → H ≤ E + 19 * δ
move_up E D G H M Q u δ QP UP MQ MU h =
    let a : G * M ≤ D * u + u * δ = move_up' D G M Q u δ QP MQ MU h.quot.up in
    let b : H * u ≤ G * M + u * (2 * δ) = h.prod.up in
    let c : H ≤ D + 3 * δ = le_of_mul-le-mul_right {m = H} {n = D + 3 * δ} {k = u} (omega arith) UP in
    let d : D ≤ E + 16 * δ = h.diff.up in
    omega arith

-- (b) the largest coordinate's move is 9/16 of the max move, but for rounding
pub move_low : (E D G H M Q u δ : ℕ) → 0 < Q → 0 < u → M ≤ u → 9 * Q ≤ 16 * D → Move E D G H M Q u δ → 9 * M ≤ 16 * H + 48 * δ
move_low E D G H M Q u δ QP UP MU k h =
    let a : D * u ≤ G * Q + Q * δ = h.quot.low in
    let k' : 9 * Q * u ≤ 16 * D * u = mul-le-mul_right u k in
    let b : 9 * u ≤ 16 * G + 16 * δ = le_of_mul-le-mul_right {m = 9 * u} {n = 16 * G + 16 * δ} {k = Q} (omega arith) QP in
    let b' : 9 * u * M ≤ (16 * G + 16 * δ) * M = mul-le-mul_right M b in
    let c : δ * M ≤ δ * u = mul-le-mul_left δ MU in
    let d : G * M ≤ H * u + u * (2 * δ) = h.prod.low in
    le_of_mul-le-mul_right {m = 9 * M} {n = 16 * H + 48 * δ} {k = u} (omega arith) UP

-- ---- (d) one coordinate after the step. The target is pt - nt and the last point pl - nl; the move is H, towards the target, which is
-- not below; the new point is Np - Nn,
-- and A - B is what the sum last + move is before its rounding
still_up : (pt nt pl nl H A B Np Nn E M Q D δ : ℕ) → E + (nt + pl) ≡ pt + nl → A + nl ≡ B + (pl + H) → Within Np A (16 * δ)
    → Within Nn B (16 * δ) → H ≤ E + 19 * δ
    → gap (pt + Nn) (nt + Np) ≤ E + 51 * δ
still_up pt nt pl nl H A B Np Nn E M Q D δ e a np nn h = omega arith

most_up : (pt nt pl nl H A B Np Nn E M Q D δ : ℕ) → E + (nt + pl) ≡ pt + nl → A + nl ≡ B + (pl + H) → Within Np A (16 * δ)
    → Within Nn B (16 * δ) → H ≤ E + 19 * δ
    → D ≤ E + 16 * δ → M ≤ Q → 9 * Q ≤ 16 * D → 9 * M ≤ 16 * H + 48 * δ
    → 16 * gap (pt + Nn) (nt + Np) + 9 * M ≤ 16 * E + 1072 * δ
most_up pt nt pl nl H A B Np Nn E M Q D δ e a np nn h d mq q m = omega arith

-- (f) the move is M parts in Q of the difference, but for rounding
move_share : (E D G H M Q u δ : ℕ) → 0 < u → M ≤ Q → M ≤ u → Move E D G H M Q u δ → M * E ≤ Q * H + Q * (19 * δ)
move_share E D G H M Q u δ UP MQ MU h =
    let a : D * u * M ≤ (G * Q + Q * δ) * M = mul-le-mul_right M h.quot.low in
    let b : G * M * Q ≤ (H * u + u * (2 * δ)) * Q = mul-le-mul_right Q h.prod.low in
    let c : Q * δ * M ≤ Q * δ * u = mul-le-mul_left (Q * δ) MU in
    let d : D * M ≤ Q * H + Q * (3 * δ) = le_of_mul-le-mul_right {m = D * M} {n = Q * H + Q * (3 * δ)} {k = u} (omega arith) UP in
    let e : M * E ≤ M * (D + 16 * δ) = mul-le-mul_left M h.diff.low in
    let f : M * (16 * δ) ≤ Q * (16 * δ) = mul-le-mul_right (16 * δ) MQ in
    omega arith

-- and no more
move_no_more : (E D G H M Q u δ : ℕ) → 0 < u → M ≤ Q → M ≤ u → Move E D G H M Q u δ → Q * H ≤ M * E + Q * (19 * δ)
move_no_more E D G H M Q u δ UP MQ MU h =
    let a : G * Q * M ≤ (D * u + Q * δ) * M = mul-le-mul_right M h.quot.up in
    let b : H * u * Q ≤ (G * M + u * (2 * δ)) * Q = mul-le-mul_right Q h.prod.up in
    let c : Q * δ * M ≤ Q * δ * u = mul-le-mul_left (Q * δ) MU in
    let d : Q * H ≤ D * M + Q * (3 * δ) = le_of_mul-le-mul_right {m = Q * H} {n = D * M + Q * (3 * δ)} {k = u} (omega arith) UP in
    let e : M * D ≤ M * (E + 16 * δ) = mul-le-mul_left M h.diff.up in
    let f : M * (16 * δ) ≤ Q * (16 * δ) = mul-le-mul_right (16 * δ) MQ in
    omega arith

left_up : (pt nt pl nl H A B Np Nn E δ : ℕ) → E + (nt + pl) ≡ pt + nl → A + nl ≡ B + (pl + H) → Within Np A (16 * δ)
    → Within Nn B (16 * δ) → E ≤ gap (pt + Nn) (nt + Np) + H + 32 * δ
left_up pt nt pl nl H A B Np Nn E δ e a np nn = omega arith

left_over : (g E H M Q δ : ℕ) → E ≤ g + H + 32 * δ → Q * H ≤ M * E + Q * (19 * δ) → Q * E ≤ Q * g + M * E + Q * (51 * δ)
left_over g E H M Q δ a b = let c : Q * E ≤ Q * (g + H + 32 * δ) = mul-le-mul_left Q a in omega arith

share_up : (pt nt pl nl H A B Np Nn E δ : ℕ) → E + (nt + pl) ≡ pt + nl → A + nl ≡ B + (pl + H) → Within Np A (16 * δ)
    → Within Nn B (16 * δ) → H ≤ E → gap (pt + Nn) (nt + Np) + H ≤ E + 32 * δ
share_up pt nt pl nl H A B Np Nn E δ e a np nn h = omega arith

past_up : (pt nt pl nl H A B Np Nn E δ : ℕ) → E + (nt + pl) ≡ pt + nl → A + nl ≡ B + (pl + H) → Within Np A (16 * δ)
    → Within Nn B (16 * δ) → E < H → H ≤ E + 19 * δ → gap (pt + Nn) (nt + Np) ≤ 51 * δ
past_up pt nt pl nl H A B Np Nn E δ e a np nn l h = omega arith

-- so is what is left of it
left_short : (g E H M Q δ : ℕ) → g + H ≤ E + 32 * δ → M * E ≤ Q * H + Q * (19 * δ) → Q * g + M * E ≤ Q * E + Q * (51 * δ)
left_short g E H M Q δ a b = let c : Q * (g + H) ≤ Q * (E + 32 * δ) = mul-le-mul_left Q a in omega arith

left_past : (g E M Q δ : ℕ) → g ≤ 51 * δ → M ≤ Q → Q * g + M * E ≤ Q * E + Q * (51 * δ)
left_past g E M Q δ a b =
    let c : Q * g ≤ Q * (51 * δ) = mul-le-mul_left Q a in
    let d : M * E ≤ Q * E = mul-le-mul_right E b in
    omega arith

pub record Coord (pt nt pl nl Np Nn M Q D δ : ℕ) : Type 0 where
  pub still : gap (pt + Nn) (nt + Np) ≤ gap (pt + nl) (nt + pl) + 51 * δ
  pub most : 9 * Q ≤ 16 * D → 16 * gap (pt + Nn) (nt + Np) + 9 * M ≤ 16 * gap (pt + nl) (nt + pl) + 1072 * δ
  pub shrinks : Q * gap (pt + Nn) (nt + Np) + M * gap (pt + nl) (nt + pl) ≤ Q * gap (pt + nl) (nt + pl) + Q * (51 * δ)
  pub keeps : Q * gap (pt + nl) (nt + pl) ≤ Q * gap (pt + Nn) (nt + Np) + M * gap (pt + nl) (nt + pl) + Q * (51 * δ)

trunc : (a b : ℕ) → a - b + b ≡ b - a + a
trunc a b = omega arith

exact : (a b : ℕ) → b ≤ a → a - b + b ≡ a
exact a b h = omega arith

gap_of_le : (a b : ℕ) → b ≤ a → gap a b ≡ a - b
gap_of_le a b h = omega arith

gap_comm : (a b : ℕ) → gap a b ≡ gap b a
gap_comm a b = omega arith

no_back : (a h n k : ℕ) → k ≡ 0 → a + (n + k) ≡ h → a + n ≡ h
no_back a h n k z e = omega arith

none_added : (a b : ℕ) → b ≡ 0 → a + b ≡ a
none_added a b e = omega arith

-- towards larger numbers
pub coord_up : (pt nt pl nl Dp Dn Gp Hp Hn Np Nn M Q u δ : ℕ) → 0 < Q → 0 < u → M ≤ Q → M ≤ u → nt + pl ≤ pt + nl → Dn ≡ 0 → Hn ≡ 0
    → Move (pt + nl - (nt + pl)) Dp Gp Hp M Q u δ
    → Within Np (pl + Hp - (nl + Hn)) (16 * δ) → Within Nn (nl + Hn - (pl + Hp)) (16 * δ)
    → Coord pt nt pl nl Np Nn M Q (Dp + Dn) δ
coord_up pt nt pl nl Dp Dn Gp Hp Hn Np Nn M Q u δ QP UP MQ MU le d0 h0 mv np nn =
    let E = pt + nl - (nt + pl) in
    let A = pl + Hp - (nl + Hn) in
    let B = nl + Hn - (pl + Hp) in
    let e = exact (pt + nl) (nt + pl) le in
    let a : A + nl ≡ B + (pl + Hp) = no_back A (B + (pl + Hp)) nl Hn h0 (trunc (pl + Hp) (nl + Hn)) in
    let hu = move_up E Dp Gp Hp M Q u δ QP UP MQ MU mv in
    let g : E ≡ gap (pt + nl) (nt + pl) = sym (gap_of_le (pt + nl) (nt + pl) le) in
    record {
      still = subst (λ (x : ℕ). gap (pt + Nn) (nt + Np) ≤ x + 51 * δ) g (still_up pt nt pl nl Hp A B Np Nn E M Q Dp δ e a np nn hu);
      most = λ k.
          let k' : 9 * Q ≤ 16 * Dp = subst (λ (x : ℕ). 9 * Q ≤ 16 * x) (none_added Dp Dn d0) k in
          subst (λ (x : ℕ). 16 * gap (pt + Nn) (nt + Np) + 9 * M ≤ 16 * x + 1072 * δ) g
          (most_up pt nt pl nl Hp A B Np Nn E M Q Dp δ e a np nn hu mv.diff.up MQ k' (move_low E Dp Gp Hp M Q u δ QP UP MU k' mv));
      shrinks = subst (λ (x : ℕ). Q * gap (pt + Nn) (nt + Np) + M * x ≤ Q * x + Q * (51 * δ)) g (elim (le_or_lt Hp E) [
        | inl h ↦ left_short (gap (pt + Nn) (nt + Np)) E Hp M Q δ (share_up pt nt pl nl Hp A B Np Nn E δ e a np nn h)
            (move_share E Dp Gp Hp M Q u δ UP MQ MU mv)
        | inr h ↦ left_past (gap (pt + Nn) (nt + Np)) E M Q δ (past_up pt nt pl nl Hp A B Np Nn E δ e a np nn h hu) MQ
      ]);
      keeps = subst (λ (x : ℕ). Q * x ≤ Q * gap (pt + Nn) (nt + Np) + M * x + Q * (51 * δ)) g
          (left_over (gap (pt + Nn) (nt + Np)) E Hp M Q δ (left_up pt nt pl nl Hp A B Np Nn E δ e a np nn)
          (move_no_more E Dp Gp Hp M Q u δ UP MQ MU mv));
    }

-- seen from the other side
pub coord_flip : (pt nt pl nl Np Nn M Q Dp Dn δ : ℕ) → Coord nt pt nl pl Nn Np M Q (Dn + Dp) δ → Coord pt nt pl nl Np Nn M Q (Dp + Dn) δ
coord_flip pt nt pl nl Np Nn M Q Dp Dn δ c =
    let g : gap (nt + pl) (pt + nl) ≡ gap (pt + nl) (nt + pl) = gap_comm (nt + pl) (pt + nl) in
    let g' : gap (nt + Np) (pt + Nn) ≡ gap (pt + Nn) (nt + Np) = gap_comm (nt + Np) (pt + Nn) in
    record {
      still =
          subst (λ (x : ℕ). x ≤ gap (pt + nl) (nt + pl) + 51 * δ) g' (subst (λ (x : ℕ). gap (nt + Np) (pt + Nn) ≤ x + 51 * δ) g c.still);
      most = λ k.
          subst (λ (x : ℕ). 16 * x + 9 * M ≤ 16 * gap (pt + nl) (nt + pl) + 1072 * δ) g'
          (subst (λ (x : ℕ). 16 * gap (nt + Np) (pt + Nn) + 9 * M ≤ 16 * x + 1072 * δ) g
          (c.most (subst (λ (x : ℕ). 9 * Q ≤ 16 * x) (add_comm Dp Dn) k)));
      shrinks =
          subst (λ (x : ℕ). Q * x + M * gap (pt + nl) (nt + pl) ≤ Q * gap (pt + nl) (nt + pl) + Q * (51 * δ)) g'
          (subst (λ (x : ℕ). Q * gap (nt + Np) (pt + Nn) + M * x ≤ Q * x + Q * (51 * δ)) g c.shrinks);
      keeps =
          subst (λ (x : ℕ). Q * gap (pt + nl) (nt + pl) ≤ Q * x + M * gap (pt + nl) (nt + pl) + Q * (51 * δ)) g'
          (subst (λ (x : ℕ). Q * x ≤ Q * gap (nt + Np) (pt + Nn) + M * x + Q * (51 * δ)) g c.keeps);
    }

-- ---- (e) the three coordinates together; a, b, c are the gaps before and a', b', c' after
pub lower : (a b c a' b' c' M δ : ℕ) (P Q R : Type 0) → 2704 * δ ≤ M
    → (P → 16 * a' + 9 * M ≤ 16 * a + 1072 * δ) → (Q → 16 * b' + 9 * M ≤ 16 * b + 1072 * δ) → (R → 16 * c' + 9 * M ≤ 16 * c + 1072 * δ)
    → a' ≤ a + 51 * δ → b' ≤ b + 51 * δ → c' ≤ c + 51 * δ → P ⊎ (Q ⊎ R) → 2 * (a' + b' + c') + M ≤ 2 * (a + b + c)
lower a b c a' b' c' M δ P Q R m p q r x y z (inl w) = let v = p w in omega arith
lower a b c a' b' c' M δ P Q R m p q r x y z (inr (inl w)) = let v = q w in omega arith
lower a b c a' b' c' M δ P Q R m p q r x y z (inr (inr w)) = let v = r w in omega arith

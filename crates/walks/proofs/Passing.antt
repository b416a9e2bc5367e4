-- On parts: where a step that goes along takes a coordinate. A move of at most the exact difference does not pass the target. A longer one
-- comes of a difference that was rounded up, and passes the target by twice that at most, since the target is an f32 and the sum is
-- rounded to the nearest. So the coordinate comes no farther from its target, and passes it by 2 ^ -24 at most.
use Rattle.std.specs.Prelude.{◌≡◌, ℕ, ◌+◌, ◌-◌, ◌*◌, ◌<◌, ◌≤◌, ◌⊎◌}
use mathlib.Core.Path.{refl, sym, ap, ◌∙◌, subst}
use mathlib.Core.Logic.{inl, inr}
use Prim.Native.Nat.{zero-le}
use native.Mathlib.Nat.{le_trans, le_of_eq, lt_of_le_of_lt, mul-pos, mul_comm, mul-le-mul, mul-le-mul_right}
use native.Mathlib.Nat.{lt_of_lt_of_le, mul-lt-mul_of_pos_right, le_of_mul-le-mul_right}
use native.Mathlib.Omega.{arith}
use lib.Dec.{lit<}
use lib.Ieee.{binary32, size}
use Rattle.units.specs.Units.{unity, gap, rounded, Exact}
use Rattle.units.proofs.Whole.{le_or_lt}
use Rattle.units.proofs.Grid.{grid_mono, grid_abs}
use Rattle.units.proofs.Add.{sum_mono}
use Rattle.units.proofs.Errors.{summed, rounded_zero, unity_pos}
use Rattle.units.proofs.Digits.{Digits}
use Rattle.moves.proofs.Squares.{diff}
use Rattle.walks.proofs.Coordinate.{δ, move, next, move_zero, diff_zero, total}
use Rattle.walks.proofs.Keeps.{adv}
use Rattle.walks.proofs.Neighbours.{back_at_most, sum_nearest}

-- 1 is an f32
exact_one : Exact unity
unfolding size
exact_one = refl

rest : (a b : ℕ) → b ≤ a → a - b + b ≡ a
rest a b h = omega arith

-- an f32 of p - n units is itself, rounded
own : (p n : ℕ) → (p ≡ 0) ⊎ (n ≡ 0) → Exact p → Exact n → (rounded (p - n) unity ≡ p) × (rounded (n - p) unity ≡ n)
own p n (inl z) ep en = (rounded_zero (p - n) (left p n z) ∙ sym z, ap (λ (w : ℕ). rounded w unity) (right p n z) ∙ en)
  where
    left : (p n : ℕ) → p ≡ 0 → p - n ≡ 0
    left p n z = omega arith

    right : (p n : ℕ) → p ≡ 0 → n - p ≡ n
    right p n z = omega arith
own p n (inr z) ep en = (ap (λ (w : ℕ). rounded w unity) (right p n z) ∙ ep, rounded_zero (n - p) (left p n z) ∙ sym z)
  where
    left : (p n : ℕ) → n ≡ 0 → n - p ≡ 0
    left p n z = omega arith

    right : (p n : ℕ) → n ≡ 0 → p - n ≡ p
    right p n z = omega arith

-- ---- it comes no farther, and it passes its target by 2 ^ -24 at most
pub record Passed (pt nt pl nl Q M : ℕ) : Type 0 where
  pub no_farther : gap (pt + next nt pt nl pl Q M) (nt + next pt nt pl nl Q M) ≤ gap (pt + nl) (nt + pl)
  pub past_by : nt + next pt nt pl nl Q M ≤ pt + next nt pt nl pl Q M + δ

-- the target pt - nt is no lower than the last point pl - nl; neither their difference nor the max move M is above the distance Q
module _ (pt nt pl nl Q M : ℕ) (less : M < Q) (one : M ≤ unity) (ts : (pt ≡ 0) ⊎ (nt ≡ 0)) (ls : (pl ≡ 0) ⊎ (nl ≡ 0))
    (ept : Exact pt) (ent : Exact nt) (epl : Exact pl) (enl : Exact nl) (ed : Exact (diff (pt + nl) (nt + pl)))
    (short : diff (pt + nl) (nt + pl) ≤ Q) (dt : Digits (pt + nt)) (dq : Digits Q) (dm : Digits M) (up : nt + pl ≤ pt + nl) where
  -- the difference, exact and rounded; the move to the target, and away from it; the new point
  abbrev E : ℕ
  E = pt + nl - (nt + pl)

  abbrev D : ℕ
  D = diff (pt + nl) (nt + pl)

  abbrev H : ℕ
  H = move D Q M

  abbrev K : ℕ
  K = move (diff (nt + pl) (pt + nl)) Q M

  abbrev Np : ℕ
  Np = next pt nt pl nl Q M

  abbrev Nn : ℕ
  Nn = next nt pt nl pl Q M

  still : K ≡ 0
  still = move_zero (diff (nt + pl) (pt + nl)) Q M (lt_of_le_of_lt zero-le less) (diff_zero (nt + pl) (pt + nl) up)

  no_more : H ≤ D
  no_more = back_at_most D Q M ed dq dm less one

  at_most_one : H ≤ unity
  at_most_one =
      let QP : 0 < Q = lt_of_le_of_lt zero-le less in
      let g : rounded D Q ≤ unity =
      le_trans (grid_mono binary32 D Q unity unity QP unity_pos (le_trans (mul-le-mul_right unity short) (le_of_eq (mul_comm Q unity))))
      (le_of_eq exact_one) in
      le_trans
      (grid_mono binary32 (rounded D Q * M) (unity * unity) unity unity (mul-pos unity_pos unity_pos) unity_pos
      (le_trans (mul-le-mul_right unity (mul-le-mul g one)) (le_of_eq (mul_comm (unity * unity) unity))))
      (le_of_eq exact_one)

  -- ---- a move of at most the difference
  stops_short : H ≤ E → nt + Np ≤ pt + Nn
  stops_short g =
      let h : pl + H + nt ≤ pt + (nl + K) = before pt nt pl nl H K g up in
      let s = sum_mono binary32 (pl + H) (nl + K) pt nt h in
      let o = own pt nt ts ept ent in
      turn Np (rounded (nt - pt) unity) (rounded (pt - nt) unity) Nn pt nt s o.0 o.1
    where
      before : (pt nt pl nl h k : ℕ) → h ≤ pt + nl - (nt + pl) → nt + pl ≤ pt + nl → pl + h + nt ≤ pt + (nl + k)
      before pt nt pl nl h k a b = omega arith

      turn : (a b c d p n : ℕ) → a + b ≤ c + d → c ≡ p → b ≡ n → n + a ≤ p + d
      turn a b c d p n h x y = omega arith

  -- ---- a longer one: the sum is H - E past the target, and is rounded by that much at most; c is twice as much
  passes : (c : ℕ) → E < H → 2 * H ≤ 2 * E + c → nt + Np ≤ pt + Nn + c
  passes c g r = by_side (rest (pt + nl) (nt + pl) up) ts
    where
      above : (pt nt pl nl H K E Np Nn c : ℕ) → E + (nt + pl) ≡ pt + nl → K ≡ 0 → nt ≡ 0 → E < H → 2 * H ≤ 2 * E + c
          → gap Np (pl + H - (nl + K)) ≤ gap pt (pl + H - (nl + K)) → nt + Np ≤ pt + Nn + c
      above pt nt pl nl H K E Np Nn c e k z g r a = omega arith

      -- a target below zero, where the sum is above zero, and where it is not
      across : (nt pl nl H K E Np Nn c : ℕ) → E + (nt + pl) ≡ nl → K ≡ 0 → 2 * H ≤ 2 * E + c → nl + K ≤ pl + H
          → gap Np (pl + H - (nl + K)) ≤ gap 0 (pl + H - (nl + K)) → nt + Np ≤ Nn + c
      across nt pl nl H K E Np Nn c e k r s a = omega arith

      below : (nt pl nl H K E Np Nn c : ℕ) → E + (nt + pl) ≡ nl → K ≡ 0 → E < H → 2 * H ≤ 2 * E + c → pl + H ≤ nl + K → Np ≡ 0
          → gap Nn (nl + K - (pl + H)) ≤ gap nt (nl + K - (pl + H)) → nt + Np ≤ Nn + c
      below nt pl nl H K E Np Nn c e k g r s z b = omega arith

      alone : (a b : ℕ) → b ≡ 0 → a + b ≡ a
      alone a b z = omega arith

      other : (a b : ℕ) → a ≡ 0 → a + b ≡ b
      other a b z = omega arith

      gone : (a b : ℕ) → a ≤ b → a - b ≡ 0
      gone a b h = omega arith

      more : nt + Np ≤ Nn + c → nt + Np ≤ pt + Nn + c
      more i = omega arith

      by_side : E + (nt + pl) ≡ pt + nl → (pt ≡ 0) ⊎ (nt ≡ 0) → nt + Np ≤ pt + Nn + c
      by_side e (inr z) =
          above pt nt pl nl H K E Np Nn c e still z g r (sum_nearest (pl + H - (nl + K)) pt (subst Digits (alone pt nt z) dt))
      by_side e (inl z) =
          let f : E + (nt + pl) ≡ nl = e ∙ other pt nl z in
          more (elim (total (nl + K) (pl + H)) [
            | inl s ↦ across nt pl nl H K E Np Nn c f still r s (sum_nearest (pl + H - (nl + K)) 0 (0, 0, refl, lit< tt))
            | inr s ↦ below nt pl nl H K E Np Nn c f still g r s (rounded_zero (pl + H - (nl + K)) (gone (pl + H) (nl + K) s))
                (sum_nearest (nl + K - (pl + H)) nt (subst Digits (other pt nt z) dt))
          ])

  -- so it passes by c at most, where c is twice the way by which a difference of less than H is rounded up
  past : (c : ℕ) → (E < H → 2 * D ≤ 2 * E + c) → nt + Np ≤ pt + Nn + c
  past c r = elim (le_or_lt H E) [
    | inl g ↦ weaken Np (pt + Nn) c (stops_short g)
    | inr g ↦ passes c g (through H D (2 * E + c) no_more (r g))
  ]
    where
      weaken : (a b k : ℕ) → nt + a ≤ b → nt + a ≤ b + k
      weaken a b k c = omega arith

      through : (a b c : ℕ) → a ≤ b → 2 * b ≤ c → 2 * a ≤ c
      through a b c x y = omega arith

  -- by no more than the difference, since that is rounded by one part in 1024 at most
  no_farther : gap (pt + Nn) (nt + Np) ≤ gap (pt + nl) (nt + pl)
  no_farther =
      close pt nt pl nl Np Nn up (adv pl nl H K ls still epl enl) (past E (λ g. little D E (lt_of_lt_of_le g no_more) (summed E).up))
    where
      little : (d e : ℕ) → e < d → 1024 * d ≤ 1025 * e + 512 → 2 * d ≤ 2 * e + e
      little d e g h = omega arith

      close : (pt nt pl nl a b : ℕ) → nt + pl ≤ pt + nl → pl + b ≤ nl + a → nt + a ≤ pt + b + (pt + nl - (nt + pl))
          → gap (pt + b) (nt + a) ≤ gap (pt + nl) (nt + pl)
      close pt nt pl nl a b u v w = omega arith

  -- and by 2 ^ -24, since the move is at most 1, and a difference below 1 is rounded by 2 ^ -25 at most
  past_by : nt + Np ≤ pt + Nn + δ
  past_by = past δ (λ g. part D E δ unity unity_pos
      (grid_abs binary32 E unity 125 unity_pos (mul-lt-mul_of_pos_right (lt_of_lt_of_le g at_most_one) unity_pos)).0)
    where
      part : (d e c u : ℕ) → 0 < u → 2 * (d * u) ≤ 2 * (e * u) + u * c → 2 * d ≤ 2 * e + c
      part d e c u p h = le_of_mul-le-mul_right {m = 2 * d} {n = 2 * e + c} {k = u} (omega arith) p

  pub passed : Passed pt nt pl nl Q M
  passed = record { no_farther = no_farther; past_by = past_by }

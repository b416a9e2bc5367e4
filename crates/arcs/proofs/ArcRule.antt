-- Arc cosine of whole numbers: the computed angle of (Q, Y) or (-Q, Y), Y near to the root of U ^ 2 - Q ^ 2, meets document 01's rule for
-- Q / U, at any e of F * 2 ^ -22 with F from 4 to 16. Assumes nothing.
use Rattle.std.specs.Prelude.{◌≡◌, ℕ, suc, ◌+◌, ◌-◌, ◌*◌, ◌/◌, ◌^◌, ◌<◌, ◌≤◌, Bool, true, false, ltb}
use mathlib.Core.Path.{refl, sym, subst}
use mathlib.Core.Logic.{inl, inr}
use native.Mathlib.Nat.{add-zero, mul-le-mul}
use native.Mathlib.Omega.{arith}
use lib.Dec.{lit<}
use Rattle.series.specs.Fractions.{Fraction, ◌÷◌, whole, negative, signed, ◌⊕◌, ◌⊖◌, ◌≋◌, ◌≼◌, ◌≺◌}
use Rattle.series.specs.Series.{C}
use Rattle.series.proofs.Fractions.{same_sym, le_same}
use Rattle.series.proofs.Order.{here_or_on}
use Rattle.series.proofs.Parity.{difference}
use Rattle.series.proofs.Grid.{sp, sm, cp, cm, D, D_pos}
use Rattle.series.proofs.Circle.{pyth_up, pyth_down}
use Rattle.series.proofs.Half.{sin_low}
use Rattle.arcs.specs.How.{wide, angle, smaller, larger, ratio, angle_of}
use Rattle.arcs.specs.Wedges.{P}
use Rattle.arcs.proofs.Octants.{Less, Right, Left, right, left}
use Rattle.arcs.proofs.StrictOrder.{lt_same}
use Rattle.arcs.proofs.Places.{G, G_pos, cosine_at, C_at, cosine_pos, less_at, plus_at}
use Rattle.arcs.proofs.Turn.{Rounded, rounded}
use Rattle.arcs.proofs.Ratios.{larger_x, larger_y}
use Rattle.arcs.proofs.Transfer.{Root}
use Rattle.arcs.proofs.Beside.{Long, upper_side, lower_side}

long : (n : ℕ) → n ≤ 4294967296 → Long (cp n) (cm n) (sp n) (sm n) D
long n h = (pyth_up n h, pyth_down n h)

long_flip : (c c' s s' d : ℕ) → Long c c' s s' d → Long c' c s s' d
long_flip c c' s s' d h = (omega (arith, h.0), omega (arith, h.1))

-- the larger of the two is at least half of U
large : (U X Y : ℕ) → Root U X Y → U ≤ 2 * larger X Y
large U X Y R = elim (here_or_on (2 * larger X Y) U) [
  | inl g ↦ absurd (no (larger X Y) R.Z (mul-le-mul (larger_x X Y) (larger_x X Y)) (mul-le-mul (larger_y X Y) (larger_y X Y))
      (mul-le-mul g g) R.sum R.low)
  | inr g ↦ g
]
  where
    no : (v z : ℕ) → X * X ≤ v * v → Y * Y ≤ v * v → suc (2 * v) * suc (2 * v) ≤ U * U → X * X + z ≡ U * U → 2097151 * z ≤ 2097152 * (Y * Y)
        → ⊥
    no v z a b c e f = omega arith

-- ---- from the fact on whole numbers to the order of fractions
pub above : (q u c c' d : ℕ) → c' * u + q * d ≤ c * u → q ÷ u ≼ difference c c' d
above q u c c' d h = go
  where
    go : q * d + c' * u ≤ c * u + 0 * d
    go = omega arith

pub under : (q u c c' d : ℕ) → c * u ≤ c' * u + q * d → difference c c' d ≼ q ÷ u
under q u c c' d h = go
  where
    go : c * u + 0 * d ≤ q * d + c' * u
    go = omega arith

pub above' : (q u c c' d : ℕ) → c' * u ≤ c * u + q * d → negative (q ÷ u) ≼ difference c c' d
above' q u c c' d h = go
  where
    go : 0 * d + c' * u ≤ c * u + q * d
    go = omega arith

pub under' : (q u c c' d : ℕ) → c * u + q * d ≤ c' * u → difference c c' d ≼ negative (q ÷ u)
under' q u c c' d h = go
  where
    go : c * u + q * d ≤ 0 * d + c' * u
    go = omega arith

-- the two sides of the wedge at the angle n, E before and E past it
pub record Sides (E : ℕ) (q : Fraction) (n : ℕ) : Type 0 where
  pub low : E < n → (k : ℕ) → k + E ≡ n → q ≼ difference (cp k) (cm k) D
  pub high : n + E < 3373259520 → difference (cp (n + E)) (cm (n + E)) D ≼ q

module _ (F : ℕ) (F_low : 4 ≤ F) (F_high : F ≤ 16) (U Q Y : ℕ) (U_pos : 0 < U) (Q_le : Q ≤ U) (R : Root U Q Y) where
  abbrev E : ℕ
  E = 256 * F

  abbrev v : ℕ
  v = larger Q Y

  some : 0 < v
  some = go (large U Q Y R)
    where
      go : {n : ℕ} → U ≤ 2 * n → 0 < n
      go g = omega arith

  upper_at : (c c' s s' : ℕ) → Long c c' s s' D → Less v Y Q c c' s s' → c * U ≤ c' * U + Q * D
  upper_at c c' s s' L h = upper_side U Q Y v c c' s s' D R Q_le (larger_x Q Y) (larger_y Q Y) some U_pos L D_pos h (large U Q Y R)

  lower_at : (c c' s s' : ℕ) → Long c c' s s' D → 2147483648 * s' ≤ 2147483648 * s + D → Less v Y Q c' c s' s → c' * U + Q * D ≤ c * U
  lower_at c c' s s' L l h = lower_side U Q Y v c c' s s' D R Q_le (larger_x Q Y) (larger_y Q Y) some U_pos L D_pos h l

  module _ (t A : ℕ) (B : Rounded t (256 * A)) where
    right_low : Right v Q Y t → E < 256 * A → (k : ℕ) → k + E ≡ 256 * A → Q ÷ U ≼ difference (cp k) (cm k) D
    right_low r g k j =
        let b : k ≤ 3373259426 = omega (arith, r.most, B.up) in
        let b' : k ≤ 4294967296 = omega arith in
        above Q U (cp k) (cm k) D
        (lower_at (cp k) (cm k) (sp k) (sm k) (long k b') (sin_low k b)
        (r.before (t - k) k (omega (arith, B.up, B.down)) (omega (arith, B.up, B.down)) (omega (arith, B.up, B.down))))

    right_high : Right v Q Y t → 256 * A + E < 3373259520 → difference (cp (256 * A + E)) (cm (256 * A + E)) D ≼ Q ÷ U
    right_high r g =
        let k = 256 * A + E in
        let b : k ≤ 4294967296 = omega arith in
        under Q U (cp k) (cm k) D
        (upper_at (cp k) (cm k) (sp k) (sm k) (long k b)
        (r.past (k - t) k (omega (arith, B.up, B.down)) (omega (arith, B.up, B.down)) (omega (arith, B.up, B.down))))

    left_low : Left v Q Y t → E < 256 * A → (k : ℕ) → k + E ≡ 256 * A → negative (Q ÷ U) ≼ difference (cp k) (cm k) D
    left_low r g k j =
        let b : k ≤ 4294967296 = omega (arith, r.most, B.up) in
        above' Q U (cp k) (cm k) D
        (upper_at (cm k) (cp k) (sp k) (sm k) (long_flip (cp k) (cm k) (sp k) (sm k) D (long k b))
        (r.before (t - k) k (omega (arith, B.up, B.down)) (omega (arith, B.up, B.down)) (omega (arith, B.up, B.down))))

    left_high : Left v Q Y t → 256 * A + E < 3373259520 → difference (cp (256 * A + E)) (cm (256 * A + E)) D ≼ negative (Q ÷ U)
    left_high r g =
        let k = 256 * A + E in
        let b : k ≤ 3373259426 = omega arith in
        let b' : k ≤ 4294967296 = omega arith in
        under' Q U (cp k) (cm k) D
        (lower_at (cm k) (cp k) (sp k) (sm k) (long_flip (cp k) (cm k) (sp k) (sm k) D (long k b')) (sin_low k b)
        (r.past (k - t) k (omega (arith, B.up, B.down)) (omega (arith, B.up, B.down)) (omega (arith, B.up, B.down))))

  pub sides : (left? : Bool) → Sides E (signed left? (Q ÷ U)) (256 * angle_of left? Q Y)
  unfolding angle
  sides false =
      let t = wide (ltb Q Y) false (ratio (smaller Q Y) (larger Q Y)) in
      let r = right Q Y some in
      record { low = right_low t ((t + 128) / 256) (rounded t) r; high = right_high t ((t + 128) / 256) (rounded t) r }
  sides true =
      let t = wide (ltb Q Y) true (ratio (smaller Q Y) (larger Q Y)) in
      let r = left Q Y some in
      record { low = left_low t ((t + 128) / 256) (rounded t) r; high = left_high t ((t + 128) / 256) (rounded t) r }

-- ---- document 01's words: a is n * 2 ^ -30
module _ (e : Fraction) (E : ℕ) (e_is : e ≋ E ÷ G) (e_pos : 0 < e.over) (q q' a : Fraction) (n : ℕ) (q_is : q' ≋ q) (q_pos : 0 < q'.over)
    (a_is : a ≋ n ÷ G) (a_pos : 0 < a.over) (s : Sides E q' n) where
  pub low_side : whole 0 ≺ a ⊖ e → q ≼ C (a ⊖ e)
  low_side h =
      let l : a ⊖ e ≋ difference n E G = less_at a e n E a_is e_is in
      let g : E < n = plain n E G G_pos (lt_same (whole 0) (whole 0) (a ⊖ e) (difference n E G) (omega arith) G_pos refl l h) in
      let k : n - E + E ≡ n = omega arith in
      le_same q' q (cosine_at n E) (C (a ⊖ e)) q_pos D_pos q_is (same_sym (C (a ⊖ e)) (cosine_at n E) (C_at (a ⊖ e) n E l))
      (subst (λ (c : Fraction). q' ≼ c) (sym (cosine_pos n E (n - E) k)) (s.low g (n - E) k))
    where
      plain : (n E g : ℕ) → 0 < g → 0 * g + E * 1 < n * 1 + 0 * g → E < n
      plain n E g p h = omega arith

  pub high_side : a ⊕ e ≺ P → C (a ⊕ e) ≼ q
  high_side h =
      let l : a ⊕ e ≋ difference (n + E) 0 G = plus_at a e n E a_is e_is in
      let g : n + E < 3373259520 =
      plain (n + E) (lt_same (a ⊕ e) (difference (n + E) 0 G) P P G_pos (lit< {m = 0} {n = 2 ^ 22} tt) l refl h) in
      le_same (cosine_at (n + E) 0) (C (a ⊕ e)) q' q D_pos q_pos (same_sym (C (a ⊕ e)) (cosine_at (n + E) 0) (C_at (a ⊕ e) (n + E) 0 l))
      q_is
      (subst (λ (c : Fraction). c ≼ q') (sym (cosine_pos (n + E) 0 (n + E) (add-zero (n + E)))) (s.high g))
    where
      plain : (m : ℕ) → m * 4194304 + 0 * 1073741824 < 13176795 * 1073741824 + 0 * 4194304 → m < 3373259520
      plain m h = omega arith

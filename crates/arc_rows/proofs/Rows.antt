-- S and C near each angle of the table, and the angle's direction and size, from the computed tests. Assumes nothing.
use Prim.Native.Nat.{ℕ, ◌+◌, ◌*◌, ◌^◌, ◌≤◌, ◌<◌}
use mathlib.Core.Path.{◌≡◌, refl, sym, ap, ◌∙◌, subst, subst₂}
use mathlib.Core.Bool.{Bool}
use mathlib.Core.List.{List, [], ◌∷◌}
use native.Mathlib.Omega.{arith}
use lib.Dec.{T, leb, leb→le}
use Rattle.series.proofs.Polynomials.{eval, add_p, below, poly_le, shift, back, ev_add, ev_scale, ev_shift, ev_back}
use Rattle.series.proofs.Grid.{sp, sm, cp, cm, sp_l, sm_l, cp_l, cm_l, D, sp_is, sm_is, cp_is, cm_is}
use Rattle.series.proofs.Tables.{both, both_l, both_r}
use Rattle.arc_rows.specs.ArcTangent.{arc_tangent}
use Rattle.arc_rows.proofs.RowTests.{big, a_of, b_of, ahead, direction, behind, good, good_back, sized}
use Rattle.arc_rows.proofs.RowsHold.{is_good, is_good_back, is_sized}

-- S is (s - s') / D, C is (c - c') / D, at w past the entry, in units 2 ^ -30
pub record Ahead (a b w s s' c c' : ℕ) : Type 0 where
  pub sin_low : 2 ^ 61 * b + 2 ^ 31 * (w * a) + 2 ^ 91 * s' ≤ 2 ^ 91 * s + w * w * b + 2 ^ 68 * D
  pub sin_high : 2 ^ 91 * s + w * w * b ≤ 2 ^ 61 * b + 2 ^ 31 * (w * a) + 2 ^ 91 * s' + 2 ^ 62 * D
  pub cos_high : 2 ^ 91 * c + 2 ^ 31 * (w * b) + w * w * a ≤ 2 ^ 61 * a + 2 ^ 91 * c' + 2 ^ 68 * D
  pub cos_low : 2 ^ 61 * a + 2 ^ 91 * c' ≤ 2 ^ 91 * c + 2 ^ 31 * (w * b) + w * w * a + 2 ^ 62 * D

-- the same at w before the entry
pub record Behind (a b w s s' c c' : ℕ) : Type 0 where
  pub sin_high : 2 ^ 91 * s + 2 ^ 31 * (w * a) ≤ 2 ^ 61 * b + 2 ^ 91 * s' + 2 ^ 68 * D
  pub cos_low : 2 ^ 61 * a + 2 ^ 31 * (w * b) + 2 ^ 91 * c' ≤ 2 ^ 91 * c + 2 ^ 63 * D

pub record Direction (k a b : ℕ) : Type 0 where
  pub left : k * a ≤ 128 * b + 256 * D
  pub right : 128 * b ≤ k * a + 256 * D
  pub norm : 2 ^ 44 * D ≤ a * (16384 + k * k)

pub le_by : {x y x' y' : ℕ} → x ≡ x' → y ≡ y' → x ≤ y → x' ≤ y'
le_by e f h = subst₂ (λ (i j : ℕ). i ≤ j) e f h

-- ---- the value of the lists of the test
constant : (A : ℕ) (L : List ℕ) (w : ℕ) → eval (add_p (A ∷ []) (big L)) w ≡ A + 2 ^ 91 * eval L w
constant A L w = ev_add (A ∷ []) (big L) w ∙ ap (λ (x : ℕ). A + w * 0 + x) (ev_scale (2 ^ 91) L w) ∙ go (eval L w)
  where
    go : (x : ℕ) → A + w * 0 + 2 ^ 91 * x ≡ A + 2 ^ 91 * x
    go x = omega arith

pub line : (A B : ℕ) (L : List ℕ) (w : ℕ) → eval (add_p (A ∷ B ∷ []) (big L)) w ≡ A + w * B + 2 ^ 91 * eval L w
line A B L w = ev_add (A ∷ B ∷ []) (big L) w ∙ ap (λ (x : ℕ). A + w * (B + w * 0) + x) (ev_scale (2 ^ 91) L w) ∙ go (eval L w)
  where
    go : (x : ℕ) → A + w * (B + w * 0) + 2 ^ 91 * x ≡ A + w * B + 2 ^ 91 * x
    go x = omega arith

pub square : (A B C : ℕ) (L : List ℕ) (w : ℕ) → eval (add_p (A ∷ B ∷ C ∷ []) (big L)) w ≡ A + w * B + w * w * C + 2 ^ 91 * eval L w
square A B C L w = ev_add (A ∷ B ∷ C ∷ []) (big L) w ∙ ap (λ (x : ℕ). A + w * (B + w * (C + w * 0)) + x) (ev_scale (2 ^ 91) L w)
    ∙ go (eval L w)
  where
    go : (x : ℕ) → A + w * (B + w * (C + w * 0)) + 2 ^ 91 * x ≡ A + w * B + w * w * C + 2 ^ 91 * x
    go x = omega arith

-- ---- ahead
module _ (a b w : ℕ) (hw : w ≤ 8392832) (s s' c c' : List ℕ) (t : T (ahead a b s s' c c')) where
  abbrev b1 : Bool
  b1 = below 8392832 (add_p (2 ^ 61 * b ∷ 2 ^ 31 * a ∷ []) (big s')) (add_p (2 ^ 68 * D ∷ 0 ∷ b ∷ []) (big s))

  abbrev b2 : Bool
  b2 = below 8392832 (add_p (0 ∷ 0 ∷ b ∷ []) (big s)) (add_p ((2 ^ 61 * b + 2 ^ 62 * D) ∷ 2 ^ 31 * a ∷ []) (big s'))

  abbrev b3 : Bool
  b3 = below 8392832 (add_p (0 ∷ 2 ^ 31 * b ∷ a ∷ []) (big c)) (add_p ((2 ^ 61 * a + 2 ^ 68 * D) ∷ []) (big c'))

  abbrev b4 : Bool
  b4 = below 8392832 (add_p (2 ^ 61 * a ∷ []) (big c')) (add_p (2 ^ 62 * D ∷ 2 ^ 31 * b ∷ a ∷ []) (big c))

  ahead_lists : Ahead a b w (eval s w) (eval s' w) (eval c w) (eval c' w)
  ahead_lists =
      let t2 : T (both b2 (both b3 b4)) = both_r b1 (both b2 (both b3 b4)) t in
      let t3 : T (both b3 b4) = both_r b2 (both b3 b4) t2 in
      let q1 = poly_le (add_p (2 ^ 61 * b ∷ 2 ^ 31 * a ∷ []) (big s')) (add_p (2 ^ 68 * D ∷ 0 ∷ b ∷ []) (big s)) 8392832
      (both_l b1 (both b2 (both b3 b4)) t) w hw in
      let q2 = poly_le (add_p (0 ∷ 0 ∷ b ∷ []) (big s)) (add_p ((2 ^ 61 * b + 2 ^ 62 * D) ∷ 2 ^ 31 * a ∷ []) (big s')) 8392832
      (both_l b2 (both b3 b4) t2) w hw in
      let q3 = poly_le (add_p (0 ∷ 2 ^ 31 * b ∷ a ∷ []) (big c)) (add_p ((2 ^ 61 * a + 2 ^ 68 * D) ∷ []) (big c')) 8392832
      (both_l b3 b4 t3) w hw in
      let q4 = poly_le (add_p (2 ^ 61 * a ∷ []) (big c')) (add_p (2 ^ 62 * D ∷ 2 ^ 31 * b ∷ a ∷ []) (big c)) 8392832 (both_r b3 b4 t3) w hw
      in
      record {
        sin_low = one (eval s w) (eval s' w) D (le_by (line (2 ^ 61 * b) (2 ^ 31 * a) s' w) (square (2 ^ 68 * D) 0 b s w) q1);
        sin_high = two (eval s w) (eval s' w) D (le_by (square 0 0 b s w) (line (2 ^ 61 * b + 2 ^ 62 * D) (2 ^ 31 * a) s' w) q2);
        cos_high = three (eval c w) (eval c' w) D (le_by (square 0 (2 ^ 31 * b) a c w) (constant (2 ^ 61 * a + 2 ^ 68 * D) c' w) q3);
        cos_low = four (eval c w) (eval c' w) D (le_by (constant (2 ^ 61 * a) c' w) (square (2 ^ 62 * D) (2 ^ 31 * b) a c w) q4);
      }
    where
      one : (x y d : ℕ) → 2 ^ 61 * b + w * (2 ^ 31 * a) + 2 ^ 91 * y ≤ 2 ^ 68 * d + w * 0 + w * w * b + 2 ^ 91 * x
          → 2 ^ 61 * b + 2 ^ 31 * (w * a) + 2 ^ 91 * y ≤ 2 ^ 91 * x + w * w * b + 2 ^ 68 * d
      one x y d h = omega arith

      two : (x y d : ℕ) → 0 + w * 0 + w * w * b + 2 ^ 91 * x ≤ 2 ^ 61 * b + 2 ^ 62 * d + w * (2 ^ 31 * a) + 2 ^ 91 * y
          → 2 ^ 91 * x + w * w * b ≤ 2 ^ 61 * b + 2 ^ 31 * (w * a) + 2 ^ 91 * y + 2 ^ 62 * d
      two x y d h = omega arith

      three : (x y d : ℕ) → 0 + w * (2 ^ 31 * b) + w * w * a + 2 ^ 91 * x ≤ 2 ^ 61 * a + 2 ^ 68 * d + 2 ^ 91 * y
          → 2 ^ 91 * x + 2 ^ 31 * (w * b) + w * w * a ≤ 2 ^ 61 * a + 2 ^ 91 * y + 2 ^ 68 * d
      three x y d h = omega arith

      four : (x y d : ℕ) → 2 ^ 61 * a + 2 ^ 91 * y ≤ 2 ^ 62 * d + w * (2 ^ 31 * b) + w * w * a + 2 ^ 91 * x
          → 2 ^ 61 * a + 2 ^ 91 * y ≤ 2 ^ 91 * x + 2 ^ 31 * (w * b) + w * w * a + 2 ^ 62 * d
      four x y d h = omega arith

-- ---- behind
module _ (a b w : ℕ) (hw : w ≤ 4224) (s s' c c' : List ℕ × List ℕ) (t : T (behind a b s s' c c')) where
  abbrev d1 : Bool
  d1 = below 4224 (add_p (0 ∷ 2 ^ 31 * a ∷ []) (big (add_p s.0 s'.1)))
      (add_p ((2 ^ 61 * b + 2 ^ 68 * D) ∷ []) (big (add_p s.1 s'.0)))

  abbrev d2 : Bool
  d2 = below 4224 (add_p (2 ^ 61 * a ∷ 2 ^ 31 * b ∷ []) (big (add_p c'.0 c.1))) (add_p (2 ^ 63 * D ∷ []) (big (add_p c'.1 c.0)))

  behind_lists : (x x' y y' : ℕ) → x + eval s.1 w ≡ eval s.0 w → x' + eval s'.1 w ≡ eval s'.0 w
      → y + eval c.1 w ≡ eval c.0 w → y' + eval c'.1 w ≡ eval c'.0 w → Behind a b w x x' y y'
  behind_lists x x' y y' ex ex' ey ey' =
      let q1 = poly_le (add_p (0 ∷ 2 ^ 31 * a ∷ []) (big (add_p s.0 s'.1)))
      (add_p ((2 ^ 61 * b + 2 ^ 68 * D) ∷ []) (big (add_p s.1 s'.0))) 4224 (both_l d1 d2 t) w hw in
      let q2 = poly_le (add_p (2 ^ 61 * a ∷ 2 ^ 31 * b ∷ []) (big (add_p c'.0 c.1)))
      (add_p (2 ^ 63 * D ∷ []) (big (add_p c'.1 c.0))) 4224 (both_r d1 d2 t) w hw in
      record {
        sin_high = one (eval s.0 w) (eval s.1 w) (eval s'.0 w) (eval s'.1 w) D ex ex'
            (le_by (line 0 (2 ^ 31 * a) (add_p s.0 s'.1) w
            ∙ ap (λ (z : ℕ). 0 + w * (2 ^ 31 * a) + 2 ^ 91 * z) (ev_add s.0 s'.1 w))
            (constant (2 ^ 61 * b + 2 ^ 68 * D) (add_p s.1 s'.0) w
            ∙ ap (λ (z : ℕ). 2 ^ 61 * b + 2 ^ 68 * D + 2 ^ 91 * z) (ev_add s.1 s'.0 w)) q1);
        cos_low = two (eval c.0 w) (eval c.1 w) (eval c'.0 w) (eval c'.1 w) D ey ey'
            (le_by (line (2 ^ 61 * a) (2 ^ 31 * b) (add_p c'.0 c.1) w ∙ ap (λ (z : ℕ). 2 ^ 61 * a + w * (2 ^ 31 * b) + 2 ^ 91 * z)
            (ev_add c'.0 c.1 w))
            (constant (2 ^ 63 * D) (add_p c'.1 c.0) w ∙ ap (λ (z : ℕ). 2 ^ 63 * D + 2 ^ 91 * z) (ev_add c'.1 c.0 w)) q2);
      }
    where
      one : (p q p' q' d : ℕ) → x + q ≡ p → x' + q' ≡ p'
          → 0 + w * (2 ^ 31 * a) + 2 ^ 91 * (p + q') ≤ 2 ^ 61 * b + 2 ^ 68 * d + 2 ^ 91 * (q + p')
          → 2 ^ 91 * x + 2 ^ 31 * (w * a) ≤ 2 ^ 61 * b + 2 ^ 91 * x' + 2 ^ 68 * d
      one p q p' q' d e e' h = omega arith

      two : (p q p' q' d : ℕ) → y + q ≡ p → y' + q' ≡ p'
          → 2 ^ 61 * a + w * (2 ^ 31 * b) + 2 ^ 91 * (p' + q) ≤ 2 ^ 63 * d + 2 ^ 91 * (q' + p)
          → 2 ^ 61 * a + 2 ^ 31 * (w * b) + 2 ^ 91 * y' ≤ 2 ^ 91 * y + 2 ^ 63 * d
      two p q p' q' d e e' h = omega arith

-- ---- the table
unfoldable pub a· : ℕ → ℕ
a· k = a_of (arc_tangent k)

unfoldable pub b· : ℕ → ℕ
b· k = b_of (arc_tangent k)

module _ (k : ℕ) (h : k < 129) where
  abbrev t : ℕ
  t = arc_tangent k

  abbrev pointed : Bool
  pointed = direction k (a_of t) (b_of t)

  abbrev on : Bool
  on = ahead (a_of t) (b_of t) (shift t sp_l) (shift t sm_l) (shift t cp_l) (shift t cm_l)

  row_good : T (both pointed on)
  row_good = unfold good in is_good k h

  pub row_direction : Direction k (a· k) (b· k)
  unfolding a· b·
  row_direction = go (a_of t) (b_of t) (both_l pointed on row_good)
    where
      go : (a b : ℕ) → T (direction k a b) → Direction k a b
      go a b s =
          let s' = both_r (leb (k * a) (128 * b + 256 * D))
          (both (leb (128 * b) (k * a + 256 * D)) (leb (2 ^ 30 * 16384 * D) (a * (16384 + k * k)))) s in
          record {
            left = leb→le _ _ (both_l (leb (k * a) (128 * b + 256 * D))
                (both (leb (128 * b) (k * a + 256 * D)) (leb (2 ^ 30 * 16384 * D) (a * (16384 + k * k)))) s);
            right = leb→le _ _ (both_l (leb (128 * b) (k * a + 256 * D)) (leb (2 ^ 30 * 16384 * D) (a * (16384 + k * k))) s');
            norm = leb→le _ _ (both_r (leb (128 * b) (k * a + 256 * D)) (leb (2 ^ 30 * 16384 * D) (a * (16384 + k * k))) s');
          }

  pub row_ahead : (w n : ℕ) → w ≤ 8392832 → n ≡ arc_tangent k + w → Ahead (a· k) (b· k) w (sp n) (sm n) (cp n) (cm n)
  unfolding a· b·
  row_ahead w n hw e =
      let r : Ahead (a_of t) (b_of t) w (eval (shift t sp_l) w) (eval (shift t sm_l) w) (eval (shift t cp_l) w) (eval (shift t cm_l) w)
      = ahead_lists (a_of t) (b_of t) w hw (shift t sp_l) (shift t sm_l) (shift t cp_l) (shift t cm_l) (both_r pointed on row_good) in
      subst (λ (m : ℕ). Ahead (a_of t) (b_of t) w (sp m) (sm m) (cp m) (cm m)) (sym e)
      (rw (
        ev_shift t sp_l w ∙ sp_is (t + w),
        ev_shift t sm_l w ∙ sm_is (t + w),
        ev_shift t cp_l w ∙ cp_is (t + w),
        ev_shift t cm_l w
            ∙ cm_is (t + w),
      ) at r)

  pub row_behind : (w n : ℕ) → w ≤ 4224 → n + w ≡ arc_tangent k → Behind (a· k) (b· k) w (sp n) (sm n) (cp n) (cm n)
  unfolding a· b·
  row_behind w n hw e =
      rw (← sp_is n, ← sm_is n, ← cp_is n, ← cm_is n)
      (behind_lists (a_of t) (b_of t) w hw (back t sp_l) (back t sm_l) (back t cp_l) (back t cm_l) (unfold good_back in is_good_back k h)
      (eval sp_l n) (eval sm_l n) (eval cp_l n) (eval cm_l n)
      (ev_back sp_l t n w e) (ev_back sm_l t n w e) (ev_back cp_l t n w e) (ev_back cm_l t n w e))

  pub row_size : (6000000 * k ≤ arc_tangent k) × (arc_tangent k ≤ 9000000 * k) × (arc_tangent k ≤ 843314857)
  row_size =
      let s : T (both (leb (6000000 * k) t) (both (leb t (9000000 * k)) (leb t 843314857))) = unfold sized in is_sized k h in
      let s' = both_r (leb (6000000 * k) t) (both (leb t (9000000 * k)) (leb t 843314857)) s in (
        leb→le _ _ (both_l (leb (6000000 * k) t) (both (leb t (9000000 * k)) (leb t 843314857)) s),
        leb→le _ _ (both_l (leb t (9000000 * k)) (leb t 843314857) s'),
        leb→le _ _ (both_r (leb t (9000000 * k)) (leb t 843314857) s'),
      )

-- the first angle is 0, where S is 0 and C is 1
pub first_angle : arc_tangent 0 ≡ 0
unfolding arc_tangent
first_angle = refl

pub first_a : a· 0 ≡ 2 ^ 30 * D
unfolding a· arc_tangent cp_l cm_l D
first_a = refl

pub first_b : b· 0 ≡ 0
unfolding b· arc_tangent sp_l sm_l
first_b = refl

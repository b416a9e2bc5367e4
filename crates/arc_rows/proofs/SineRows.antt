-- S near each row of the arc sine's table, and how the row's polynomial follows it, from the computed tests. Assumes nothing.
use Prim.Native.Nat.{ℕ, zero, suc, ◌+◌, ◌*◌, ◌^◌, ◌-◌, ◌≤◌, ◌<◌}
use mathlib.Core.Path.{◌≡◌, refl, sym, ap, ap₂, ◌∙◌, subst, subst₂}
use mathlib.Core.Logic.{inl, inr}
use mathlib.Core.Bool.{Bool}
use mathlib.Core.List.{List, [], ◌∷◌}
use native.Mathlib.Nat.{add-mul, one-mul, zero-mul, zero-add}
use native.Mathlib.Omega.{arith}
use lib.Dec.{T, leb, leb→le, lit<}
use Rattle.series.proofs.Order.{here_or_on}
use Rattle.series.proofs.Polynomials.{eval, add_p, scale, mul_p, below, poly_le, shift, ev_add, ev_scale, ev_mul, ev_shift}
use Rattle.series.proofs.Grid.{sp, sm, sp_l, sm_l, cp_l, cm_l, D, sp_is, sm_is}
use Rattle.series.proofs.Tables.{both, both_l, both_r}
use Rattle.arc_rows.specs.ArcSine.{angle_at, slope_at, bend_at}
use Rattle.arc_rows.proofs.RowTests.{big, a_of, b_of}
use Rattle.arc_rows.proofs.Rows.{le_by, line, square}
use Rattle.arc_rows.proofs.SineTests.{base, early, sin_ahead, along, unit, past_p, past_q, before_p, before_q, in_parts, follows}
use Rattle.arc_rows.proofs.SineTests.{good_sine, sized_sine}
use Rattle.arc_rows.proofs.SinesHold.{is_good, is_sized}

-- ---- the order of two polynomials, part by part
parts_le : (h n s : ℕ) (p q : List ℕ) → T (in_parts h n s p q) → (x : ℕ) → s ≤ x → x < s + n * h → eval p x ≤ eval q x
parts_le h zero s p q t x l m = absurd (none (zero-mul h) l m)
  where
    none : 0 * h ≡ 0 → s ≤ x → x < s + 0 * h → ⊥
    none e a b = omega arith
parts_le h (suc n) s p q t x l m = elim (here_or_on x (s + h)) [
  | inl g ↦
      let e : s + (x - s) ≡ x = omega arith in
      le_by (ev_shift s p (x - s) ∙ ap (eval p) e) (ev_shift s q (x - s) ∙ ap (eval q) e)
      (poly_le (shift s p) (shift s q) h (both_l (below h (shift s p) (shift s q)) (in_parts h n (s + h) p q) t) (x - s) (omega arith))
  | inr g ↦ parts_le h n (s + h) p q (both_r (below h (shift s p) (shift s q)) (in_parts h n (s + h) p q) t) x g (more m)
]
  where
    more : x < s + suc n * h → x < s + h + n * h
    more a = omega arith

-- ---- the value of the lists of the test
-- c and the row's polynomial at x
abbrev pub at : ℕ → ℕ → ℕ → ℕ → ℕ
at c B C x = c + x * (262144 * B + x * C)

along_is : (c B C x : ℕ) → eval (along c B C) x ≡ at c B C x
along_is c B C x = omega arith

squared : (b c e f B C x : ℕ)
    → eval (add_p (scale b (mul_p (along c B C) (along c B C))) (e ∷ f ∷ [])) x ≡ b * (at c B C x * at c B C x) + (e + x * f)
squared b c e f B C x =
    ev_add (scale b (mul_p (along c B C) (along c B C))) (e ∷ f ∷ []) x
    ∙ ap (λ (n : ℕ). n + (e + x * (f + x * 0)))
    (ev_scale b (mul_p (along c B C) (along c B C)) x
    ∙ ap (λ (n : ℕ). b * n) (ev_mul (along c B C) (along c B C) x ∙ ap (λ (n : ℕ). n * n) (along_is c B C x)))
    ∙ go (b * (at c B C x * at c B C x))
  where
    go : (y : ℕ) → y + (e + x * (f + x * 0)) ≡ y + (e + x * f)
    go y = omega arith

straight : (a c e B C x : ℕ) → eval (add_p (e ∷ []) (scale a (along c B C))) x ≡ e + a * at c B C x
straight a c e B C x =
    ev_add (e ∷ []) (scale a (along c B C)) x
    ∙ ap (λ (n : ℕ). e + x * 0 + n) (ev_scale a (along c B C) x ∙ ap (λ (n : ℕ). a * n) (along_is c B C x)) ∙ go (a * at c B C x)
  where
    go : (y : ℕ) → e + x * 0 + y ≡ e + y
    go y = omega arith

-- ---- the table: 2 ^ 30 C and 2 ^ 30 S at the base of the row
unfoldable pub cosine_of : ℕ → ℕ
cosine_of k = a_of (base k)

unfoldable pub sine_of : ℕ → ℕ
sine_of k = b_of (base k)

-- S is (s - s') / D at w past the base, in units of 2 ^ -30
pub record SineAhead (a b w s s' : ℕ) : Type 0 where
  pub low : 2 ^ 61 * b + 2 ^ 31 * (w * a) + 2 ^ 91 * s' ≤ 2 ^ 91 * s + w * w * b + 2 ^ 69 * D
  pub high : 2 ^ 91 * s + w * w * b ≤ 2 ^ 61 * b + 2 ^ 31 * (w * a) + 2 ^ 91 * s' + 2 ^ 62 * D

ahead_lists : (a b w : ℕ) → w ≤ 12000000 → (s s' : List ℕ) → T (sin_ahead a b s s') → SineAhead a b w (eval s w) (eval s' w)
ahead_lists a b w hw s s' t =
    let p1 = add_p (2 ^ 61 * b ∷ 2 ^ 31 * a ∷ []) (big s') in
    let q1 = add_p (2 ^ 69 * D ∷ 0 ∷ b ∷ []) (big s) in
    let p2 = add_p (0 ∷ 0 ∷ b ∷ []) (big s) in
    let q2 = add_p ((2 ^ 61 * b + 2 ^ 62 * D) ∷ 2 ^ 31 * a ∷ []) (big s') in
    record {
      low =
          one (eval s w) (eval s' w) D
          (le_by (line (2 ^ 61 * b) (2 ^ 31 * a) s' w) (square (2 ^ 69 * D) 0 b s w)
          (poly_le p1 q1 12000000 (both_l (below 12000000 p1 q1) (below 12000000 p2 q2) t) w hw));
      high =
          two (eval s w) (eval s' w) D
          (le_by (square 0 0 b s w) (line (2 ^ 61 * b + 2 ^ 62 * D) (2 ^ 31 * a) s' w)
          (poly_le p2 q2 12000000 (both_r (below 12000000 p1 q1) (below 12000000 p2 q2) t) w hw));
    }
  where
    one : (x y d : ℕ) → 2 ^ 61 * b + w * (2 ^ 31 * a) + 2 ^ 91 * y ≤ 2 ^ 69 * d + w * 0 + w * w * b + 2 ^ 91 * x
        → 2 ^ 61 * b + 2 ^ 31 * (w * a) + 2 ^ 91 * y ≤ 2 ^ 91 * x + w * w * b + 2 ^ 69 * d
    one x y d h = omega arith

    two : (x y d : ℕ) → 0 + w * 0 + w * w * b + 2 ^ 91 * x ≤ 2 ^ 61 * b + 2 ^ 62 * d + w * (2 ^ 31 * a) + 2 ^ 91 * y
        → 2 ^ 91 * x + w * w * b ≤ 2 ^ 61 * b + 2 ^ 31 * (w * a) + 2 ^ 91 * y + 2 ^ 62 * d
    two x y d h = omega arith

module _ (k : ℕ) (h : k < 91) where
  abbrev t : ℕ
  t = base k

  abbrev o : ℕ
  o = early k

  abbrev B : ℕ
  B = slope_at k

  abbrev C : ℕ
  C = bend_at k

  abbrev known : Bool
  known = sin_ahead (a_of t) (b_of t) (shift t sp_l) (shift t sm_l)

  abbrev fit : Bool
  fit = follows o k B C (a_of t) (b_of t)

  good : T (both known fit)
  good = unfold good_sine in is_good k h

  pub sine_ahead : (w n : ℕ) → w ≤ 12000000 → n ≡ base k + w → SineAhead (cosine_of k) (sine_of k) w (sp n) (sm n)
  unfolding cosine_of sine_of
  sine_ahead w n hw e =
      subst (λ (m : ℕ). SineAhead (a_of t) (b_of t) w (sp m) (sm m)) (sym e)
      (subst₂ (λ (i j : ℕ). SineAhead (a_of t) (b_of t) w i j) (ev_shift t sp_l w ∙ sp_is (t + w)) (ev_shift t sm_l w ∙ sm_is (t + w))
      (ahead_lists (a_of t) (b_of t) w hw (shift t sp_l) (shift t sm_l) (both_l known fit good)))

  abbrev onward : Bool
  onward = in_parts 65536 4 0 (past_p o k B C (b_of t)) (past_q o B C (a_of t) (b_of t))

  abbrev backward : Bool
  backward = in_parts 65536 4 0 (before_p o B C (a_of t) (b_of t)) (before_q k B C (a_of t) (b_of t))

  two_fits : T (both onward backward)
  two_fits = both_r known fit good

  pub row_past : (x : ℕ) → x < 262144
      → sine_of k * (at (68719476736 * (o + 4224)) B C x * at (68719476736 * (o + 4224)) B C x)
      + ((16777216 * k + 705) * (unit * D) + x * (64 * (unit * D)))
      ≤ 2 * (unit * sine_of k) + 147573952589676412928 * cosine_of k * at (68719476736 * (o + 894)) B C x
  unfolding cosine_of sine_of
  row_past x hx =
      le_by (squared (b_of t) (68719476736 * (o + 4224)) ((16777216 * k + 705) * (unit * D)) (64 * (unit * D)) B C x)
      (straight (147573952589676412928 * a_of t) (68719476736 * (o + 894)) (2 * (unit * b_of t)) B C x)
      (parts_le 65536 4 0 (past_p o k B C (b_of t)) (past_q o B C (a_of t) (b_of t)) (both_l onward backward two_fits) x (omega arith)
      (omega arith))

  pub row_before : (x : ℕ) → x < 262144
      → 2 * (unit * sine_of k) + 133 * (unit * D) + 147573952589676412928 * cosine_of k * at (68719476736 * o) B C x
      ≤ sine_of k * (at 0 B C x * at 0 B C x)
      + (16777216 * k * (unit * D) + 61572651155456 * (147573952589676412928 * cosine_of k) + x * (64 * (unit * D)))
  unfolding cosine_of sine_of
  row_before x hx =
      le_by (straight (147573952589676412928 * a_of t) (68719476736 * o) (2 * (unit * b_of t) + 133 * (unit * D)) B C x)
      (squared (b_of t) 0 (16777216 * k * (unit * D) + 61572651155456 * (147573952589676412928 * a_of t)) (64 * (unit * D)) B C x)
      (parts_le 65536 4 0 (before_p o B C (a_of t) (b_of t)) (before_q k B C (a_of t) (b_of t)) (both_r onward backward two_fits) x
      (omega arith)
      (omega arith))

  pub row_sized : (base k + early k ≡ angle_at k) × (angle_at k ≤ 838000000) × (slope_at k ≤ 11800000) × (bend_at k ≤ 65535)
  row_sized =
      let b3 = both (leb B 11800000) (leb C 65535) in
      let b2 = both (leb (angle_at k) 838000000) b3 in
      let s : T (both (leb o (angle_at k)) b2) = unfold sized_sine in is_sized k h in
      let s2 = both_r (leb o (angle_at k)) b2 s in
      let s3 = both_r (leb (angle_at k) 838000000) b3 s2 in
      let l : o ≤ angle_at k = leb→le _ _ (both_l (leb o (angle_at k)) b2 s) in (
        omega arith,
        leb→le _ _ (both_l (leb (angle_at k) 838000000) b3 s2),
        leb→le _ _ (both_l (leb B 11800000) (leb C 65535) s3),
        leb→le _ _ (both_r (leb B 11800000) (leb C 65535) s3),
      )

-- the first row is the line of slope 1 from 0 on, where S is 0 and C is 1
pub first_row : (angle_at 0 ≡ 0) × (slope_at 0 ≡ 8388608) × (bend_at 0 ≡ 0)
unfolding angle_at slope_at bend_at
first_row = (refl, refl, refl)

pub first_cosine : cosine_of 0 ≡ 2 ^ 30 * D
unfolding cosine_of angle_at cp_l cm_l D
first_cosine = refl

pub first_sine : sine_of 0 ≡ 0
unfolding sine_of angle_at sp_l sm_l
first_sine = refl

pub unit_is : unit ≡ 2 ^ 60 * (68719476736 * 68719476736)
unfolding unit
unit_is = refl

pub unit_pos : 0 < unit
unfolding unit
unit_pos = lit< {m = 0} {n = 2 ^ 132} tt

-- What a format holds: a finite value is a whole number of units, q * 2 ^ j with q of the format's digits, and rounding leaves it as it is.
use mathlib.Core.Path.{◌≡◌, refl, sym, ap, ◌∙◌, subst}
use Prim.Native.Nat.{ℕ, zero, suc, ◌+◌, ◌-◌, ◌*◌, ◌%◌, ◌^◌, ◌≤◌, ◌<◌}
use native.Mathlib.Nat.{le_of_eq, lt_of_lt_of_le, lt_of_not-le, not-le_of_lt, le_of_suc-le-suc, mul_comm, mul_assoc, mul_left_comm, mul-one}
use native.Mathlib.Nat.{one-mul, zero-mul, mul-lt-mul_of_pos_right, lt_of_mul-lt-mul_right, eq_of_mul-eq-mul_right}
use mathlib.Core.Bool.{Bool, true, false, ◌&&◌}
use lib.IntN.{ℤ, pos, negsuc}
use lib.Dec.{T, leb, ltb, eqb, leb→le, ltb→lt}
use lib.Pow.{pow-add, pow_pos, pow-lt}
use lib.Ieee.{Float, nan, inf, fin, Format, binary32, prec, emax, low, up, down, round, fits}
use lib.Ieee.Digits.{back}
use lib.Ieee.Fits.{and_l, and_r, down_pos}
use lib.Ieee.Exact.{HasValue, round_exact}
use lib.Ieee.Scale.{grid, overflow, finite, round_under}
use Rattle.units.specs.Units.{unity, Part, hi, lo, Units, Exact}
use Rattle.units.proofs.Grid.{grid_zero}
use Rattle.units.proofs.Values.{round_value, value_finite, hi_is, lo_is, units_of}

at_most : (k l : ℕ) → 2 ^ k ≤ 2 ^ l → k ≤ l
at_most k l h = le_of_suc-le-suc (lt_of_not-le (λ (g : suc l ≤ k). not-le_of_lt (pow-lt g) h))

place : (l : ℕ) (e : ℤ) → down e ≤ 2 ^ l → (j : ℕ) × (up e * 2 ^ l ≡ 2 ^ j * down e)
place l (pos k) h = (k + l, sym (mul-one (2 ^ (k + l)) ∙ pow-add 2 k l))
place l (negsuc k) h =
    (l - suc k, one-mul (2 ^ l) ∙ sym (sym (pow-add 2 (l - suc k) (suc k)) ∙ ap (λ (x : ℕ). 2 ^ x) (back l (suc k) (at_most (suc k) l h))))

-- m units of 2 ^ j, with m of no more digits than the format has
pub record Shape (f : Format) (m : ℕ) (e : ℤ) : Type 0 where
  pub j : ℕ
  pub same : m * up e * 2 ^ low f ≡ m * 2 ^ j * down e
  pub digits : m < 2 ^ prec f
  pub under : m * 2 ^ j < overflow f

pub shape : (f : Format) (s : Bool) (m : ℕ) (e : ℤ) → T (fits f (fin s m e)) → Shape f m e
unfolding fits
shape f s zero e t = record {
  j = 0;
  same = ap (λ (x : ℕ). x * 2 ^ low f) (zero-mul (up e)) ∙ zero-mul (2 ^ low f) ∙ sym (zero-mul (down e));
  digits = pow_pos (prec f);
  under = pow_pos (low f + suc (emax f));
}
shape f s (suc m) e t =
    let A = eqb (suc m % 2) 1 in
    let B = ltb (suc m) (2 ^ prec f) in
    let C = leb (down e) (2 ^ low f) in
    let D = ltb (suc m * up e) (2 ^ suc (emax f) * down e) in
    let pl = place (low f) e (leb→le (down e) (2 ^ low f) (and_r (A && B) C (and_l (A && B && C) D t))) in
    let e1 : suc m * up e * 2 ^ low f ≡ suc m * 2 ^ pl.0 * down e =
    mul_assoc (suc m) (up e) (2 ^ low f) ∙ ap (λ (x : ℕ). suc m * x) pl.1 ∙ sym (mul_assoc (suc m) (2 ^ pl.0) (down e)) in
    let top : suc m * up e * 2 ^ low f < 2 ^ suc (emax f) * down e * 2 ^ low f =
    mul-lt-mul_of_pos_right (ltb→lt (suc m * up e) (2 ^ suc (emax f) * down e) (and_r (A && B && C) D t)) (pow_pos (low f)) in
    let e2 : 2 ^ suc (emax f) * down e * 2 ^ low f ≡ overflow f * down e = simp (pow-add, mul_assoc, mul_comm, mul_left_comm) in
    record {
      j = pl.0;
      same = e1;
      digits = ltb→lt (suc m) (2 ^ prec f) (and_r A B (and_l (A && B) C (and_l (A && B && C) D t)));
      under = lt_of_mul-lt-mul_right (down e) (subst (λ (x : ℕ). x < overflow f * down e) e1 (lt_of_lt_of_le top (le_of_eq e2)));
    }

-- ---- exact
same_value : (x : Float) (s : Bool) (a b c : ℕ) → HasValue x s a c → HasValue x s b c → a ≡ b
same_value nan s a b c h k = absurd h
same_value (inf t) s a b c h k = absurd h
same_value (fin t m e) s a b c h k = eq_of_mul-eq-mul_right (down e) (down_pos e) a b (sym h.1 ∙ k.1)

pub grid_exact : (f : Format) (q j : ℕ) → q < 2 ^ prec f → q * 2 ^ j < overflow f → grid f (q * 2 ^ j) (2 ^ low f) ≡ q * 2 ^ j
grid_exact f q j d o =
    let p = q * 2 ^ j in
    let u = 2 ^ low f in
    let v : HasValue (round f false p u) false p u = round_exact f false p u q j (pow_pos (low f)) d o refl in
    same_value (round f false p u) false (grid f p u) p u
    (round_value f false p u (round_under f p u (value_finite (round f false p u) false p u v))) v

-- ---- of a value that the format holds
pub record Held (f : Format) (x : Float) : Type 0 where
  pub p : ℕ
  pub n : ℕ
  pub part : Part f x p n
  pub p_exact : grid f p (2 ^ low f) ≡ p
  pub n_exact : grid f n (2 ^ low f) ≡ n

pub held : (f : Format) (x : Float) → T (finite x) → T (fits f x) → Held f x
held f nan t h = absurd t
held f (inf s) t h = absurd t
held f (fin false m e) t h =
    let w = shape f false m e h in
    record {
      p = m * 2 ^ w.j;
      n = 0;
      part = (w.same, refl);
      p_exact = grid_exact f m w.j w.digits w.under;
      n_exact = grid_zero f (2 ^ low f) (pow_pos (low f));
    }
held f (fin true m e) t h =
    let w = shape f true m e h in
    record {
      p = 0;
      n = m * 2 ^ w.j;
      part = (w.same, refl);
      p_exact = grid_zero f (2 ^ low f) (pow_pos (low f));
      n_exact = grid_exact f m w.j w.digits w.under;
    }

-- ---- for f32
pub record Single (x : Float) : Type 0 where
  pub ok : Units x
  pub hi_exact : Exact (hi x)
  pub lo_exact : Exact (lo x)

pub single : (x : Float) → T (finite x) → T (fits binary32 x) → Single x
single x t h =
    let w = held binary32 x t h in
    let a = hi_is x w.p w.n w.part in
    let b = lo_is x w.p w.n w.part in
    record {
      ok = units_of x w.p w.n w.part;
      hi_exact = ap (λ (k : ℕ). grid binary32 k unity) a ∙ w.p_exact ∙ sym a;
      lo_exact = ap (λ (k : ℕ). grid binary32 k unity) b ∙ w.n_exact ∙ sym b;
    }

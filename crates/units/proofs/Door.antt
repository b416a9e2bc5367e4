-- From the door's tests to units: what is finite and permitted is a whole number of units, between the units of the two ends.
use mathlib.Core.Path.{◌≡◌, refl, sym, ◌∙◌, subst}
use mathlib.Core.Logic.{◌⊎◌, inl, inr}
use Prim.Native.Nat.{ℕ, ◌+◌, ◌≤◌, ◌<◌}
use native.Mathlib.Nat.{le_trans, le_of_eq}
use native.Mathlib.Omega.{arith}
use mathlib.Core.Bool.{Bool, true, not}
use lib.Dec.{T}
use lib.Ieee.{Float, nan, inf, fin, binary32, fits, is_nan, le}
use lib.Ieee.Bits.{is_true}
use lib.Ieee.Fits.{and_i, and_l, and_r}
use lib.Ieee.Exact.{HasValue}
use lib.Ieee.Scale as scale
use Rattle.numbers.specs.Door.{finite, permits}
use Rattle.numbers.specs.declared.door.Limit.{Limit}
use Rattle.numbers.proofs.OnePass.{in_row}
use Rattle.units.specs.Units.{Part, hi, lo, mag}
use Rattle.units.proofs.Values.{value_finite, mag_parts, one_side, part_finite}
use Rattle.units.proofs.Held.{Single, single}
use Rattle.units.proofs.Order.{le_part}

-- the door's test for finite is the library's
pub finite_is : (x : Float) → finite x ≡ scale.finite x
unfolding finite
finite_is nan = refl
finite_is (inf s) = refl
finite_is (fin s m e) = refl

-- what has a value is finite, and what is finite is no NaN
pub finite_of : (x : Float) (s : Bool) (a c : ℕ) → HasValue x s a c → T (finite x)
finite_of x s a c h = subst T (sym (finite_is x)) (value_finite x s a c h)

pub finite_no_nan : (x : Float) → T (finite x) → T (not (is_nan x))
unfolding finite is_nan
finite_no_nan nan h = absurd h
finite_no_nan (inf s) h = absurd h
finite_no_nan (fin s m e) h = tt

-- a test that says true
pub holds : {b : Bool} → b ≡ true → T b
holds e = subst T (sym e) tt

-- every finite f32 is a whole number of units, that rounding leaves alone
pub finite_single : (x : Float) → T (finite x) → T (fits binary32 x) → Single x
finite_single x t h = single x (subst T (finite_is x) t) h

-- the ends of a limit: p - n units and q - r units
pub record Ends (l : Limit) (p n q r : ℕ) : Type 0 where
  pub from : Part binary32 l.from p n
  pub to : Part binary32 l.to q r

pub permitted_finite : (l : Limit) (p n q r : ℕ) → Ends l p n q r → (x : Float) → T (permits l x) → T (finite x)
permitted_finite l p n q r e x h =
    holds (in_row l (end l.from p n e.from, end l.to q r e.to) x (is_true (permits l x) h))
  where
    end : (z : Float) (i j : ℕ) → Part binary32 z i j → finite z ≡ true
    end z i j h = finite_is z ∙ is_true (scale.finite z) (part_finite binary32 z i j h)

-- x is a whole number of units between p - n and q - r
pub record Permitted (x : Float) (p n q r : ℕ) : Type 0 where
  pub single : Single x
  pub from : p + lo x ≤ n + hi x
  pub to : hi x + r ≤ lo x + q

pub permitted : (l : Limit) (p n q r : ℕ) → Ends l p n q r → (x : Float) → T (fits binary32 x) → T (permits l x)
    → Permitted x p n q r
permitted l p n q r e x F h =
    let a : T (le l.from x) = and_l (le l.from x) (le x l.to) h in
    let b : T (le x l.to) = and_r (le l.from x) (le x l.to) h in
    let s = finite_single x (permitted_finite l p n q r e x h) F in
    record {
      single = s;
      from = (le_part binary32 l.from x p n (hi x) (lo x) e.from s.ok).0 a;
      to = (le_part binary32 x l.to (hi x) (lo x) q r s.ok e.to).0 b;
    }

-- and back: what lies between the ends is permitted
pub permits_part : (l : Limit) (p n q r : ℕ) → Ends l p n q r → (x : Float) (i j : ℕ) → Part binary32 x i j → p + j ≤ n + i → i + r ≤ j + q
    → T (permits l x)
permits_part l p n q r e x i j h a b =
    and_i (le l.from x) (le x l.to) ((le_part binary32 l.from x p n i j e.from h).1 a)
    ((le_part binary32 x l.to i j q r h e.to).1 b)

-- the magnitude is at most the larger end's
pub permitted_mag : (l : Limit) (p n q r : ℕ) → Ends l p n q r → (k : ℕ) → p + n ≤ k → q + r ≤ k
    → (x : Float) → T (fits binary32 x) → T (permits l x) → mag x ≤ k
permitted_mag l p n q r e k a b x F h =
    let w = permitted l p n q r e x F h in
    le_trans (le_of_eq (mag_parts x))
    (bound (hi x) (lo x) (one_side binary32 x (hi x) (lo x) w.single.ok) w.from w.to)
  where
    bound : (i j : ℕ) → (i ≡ 0) ⊎ (j ≡ 0) → p + j ≤ n + i → i + r ≤ j + q → i + j ≤ k
    bound i j (inl z) u v = omega arith
    bound i j (inr z) u v = omega arith

-- and each part is at most that
pub permitted_parts : (l : Limit) (p n q r : ℕ) → Ends l p n q r → (k : ℕ) → p + n ≤ k → q + r ≤ k
    → (x : Float) → T (fits binary32 x) → T (permits l x) → (hi x ≤ k) × (lo x ≤ k)
permitted_parts l p n q r e k a b x F h =
    parts (hi x) (lo x) (le_trans (le_of_eq (sym (mag_parts x))) (permitted_mag l p n q r e k a b x F h))
  where
    parts : (i j : ℕ) → i + j ≤ k → (i ≤ k) × (j ≤ k)
    parts i j h = (omega arith, omega arith)

-- between ends that are not negative: nothing is below zero, but for -0, which is no unit
pub permitted_above : (l : Limit) (p q r : ℕ) → Ends l p 0 q r → (x : Float) → T (fits binary32 x) → T (permits l x)
    → (p ≤ hi x) × (lo x ≡ 0)
permitted_above l p q r e x F h =
    let w = permitted l p 0 q r e x F h in
    above (hi x) (lo x) (one_side binary32 x (hi x) (lo x) w.single.ok) w.from
  where
    above : (i j : ℕ) → (i ≡ 0) ⊎ (j ≡ 0) → p + j ≤ 0 + i → (p ≤ i) × (j ≡ 0)
    above i j (inl z) u = (omega arith, omega arith)
    above i j (inr z) u = (omega arith, omega arith)

-- and back, of a magnitude between -k and k, and of a number above zero
pub permits_mag : (l : Limit) (k : ℕ) → Ends l 0 k k 0 → (x : Float) → Single x → mag x ≤ k → T (permits l x)
permits_mag l k e x w h = permits_part l 0 k k 0 e x (hi x) (lo x) w.ok (low (hi x) (lo x) s) (high (hi x) (lo x) s)
  where
    s : hi x + lo x ≤ k
    s = le_trans (le_of_eq (sym (mag_parts x))) h

    low : (i j : ℕ) → i + j ≤ k → 0 + j ≤ k + i
    low i j h = omega arith

    high : (i j : ℕ) → i + j ≤ k → i + 0 ≤ j + k
    high i j h = omega arith

pub permits_above : (l : Limit) (p q : ℕ) → Ends l p 0 q 0 → (x : Float) → Single x → 0 < hi x → p ≤ hi x → hi x ≤ q → T (permits l x)
permits_above l p q e x w some from to =
    permits_part l p 0 q 0 e x (hi x) (lo x) w.ok
    (low (hi x) (lo x) (one_side binary32 x (hi x) (lo x) w.ok) some from) (high (hi x) (lo x) to)
  where
    low : (i j : ℕ) → (i ≡ 0) ⊎ (j ≡ 0) → 0 < i → p ≤ i → p + j ≤ 0 + i
    low i j (inl z) s h = omega arith
    low i j (inr z) s h = omega arith

    high : (i j : ℕ) → i ≤ q → i + 0 ≤ j + q
    high i j h = omega arith

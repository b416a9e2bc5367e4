-- What a driver of the board may rely on: where a step begins and ends, what each coordinate depends on, and that a foot stays between its
-- ends. Assumes nothing.
use Prim.Native.Nat.{ℕ, ◌+◌, ◌*◌, ◌/◌, ◌≤◌, ◌<◌}
use mathlib.Core.Path.{◌≡◌, refl, sym, ap, ap₂, ◌∙◌, subst}
use mathlib.Core.Bool.{Bool, true, false}
use mathlib.Core.Logic.{◌⊎◌, inl, inr}
use native.Mathlib.Nat.{le_of_lt, lt_irrefl, mul-zero, mul-le-mul_left}
use native.Mathlib.Omega.{arith}
use lib.Dec.{le→leb, eqb, lit<}
use borrow.Author.Tests.{ne_eqb}
use lib.IntN.{ℤ, pos, negsuc, ◌+ℤ◌, ◌-ℤ◌, ◌*ℤ◌, +ℤ_idr, *ℤ-zero}
use lib.Signed.{◌≤ℤ◌, ≤ℤ_refl}
use Rattle.numbers.specs.Told.{choose}
use Rattle.numbers.proofs.Flags.{lt_or_le, chosen, where_false}
use Rattle.wholes.specs.Wholes.{table_scale, entry, used, down, sideways, upwards, whole_step}
use Rattle.wholes.specs.declared.WholePoint.{WholePoint}
use Rattle.wholes.proofs.Parts.{plus, minus, Made, sum_made, difference_made, times_plus, times_minus, Share, share}
use Rattle.wholes.proofs.Steps.{share_below, used_most, same_point}
use Rattle.wholes.proofs.Examples.{entry_0}

-- ---- at progress 0 the start, at 2,048 the target
still : (s t : ℤ) → sideways s t 0 ≡ s
still s t = ap (λ (a : ℤ). s +ℤ down a 2048) (*ℤ-zero (t -ℤ s)) ∙ +ℤ_idr s

on_the_ground : (s : ℤ) (h : ℕ) → upwards s h 0 ≡ s
on_the_ground s h =
    ap (λ (e : ℕ). s +ℤ down (pos (h * e)) table_scale) entry_0 ∙ ap (λ (n : ℕ). s +ℤ down (pos n) table_scale) (mul-zero h) ∙ +ℤ_idr s

pub begins_at_start : (start target : WholePoint) (h : ℕ) → whole_step start target h 0 ≡ start
begins_at_start start target h =
    same_point (still start.x target.x) (still start.y target.y) (on_the_ground start.z h)

pub ends_at_target : (start target : WholePoint) (h : ℕ) → whole_step start target h 2048 ≡ target
ends_at_target start target h = refl

-- ---- each coordinate depends on its own start and target alone; z on start z, height and progress until the step is done
module _ (s t s' t' : WholePoint) (h h' p : ℕ) where
  own : (f : WholePoint → ℤ) {a b : WholePoint} → f t ≡ f t' → f a ≡ f b → f (choose (eqb p 2048) t a) ≡ f (choose (eqb p 2048) t' b)
  own f {a} {b} e g = by_test (eqb p 2048)
    where
      by_test : (d : Bool) → f (choose d t a) ≡ f (choose d t' b)
      by_test true = e
      by_test false = g

  pub x_by_its_own : s.x ≡ s'.x → t.x ≡ t'.x → (whole_step s t h p).x ≡ (whole_step s' t' h' p).x
  x_by_its_own e g = own (λ w. w.x) g (ap₂ (λ (a b : ℤ). sideways a b p) e g)

  pub y_by_its_own : s.y ≡ s'.y → t.y ≡ t'.y → (whole_step s t h p).y ≡ (whole_step s' t' h' p).y
  y_by_its_own e g = own (λ w. w.y) g (ap₂ (λ (a b : ℤ). sideways a b p) e g)

-- until it is done a step is under way
abbrev pub under_way : WholePoint → WholePoint → ℕ → ℕ → WholePoint
under_way s t h p = record { x = sideways s.x t.x p; y = sideways s.y t.y p; z = upwards s.z h p }

pub under_way_lem : (s t : WholePoint) (h p : ℕ) → p < 2048 → whole_step s t h p ≡ under_way s t h p
under_way_lem s t h p l =
    sym (where_false (eqb p 2048) t (under_way s t h p) (ne_eqb p 2048 (λ e. lt_irrefl 2048 (subst (λ (n : ℕ). n < 2048) e l))))

pub z_by_its_own : (s t s' t' : WholePoint) (h p : ℕ) → p < 2048 → s.z ≡ s'.z → (whole_step s t h p).z ≡ (whole_step s' t' h p).z
z_by_its_own s t s' t' h p l e =
    ap (λ (w : WholePoint). w.z) (under_way_lem s t h p l) ∙ ap (λ (a : ℤ). upwards a h p) e
    ∙ sym (ap (λ (w : WholePoint). w.z) (under_way_lem s' t' h p l))

-- ---- x and y lie between start and target
le_of_parts : (a b : ℤ) → plus a + minus b ≤ plus b + minus a → a ≤ℤ b
le_of_parts (pos a) (pos b) h = record { le = le→leb a b (omega arith) }
le_of_parts (pos a) (negsuc b) h = absurd (omega arith)
le_of_parts (negsuc a) (pos b) h = record { le = tt }
le_of_parts (negsuc a) (negsuc b) h = record { le = le→leb b a (omega arith) }

one_side : (z : ℤ) → (minus z ≡ 0) ⊎ (plus z ≡ 0)
one_side (pos n) = inl refl
one_side (negsuc n) = inr refl

pub Between : ℤ → ℤ → ℤ → Type 0
Between s t r = ((s ≤ℤ r) × (r ≤ℤ t)) ⊎ ((t ≤ℤ r) × (r ≤ℤ s))

-- the way w from s to t, its share q and the place r, in parts
module _ (s t w a q r : ℤ) (W : Made w (plus t + minus s) (minus t + plus s)) (C : Share q a 2048)
    (R : Made r (plus s + plus q) (minus s + minus q)) (high : plus a ≤ plus w * 2048) (low : minus a ≤ minus w * 2048) where
  ahead : minus w ≡ 0 → (s ≤ℤ r) × (r ≤ℤ t)
  ahead z = (
    le_of_parts s r (omega (arith, R.level, C.minus_most, low, z)),
    le_of_parts r t (omega (arith, R.level, W.level, C.minus_most, C.at_most, low, high, z)),
  )

  back : plus w ≡ 0 → (t ≤ℤ r) × (r ≤ℤ s)
  back z = (
    le_of_parts t r (omega (arith, R.level, W.level, C.plus_most, C.above, low, high, z)),
    le_of_parts r s (omega (arith, R.level, C.plus_most, high, z)),
  )

  between : Between s t r
  unfolding Between
  between = elim (one_side w) [ inl z ↦ inl (ahead z) | inr z ↦ inr (back z) ]

pub sideways_between : (s t : ℤ) (p : ℕ) → p ≤ 2048 → Between s t (sideways s t p)
sideways_between s t p h =
    let w = t -ℤ s in
    let a = w *ℤ pos p in
    between s t w a (down a 2048) (s +ℤ down a 2048) (difference_made t s) (share a 2048 (lit< tt)) (sum_made s (down a 2048))
    (subst (λ (n : ℕ). n ≤ plus w * 2048) (sym (times_plus w p)) (mul-le-mul_left (plus w) h))
    (subst (λ (n : ℕ). n ≤ minus w * 2048) (sym (times_minus w p)) (mul-le-mul_left (minus w) h))

-- where it is done it is at the target
at_its_end : (s t : ℤ) → Between s t t
unfolding Between
at_its_end s t =
    elim (lt_or_le (plus t + minus s) (plus s + minus t)) [
      | inl h ↦ inr (≤ℤ_refl t, le_of_parts t s (le_of_lt h))
      | inr h ↦ inl (le_of_parts s t h, ≤ℤ_refl t)
    ]

module _ (s t : WholePoint) (h p : ℕ) (P : p ≤ 2048) where
  either_way : (f : WholePoint → ℤ) → Between (f s) (f t) (f (under_way s t h p)) → Between (f s) (f t) (f (whole_step s t h p))
  either_way f b =
      chosen (λ (w : WholePoint). Between (f s) (f t) (f w)) (eqb p 2048) t (under_way s t h p) (λ e. at_its_end (f s) (f t)) (λ e. b)

  pub x_between : Between s.x t.x (whole_step s t h p).x
  x_between = either_way (λ w. w.x) (sideways_between s.x t.x p P)

  pub y_between : Between s.y t.y (whole_step s t h p).y
  y_between = either_way (λ w. w.y) (sideways_between s.y t.y p P)

-- ---- z is from the start's to the height above it until the step is done
raised : (s : ℤ) (h p : ℕ) → p ≤ 2048 → (s ≤ℤ upwards s h p) × (upwards s h p ≤ℤ (s +ℤ pos h))
raised s h p P =
    let n = h * entry (used p) / table_scale in
    let l : n ≤ h = share_below h (entry (used p)) (used_most p P) in
    let a = sum_made s (pos n) in
    let b = sum_made s (pos h) in (
      le_of_parts s (s +ℤ pos n) (omega (arith, a.level)),
      le_of_parts (s +ℤ pos n) (s +ℤ pos h) (omega (arith, a.level, b.level, l)),
    )

pub z_between : (s t : WholePoint) (h p : ℕ) → p < 2048
    → (s.z ≤ℤ (whole_step s t h p).z) × ((whole_step s t h p).z ≤ℤ (s.z +ℤ pos h))
z_between s t h p l =
    subst (λ (w : WholePoint). (s.z ≤ℤ w.z) × (w.z ≤ℤ (s.z +ℤ pos h))) (sym (under_way_lem s t h p l)) (raised s.z h p (le_of_lt l))

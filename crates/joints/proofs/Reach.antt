-- The two ends of a leg's reach: what a leg's refusal says of its distance. No f32 is past both, and what is past neither lies between
-- them; the rest assumes nothing.
use Rattle.std.specs.Prelude.{◌≡◌, ℕ, ◌+◌, ◌<◌, ◌≤◌, Bool, true, false, not, T}
use mathlib.Core.Path.{refl, sym, subst}
use native.Mathlib.Omega.{arith}
use lib.Ieee.{Float, binary32, lt, le}
use Rattle.units.specs.Units.{Units, hi, lo}
use Rattle.units.proofs.Order.{lt_part, le_part, not_lt_part}
use Rattle.joints.specs.Strict.{farthest, nearest, distance_refusal}
use Rattle.joints.specs.declared.configuration.Body.{Body}
use Rattle.joints.proofs.TwoTests.{Says, Neither, says, neither, refused_by, passed_by}

-- past the end that the number says: 9 too far, 10 too near
abbrev pub OutOfReach : ℕ → Body → Float → Type 0
OutOfReach n b d = Says 9 10 n (lt (farthest b) d) (lt d (nearest b))

-- past neither
abbrev pub Reached : Body → Float → Type 0
Reached b d = Neither (lt (farthest b) d) (lt d (nearest b))

-- from the nearest to the farthest, both included
abbrev pub WithinReach : Body → Float → Type 0
WithinReach b d = T (le (nearest b) d) × T (le d (farthest b))

-- ---- a leg's refusal and its distance
module _ (b : Body) (d : Float) where
  abbrev its_refusal : ℕ
  its_refusal = distance_refusal d (farthest b) (nearest b)

  pub out_of_reach : (its_refusal ≡ 0 → ⊥) → OutOfReach its_refusal b d
  unfolding distance_refusal
  out_of_reach = says 9 10 refl refl (lt (farthest b) d) (lt d (nearest b))

  pub reached : its_refusal ≡ 0 → Reached b d
  unfolding distance_refusal
  reached = neither 9 10 refl refl (lt (farthest b) d) (lt d (nearest b))

  -- and back
  pub refused_out : (n : ℕ) → (lt (farthest b) d ≡ true → lt d (nearest b) ≡ false) → OutOfReach n b d → its_refusal ≡ n
  unfolding distance_refusal
  refused_out n = refused_by 9 10 refl refl n (lt (farthest b) d) (lt d (nearest b))

  pub passed_in : Reached b d → its_refusal ≡ 0
  unfolding distance_refusal
  passed_in = passed_by 9 10 refl refl (lt (farthest b) d) (lt d (nearest b))

-- ---- of f32: not below is at or above
fails : (t : Bool) → (T t → ⊥) → t ≡ false
fails true h = absurd (h tt)
fails false h = refl

module _ (x y : Float) (X : Units x) (Y : Units y) where
  not_below : lt x y ≡ false → T (le y x)
  not_below h =
      let w = not_lt_part binary32 x y (hi x) (lo x) (hi y) (lo y) X Y (subst (λ (t : Bool). T (not t)) (sym h) tt) in
      (le_part binary32 y x (hi y) (lo y) (hi x) (lo x) Y X).1 (turned (hi x) (lo x) (hi y) (lo y) w)
    where
      turned : (p n q r : ℕ) → n + q ≤ p + r → q + n ≤ r + p
      turned p n q r h = omega arith

  at_or_above : T (le y x) → lt x y ≡ false
  at_or_above h = fails (lt x y) (λ l. never (hi x) (lo x) (hi y) (lo y)
      ((lt_part binary32 x y (hi x) (lo x) (hi y) (lo y) X Y).0 l) ((le_part binary32 y x (hi y) (lo y) (hi x) (lo x) Y X).0 h))
    where
      never : (p n q r : ℕ) → p + r < n + q → q + n ≤ r + p → ⊥
      never p n q r a b = omega arith

module _ (b : Body) (d : Float) (D : Units d) (Far : Units (farthest b)) (Near : Units (nearest b)) where
  pub between_the_ends : Reached b d → WithinReach b d
  between_the_ends (far, near) = (not_below d (nearest b) D Near near, not_below (farthest b) d Far D far)

  pub past_no_end : WithinReach b d → Reached b d
  past_no_end (near, far) = (at_or_above (farthest b) d Far D far, at_or_above d (nearest b) D Near near)

  -- too far is not too near, where the ends are in order
  pub never_both_ends : T (le (nearest b) (farthest b)) → lt (farthest b) d ≡ true → lt d (nearest b) ≡ false
  never_both_ends apart far =
      at_or_above d (nearest b) D Near
      ((le_part binary32 (nearest b) d (hi (nearest b)) (lo (nearest b)) (hi d) (lo d) Near D).1
      (through (hi (nearest b)) (lo (nearest b)) (hi (farthest b)) (lo (farthest b)) (hi d) (lo d)
      ((le_part binary32 (nearest b) (farthest b) _ _ _ _ Near Far).0 apart)
      ((lt_part binary32 (farthest b) d _ _ _ _ Far D).0 (subst T (sym far) tt))))
    where
      through : (p n q r s u : ℕ) → p + r ≤ n + q → q + u < r + s → p + u ≤ n + s
      through p n q r s u a b = omega arith

-- Six feet in rounds of a step each: what holds after c rounds, what one more does to it, and what it says at the end.
use Rattle.std.specs.Prelude.{◌≡◌, ℕ, ◌+◌, ◌<◌, ◌≤◌, Bool, true, false, T}
use mathlib.Core.Path.{refl, sym, ap, ◌∙◌, subst, fun_ext}
use mathlib.Core.Bool.{false≢true}
use mathlib.Core.Logic.{⊎_elim}
use Prim.Native.Nat.{zero-le}
use native.Mathlib.Nat.{eq-or-lt_of_le, lt_of_lt_of_le}
use native.Mathlib.Numerals.{add-one}
use native.Mathlib.Omega.{arith}
use lib.Dec.{T_not}
use lib.Ieee.{Float}
use lib.Ieee.Bits.{is_true}
use Rattle.units.proofs.Door.{holds}
use Rattle.legs.specs.Legs.{Leg, point, every}
use Rattle.legs.specs.declared.Point.{Point}
use Rattle.legs.specs.Legs.{Points}
use Rattle.moves.specs.Distance.{same}
use Rattle.moves.specs.Moving.{move_towards, point_of}
use Rattle.moves.proofs.FootByFoot.{each_foot}
use Rattle.walks.specs.Walk.{points_after, WalkFeet, all_arrived}

module _ (m : Float) (s t : Points) where
  -- after c rounds the feet are at l
  pub record Walking (l : Points) (c : ℕ) : Type 0 where
    pub total : ℕ
    pub walk : WalkFeet m s t total
    pub few : total ≤ 147457
    pub here : (f : Leg) → point l f ≡ point (points_after m s t c) f
    pub within : c ≤ total

  abbrev pub has_arrived : Points → Bool
  has_arrived l = every (λ f. same (point l f) (point t f))

  pub walking_start : (k : ℕ) × WalkFeet m s t k × (k ≤ 147457) → Walking s 0
  unfolding points_after
  walking_start e = record { total = e.0; walk = e.1; few = e.2; here = λ f. refl; within = zero-le }

  module _ (l : Points) (c : ℕ) (w : Walking l c) where
    arrival : has_arrived l ≡ all_arrived m s t c
    unfolding all_arrived
    arrival = ap every (fun_ext (λ f. ap (λ (p : Point). same p (point t f)) (w.here f)))

    -- where not all have arrived, a round is to come
    one_more : has_arrived l ≡ false → c < w.total
    one_more e =
        ⊎_elim
        (λ h. absurd
        (false≢true
        (sym e ∙ arrival ∙ is_true (all_arrived m s t c) (subst (λ (k : ℕ). T (all_arrived m s t k)) (sym h) w.walk.arrives))))
        (λ h. h) (eq-or-lt_of_le w.within)

    pub walking_few : has_arrived l ≡ false → c < 147457
    walking_few e = lt_of_lt_of_le (one_more e) w.few

    -- a round
    pub walking_on : has_arrived l ≡ false → (p : Points) → ((f : Leg) → point p f ≡ point_of (move_towards (point l f) (point t f) m))
        → Walking p (c + 1)
    unfolding points_after
    walking_on e p h = record {
      total = w.total;
      walk = w.walk;
      few = w.few;
      here = λ f.
          h f
          ∙ ap (λ (q : Point). point_of (move_towards q (point t f) m)) (w.here f)
          ∙ sym (each_foot (points_after m s t c) t m f)
          ∙ ap (λ (k : ℕ). point (points_after m s t k) f) (sym (add-one c));
      within = next (one_more e);
    }
      where
        next : {a b : ℕ} → a < b → a + 1 ≤ b
        next {a} {b} i = omega arith

    pub walking_ends : has_arrived l ≡ true → WalkFeet m s t c
    walking_ends e =
        ⊎_elim (λ h. subst (WalkFeet m s t) (sym h) w.walk)
        (λ h. absurd (T_not (all_arrived m s t c) (w.walk.least c h) (holds (sym arrival ∙ e))))
        (eq-or-lt_of_le w.within)

-- The walk's loop: what holds after k steps, what one more does to it, that k stays small, and what it says at the end.
use Rattle.std.specs.Prelude.{◌≡◌, ℕ, ◌+◌, ◌*◌, ◌<◌, ◌≤◌, Bool, not, T, ◌⊎◌}
use mathlib.Core.Path.{refl, sym, ap, ◌∙◌, subst}
use mathlib.Core.Logic.{inl, inr, ⊎_elim}
use native.Mathlib.Nat.{eq-or-lt_of_le, lt_of_lt_of_le}
use native.Mathlib.Numerals.{add-one}
use native.Mathlib.Omega.{arith}
use lib.Pow.{pow_pos}
use lib.Ieee.{Float}
use Rattle.units.specs.Units.{mag}
use Rattle.units.proofs.Door.{holds}
use Rattle.legs.specs.declared.Point.{Point}
use Rattle.moves.specs.Distance.{same}
use Rattle.moves.specs.Moving.{move_towards, point_of, place_of}
use Rattle.moves.specs.declared.Step.TheVariants.{Moved, Arrived}
use Rattle.moves.proofs.Steps.{was_elsewhere, was_there}
use Rattle.walks.specs.Walk.{point_after, spread, Walk}
use Rattle.walks.proofs.Aim.{Aim, OnWay}
use Rattle.walks.proofs.Few.{few_steps}
use Rattle.walks.proofs.Steps.{moved}

-- after k steps from s the walk is at l
pub record Going (m : Float) (s t l : Point) (k : ℕ) : Type 0 where
  pub aim : Aim m t
  pub start : OnWay s t
  pub way : OnWay l t
  pub here : point_after m s t k ≡ l
  pub least : (j : ℕ) → j < k → T (not (same (point_after m s t j) t))
  pub left : (k * mag m + 2 * spread l t ≤ 2 * spread s t) ⊎ ((spread l t ≡ 0) × (k * mag m ≤ 2 * spread s t + mag m))

module _ (m : Float) (s t : Point) where
  pub going_start : Aim m t → OnWay s t → Going m s t s 0
  unfolding point_after
  going_start a w = record {
    aim = a;
    start = w;
    way = w;
    here = refl;
    least = λ j h. absurd (none j h);
    left = inl (nothing (mag m) (spread s t));
  }
    where
      none : (j : ℕ) → j < 0 → ⊥
      none j h = omega arith

      nothing : (a b : ℕ) → 0 * a + 2 * b ≤ 2 * b
      nothing a b = omega arith

  next_point : (l p : Point) (k : ℕ) → point_after m s t k ≡ l → move_towards l t m ≡ Moved p → point_after m s t (k + 1) ≡ p
  unfolding point_after place_of
  next_point l p k e h = ap (point_after m s t) (add-one k) ∙ ap (λ (q : Point). point_of (move_towards q t m)) e ∙ ap point_of h

  next_least : (l p : Point) (k : ℕ) → point_after m s t k ≡ l → move_towards l t m ≡ Moved p
      → ((j : ℕ) → j < k → T (not (same (point_after m s t j) t)))
      → (j : ℕ) → j < k + 1 → T (not (same (point_after m s t j) t))
  next_least l p k e h f j g =
      ⊎_elim (λ q. subst (λ (n : ℕ). T (not (same (point_after m s t n) t))) (sym q) here) (f j) (eq-or-lt_of_le (at_most g))
    where
      at_most : {i n : ℕ} → i < n + 1 → i ≤ n
      at_most {i} {n} g = omega arith

      here : T (not (same (point_after m s t k) t))
      here = subst (λ (q : Point). T (not (same q t))) (sym e) (subst (λ (b : Bool). T (not b)) (sym (was_elsewhere l t m p h)) tt)

  next_left : (k M a b b' : ℕ) → 0 < M → b' < b → (2 * b' + M ≤ 2 * b) ⊎ (b' ≡ 0)
      → (k * M + 2 * b ≤ 2 * a) ⊎ ((b ≡ 0) × (k * M ≤ 2 * a + M))
      → ((k + 1) * M + 2 * b' ≤ 2 * a) ⊎ ((b' ≡ 0) × ((k + 1) * M ≤ 2 * a + M))
  next_left k M a b b' p l f (inr h) = let z = h.0 in absurd (omega arith)
  next_left k M a b b' p l (inl f) (inl h) = inl (omega arith)
  next_left k M a b b' p l (inr f) (inl h) = inr (f, omega arith)

  pub going_on : (l p : Point) (k : ℕ) → Going m s t l k → move_towards l t m ≡ Moved p → Going m s t p (k + 1)
  going_on l p k g h =
      let w = moved m l t g.aim g.way p h in
      record {
        aim = g.aim;
        start = g.start;
        way = w.way;
        here = next_point l p k g.here h;
        least = next_least l p k g.here h g.least;
        left =
            next_left k (mag m) (spread s t) (spread l t) (spread p t) (lt_of_lt_of_le (pow_pos 137) g.aim.from)
            w.less w.falls g.left;
      }

  pub going_nearer : (l p : Point) (k : ℕ) → Going m s t l k → move_towards l t m ≡ Moved p → spread p t < spread l t
  going_nearer l p k g h = (moved m l t g.aim g.way p h).less

  bounded : (l : Point) (k : ℕ) → Going m s t l k → k * mag m ≤ 2 * spread s t + mag m
  bounded l k g = by_left g.left
    where
      by_left : (k * mag m + 2 * spread l t ≤ 2 * spread s t) ⊎ ((spread l t ≡ 0) × (k * mag m ≤ 2 * spread s t + mag m))
          → k * mag m ≤ 2 * spread s t + mag m
      by_left (inl h) = below (k * mag m) (spread l t) (spread s t) (mag m) h
        where
          below : (a b c d : ℕ) → a + 2 * b ≤ 2 * c → a ≤ 2 * c + d
          below a b c d h = omega arith
      by_left (inr h) = h.1

  pub going_ends : (l p : Point) (k : ℕ) → Going m s t l k → move_towards l t m ≡ Arrived p → Walk m s t k
  going_ends l p k g h = record {
    arrives = subst (λ (q : Point). T (same q t)) (sym g.here) (holds (was_there l t m p h));
    least = g.least;
    bound = bounded l k g;
  }

  pub going_few : (l : Point) (k : ℕ) → Going m s t l k → k ≤ 147457
  going_few l k g = few_steps k (mag m) (spread s t) g.aim.from g.start.near (bounded l k g)

-- Six feet in strides: a foot that is put down is at its target, one that is still lifted was elsewhere. So all are down one round after
-- the last one was elsewhere, or had all arrived before.
use Rattle.std.specs.Prelude.{◌≡◌, ℕ, ◌+◌, ◌<◌, ◌≤◌, Bool, true, false, not, T}
use mathlib.Core.Path.{refl, sym, ap, ◌∙◌, subst}
use mathlib.Core.Bool.{true≢false, false≢true}
use lib.Dec.{not_T}
use lib.Ieee.{Float, le}
use lib.Ieee.Bits.{is_true, is_false}
use Rattle.units.proofs.Door.{holds}
use Rattle.numbers.specs.Told.{choose}
use Rattle.legs.specs.Legs.{Leg, point, points, foot, lifted, whole, every, marked}
use Rattle.legs.specs.declared.Point.{Point}
use Rattle.legs.specs.Legs.{Points}
use Rattle.legs.specs.declared.Foot.{Foot}
use Rattle.legs.specs.Legs.{Feet}
use Rattle.legs.proofs.Laws.{each_of_every, every_of_each, whole_of_feet, lifted_of_marked}
use Rattle.moves.specs.Distance.{same, distance}
use Rattle.moves.specs.Moving.{nearer, move_towards, point_of, place_of}
use Rattle.moves.proofs.Steps.{moves, after_step}
use Rattle.walks.specs.Walk.{WalkFeet}
use Rattle.walks.specs.How.{put_down, stride, strides}
use Rattle.walks.proofs.Aim.{Aim, OnWay}
use Rattle.walks.proofs.Steps.{spread_self, same_of_spread, far_is_elsewhere, kept}
use Rattle.walks.proofs.Rounds.{Walking, has_arrived, walking_start, walking_few, walking_on, walking_ends}

-- ---- one foot at p, lifted or down at its target
module _ (m : Float) (u : Bool) (p t : Point) (aim : Aim m t) (way : OnWay p t) (down : u ≡ false → p ≡ t) where
  at_target : T (same t t)
  at_target = same_of_spread t t aim.target aim.target (spread_self t)

  never_far : p ≡ t → le (distance p t) m ≡ false → ⊥
  never_far e f =
      false≢true
      (sym (far_is_elsewhere m p t aim way f) ∙ is_true (same p t) (subst (λ (q : Point). T (same q t)) (sym e) at_target))

  -- a stride is a step
  stepped : (stride u p t m).point ≡ point_of (move_towards p t m)
  unfolding stride place_of
  stepped = by_tests u refl (le (distance p t) m) refl
    where
      by_tests : (b : Bool) → u ≡ b → (n : Bool) → le (distance p t) m ≡ n
          → (choose b (choose n (put_down t) (record { point = nearer (distance p t) p t m; lifted = true })) (put_down t)).point
          ≡ point_of (move_towards p t m)
      by_tests false e n g = after_step p t m (λ (q : Point). t ≡ q) refl (λ f. absurd (never_far (down e) f))
      by_tests true e true g = after_step p t m (λ (q : Point). t ≡ q) refl (λ f. absurd (true≢false (sym g ∙ f)))
      by_tests true e false g = sym (ap point_of (moves p t m (far_is_elsewhere m p t aim way g)))

  put_down_there : (stride u p t m).lifted ≡ false → (stride u p t m).point ≡ t
  unfolding stride
  put_down_there = by_tests u (le (distance p t) m)
    where
      by_tests : (b n : Bool)
          → (choose b (choose n (put_down t) (record { point = nearer (distance p t) p t m; lifted = true })) (put_down t)).lifted ≡ false
          → (choose b (choose n (put_down t) (record { point = nearer (distance p t) p t m; lifted = true })) (put_down t)).point ≡ t
      by_tests false n h = refl
      by_tests true true h = refl
      by_tests true false h = absurd (true≢false h)

  lifted_elsewhere : (stride u p t m).lifted ≡ true → same p t ≡ false
  unfolding stride
  lifted_elsewhere = by_tests u (le (distance p t) m) refl
    where
      by_tests : (b n : Bool) → le (distance p t) m ≡ n
          → (choose b (choose n (put_down t) (record { point = nearer (distance p t) p t m; lifted = true })) (put_down t)).lifted ≡ true
          → same p t ≡ false
      by_tests false n g h = absurd (false≢true h)
      by_tests true true g h = absurd (false≢true h)
      by_tests true false g h = far_is_elsewhere m p t aim way g

-- ---- six feet, after c rounds from s
module _ (m : Float) (s t : Points) where
  pub record Striding (a : Feet) (c : ℕ) : Type 0 where
    pub walking : Walking m s t (points a) c
    pub aim : (f : Leg) → Aim m (point t f)
    pub way : (f : Leg) → OnWay (foot a f) (point t f)
    pub down : (f : Leg) → lifted a f ≡ false → foot a f ≡ point t f

  module _ (a : Feet) (c : ℕ) (w : Striding a c) where
    abbrev after : Feet
    after = strides a t m

    one_stride : (f : Leg) → whole after f ≡ stride (lifted a f) (foot a f) (point t f) m
    unfolding strides
    one_stride = whole_of_feet (λ l. stride (lifted a l) (foot a l) (point t l) m)

    foot_is : (f : Leg) → foot after f ≡ (stride (lifted a f) (foot a f) (point t f) m).point
    foot_is f = ap (λ (x : Foot). x.point) (one_stride f)

    mark_is : (f : Leg) → lifted after f ≡ (stride (lifted a f) (foot a f) (point t f) m).lifted
    mark_is f = ap (λ (x : Foot). x.lifted) (one_stride f)

    moved_on : (f : Leg) → foot after f ≡ point_of (move_towards (foot a f) (point t f) m)
    moved_on f = foot_is f ∙ stepped m (lifted a f) (foot a f) (point t f) (w.aim f) (w.way f) (w.down f)

    down_there : (f : Leg) → lifted after f ≡ false → foot after f ≡ point t f
    down_there f h =
        foot_is f
        ∙ put_down_there m (lifted a f) (foot a f) (point t f) (w.aim f) (w.way f) (w.down f) (sym (mark_is f) ∙ h)

    -- where one is still lifted, not all had arrived
    pub not_arrived : every (λ f. not (lifted after f)) ≡ false → has_arrived m s t (points a) ≡ false
    not_arrived h =
        is_false (has_arrived m s t (points a))
        (not_T (has_arrived m s t (points a)) (λ all.
        false≢true
        (sym h ∙ is_true (every (λ f. not (lifted after f)))
        (every_of_each (λ f. not (lifted after f))
        (λ f. not_T (lifted after f) (λ up. elsewhere f up (each_of_every (λ k. same (foot a k) (point t k)) all f)))))))
      where
        elsewhere : (f : Leg) → T (lifted after f) → T (same (foot a f) (point t f)) → ⊥
        elsewhere f up there =
            false≢true
            (sym (lifted_elsewhere m (lifted a f) (foot a f) (point t f) (w.aim f) (w.way f) (w.down f)
            (sym (mark_is f) ∙ is_true (lifted after f) up))
            ∙ is_true (same (foot a f) (point t f)) there)

    pub striding_few : has_arrived m s t (points a) ≡ false → c < 147457
    striding_few = walking_few m s t (points a) c w.walking

    -- one round more
    pub striding_on : has_arrived m s t (points a) ≡ false → Striding after (c + 1)
    striding_on e = record {
      walking = walking_on m s t (points a) c w.walking e (points after) moved_on;
      aim = w.aim;
      way = λ f. subst (λ (q : Point). OnWay q (point t f)) (sym (moved_on f)) (kept m (foot a f) (point t f) (w.aim f) (w.way f)).on;
      down = down_there;
    }

    -- all had arrived before
    pub striding_ended : has_arrived m s t (points a) ≡ true → WalkFeet m s t c
    striding_ended = walking_ends m s t (points a) c w.walking

    -- all are down, and not all had arrived before
    pub striding_ends : has_arrived m s t (points a) ≡ false → every (λ f. not (lifted after f)) ≡ true → WalkFeet m s t (c + 1)
    striding_ends e h =
        walking_ends m s t (points after) (c + 1) (striding_on e).walking
        (is_true (has_arrived m s t (points after)) (every_of_each (λ f. same (foot after f) (point t f)) arrived))
      where
        arrived : (f : Leg) → T (same (foot after f) (point t f))
        arrived f =
            subst (λ (q : Point). T (same q (point t f)))
            (sym (down_there f (is_false (lifted after f) (each_of_every (λ k. not (lifted after k)) (holds h) f))))
            (at_target m (lifted a f) (foot a f) (point t f) (w.aim f) (w.way f) (w.down f))

-- ---- all lifted, at the start
pub striding_start : (m : Float) (s t : Points) → (k : ℕ) × WalkFeet m s t k × (k ≤ 147457)
    → ((f : Leg) → Aim m (point t f)) → ((f : Leg) → OnWay (point s f) (point t f)) → Striding m s t (marked (λ l. true) s) 0
striding_start m s t e aim way = record {
  walking = walking_start m s t e;
  aim = aim;
  way = way;
  down = λ f h. absurd (true≢false (sym (lifted_of_marked (λ l. true) s f) ∙ h));
}

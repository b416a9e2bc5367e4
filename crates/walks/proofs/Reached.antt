-- How many steps take a point to its target, from the straight distance: 15/16 of the max move is made good by every step.
use Rattle.std.specs.Prelude.{◌≡◌, ℕ, zero, suc, ◌+◌, ◌-◌, ◌*◌, ◌/◌, ◌^◌, ◌<◌, ◌≤◌, Bool, true, false, not, T}
use mathlib.Core.Path.{refl, sym, ap, ◌∙◌, subst}
use mathlib.Core.Logic.{inl, inr}
use mathlib.Core.Bool.{true≢false}
use Prim.Native.Nat.{zero-le}
use native.Mathlib.Nat.{le_trans, le_of_lt, le_of_eq, lt_of_le_of_lt, mul-le-mul, mul-le-mul_left, mul-le-mul_right, zero-mul}
use native.Mathlib.Omega.{arith}
use lib.Dec.{T_not, lit<, lit≤}
use lib.Pow.{pow_pos}
use lib.Ieee.{Float, binary32, le}
use lib.Ieee.Bits.{is_true}
use lib.Ieee.Exact.{HasValue}
use Rattle.units.specs.Units.{unity, hi, lo, mag, apart}
use Rattle.units.proofs.Errors.{Within, sum_abs, unity_pos, summed, multiplied}
use Rattle.units.proofs.Values.{mag_is}
use Rattle.units.proofs.Order.{le_values}
use Rattle.units.proofs.Door.{holds}
use Rattle.units.proofs.Whole.{le_or_lt}
use Rattle.legs.specs.declared.Point.{Point}
use Rattle.moves.specs.Distance.{same, distance}
use Rattle.moves.specs.Moving.{along, move_towards, point_of, place_of}
use Rattle.moves.proofs.Steps.{stands, moves, goes_there, goes_along}
use Rattle.moves.proofs.Squares.{diff, size, sq, both, all, less_32}
use Rattle.walks.specs.Walk.{point_after, Walk}
use Rattle.walks.proofs.Aim.{Aim, OnWay}
use Rattle.walks.proofs.Arithmetic.{Dist}
use Rattle.walks.proofs.Coordinate.{δ}
use Rattle.walks.proofs.Descent.{near, near_target, measured, lowers}
use Rattle.walks.proofs.Far.{distance_rooted, dist_facts, crude_low}
use Rattle.roots.proofs.Laws.{Rooted}
use Rattle.walks.proofs.Steps.{kept, test_false, far_is_elsewhere, spread_self, same_of_spread, spread_of_same}
use Rattle.walks.proofs.Feet.{still_there}
use Rattle.walks.proofs.Spans.{Spans, root_le, wider, spans_less, through, shrunk, grown}

-- ---- the distance Q against its three differences, squared: within 2 parts in 256
squares_above : (xx yy zz qx qy qz s1 s qq u : ℕ) → 1024 * (qx * u) ≤ 1025 * xx + 512 * u → 1024 * (qy * u) ≤ 1025 * yy + 512 * u
    → 1024 * (qz * u) ≤ 1025 * zz + 512 * u
    → 1024 * s1 ≤ 1025 * (qx + qy) + 512 → 1024 * s ≤ 1025 * (s1 + qz) + 512 → 1024 * qq ≤ 1025 * (s * u) → 1000000 * u ≤ qq
    → 256 * qq ≤ 258 * (xx + yy + zz)
squares_above xx yy zz qx qy qz s1 s qq u a b c d e f g =
    let d' : 1024 * s1 * u ≤ (1025 * (qx + qy) + 512) * u = mul-le-mul_right u d in
    let e' : 1024 * s * u ≤ (1025 * (s1 + qz) + 512) * u = mul-le-mul_right u e in
    omega arith

squares_below : (xx yy zz qx qy qz s1 s qq u : ℕ) → 1023 * xx ≤ 1024 * (qx * u) + 512 * u → 1023 * yy ≤ 1024 * (qy * u) + 512 * u
    → 1023 * zz ≤ 1024 * (qz * u) + 512 * u
    → 1023 * (qx + qy) ≤ 1024 * s1 + 512 → 1023 * (s1 + qz) ≤ 1024 * s + 512 → 1023 * (s * u) ≤ 1024 * qq
    → 256 * (xx + yy + zz) ≤ 258 * qq + 1000 * u
squares_below xx yy zz qx qy qz s1 s qq u a b c d e f =
    let d' : 1023 * (qx + qy) * u ≤ (1024 * s1 + 512) * u = mul-le-mul_right u d in
    let e' : 1023 * (s1 + qz) * u ≤ (1024 * s + 512) * u = mul-le-mul_right u e in
    omega arith

-- so the distance is at most 257/256 of what they span, and they span at most 257/256 of it
distance_above : (X Y Z qx qy qz s1 s Q u W : ℕ) → Dist X Y Z qx qy qz s1 s Q u → Spans X Y Z W → 256 * Q ≤ 257 * W
distance_above X Y Z qx qy qz s1 s Q u W h v =
    let k = squares_above (X * X) (Y * Y) (Z * Z) qx qy qz s1 s (Q * Q) u h.sx.up h.sy.up h.sz.up h.two.up
    h.three.up h.root_up h.big in
    root_le (256 * Q) (257 * W) (squared k)
  where
    squared : 256 * (Q * Q) ≤ 258 * (X * X + Y * Y + Z * Z) → 256 * Q * (256 * Q) ≤ 257 * W * (257 * W)
    squared k = omega arith

-- a little more than a distance W
abbrev pub beyond : ℕ → ℕ
beyond w = w + w / 128 + 64 * δ + 1

spans_distance : (X Y Z : ℕ) (r : Float) (w : Rooted r (all X Y Z)) (W : ℕ) → w.q ≤ W → 2 ^ 137 ≤ W
    → Spans (256 * X) (256 * Y) (256 * Z) (258 * W)
spans_distance X Y Z r w W h many =
    let k = squares_below (X * X) (Y * Y) (Z * Z) (sq X) (sq Y) (sq Z) (both X Y) (all X Y Z) (w.q * w.q) unity
    (multiplied (X * X)).low (multiplied (Y * Y)).low (multiplied (Z * Z)).low (summed (sq X + sq Y)).low
    (summed (both X Y + sq Z)).low (crude_low (all X Y Z * unity) (w.q * w.q) w.low) in
    let q : w.q * w.q ≤ W * W = mul-le-mul h h in
    let b : 1000 * unity ≤ W * W = le_trans {m = 2 ^ 137 * 2 ^ 137} (lit≤ tt) (mul-le-mul many many) in
    widened (w.q * w.q) unity k q b
  where
    widened : (q u : ℕ) → 256 * (X * X + Y * Y + Z * Z) ≤ 258 * q + 1000 * u → q ≤ W * W → 1000 * u ≤ W * W
        → 256 * X * (256 * X) + 256 * Y * (256 * Y) + 256 * Z * (256 * Z) ≤ 258 * W * (258 * W)
    widened q u a b c = omega arith

-- ---- a rounded difference is within 2 ^ -19 of the exact one
size_near : (t l : Float) → apart t l ≤ 18 * unity → Within (size t l) (apart t l) (32 * δ)
size_near t l h =
    let a = hi t + lo l in
    let b = lo t + hi l in
    let k = less_32 a b unity unity_pos h in
    let p = sum_abs (a - b) k.0 in
    let q = sum_abs (b - a) k.1 in
    record {
      up = added (diff a b) (a - b) (diff b a) (b - a) δ p.up q.up;
      low = added (a - b) (diff a b) (b - a) (diff b a) δ p.low q.low;
    }
  where
    added : (g x h y e : ℕ) → g ≤ x + 16 * e → h ≤ y + 16 * e → g + h ≤ x + y + 32 * e
    added g x h y e a b = omega arith

-- what is left of l's way to t spans no more than P
abbrev pub InReach : Point → Point → ℕ → Type 0
InReach l t P = Spans (apart t.x l.x) (apart t.y l.y) (apart t.z l.z) P

-- ---- whether N, of which a step makes good at most 15/16 of M, leaves room for the roundings; d is the error's unit
room : (M N P Q d : ℕ) → 4096 * d ≤ M → M < Q → 256 * Q ≤ 257 * (P + 2 * (32 * d)) → 16 * N ≤ 15 * M
    → Q * (N + 2 * (51 * d)) ≤ M * P
room M N P Q d few far up part =
    let a : 15872 * Q ≤ 16191 * P = omega arith in
    let b : 1000 * (N + 2 * (51 * d)) ≤ 963 * M = omega arith in
    let c : 15872 * Q * (1000 * (N + 2 * (51 * d))) ≤ 16191 * P * (963 * M) = mul-le-mul a b in
    omega arith

some_left : (M P Q d : ℕ) → 0 < d → 4096 * d ≤ M → M < Q → 256 * Q ≤ 257 * (P + 2 * (32 * d)) → P ≡ 0 → ⊥
some_left M P Q d D few far up z = omega arith

slack : (M N Q d : ℕ) → 0 < d → 4096 * d ≤ M → M < Q → 17 * M ≤ 16 * N
    → M * (Q + Q / 128 + 64 * d + 1) + Q * (2 * (51 * d)) ≤ Q * N
slack M N Q d D few far more =
    let h = Q / 128 in
    let a : 128 * h ≤ Q = omega arith in
    let b : M * (128 * h) ≤ M * Q = mul-le-mul_left M a in
    let c : M * (64 * d + 1) ≤ Q * (64 * d + 1) = mul-le-mul_right (64 * d + 1) (le_of_lt far) in
    let e : Q * (4096 * d) ≤ Q * M = mul-le-mul_left Q few in
    let f : Q * (17 * M) ≤ Q * (16 * N) = mul-le-mul_left Q more in
    let g : Q * 1 ≤ Q * d = mul-le-mul_left Q D in
    omega arith

-- what a way of at most W spans
module _ (m : Float) (l t : Point) (aim : Aim m t) (way : OnWay l t) where
  pub spans_way : (W : ℕ) → mag (distance l t) ≤ W → 2 ^ 137 ≤ W → InReach l t (beyond W)
  spans_way W h long =
      let n = near m l t aim way in
      let a = apart t.x l.x in
      let b = apart t.y l.y in
      let c = apart t.z l.z in
      let X = size t.x l.x in
      let Y = size t.y l.y in
      let Z = size t.z l.z in
      let w = distance_rooted l t (near_target m l t aim way) in
      let s = spans_distance X Y Z (distance l t) w W (le_trans (le_of_eq (sym (mag_is (distance l t) false w.q w.value))) h) long in
      through a b c (beyond W) 256 (lit< tt)
      (le_trans
      (spans_less (256 * a) (256 * b) (256 * c) (256 * X + 8192 * δ) (256 * Y + 8192 * δ) (256 * Z + 8192 * δ) (258 * W + 2 * (8192 * δ))
      (times_256 a X δ (size_near t.x l.x n.0).low) (times_256 b Y δ (size_near t.y l.y n.1).low)
      (times_256 c Z δ (size_near t.z l.z n.2).low)
      (wider (256 * X) (256 * Y) (256 * Z) (258 * W) (8192 * δ) s))
      (mul-le-mul (enough W δ) (enough W δ)))
    where
      times_256 : (a x d : ℕ) → a ≤ x + 32 * d → 256 * a ≤ 256 * x + 8192 * d
      times_256 a x d h = omega arith

      enough : (w d : ℕ) → 258 * w + 2 * (8192 * d) ≤ 256 * (w + w / 128 + 64 * d + 1)
      enough w d = omega arith

  -- the distance is not far above what the way spans
  pub distance_within : (P : ℕ) → 2 ^ 137 ≤ mag (distance l t) → InReach l t P → 256 * mag (distance l t) ≤ 257 * (P + 2 * (32 * δ))
  distance_within P long h =
      let n = near m l t aim way in
      let a = apart t.x l.x in
      let b = apart t.y l.y in
      let c = apart t.z l.z in
      let X = size t.x l.x in
      let Y = size t.y l.y in
      let Z = size t.z l.z in
      let w = distance_rooted l t (near_target m l t aim way) in
      let e = mag_is (distance l t) false w.q w.value in
      let D = dist_facts X Y Z (distance l t) w (le_trans long (le_of_eq e)) in
      subst (λ (q : ℕ). 256 * q ≤ 257 * (P + 2 * (32 * δ))) (sym e)
      (distance_above X Y Z (sq X) (sq Y) (sq Z) (both X Y) (all X Y Z) w.q unity (P + 2 * (32 * δ)) D
      (spans_less X Y Z (a + 32 * δ) (b + 32 * δ) (c + 32 * δ) (P + 2 * (32 * δ)) (size_near t.x l.x n.0).up
      (size_near t.y l.y n.1).up (size_near t.z l.z n.2).up (wider a b c P (32 * δ) h)))

  pub distance_value : HasValue (distance l t) false (mag (distance l t)) unity
  distance_value =
      let w = distance_rooted l t (near_target m l t aim way) in
      subst (λ (q : ℕ). HasValue (distance l t) false q unity) (sym (mag_is (distance l t) false w.q w.value)) w.value

  pub distance_small : mag (distance l t) ≤ 2 ^ 156
  distance_small = elim (le_or_lt (2 ^ 137) (mag (distance l t))) [
    | inl h ↦
        let n = near m l t aim way in
        let s = spans_less (apart t.x l.x) (apart t.y l.y) (apart t.z l.z) (18 * unity) (18 * unity) (18 * unity)
        (36 * unity)
        n.0 n.1 n.2 (lit≤ tt) in
        le_trans (few (mag (distance l t)) unity δ (lit≤ tt) (distance_within (36 * unity) h s)) (lit≤ tt)
    | inr h ↦ le_trans (le_of_lt h) (lit≤ tt)
  ]
    where
      few : (q u d : ℕ) → d ≤ u → 256 * q ≤ 257 * (36 * u + 2 * (32 * d)) → q ≤ 101 * u
      few q u d h g = omega arith

-- ---- a step that goes along
module _ (m : Float) (l t : Point) (aim : Aim m t) (way : OnWay l t) (far : T (not (le (distance l t) m))) where
  up_to : (P : ℕ) → InReach l t P → 256 * (measured m l t aim way far).Q ≤ 257 * (P + 2 * (32 * δ))
  up_to P h =
      let w = measured m l t aim way far in
      let e = mag_is (distance l t) false w.Q w.value in
      subst (λ (q : ℕ). 256 * q ≤ 257 * (P + 2 * (32 * δ))) e
      (distance_within m l t aim way P (le_trans (le_trans aim.from (le_of_lt w.above)) (le_of_eq (sym e))) h)

  many : 4096 * δ ≤ mag m
  many = le_trans (lit≤ tt) aim.from

  none_left : InReach l t 0 → ⊥
  none_left h =
      some_left (mag m) 0 (measured m l t aim way far).Q δ (pow_pos 125) many (measured m l t aim way far).above (up_to 0 h) refl

  nearer_by : (N P : ℕ) → 16 * N ≤ 15 * mag m → N ≤ P → InReach l t P → InReach (along (distance l t) m l t) t (P - N)
  unfolding along
  nearer_by N P part less h =
      let w = measured m l t aim way far in
      let s = lowers m l t aim way far in
      let p = along (distance l t) m l t in
      shrunk (apart t.x l.x) (apart t.y l.y) (apart t.z l.z) (apart t.x p.x) (apart t.y p.y)
      (apart t.z p.z)
      P (mag m) N w.Q (51 * δ) (lt_of_le_of_lt zero-le w.above) (le_of_lt w.above) less s.x.0 s.y.0 s.z.0
      (room (mag m) N P w.Q δ many w.above (up_to P h) part) h

  -- and the way does not fall faster
  falls_by : (N P : ℕ) → 17 * mag m ≤ 16 * N → InReach (along (distance l t) m l t) t P → InReach l t (P + N)
  unfolding along
  falls_by N P more h =
      let w = measured m l t aim way far in
      let s = lowers m l t aim way far in
      let p = along (distance l t) m l t in
      grown (apart t.x l.x) (apart t.y l.y) (apart t.z l.z) (apart t.x p.x) (apart t.y p.y)
      (apart t.z p.z)
      P (beyond w.Q) (mag m) N w.Q (51 * δ) (lt_of_le_of_lt zero-le w.above) (le_of_lt w.above) s.x.1 s.y.1 s.z.1
      (slack (mag m) N w.Q δ (pow_pos 125) many w.above more)
      (spans_way m l t aim way w.Q (le_of_eq (mag_is (distance l t) false w.Q w.value))
      (le_trans aim.from (le_of_lt w.above))) h

-- ---- a walk: where the way spans n times N, it has arrived after n + 1 steps
module _ (m : Float) (t : Point) (aim : Aim m t) (N : ℕ) (part : 16 * N ≤ 15 * mag m) where
  one_later : (l : Point) (k : ℕ) → point_after m l t (suc k) ≡ point_after m (point_of (move_towards l t m)) t k
  unfolding point_after
  one_later l zero = refl
  one_later l (suc k) = ap (λ (q : Point). point_of (move_towards q t m)) (one_later l k)

  at_target : (k : ℕ) → T (same (point_after m t t k) t)
  unfolding point_after
  at_target k = still_there m t t 0 k zero-le (same_of_spread t t aim.target aim.target (spread_self t))

  -- a step from l that ends at p
  from_next : (l p : Point) (k : ℕ) → point_of (move_towards l t m) ≡ p → T (same (point_after m p t k) t) → T
      (same (point_after m l t (suc k)) t)
  from_next l p k e h =
      subst (λ (q : Point). T (same q t)) (sym (one_later l k)) (subst (λ (q : Point). T (same (point_after m q t k) t)) (sym e) h)

  fewer : (n : ℕ) → suc n * N - N ≡ n * N
  fewer n = omega arith

  enough : (n : ℕ) → N ≤ suc n * N
  enough n = omega arith

  -- one step, by its two tests: at its target it stays, near it is there, and far it goes along
  by_tests : (k : ℕ) (l : Point) → (le (distance l t) m ≡ false → T (same (point_after m l t (suc k)) t)) → T
      (same (point_after m l t (suc k)) t)
  unfolding point_after place_of
  by_tests k l on = by_place (same l t) refl
    where
      by_distance : same l t ≡ false → (b : Bool) → le (distance l t) m ≡ b → T (same (point_after m l t (suc k)) t)
      by_distance e true g = from_next l t k (ap point_of (moves l t m e) ∙ goes_there (distance l t) l t m g) (at_target k)
      by_distance e false g = on g

      by_place : (b : Bool) → same l t ≡ b → T (same (point_after m l t (suc k)) t)
      by_place true e = from_next l t k (ap point_of (stands l t m e)) (at_target k)
      by_place false e = by_distance e (le (distance l t) m) refl

  pub near_arrives : (l : Point) → le (distance l t) m ≡ true → T (same (point_after m l t (suc zero)) t)
  near_arrives l e = by_tests 0 l (λ f. absurd (true≢false (sym e ∙ f)))

  far_goes_along : (l : Point) → OnWay l t → le (distance l t) m ≡ false → point_of (move_towards l t m) ≡ along (distance l t) m l t
  unfolding place_of
  far_goes_along l way e = ap point_of (moves l t m (far_is_elsewhere m l t aim way e)) ∙ goes_along (distance l t) l t m e

  pub arrives_within : (n : ℕ) (l : Point) → OnWay l t → InReach l t (n * N) → T (same (point_after m l t (suc n)) t)
  arrives_within zero l way h =
      by_tests 0 l (λ e. absurd (none_left m l t aim way (test_false e) (subst (InReach l t) (zero-mul N) h)))
  arrives_within (suc n) l way h =
      by_tests (suc n) l (λ e.
      let p = along (distance l t) m l t in
      let f = far_goes_along l way e in
      from_next l p (suc n) f
      (arrives_within n p (subst (λ (q : Point). OnWay q t) f (kept m l t aim way).on)
      (subst (InReach p t) (fewer n) (nearer_by m l t aim way (test_false e) N (suc n * N) part (enough n) h))))

-- ---- the other way: what has arrived after n steps was within n times N
module _ (m : Float) (t : Point) (aim : Aim m t) (N : ℕ) (more : 17 * mag m ≤ 16 * N) where
  at_no_distance : (l : Point) → OnWay l t → same l t ≡ true → (P : ℕ) → InReach l t P
  at_no_distance l way e P =
      let z = spread_of_same l t way.point aim.target (holds e) in
      let h = none (apart t.x l.x) (apart t.y l.y) (apart t.z l.z) z in
      spans_less (apart t.x l.x) (apart t.y l.y) (apart t.z l.z) 0 0 0 P h.0 h.1 h.2 zero-le
    where
      none : (a b c : ℕ) → a + b + c ≡ 0 → (a ≤ 0) × (b ≤ 0) × (c ≤ 0)
      none a b c e = (omega arith, omega arith, omega arith)

  within_one : (M N d k : ℕ) → 4096 * d ≤ M → 0 < d → 17 * M ≤ 16 * N → M + M / 128 + 64 * d + 1 ≤ suc k * N
  within_one M N d k few D more = let a : M + M / 128 + 64 * d + 1 ≤ N = omega arith in le_trans a (enough k)
    where
      enough : (k : ℕ) → N ≤ suc k * N
      enough k = omega arith

  near_spans : (k : ℕ) (l : Point) → OnWay l t → le (distance l t) m ≡ true → InReach l t (suc k * N)
  near_spans k l way e =
      let w = distance_rooted l t (near_target m l t aim way) in
      let q : mag (distance l t) ≤ mag m =
      le_trans (le_of_eq (mag_is (distance l t) false w.q w.value))
      ((le_values binary32 (distance l t) m w.q (mag m) w.value aim.move).0 (holds e)) in
      let a : 4096 * δ ≤ mag m = le_trans (lit≤ tt) aim.from in
      let b = within_one (mag m) N δ k a (pow_pos 125) more in
      le_trans (spans_way m l t aim way (mag m) q aim.from) (mul-le-mul b b)

  one_more : (k : ℕ) → k * N + N ≡ suc k * N
  one_more k = omega arith

  pub was_within : (n : ℕ) (l : Point) → OnWay l t → T (same (point_after m l t n) t) → InReach l t (n * N)
  unfolding point_after
  was_within zero l way h = at_no_distance l way (is_true (same l t) h) (0 * N)
  was_within (suc n) l way h = by_place (same l t) refl (le (distance l t) m) refl (λ e.
      let p = along (distance l t) m l t in
      let f = far_goes_along m t aim 0 zero-le l way e in
      subst (InReach l t) (one_more n)
      (falls_by m l t aim way (test_false e) N (n * N) more
      (was_within n p (subst (λ (q : Point). OnWay q t) f (kept m l t aim way).on)
      (subst (λ (q : Point). T (same (point_after m q t n) t)) f
      (subst (λ (q : Point). T (same q t)) (one_later m t aim 0 zero-le l n) h)))))
    where
      by_place : (b : Bool) → same l t ≡ b → (c : Bool) → le (distance l t) m ≡ c
          → (le (distance l t) m ≡ false → InReach l t (suc n * N)) → InReach l t (suc n * N)
      by_place true e c g on = at_no_distance l way e (suc n * N)
      by_place false e true g on = near_spans n l way g
      by_place false e false g on = on g

-- so is its count
pub count_within : (m : Float) (s t : Point) (n c : ℕ) → Walk m s t c → T (same (point_after m s t n) t) → c ≤ n
count_within m s t n c w h = elim (le_or_lt c n) [
  | inl g ↦ g
  | inr g ↦ absurd (T_not (same (point_after m s t n) t) (w.least n g) h)
]

-- A foot is outlasted: where its distance and one max move more come to at most 27/32 of another foot's distance, it arrives no later
-- than that one. So the largest count is that of the feet that are left.
use Rattle.std.specs.Prelude.{◌≡◌, ℕ, zero, suc, ◌+◌, ◌*◌, ◌/◌, ◌^◌, ◌<◌, ◌≤◌, Bool, true, false, T}
use mathlib.Core.Path.{refl, sym, ap, ◌∙◌, subst}
use Prim.Native.Nat.{zero-le}
use native.Mathlib.Nat.{le_refl, le_trans, le_of_lt, lt_of_le_of_lt, mul-le-mul, mul-lt-mul_of_pos_right}
use native.Mathlib.Nat.{mul-pos}
use native.Mathlib.Nat.{le_of_mul-le-mul_right, mul-le-mul_right, add-le-add, zero-mul}
use native.Mathlib.Omega.{arith}
use lib.Dec.{lit<, lit≤}
use lib.Ieee.{Float, binary32, of_bits, add, mul, le}
use lib.Ieee.Exact.{HasValue}
use lib.Ieee.Scale.{overflow}
use Rattle.units.specs.Units.{unity, mag, rounded}
use Rattle.units.proofs.Add.{add_value}
use Rattle.units.proofs.Multiply.{mul_part}
use Rattle.units.proofs.Values.{plus_part}
use Rattle.units.proofs.Order.{le_part, not_le_values}
use Rattle.units.proofs.Grid.{cell_le, grid_zero}
use Rattle.units.proofs.Errors.{unity_pos, summed, multiplied}
use Rattle.legs.specs.declared.Point.{Point}
use Rattle.moves.specs.Distance.{same, distance}
use Rattle.walks.specs.Walk.{point_after, Walk}
use Rattle.walks.specs.How.{share}
use Rattle.walks.proofs.Aim.{Aim, OnWay}
use Rattle.walks.proofs.Coordinate.{δ}
use Rattle.walks.proofs.Steps.{test_false}
use Rattle.walks.proofs.Share.{part}
use Rattle.walks.proofs.Feet.{still_there}
use Rattle.walks.proofs.Reached.{spans_way, distance_within, distance_value, distance_small}
use Rattle.walks.proofs.Reached.{near_arrives, arrives_within, was_within, count_within}

share_value : HasValue share false part unity
unfolding of_bits part
share_value = (refl, refl)

-- ---- on whole numbers: the distances A and B, the max move M; G is what B + M is rounded to, H what 27/32 of A is; d is the error's unit
longer_than : (A B M G H d : ℕ) → 1000000 ≤ d → 4096 * d ≤ M → 1023 * (B + M) ≤ 1024 * G + 512 → G ≤ H → 32768 * H ≤ 27675 * A + 16384
    → (M ≤ A) × (B < A)
longer_than A B M G H d big few sum less product = (omega arith, omega arith)

some_steps : (A B M G H d : ℕ) → 1000000 ≤ d → 4096 * d ≤ M → 1023 * (B + M) ≤ 1024 * G + 512 → G ≤ H → 32768 * H ≤ 27675 * A + 16384
    → 256 * A ≤ 257 * (0 + 2 * (32 * d)) → ⊥
some_steps A B M G H d big few sum less product up = omega arith

shorter : (A B M G H : ℕ) → 1023 * (B + M) ≤ 1024 * G + 512 → G ≤ H → 32768 * H ≤ 27675 * A + 16384
    → 1000 * (B + M) ≤ 846 * A + 1001
shorter A B M G H sum less product = omega arith

longest : (A L M d n Ln Mn dn : ℕ) → 256 * A ≤ 257 * (Ln + L + 64 * d) → 16 * L ≤ 17 * M + 16 → 16 * Ln ≤ 17 * Mn + 16 * n
    → 1000000 ≤ d → 1000000 * n ≤ dn → 4096 * dn ≤ Mn → 1000 * A ≤ 1067 * M + 1068 * Mn + 65000 * d
longest A L M d n Ln Mn dn a b c e f g = omega arith

in_reach : (A B M d n Mn Nn dn : ℕ) → 1000 * (B + M) ≤ 846 * A + 1001 → 1000 * A ≤ 1067 * M + 1068 * Mn + 65000 * d
    → 15 * Mn ≤ 16 * Nn + 15 * n → 1000000 * n ≤ dn → 4096 * dn ≤ Mn → 1000000 ≤ d → 4096 * d ≤ M → B + B / 128 + 64 * d + 1 ≤ Nn
in_reach A B M d n Mn Nn dn a b c e f g h =
    let k : 128 * (B / 128) ≤ B = omega arith in
    let l : 1000000 * B + 97000 * M ≤ 903528 * Mn + 55000000 * d = omega arith in
    let o : 1000000 * (B + B / 128 + 64 * d + 1) ≤ 911000 * Mn = omega arith in
    omega arith

within_one_less : (A B M G H N L d n : ℕ) → 1000000 ≤ d → 4096 * d ≤ M → 1023 * (B + M) ≤ 1024 * G + 512 → G ≤ H
    → 32768 * H ≤ 27675 * A + 16384 → 256 * A ≤ 257 * (suc n * L + 2 * (32 * d)) → 16 * L ≤ 17 * M + 16 → 15 * M ≤ 16 * N + 15
    → B + B / 128 + 64 * d + 1 ≤ n * N
within_one_less A B M G H N L d n big few sum less product up most least =
    let a : 16 * (n * L) ≤ 17 * (n * M) + 16 * n = times_n L M (mul-le-mul_right n most) in
    let b : 15 * (n * M) ≤ 16 * (n * N) + 15 * n = times_15 (mul-le-mul_right n least) in
    let c : 1000000 * n ≤ n * d = times_d (mul-le-mul_right n big) in
    let e : 4096 * (n * d) ≤ n * M = times_m (mul-le-mul_right n few) in
    in_reach A B M d n (n * M) (n * N) (n * d) (shorter A B M G H sum less product)
    (longest A L M d n (n * L) (n * M) (n * d) (from_suc up) most a big c e) b c e big few
  where
    times_n : (L M : ℕ) → 16 * L * n ≤ (17 * M + 16) * n → 16 * (n * L) ≤ 17 * (n * M) + 16 * n
    times_n L M h = omega arith

    times_15 : 15 * M * n ≤ (16 * N + 15) * n → 15 * (n * M) ≤ 16 * (n * N) + 15 * n
    times_15 h = omega arith

    times_d : 1000000 * n ≤ d * n → 1000000 * n ≤ n * d
    times_d h = omega arith

    times_m : 4096 * d * n ≤ M * n → 4096 * (n * d) ≤ n * M
    times_m h = omega arith

    from_suc : 256 * A ≤ 257 * (suc n * L + 2 * (32 * d)) → 256 * A ≤ 257 * (n * L + L + 64 * d)
    from_suc h = omega arith

-- ---- of floats
share_of : (H A p u : ℕ) → 0 < u → 32 * p ≡ 27 * u → 1024 * (H * u) ≤ 1025 * (A * p) + 512 * u → 32768 * H ≤ 27675 * A + 16384
share_of H A p u U e h =
    let f : A * (32 * p) ≡ A * (27 * u) = ap (λ (x : ℕ). A * x) e in
    le_of_mul-le-mul_right {m = 32768 * H} {n = 27675 * A + 16384} {k = u} (omega arith) U

module _ (m : Float) (a ta b tb : Point) (aim : Aim m ta) (way : OnWay a ta) (aim' : Aim m tb) (way' : OnWay b tb) where
  abbrev A : ℕ
  A = mag (distance a ta)

  abbrev B : ℕ
  B = mag (distance b tb)

  abbrev G : ℕ
  G = rounded (B + mag m) unity

  abbrev H : ℕ
  H = rounded (A * part) (unity * unity)

  fine : (k : ℕ) → k ≤ 2 ^ 160 → k < overflow binary32
  fine k h = lt_of_le_of_lt h (lit< tt)

  product_small : H ≤ 2 ^ 160
  unfolding part
  product_small =
      cell_le 24 (A * part * unity) (unity * unity) 136 (mul-pos unity_pos unity_pos)
      (mul-lt-mul_of_pos_right {n = 2 ^ 309} {k = unity}
      (lt_of_le_of_lt (mul-le-mul (distance_small m a ta aim way) (lit≤ {m = part} {n = 2 ^ 149} tt)) (lit< tt)) unity_pos)

  sum_small : G ≤ 2 ^ 160
  sum_small =
      cell_le 24 ((B + mag m) * unity) unity 136 unity_pos
      (mul-lt-mul_of_pos_right {n = 2 ^ 160} {k = unity}
      (lt_of_le_of_lt (add-le-add (distance_small m b tb aim' way') aim.to) (lit< tt)) unity_pos)

  less : T (le (add binary32 (distance b tb) m) (mul binary32 (distance a ta) share)) → G ≤ H
  less h =
      no_minus (rounded (0 * part) (unity * unity))
      ((le_part binary32 (add binary32 (distance b tb) m) (mul binary32 (distance a ta) share) G 0 H (rounded (0 * part) (unity * unity))
      (plus_part binary32 (add binary32 (distance b tb) m) G
      (add_value binary32 (distance b tb) m B (mag m) (distance_value m b tb aim' way') aim.move (fine G sum_small)))
      (mul_part binary32 (distance a ta) share false A 0 part (plus_part binary32 (distance a ta) A (distance_value m a ta aim way))
      share_value (fine H product_small) nothing)).0 h)
    where
      no_minus : {g h : ℕ} (k : ℕ) → g + k ≤ 0 + h → g ≤ h
      no_minus {g} {h} k i = omega arith

      nothing : rounded (0 * part) (unity * unity) < overflow binary32
      nothing = subst (λ (k : ℕ). k < overflow binary32) (sym zero_product) (lit< tt)
        where
          zero_product : rounded (0 * part) (unity * unity) ≡ 0
          zero_product = ap (λ (k : ℕ). rounded k (unity * unity)) (zero-mul part) ∙ grid_zero binary32 (unity * unity)
              (mul-pos unity_pos unity_pos)

  -- what a step makes good at least, and at most
  abbrev least : ℕ
  least = 15 * mag m / 16

  abbrev most : ℕ
  most = mag m + mag m / 16 + 1

  at_least : 16 * least ≤ 15 * mag m
  at_least = omega arith

  not_less : 15 * mag m ≤ 16 * least + 15
  not_less = omega arith

  at_most : 17 * mag m ≤ 16 * most
  at_most = omega arith

  not_more : 16 * most ≤ 17 * mag m + 16
  not_more = omega arith

  few : 4096 * δ ≤ mag m
  few = le_trans (lit≤ tt) aim.from

  sum : 1023 * (B + mag m) ≤ 1024 * G + 512
  sum = (summed (B + mag m)).low

  product : 32768 * H ≤ 27675 * A + 16384
  unfolding part
  product = share_of H A part unity unity_pos refl (multiplied (A * part)).up

  module _ (h : T (le (add binary32 (distance b tb) m) (mul binary32 (distance a ta) share))) where
    pub longer : (mag m ≤ A) × (B < A)
    longer = longer_than A B (mag m) G H δ (lit≤ tt) few sum (less h) product

    up : (n : ℕ) → Walk m a ta n → 256 * A ≤ 257 * (n * most + 2 * (32 * δ))
    up n w =
        distance_within m a ta aim way (n * most) (le_trans aim.from longer.0)
        (was_within m ta aim most at_most n a way w.arrives)

    far_arrives : (n : ℕ) → Walk m a ta (suc n) → le (distance b tb) m ≡ false → T (same (point_after m b tb (suc n)) tb)
    far_arrives n w e =
        let q : mag m < B =
        not_le_values binary32 (distance b tb) m B (mag m) (distance_value m b tb aim' way') aim.move (test_false e) in
        let s = spans_way m b tb aim' way' B (le_refl B) (le_trans aim.from (le_of_lt q)) in
        let r = within_one_less A B (mag m) G H least most δ n (lit≤ tt) few sum (less h) product (up (suc n) w) not_more not_less in
        arrives_within m tb aim' least at_least n b way' (le_trans s (mul-le-mul r r))

    by_distance : (n : ℕ) → Walk m a ta (suc n) → (x : Bool) → le (distance b tb) m ≡ x → T (same (point_after m b tb (suc n)) tb)
    by_distance n w true e =
        still_there m b tb 1 (suc n) (some n) (near_arrives m tb aim' 0 zero-le b e)
      where
        some : (n : ℕ) → 1 ≤ suc n
        some n = omega arith
    by_distance n w false e = far_arrives n w e

    pub outlasted : (n c : ℕ) → Walk m a ta n → Walk m b tb c → c ≤ n
    outlasted zero c w v =
        absurd
        (some_steps A B (mag m) G H δ (lit≤ tt) few sum (less h) product
        (subst (λ (k : ℕ). 256 * A ≤ 257 * (k + 2 * (32 * δ))) (zero-mul most) (up 0 w)))
    outlasted (suc n) c w v = count_within m b tb (suc n) c v (by_distance n w (le (distance b tb) m) refl)

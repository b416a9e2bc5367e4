-- The sum of squares in units. What the door lets in gives a sum within the root's own limit, so a step hands the root nothing that the
-- root's door refuses.
use Rattle.std.specs.Prelude.{ℕ, ◌+◌, ◌-◌, ◌*◌, ◌^◌, ◌<◌, ◌≤◌, false, T}
use Prim.Native.Nat.{zero-le}
use native.Mathlib.Nat.{le_trans, lt_of_le_of_lt, mul-pos, mul-le-mul, mul-lt-mul_of_pos_right, add-le-add}
use native.Mathlib.Omega.{arith}
use lib.Dec.{lit<, lit≤}
use lib.Ieee.{Float, binary32, sub, mul, fits}
use lib.Ieee.Exact.{HasValue}
use lib.Ieee.Scale.{overflow}
use Rattle.numbers.specs.Door.{permits}
use Rattle.numbers.specs.Limits.{root_argument, foot_limit}
use Rattle.units.specs.Units.{Part, Units, unity, hi, lo, gap, apart, rounded}
use Rattle.units.proofs.Grid.{cell_le}
use Rattle.units.proofs.Values.{plus_part}
use Rattle.units.proofs.Add.{add_value, sub_part}
use Rattle.units.proofs.Multiply.{sq_value}
use Rattle.units.proofs.Errors.{unity_pos, sum_le}
use Rattle.units.proofs.Door.{permitted, permitted_parts, permits_part}
use Rattle.units.proofs.Table.{foot_ends, root_argument_ends}
use Rattle.legs.specs.Legs.{permitted_point}
use Rattle.legs.specs.declared.Point.{Point}
use Rattle.moves.specs.Distance.{Each, square_sum, horizontal_sum}
use Rattle.moves.proofs.Refusals.{each_permitted}

-- ---- one difference, rounded: a - b units, and its size
abbrev pub diff : ℕ → ℕ → ℕ
diff a b = rounded (a - b) unity

abbrev pub size : Float → Float → ℕ
size t l = diff (hi t + lo l) (lo t + hi l) + diff (lo t + hi l) (hi t + lo l)

pub less_32 : (a b u : ℕ) → 0 < u → gap a b ≤ 18 * u → (a - b < 32 * u) × (b - a < 32 * u)
less_32 a b u h g = (omega arith, omega arith)

pub diff_part : (t l : Float) (pt nt pl nl : ℕ) → Part binary32 t pt nt → Part binary32 l pl nl → gap (pt + nl) (nt + pl) ≤ 18 * unity
    → Part binary32 (sub binary32 t l) (diff (pt + nl) (nt + pl)) (diff (nt + pl) (pt + nl))
diff_part t l pt nt pl nl ut ul near =
    let a = pt + nl in
    let b = nt + pl in
    let E = less_32 a b unity unity_pos near in
    let fine : (k : ℕ) → k ≤ 2 ^ 154 → k < overflow binary32 = λ k h. lt_of_le_of_lt h (lit< tt) in
    sub_part binary32 t l pt nt pl nl ut ul (fine (diff a b) (sum_le (a - b) E.0)) (fine (diff b a) (sum_le (b - a) E.1))

size_le : (t l : Float) → apart t l ≤ 18 * unity → size t l ≤ 2 ^ 155
size_le t l near =
    let a = hi t + lo l in
    let b = lo t + hi l in
    let E = less_32 a b unity unity_pos near in
    add-le-add {b = 2 ^ 154} {d = 2 ^ 154} (sum_le (a - b) E.0) (sum_le (b - a) E.1)

-- ---- its square, the sum of two and of three
abbrev pub sq : ℕ → ℕ
sq d = rounded (d * d) (unity * unity)

abbrev pub both : ℕ → ℕ → ℕ
both x y = rounded (sq x + sq y) unity

abbrev pub all : ℕ → ℕ → ℕ → ℕ
all x y z = rounded (both x y + sq z) unity

sq_le : (d : ℕ) → d ≤ 2 ^ 155 → sq d ≤ 2 ^ 162
sq_le d h =
    cell_le 24 (d * d * unity) (unity * unity) 138 (mul-pos unity_pos unity_pos)
    (mul-lt-mul_of_pos_right {n = 2 ^ 311} {k = unity} (lt_of_le_of_lt (mul-le-mul h h) (lit< tt)) unity_pos)

two_le : (a b : ℕ) → a ≤ 2 ^ 162 → b ≤ 2 ^ 162 → rounded (a + b) unity ≤ 2 ^ 164
two_le a b h k =
    cell_le 24 ((a + b) * unity) unity 140 unity_pos
    (mul-lt-mul_of_pos_right {n = 2 ^ 164} {k = unity} (lt_of_le_of_lt (add-le-add h k) (lit< tt)) unity_pos)

three_le : (a b : ℕ) → a ≤ 2 ^ 164 → b ≤ 2 ^ 162 → rounded (a + b) unity ≤ 2 ^ 165
three_le a b h k =
    cell_le 24 ((a + b) * unity) unity 141 unity_pos
    (mul-lt-mul_of_pos_right {n = 2 ^ 165} {k = unity} (lt_of_le_of_lt (add-le-add h k) (lit< tt)) unity_pos)

fine : (k : ℕ) → k ≤ 2 ^ 165 → k < overflow binary32
fine k h = lt_of_le_of_lt h (lit< tt)

pub square_value : (t l : Float) → Units t → Units l → apart t l ≤ 18 * unity
    → HasValue (mul binary32 (sub binary32 t l) (sub binary32 t l)) false (sq (size t l)) unity
square_value t l ut ul near =
    sq_value binary32 (sub binary32 t l) (diff (hi t + lo l) (lo t + hi l)) (diff (lo t + hi l) (hi t + lo l))
    (diff_part t l (hi t) (lo t) (hi l) (lo l) ut ul near)
    (fine (sq (size t l)) (le_trans (sq_le (size t l) (size_le t l near)) (lit≤ tt)))

-- the two points are made of units, and no coordinate is more than 18 apart
pub record Near (l t : Point) : Type 0 where
  pub from : Each Units l
  pub to : Each Units t
  pub x : apart t.x l.x ≤ 18 * unity
  pub y : apart t.y l.y ≤ 18 * unity
  pub z : apart t.z l.z ≤ 18 * unity

module _ (l t : Point) (n : Near l t) where
  abbrev X : ℕ
  X = size t.x l.x

  abbrev Y : ℕ
  Y = size t.y l.y

  abbrev Z : ℕ
  Z = size t.z l.z

  pub both_le : both X Y ≤ 2 ^ 164
  both_le = two_le (sq X) (sq Y) (sq_le X (size_le t.x l.x n.x)) (sq_le Y (size_le t.y l.y n.y))

  pub all_le : all X Y Z ≤ 2 ^ 165
  all_le = three_le (both X Y) (sq Z) both_le (sq_le Z (size_le t.z l.z n.z))

  pub horizontal_sum_value : HasValue (horizontal_sum l t) false (both X Y) unity
  unfolding horizontal_sum
  horizontal_sum_value =
      add_value binary32 (mul binary32 (sub binary32 t.x l.x) (sub binary32 t.x l.x))
      (mul binary32 (sub binary32 t.y l.y) (sub binary32 t.y l.y)) (sq X) (sq Y)
      (square_value t.x l.x n.to.0 n.from.0 n.x)
      (square_value t.y l.y n.to.1 n.from.1 n.y) (fine (both X Y) (le_trans both_le (lit≤ tt)))

  pub square_sum_value : HasValue (square_sum l t) false (all X Y Z) unity
  unfolding square_sum horizontal_sum
  square_sum_value =
      add_value binary32 (horizontal_sum l t) (mul binary32 (sub binary32 t.z l.z) (sub binary32 t.z l.z)) (both X Y) (sq Z)
      horizontal_sum_value (square_value t.z l.z n.to.2 n.from.2 n.z) (fine (all X Y Z) all_le)

-- ---- within the root's limit
root_permits : (x : Float) (a : ℕ) → HasValue x false a unity → a ≤ 2 ^ 165 → T (permits root_argument x)
root_permits x a v h =
    permits_part root_argument 0 0 (2 ^ 165) 0 root_argument_ends x a 0 (plus_part binary32 x a v) zero-le (same h)
  where
    same : {b : ℕ} → a ≤ b → a + 0 ≤ 0 + b
    same {b} h = omega arith

-- the format holds it: every number that the machine has
abbrev pub Fit : Float → Type 0
Fit x = T (fits binary32 x)

eighteen : (a b c d u : ℕ) → a ≤ 4 * u → b ≤ 4 * u → c ≤ 4 * u → d ≤ 4 * u → gap (a + d) (b + c) ≤ 18 * u
eighteen a b c d u x y z w = omega arith

module _ (a b : Point) (Fa : Each Fit a) (Fb : Each Fit b) (pa : T (permitted_point foot_limit a)) (pb : T (permitted_point foot_limit b))
  where
    units : (x : Float) → Fit x → T (permits foot_limit x) → Units x
    units x F h = (permitted foot_limit 0 (4 * unity) (4 * unity) 0 foot_ends x F h).single.ok

    close : (x y : Float) → Fit x → Fit y → T (permits foot_limit x) → T (permits foot_limit y) → apart x y ≤ 18 * unity
    close x y F G h k =
        let p = permitted_parts foot_limit 0 (4 * unity) (4 * unity) 0 foot_ends (4 * unity) (lit≤ tt) (lit≤ tt) x F h in
        let q = permitted_parts foot_limit 0 (4 * unity) (4 * unity) 0 foot_ends (4 * unity) (lit≤ tt) (lit≤ tt) y G k in
        eighteen (hi x) (lo x) (hi y) (lo y) unity p.0 p.1 q.0 q.1

    near : Near a b
    near =
        let p = each_permitted foot_limit a pa in
        let q = each_permitted foot_limit b pb in
        record {
          from = (units a.x Fa.0 p.0, units a.y Fa.1 p.1, units a.z Fa.2 p.2);
          to = (units b.x Fb.0 q.0, units b.y Fb.1 q.1, units b.z Fb.2 q.2);
          x = close b.x a.x Fb.0 Fa.0 q.0 p.0;
          y = close b.y a.y Fb.1 Fa.1 q.1 p.1;
          z = close b.z a.z Fb.2 Fa.2 q.2 p.2;
        }

    pub square_sum_permitted : T (permits root_argument (square_sum a b))
    square_sum_permitted = root_permits (square_sum a b) _ (square_sum_value a b near) (all_le a b near)

    pub horizontal_sum_permitted : T (permits root_argument (horizontal_sum a b))
    horizontal_sum_permitted = root_permits (horizontal_sum a b) _ (horizontal_sum_value a b near) (le_trans (both_le a b near) (lit≤ tt))

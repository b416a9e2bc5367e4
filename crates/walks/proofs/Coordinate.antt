-- One coordinate of a step that goes along, in units: what it is made of, how far it goes, and that nothing in it overflows.
-- The last point is pl - nl units, the target pt - nt, the distance Q, the max move M.
use Rattle.std.specs.Prelude.{◌≡◌, ℕ, ◌+◌, ◌-◌, ◌*◌, ◌^◌, ◌<◌, ◌≤◌, Bool, true, false, not, T, leb, ◌⊎◌}
use mathlib.Core.Path.{ap, ◌∙◌}
use mathlib.Core.Logic.{inl, inr}
use native.Mathlib.Nat.{le_trans, le_of_lt, lt_of_le_of_lt, mul-pos, mul-le-mul, zero-mul}
use native.Mathlib.Omega.{arith}
use lib.Dec.{leb→le, nleb→lt, lit<, lit≤}
use lib.Ieee.{Float, binary32, sub, mul, div}
use lib.Ieee.Exact.{HasValue}
use lib.Ieee.Scale.{overflow}
use Rattle.units.specs.Units.{Part, gap, rounded, unity}
use Rattle.units.proofs.Grid.{grid_zero}
use Rattle.units.proofs.Add.{add_part}
use Rattle.units.proofs.Multiply.{mul_part, div_part}
use Rattle.units.proofs.Errors.{unity_pos, sum_abs, sum_le, div_abs, div_le, mul_abs, mul_le}
use Rattle.moves.specs.Moving.{component}
use Rattle.moves.proofs.Squares.{diff, less_32, diff_part}
use Rattle.walks.proofs.Arithmetic.{Move, Coord, coord_up, coord_flip}

-- the error's unit, 2 ^ -24
abbrev pub δ : ℕ
δ = 2 ^ 125

-- ---- bounds, with a variable for unity
sum_32 : (a b c u : ℕ) → 0 < u → a ≤ 21 * u → b ≤ 4 * u → a + b - c < 32 * u
sum_32 a b c u h x y = omega arith

prod_4 : (g m u : ℕ) → 0 < u → g ≤ 2 * u → m ≤ u → g * m < 4 * (u * u)
prod_4 g m u h x y = let k : g * m ≤ 2 * u * u = mul-le-mul x y in let l : 0 < u * u = mul-pos h h in omega arith

none : (a b : ℕ) → a ≤ b → a - b ≡ 0
none a b h = omega arith

pub total : (a b : ℕ) → (a ≤ b) ⊎ (b ≤ a)
total a b = go (leb a b) (leb→le a b) (nleb→lt a b)
  where
    go : (x : Bool) → (T x → a ≤ b) → (T (not x) → b < a) → (a ≤ b) ⊎ (b ≤ a)
    go true l g = inl (l tt)
    go false l g = inr (le_of_lt (g tt))

-- ---- one coordinate's numbers
abbrev pub move : ℕ → ℕ → ℕ → ℕ
move d Q M = rounded (rounded d Q * M) (unity * unity)

pub move_zero : (d Q M : ℕ) → 0 < Q → d ≡ 0 → move d Q M ≡ 0
move_zero d Q M QP e =
    ap (λ (x : ℕ). rounded (rounded x Q * M) (unity * unity)) e
    ∙ ap (λ (x : ℕ). rounded (x * M) (unity * unity)) (grid_zero binary32 Q QP)
    ∙ ap (λ (x : ℕ). rounded x (unity * unity)) (zero-mul M)
    ∙ grid_zero binary32 (unity * unity) (mul-pos unity_pos unity_pos)

pub diff_zero : (a b : ℕ) → a ≤ b → diff a b ≡ 0
diff_zero a b h = ap (λ (x : ℕ). rounded x unity) (none a b h) ∙ grid_zero binary32 unity unity_pos

small_prod : (d Q M : ℕ) → 0 < Q → d < 2 * Q → M ≤ unity → rounded d Q * M < 4 * (unity * unity)
small_prod d Q M QP h m = prod_4 (rounded d Q) M unity unity_pos (div_le d Q QP h) m

pub moves : (a b Q M : ℕ) → 0 < Q → M ≤ unity → a - b < 2 ^ 154 → diff a b < 2 * Q
    → Move (a - b) (diff a b) (rounded (diff a b) Q) (move (diff a b) Q M) M Q unity δ
moves a b Q M QP m h k = record {
  diff = sum_abs (a - b) h;
  quot = div_abs (diff a b) Q QP k;
  prod = mul_abs (rounded (diff a b) Q * M) (small_prod (diff a b) Q M QP k m);
}

below_over : (x : ℕ) → x ≤ 2 ^ 154 → x < overflow binary32
below_over x h = lt_of_le_of_lt h (lit< tt)

abbrev pub next : ℕ → ℕ → ℕ → ℕ → ℕ → ℕ → ℕ
next pt nt pl nl Q M = rounded (pl + move (diff (pt + nl) (nt + pl)) Q M - (nl + move (diff (nt + pl) (pt + nl)) Q M)) unity

module _ (pl nl pt nt Q M : ℕ) (QP : 0 < Q) (MQ : M ≤ Q) (MU : M ≤ unity) (pls : pl ≤ 21 * unity)
    (nls : nl ≤ 21 * unity) (near : gap (pt + nl) (nt + pl) ≤ 18 * unity)
    (kp : diff (pt + nl) (nt + pl) < 2 * Q) (kn : diff (nt + pl) (pt + nl) < 2 * Q) where
  move_le_p : move (diff (pt + nl) (nt + pl)) Q M ≤ 4 * unity
  move_le_p = mul_le (rounded (diff (pt + nl) (nt + pl)) Q * M) (small_prod (diff (pt + nl) (nt + pl)) Q M QP kp MU)

  move_le_n : move (diff (nt + pl) (pt + nl)) Q M ≤ 4 * unity
  move_le_n = mul_le (rounded (diff (nt + pl) (pt + nl)) Q * M) (small_prod (diff (nt + pl) (pt + nl)) Q M QP kn MU)

  pub sum_p : pl + move (diff (pt + nl) (nt + pl)) Q M - (nl + move (diff (nt + pl) (pt + nl)) Q M) < 2 ^ 154
  sum_p = sum_32 pl (move (diff (pt + nl) (nt + pl)) Q M) (nl + move (diff (nt + pl) (pt + nl)) Q M) unity unity_pos pls move_le_p

  pub sum_n : nl + move (diff (nt + pl) (pt + nl)) Q M - (pl + move (diff (pt + nl) (nt + pl)) Q M) < 2 ^ 154
  sum_n = sum_32 nl (move (diff (nt + pl) (pt + nl)) Q M) (pl + move (diff (pt + nl) (nt + pl)) Q M) unity unity_pos nls move_le_n

  pub coord_fact : Coord pt nt pl nl (next pt nt pl nl Q M) (next nt pt nl pl Q M) M Q
      (diff (pt + nl) (nt + pl) + diff (nt + pl) (pt + nl)) δ
  coord_fact =
      let a = pt + nl in
      let b = nt + pl in
      let E = less_32 a b unity unity_pos near in
      let mp = moves a b Q M QP MU E.0 kp in
      let mn = moves b a Q M QP MU E.1 kn in
      let wp = sum_abs (pl + move (diff a b) Q M - (nl + move (diff b a) Q M)) sum_p in
      let wn = sum_abs (nl + move (diff b a) Q M - (pl + move (diff a b) Q M)) sum_n in
      elim (total b a) [
        | inl h ↦ coord_up pt nt pl nl (diff a b) (diff b a) (rounded (diff a b) Q) (move (diff a b) Q M)
            (move (diff b a) Q M) (next pt nt pl nl Q M) (next nt pt nl pl Q M) M Q unity δ
            QP unity_pos MQ MU h (diff_zero b a h) (move_zero (diff b a) Q M QP (diff_zero b a h)) mp wp wn
        | inr h ↦ coord_flip pt nt pl nl (next pt nt pl nl Q M) (next nt pt nl pl Q M) M Q (diff a b) (diff b a) δ
            (coord_up nt pt nl pl (diff b a) (diff a b) (rounded (diff b a) Q) (move (diff b a) Q M)
            (move (diff a b) Q M) (next nt pt nl pl Q M) (next pt nt pl nl Q M) M Q unity δ
            QP unity_pos MQ MU h (diff_zero a b h) (move_zero (diff a b) Q M QP (diff_zero a b h)) mn wn wp)
      ]

  pub coord_part : (l t dist m : Float) → Part binary32 l pl nl → Part binary32 t pt nt → HasValue dist false Q unity
      → HasValue m false M unity
      → Part binary32 (component dist m l t) (next pt nt pl nl Q M) (next nt pt nl pl Q M)
  unfolding component
  coord_part l t dist m lp tp dv mv =
      let a = pt + nl in
      let b = nt + pl in
      let d : Part binary32 (sub binary32 t l) (diff a b) (diff b a) = diff_part t l pt nt pl nl tp lp near in
      let q : Part binary32 (div binary32 (sub binary32 t l) dist) (rounded (diff a b) Q) (rounded (diff b a) Q) =
      div_part binary32 (sub binary32 t l) dist false (diff a b) (diff b a) Q d dv QP
      (below_over (rounded (diff a b) Q) (le_trans (div_le (diff a b) Q QP kp) (lit≤ tt)))
      (below_over (rounded (diff b a) Q) (le_trans (div_le (diff b a) Q QP kn) (lit≤ tt))) in
      let h : Part binary32 (mul binary32 (div binary32 (sub binary32 t l) dist) m) (move (diff a b) Q M) (move (diff b a) Q M) =
      mul_part binary32 (div binary32 (sub binary32 t l) dist) m false (rounded (diff a b) Q) (rounded (diff b a) Q) M q mv
      (below_over (move (diff a b) Q M) (le_trans move_le_p (lit≤ tt))) (below_over (move (diff b a) Q M) (le_trans move_le_n (lit≤ tt))) in
      add_part binary32 l (mul binary32 (div binary32 (sub binary32 t l) dist) m) pl nl (move (diff a b) Q M) (move (diff b a) Q M) lp h
      (below_over (next pt nt pl nl Q M) (sum_le (pl + move (diff a b) Q M - (nl + move (diff b a) Q M)) sum_p))
      (below_over (next nt pt nl pl Q M) (sum_le (nl + move (diff b a) Q M - (pl + move (diff a b) Q M)) sum_n))

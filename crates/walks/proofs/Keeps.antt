-- One coordinate of a step that goes along: it does not turn away from its target, it passes it by at most 51 * 2 ^ -24 (which is below
-- 2 ^ -18),
-- and where it equals its target it stays. So it stays between its start and its target, but for that much.
use Rattle.std.specs.Prelude.{◌≡◌, ℕ, ◌+◌, ◌-◌, ◌*◌, ◌<◌, ◌≤◌, false, not, T, ◌⊎◌}
use mathlib.Core.Path.{sym, ap, ◌∙◌}
use mathlib.Core.Logic.{inl, inr}
use Prim.Native.Nat.{zero-le}
use native.Mathlib.Nat.{le_trans, le_of_eq, le_of_lt, lt_of_le_of_lt}
use native.Mathlib.Omega.{arith}
use lib.Ieee.{Float, binary32, add, sub, mul, div, le}
use lib.Ieee.Fits.{add-fits}
use lib.Ieee.Exact.{HasValue}
use Rattle.units.specs.Units.{Part, Units, unity, hi, lo, mag, apart, rounded}
use Rattle.units.proofs.Values.{hi_is, lo_is, one_side, part_finite}
use Rattle.units.proofs.Errors.{Within, unity_pos, rounded_mono, rounded_zero, sum_abs}
use Rattle.units.proofs.Held.{Single, single}
use Rattle.legs.specs.declared.Point.{Point}
use Rattle.moves.specs.Distance.{Each, distance}
use Rattle.moves.specs.Moving.{component, along}
use Rattle.walks.proofs.Arithmetic.{move_up}
use Rattle.moves.proofs.Squares.{diff, size, less_32}
use Rattle.walks.proofs.Coordinate.{move, next, coord_part, moves, move_zero, diff_zero, sum_p, sum_n, δ, total}
use Rattle.walks.proofs.Aim.{Fit, Aim, OnWay}
use Rattle.walks.proofs.Descent.{reach, parts_lt, measured, near}

-- ---- on parts: the move is H upwards
pub adv : (pl nl Hp Hn : ℕ) → (pl ≡ 0) ⊎ (nl ≡ 0) → Hn ≡ 0 → rounded pl unity ≡ pl → rounded nl unity ≡ nl
    → pl + rounded (nl + Hn - (pl + Hp)) unity ≤ nl + rounded (pl + Hp - (nl + Hn)) unity
adv pl nl Hp Hn (inl z) h ep en =
    let a : rounded (nl + Hn - (pl + Hp)) unity ≤ nl = le_trans (rounded_mono (nl + Hn - (pl + Hp)) nl (omega arith)) (le_of_eq en) in
    fin1 pl nl (rounded (nl + Hn - (pl + Hp)) unity) (rounded (pl + Hp - (nl + Hn)) unity) z a
  where
    fin1 : (p n a b : ℕ) → p ≡ 0 → a ≤ n → p + a ≤ n + b
    fin1 p n a b z h = omega arith
adv pl nl Hp Hn (inr z) h ep en =
    let a : pl ≤ rounded (pl + Hp - (nl + Hn)) unity = le_trans (le_of_eq (sym ep)) (rounded_mono pl (pl + Hp - (nl + Hn)) (omega arith)) in
    let b : rounded (nl + Hn - (pl + Hp)) unity ≡ 0 = rounded_zero (nl + Hn - (pl + Hp)) (omega arith) in
    fin2 pl nl (rounded (nl + Hn - (pl + Hp)) unity) (rounded (pl + Hp - (nl + Hn)) unity) b a
  where
    fin2 : (p n a b : ℕ) → a ≡ 0 → p ≤ b → p + a ≤ n + b
    fin2 p n a b z h = omega arith

stay : (pl nl Hp Hn : ℕ) → (pl ≡ 0) ⊎ (nl ≡ 0) → Hp ≡ 0 → Hn ≡ 0 → rounded pl unity ≡ pl → rounded (pl + Hp - (nl + Hn)) unity ≡ pl
stay pl nl Hp Hn (inl z) h k e = rounded_zero (pl + Hp - (nl + Hn)) (omega arith) ∙ sym z
stay pl nl Hp Hn (inr z) h k e = ap (λ (w : ℕ). rounded w unity) (none pl nl Hp Hn z h k) ∙ e
  where
    none : (pl nl Hp Hn : ℕ) → nl ≡ 0 → Hp ≡ 0 → Hn ≡ 0 → pl + Hp - (nl + Hn) ≡ pl
    none pl nl Hp Hn z h k = omega arith

over : (pt nt pl nl H K A B Np Nn E δ : ℕ) → E + (nt + pl) ≡ pt + nl → K ≡ 0 → A + (nl + K) ≡ B + (pl + H)
    → Within Np A (16 * δ) → Within Nn B (16 * δ) → H ≤ E + 19 * δ
    → nt + Np ≤ pt + Nn + 51 * δ
over pt nt pl nl H K A B Np Nn E δ e z a np nn h = omega arith

trunc : (a b : ℕ) → a - b + b ≡ b - a + a
trunc a b = omega arith

whole : (a b : ℕ) → b ≤ a → a - b + b ≡ a
whole a b h = omega arith

-- x ≤ y, and x ≤ y + k units
abbrev pub Below : Float → Float → Type 0
Below x y = hi x + lo y ≤ lo x + hi y

abbrev pub BelowBy : ℕ → Float → Float → Type 0
BelowBy k x y = hi x + lo y ≤ lo x + hi y + k

pub record Kept (l t n : Float) : Type 0 where
  pub up : Below l t → Below l n × BelowBy (51 * δ) n t
  pub down : Below t l → Below n l × BelowBy (51 * δ) t n
  pub rest : Below l t → Below t l → (hi n ≡ hi l) × (lo n ≡ lo l)

order : (a b c d : ℕ) → a + b ≤ c + d → b + a ≤ d + c
order a b c d h = omega arith

as_below : (p n Np Nn hn ln : ℕ) → hn ≡ Np → ln ≡ Nn → p + Nn ≤ n + Np → p + ln ≤ n + hn
as_below p n Np Nn hn ln a b h = omega arith

as_above : (p n Np Nn hn ln : ℕ) → hn ≡ Np → ln ≡ Nn → n + Np ≤ p + Nn → hn + n ≤ ln + p
as_above p n Np Nn hn ln a b h = omega arith

as_over : (ht lt Np Nn hn ln k : ℕ) → hn ≡ Np → ln ≡ Nn → lt + Np ≤ ht + Nn + k → hn + lt ≤ ln + ht + k
as_over ht lt Np Nn hn ln k a b h = omega arith

as_over' : (ht lt Np Nn hn ln k : ℕ) → hn ≡ Np → ln ≡ Nn → ht + Nn ≤ lt + Np + k → ht + ln ≤ lt + hn + k
as_over' ht lt Np Nn hn ln k a b h = omega arith

pub keeps : (l t dist m : Float) (Q M : ℕ) → Single l → Units t → HasValue dist false Q unity → HasValue m false M unity
    → 0 < Q → M ≤ Q → M ≤ unity
    → hi t ≤ 3 * unity → lo t ≤ 3 * unity → apart t l ≤ 18 * unity → size t l < 2 * Q → Kept l t (component dist m l t)
keeps l t dist m Q M el ut dv mv QP MQ MU ht nt near k =
    let ul = el.ok in
    let side = one_side binary32 l (hi l) (lo l) ul in
    let r = reach (hi t) (lo t) (hi l) (lo l) unity side near ht nt in
    let a = hi t + lo l in
    let b = lo t + hi l in
    let ks = parts_lt (diff a b) (diff b a) (2 * Q) k in
    let Hp = move (diff a b) Q M in
    let Hn = move (diff b a) Q M in
    let Np = next (hi t) (lo t) (hi l) (lo l) Q M in
    let Nn = next (lo t) (hi t) (lo l) (hi l) Q M in
    let n = component dist m l t in
    let p : Part binary32 n Np Nn =
    coord_part (hi l) (lo l) (hi t) (lo t) Q M QP MQ MU r.0 r.1 near ks.0 ks.1 l t dist m ul ut dv mv in
    let hn = hi_is n Np Nn p in
    let ln = lo_is n Np Nn p in
    let E = less_32 a b unity unity_pos near in
    let wp = sum_abs (hi l + Hp - (lo l + Hn)) (sum_p (hi l) (lo l) (hi t) (lo t) Q M QP MQ MU r.0 r.1 near ks.0 ks.1) in
    let wn = sum_abs (lo l + Hn - (hi l + Hp)) (sum_n (hi l) (lo l) (hi t) (lo t) Q M QP MQ MU r.0 r.1 near ks.0 ks.1) in
    record {
      up = λ h.
          let g : b ≤ a = order (hi l) (lo t) (lo l) (hi t) h in
          let z = move_zero (diff b a) Q M QP (diff_zero b a g) in
          let mu =
          move_up (a - b) (diff a b) (rounded (diff a b) Q) Hp M Q unity δ QP unity_pos MQ MU (moves a b Q M QP MU E.0 ks.0) in (
            as_below (hi l) (lo l) Np Nn (hi n) (lo n) hn ln (adv (hi l) (lo l) Hp Hn side z el.hi_exact el.lo_exact),
            as_over (hi t) (lo t) Np Nn (hi n) (lo n) (51 * δ) hn ln
                (over (hi t) (lo t) (hi l) (lo l) Hp Hn (hi l + Hp - (lo l + Hn)) (lo l + Hn - (hi l + Hp)) Np Nn (a - b) δ
                (whole a b g) z (trunc (hi l + Hp) (lo l + Hn)) wp wn mu),
          );
      down = λ h.
          let g : a ≤ b = down_order (hi t) (lo l) (lo t) (hi l) h in
          let z = move_zero (diff a b) Q M QP (diff_zero a b g) in
          let mu =
          move_up (b - a) (diff b a) (rounded (diff b a) Q) Hn M Q unity δ QP unity_pos MQ MU (moves b a Q M QP MU E.1 ks.1) in (
            as_above (hi l) (lo l) Np Nn (hi n) (lo n) hn ln (adv (lo l) (hi l) Hn Hp (flip side) z el.lo_exact el.hi_exact),
            as_over' (hi t) (lo t) Np Nn (hi n) (lo n) (51 * δ) hn ln
                (over (lo t) (hi t) (lo l) (hi l) Hn Hp (lo l + Hn - (hi l + Hp)) (hi l + Hp - (lo l + Hn)) Nn Np (b - a) δ
                (whole b a g) z (trunc (lo l + Hn) (hi l + Hp)) wn wp mu),
          );
      rest = λ h h'.
          let g : b ≤ a = order (hi l) (lo t) (lo l) (hi t) h in
          let g' : a ≤ b = down_order (hi t) (lo l) (lo t) (hi l) h' in
          let z = move_zero (diff b a) Q M QP (diff_zero b a g) in
          let z' = move_zero (diff a b) Q M QP (diff_zero a b g') in
          (hn ∙ stay (hi l) (lo l) Hp Hn side z' z el.hi_exact, ln ∙ stay (lo l) (hi l) Hn Hp (flip side) z z' el.lo_exact);
    }
  where
    down_order : (a b c d : ℕ) → a + b ≤ c + d → a + b ≤ c + d
    down_order a b c d h = h

    flip : {A B : Type 0} → A ⊎ B → B ⊎ A
    flip (inl x) = inr x
    flip (inr x) = inl x

-- ---- a coordinate stays between its start s and its target t, but for 51 * 2 ^ -24: what one step keeps
pub record Inside (s t l : Float) : Type 0 where
  pub low : BelowBy (51 * δ) s l ⊎ BelowBy (51 * δ) t l
  pub high : BelowBy (51 * δ) l s ⊎ BelowBy (51 * δ) l t

by_then : (a a' b b' c c' k : ℕ) → a + b' ≤ a' + b + k → b + c' ≤ b' + c → a + c' ≤ a' + c + k
by_then a a' b b' c c' k x y = omega arith

then_by : (a a' b b' c c' k : ℕ) → a + b' ≤ a' + b → b + c' ≤ b' + c + k → a + c' ≤ a' + c + k
then_by a a' b b' c c' k x y = omega arith

refl_by : (a b k : ℕ) → a + b ≤ b + a + k
refl_by a b k = omega arith

pub at_start : (s t : Float) → Inside s t s
at_start s t = record { low = inl (refl_by (hi s) (lo s) (51 * δ)); high = inl (refl_by (hi s) (lo s) (51 * δ)) }

pub at_end : (s t : Float) → Inside s t t
at_end s t = record { low = inr (refl_by (hi t) (lo t) (51 * δ)); high = inr (refl_by (hi t) (lo t) (51 * δ)) }

pub inside_step : (s t l n : Float) → Kept l t n → Inside s t l → Inside s t n
inside_step s t l n k i = go (total (hi l + lo t) (hi t + lo l))
  where
    up_low : Below l n → BelowBy (51 * δ) s l ⊎ BelowBy (51 * δ) t l → BelowBy (51 * δ) s n ⊎ BelowBy (51 * δ) t n
    up_low h (inl x) = inl (by_then (hi s) (lo s) (hi l) (lo l) (hi n) (lo n) (51 * δ) x h)
    up_low h (inr x) = inr (by_then (hi t) (lo t) (hi l) (lo l) (hi n) (lo n) (51 * δ) x h)

    down_high : Below n l → BelowBy (51 * δ) l s ⊎ BelowBy (51 * δ) l t → BelowBy (51 * δ) n s ⊎ BelowBy (51 * δ) n t
    down_high h (inl x) = inl (then_by (hi n) (lo n) (hi l) (lo l) (hi s) (lo s) (51 * δ) h x)
    down_high h (inr x) = inr (then_by (hi n) (lo n) (hi l) (lo l) (hi t) (lo t) (51 * δ) h x)

    turn : (a b c d : ℕ) → a + b ≤ c + d → a + b ≤ d + c
    turn a b c d h = omega arith

    go : (hi l + lo t ≤ hi t + lo l) ⊎ (hi t + lo l ≤ hi l + lo t) → Inside s t n
    go (inl h) = let w = k.up (turn (hi l) (lo t) (hi t) (lo l) h) in record { low = up_low w.0 i.low; high = inr w.1 }
    go (inr h) = let w = k.down (turn (hi t) (lo l) (hi l) (lo t) h) in record { low = inr w.1; high = down_high w.0 i.high }

-- ---- the three coordinates of a step that goes along
module _ (m : Float) (l t : Point) (aim : Aim m t) (way : OnWay l t) (far : T (not (le (distance l t) m))) where
  pub record AllKept : Type 0 where
    pub x : Kept l.x t.x (along (distance l t) m l t).x
    pub y : Kept l.y t.y (along (distance l t) m l t).y
    pub z : Kept l.z t.z (along (distance l t) m l t).z

  pub all_kept : AllKept
  unfolding along
  all_kept =
      let d = distance l t in
      let w = measured m l t aim way far in
      let n = near m l t aim way in
      let QP : 0 < w.Q = lt_of_le_of_lt zero-le w.above in
      let MQ = le_of_lt w.above in
      record {
        x =
            keeps l.x t.x d m w.Q (mag m) way.point.0 aim.target.0.ok w.value aim.move QP MQ
            aim.to aim.near.0.0 aim.near.0.1 n.0 w.kx;
        y =
            keeps l.y t.y d m w.Q (mag m) way.point.1 aim.target.1.ok w.value aim.move QP MQ
            aim.to aim.near.1.0 aim.near.1.1 n.1 w.ky;
        z =
            keeps l.z t.z d m w.Q (mag m) way.point.2 aim.target.2.ok w.value aim.move QP MQ
            aim.to aim.near.2.0 aim.near.2.1 n.2 w.kz;
      }

-- the new point's coordinates are f32s again
single_component : (d m l t : Float) → Units (component d m l t) → Single (component d m l t)
unfolding component
single_component d m l t u =
    single (component d m l t)
    (part_finite binary32 (component d m l t) (hi (component d m l t)) (lo (component d m l t)) u)
    (add-fits binary32 l (mul binary32 (div binary32 (sub binary32 t l) d) m))

pub along_held : (d m : Float) (l t : Point) → Each Fit (along d m l t)
unfolding along component
along_held d m l t = (held l.x t.x, held l.y t.y, held l.z t.z)
  where
    held : (x y : Float) → Fit (add binary32 x (mul binary32 (div binary32 (sub binary32 y x) d) m))
    held x y = add-fits binary32 x (mul binary32 (div binary32 (sub binary32 y x) d) m)

pub single_along : (d m : Float) (l t : Point) → Each Units (along d m l t) → Each Single (along d m l t)
unfolding along
single_along d m l t u =
    (single_component d m l.x t.x u.0, single_component d m l.y t.y u.1, single_component d m l.z t.z u.2)

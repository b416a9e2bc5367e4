-- Request K14: no foot swings wide. Of every walk that the door lets in, of one point and of six feet, and of every step of it, those
-- after the last included. What is proved is sharper than what is asked for: 2 ^ -24 m, which a step of proofs/Examples reaches.
use Rattle.std.specs.Prelude.{◌≡◌, ℕ, suc, ◌+◌, ◌^◌, ◌≤◌, T}
use mathlib.Core.Path.{sym, subst}
use mathlib.Core.Logic.{inl, inr}
use native.Mathlib.Nat.{le_trans, le_refl}
use native.Mathlib.Omega.{arith}
use lib.Dec.{lit≤}
use lib.Ieee.{Float, eq}
use Rattle.units.specs.Units.{hi, lo, gap, apart}
use Rattle.legs.specs.Legs.{Leg, foot}
use Rattle.legs.specs.declared.Point.{Point}
use Rattle.legs.specs.Legs.{Feet}
use Rattle.moves.specs.Distance.{Each}
use Rattle.walks.specs.Walk.{point_after, feet_after}
use Rattle.walks.specs.Answers.{walk_refusal, walk_feet_refusal}
use Rattle.walks.specs.Reach.{Reach}
use Rattle.walks.specs.Swing.{margin, AtMostAbove, NotBelow, NotAbove, Tame, TamePoint}
use Rattle.walks.proofs.Aim.{Fit}
use Rattle.walks.proofs.Given.{aimed, set_out}
use Rattle.walks.proofs.Keeps.{Below}
use Rattle.walks.proofs.Door.{let_in, let_feet_in}
use Rattle.walks.proofs.Trail.{never_farther, stays_x, stays_y, stays_z}
use Rattle.walks.proofs.Settled.{Settled, SettledPoint, settled}
use Rattle.walks.proofs.Marks.{foot_after}

-- 2 ^ -24 m, in units
abbrev pub sharp : ℕ
sharp = 2 ^ 125

-- in the interval from s to t, but for that
pub record Sharp (s t p : Float) : Type 0 where
  pub low : NotBelow sharp s t p
  pub high : NotAbove sharp s t p

pub record SharpPoint (s t p : Point) : Type 0 where
  pub x : Sharp s.x t.x p.x
  pub y : Sharp s.y t.y p.y
  pub z : Sharp s.z t.z p.z

-- ---- in the interval, but for any margin k that is no smaller
module _ (k : ℕ) (wide : sharp ≤ k) where
  exactly : (x y : Float) → Below x y → AtMostAbove k x y
  exactly x y h = more (hi x + lo y) (lo x + hi y) h
    where
      more : (a b : ℕ) → a ≤ b → a ≤ b + k
      more a b h = omega arith

  close_above : (t p : Float) → apart t p ≤ sharp → AtMostAbove k t p
  close_above t p h = near (hi t + lo p) (lo t + hi p) (le_trans h wide)
    where
      near : (a b : ℕ) → gap a b ≤ k → a ≤ b + k
      near a b h = omega arith

  close_below : (t p : Float) → apart t p ≤ sharp → AtMostAbove k p t
  close_below t p h = near (hi t) (lo t) (hi p) (lo p) (le_trans h wide)
    where
      near : (a b c d : ℕ) → gap (a + d) (b + c) ≤ k → c + b ≤ d + a + k
      near a b c d h = omega arith

  not_below : (s t p : Float) → Settled s t p → NotBelow k s t p
  not_below s t p (inr h) = inr (close_above t p h)
  not_below s t p (inl i) = elim i.low [ inl h ↦ inl (exactly s p h) | inr h ↦ inr (exactly t p h) ]

  not_above : (s t p : Float) → Settled s t p → NotAbove k s t p
  not_above s t p (inr h) = inr (close_below t p h)
  not_above s t p (inl i) = elim i.high [ inl h ↦ inl (exactly p s h) | inr h ↦ inr (exactly p t h) ]

wide_enough : sharp ≤ margin
wide_enough = lit≤ tt

tame : (s t l p : Float) → Settled s t p → apart t p ≤ apart t l → (T (eq s t) → T (eq p t)) → Tame s t l p
tame s t l p i n e = record {
  low = not_below margin wide_enough s t p i;
  high = not_above margin wide_enough s t p i;
  no_farther = n;
  level = e;
}

as_sharp : (s t p : Float) → Settled s t p → Sharp s t p
as_sharp s t p i = record { low = not_below sharp (le_refl sharp) s t p i; high = not_above sharp (le_refl sharp) s t p i }

-- ---- what is within reach
module _ (m : Float) (s t : Point) (Fm : Fit m) (Fs : Each Fit s) (Ft : Each Fit t) (r : Reach m s t) where
  reached : (k : ℕ) → SettledPoint s t (point_after m s t k)
  reached k = settled m s t (aimed m s t r Fm Fs Ft) (set_out m s t r Fm Fs Ft) k

  tame_step : (k : ℕ) → TamePoint s t (point_after m s t k) (point_after m s t (suc k))
  tame_step k =
      let a = aimed m s t r Fm Fs Ft in
      let o = set_out m s t r Fm Fs Ft in
      let l = point_after m s t k in
      let p = point_after m s t (suc k) in
      let i = reached (suc k) in
      let n = never_farther m s t a o k in
      record {
        x = tame s.x t.x l.x p.x i.x n.x (λ h. stays_x m s t a o h (suc k));
        y = tame s.y t.y l.y p.y i.y n.y (λ h. stays_y m s t a o h (suc k));
        z = tame s.z t.z l.z p.z i.z n.z (λ h. stays_z m s t a o h (suc k));
      }

-- ---- what the door lets in: THE PROMISE
pub no_swing : (m : Float) (s t : Point) → Fit m → Each Fit s → Each Fit t → walk_refusal m s t ≡ 0
    → (k : ℕ) → TamePoint s t (point_after m s t k) (point_after m s t (suc k))
no_swing m s t Fm Fs Ft e k = tame_step m s t Fm Fs Ft (let_in m s t Fm Fs Ft e) k

pub no_foot_swings : (m : Float) (s t : Feet) → Fit m → ((l : Leg) → Each Fit (foot s l)) → ((l : Leg) → Each Fit (foot t l))
    → walk_feet_refusal m s t ≡ 0
    → (k : ℕ) (l : Leg) → TamePoint (foot s l) (foot t l) (foot (feet_after m s t k) l) (foot (feet_after m s t (suc k)) l)
no_foot_swings m s t Fm Fs Ft e k l =
    subst (λ (p : Point). TamePoint (foot s l) (foot t l) p (foot (feet_after m s t (suc k)) l)) (sym (foot_after m s t k l))
    (subst (λ (p : Point). TamePoint (foot s l) (foot t l) (point_after m (foot s l) (foot t l) k) p)
    (sym (foot_after m s t (suc k) l))
    (tame_step m (foot s l) (foot t l) Fm (Fs l) (Ft l) (let_feet_in m s t Fm Fs Ft e l) k))

-- and sharper
pub no_swing_sharp : (m : Float) (s t : Point) → Fit m → Each Fit s → Each Fit t → walk_refusal m s t ≡ 0
    → (k : ℕ) → SharpPoint s t (point_after m s t k)
no_swing_sharp m s t Fm Fs Ft e k =
    let i = reached m s t Fm Fs Ft (let_in m s t Fm Fs Ft e) k in
    let p = point_after m s t k in
    record {
      x = as_sharp s.x t.x p.x i.x;
      y = as_sharp s.y t.y p.y i.y;
      z = as_sharp s.z t.z p.z i.z;
    }

-- to the unit: between its start and its target, or no farther from its target than that
pub between_or_close : (m : Float) (s t : Point) → Fit m → Each Fit s → Each Fit t → walk_refusal m s t ≡ 0
    → (k : ℕ) → SettledPoint s t (point_after m s t k)
between_or_close m s t Fm Fs Ft e k = reached m s t Fm Fs Ft (let_in m s t Fm Fs Ft e) k

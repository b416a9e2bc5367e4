-- S(a + b) is within 2 ^ -39 of S(a) C(b) + C(a) S(b), and C(a + b) of C(a) C(b) - S(a) S(b), for a up to 16 and b up to 1/8, whole
-- multiples of 2 ^ -35.
-- The products of the sums have every term of the sum at a + b, and besides only terms of degree 64 and more, which are least known where a
-- and b are largest. Assumes nothing.
use Prim.Native.Nat.{ℕ, ◌+◌, ◌*◌, ◌^◌, ◌≤◌, ◌<◌}
use mathlib.Core.Path.{◌≡◌, refl, ap, ◌∙◌, subst₂}
use mathlib.Core.Bool.{Bool}
use mathlib.Core.List.{List}
use native.Mathlib.Nat.{mul_assoc}
use native.Mathlib.Omega.{arith}
use lib.Dec.{T, leb, lit<}
use lib.ListN.{length}
use Rattle.series.specs.Series.{factorial}
use Rattle.series.specs.Working.{pw, ev, sin_p, sin_m, cos_p, cos_m, denominator}
use Rattle.series.proofs.Polynomials.{eval, spread, ev_spread}
use Rattle.series.proofs.Bivariate.{eval2, add2, scale2, outer, joined, less2}
use Rattle.series.proofs.Bivariate.{eval2_add, eval2_scale, eval2_outer, eval2_joined, apart_le}
use Rattle.series.proofs.Scale.{ev_widen}
use Rattle.series.proofs.Tables.{both, both_l, both_r}

-- the sums at n / 2 ^ 35, times their denominator
abbrev pub fsp : ℕ → ℕ
fsp n = ev (2 ^ 35) n sin_p

abbrev pub fsm : ℕ → ℕ
fsm n = ev (2 ^ 35) n sin_m

abbrev pub fcp : ℕ → ℕ
fcp n = ev (2 ^ 35) n cos_p

abbrev pub fcm : ℕ → ℕ
fcm n = ev (2 ^ 35) n cos_m

unfoldable pub FD : ℕ
unfolding denominator factorial
FD = denominator (2 ^ 35)

-- at j eighths they are those at j / 8, K times as large
unfoldable pub K : ℕ
K = (2 ^ 32) ^ 63

pub FD_eighths : FD ≡ K * denominator 8
unfolding FD K denominator factorial
FD_eighths = refl

pub at_eighths : (j : ℕ) (p : List ℕ) → length p ≡ 64 → ev (2 ^ 35) (2 ^ 32 * j) p ≡ K * ev 8 j p
unfolding K
at_eighths j p h = ev_widen (2 ^ 32) 8 j p h (lit< tt)

pub FD_pos : 0 < FD
unfolding FD denominator factorial
FD_pos = lit< {m = 0} {n = denominator (2 ^ 35)} tt

-- the four lists, with the powers of the denominator in them
unfoldable pub sin_p' : List ℕ
unfolding pw sin_p
sin_p' = spread (2 ^ 35) sin_p

unfoldable pub sin_m' : List ℕ
unfolding pw sin_m
sin_m' = spread (2 ^ 35) sin_m

unfoldable pub cos_p' : List ℕ
unfolding pw cos_p
cos_p' = spread (2 ^ 35) cos_p

unfoldable pub cos_m' : List ℕ
unfolding pw cos_m
cos_m' = spread (2 ^ 35) cos_m

pub sp_is : (n : ℕ) → eval sin_p' n ≡ fsp n
unfolding sin_p'
sp_is n = ev_spread (2 ^ 35) sin_p n

pub sm_is : (n : ℕ) → eval sin_m' n ≡ fsm n
unfolding sin_m'
sm_is n = ev_spread (2 ^ 35) sin_m n

pub cp_is : (n : ℕ) → eval cos_p' n ≡ fcp n
unfolding cos_p'
cp_is n = ev_spread (2 ^ 35) cos_p n

pub cm_is : (n : ℕ) → eval cos_m' n ≡ fcm n
unfolding cos_m'
cm_is n = ev_spread (2 ^ 35) cos_m n

-- four products of one list at a and one at b, added
abbrev four : List ℕ → List ℕ → List ℕ → List ℕ → List ℕ → List ℕ → List ℕ → List ℕ → List (List ℕ)
four p q p' q' r s r' s' = add2 (add2 (outer p q) (outer p' q')) (add2 (outer r s) (outer r' s'))

-- they are the sum at a + b, to within 2 ^ -40
abbrev same : List (List ℕ) → List ℕ → Bool
same l p =
    both (leb (eval2 (less2 (scale2 (2 ^ 40) l) (scale2 (2 ^ 40 * FD) (joined p))) (2 ^ 39) (2 ^ 32)) (FD * FD))
    (leb (eval2 (less2 (scale2 (2 ^ 40 * FD) (joined p)) (scale2 (2 ^ 40) l)) (2 ^ 39) (2 ^ 32)) (FD * FD))

plus_sine : T (same (four sin_p' cos_p' sin_m' cos_m' cos_p' sin_p' cos_m' sin_m') sin_p')
unfolding sin_p' sin_m' cos_p' cos_m' FD
plus_sine = tt

minus_sine : T (same (four sin_p' cos_m' sin_m' cos_p' cos_p' sin_m' cos_m' sin_p') sin_m')
unfolding sin_p' sin_m' cos_p' cos_m' FD
minus_sine = tt

plus_cosine : T (same (four cos_p' cos_p' cos_m' cos_m' sin_p' sin_m' sin_m' sin_p') cos_p')
unfolding sin_p' sin_m' cos_p' cos_m' FD
plus_cosine = tt

minus_cosine : T (same (four cos_p' cos_m' cos_m' cos_p' sin_p' sin_p' sin_m' sin_m') cos_m')
unfolding sin_p' sin_m' cos_p' cos_m' FD
minus_cosine = tt

-- ---- what one test says
record Close (x y : ℕ) : Type 0 where
  under : 2 ^ 40 * x ≤ 2 ^ 40 * (FD * y) + FD * FD
  over : 2 ^ 40 * (FD * y) ≤ 2 ^ 40 * x + FD * FD

four_is : (p q p' q' r s r' s' : List ℕ) (a b : ℕ)
    → eval2 (four p q p' q' r s r' s') a b ≡ eval p a * eval q b + eval p' a * eval q' b + (eval r a * eval s b + eval r' a * eval s' b)
four_is p q p' q' r s r' s' a b =
    rw (
      eval2_add (add2 (outer p q) (outer p' q')) (add2 (outer r s) (outer r' s')) a b,
      eval2_add (outer p q) (outer p' q') a b,
      eval2_add (outer r s) (outer r' s') a b,
      eval2_outer p q a b,
      eval2_outer p' q' a b,
      eval2_outer r s a b,
      eval2_outer r' s' a b,
    ) refl

module _ (a b : ℕ) (ha : a ≤ 2 ^ 39) (hb : b ≤ 2 ^ 32) where
  close : (l : List (List ℕ)) (p : List ℕ) → T (same l p) → Close (eval2 l a b) (eval p (a + b))
  close l p t =
      let L = scale2 (2 ^ 40) l in
      let M = scale2 (2 ^ 40 * FD) (joined p) in
      let t1 = both_l (leb (eval2 (less2 L M) (2 ^ 39) (2 ^ 32)) (FD * FD)) (leb (eval2 (less2 M L) (2 ^ 39) (2 ^ 32)) (FD * FD)) t in
      let t2 = both_r (leb (eval2 (less2 L M) (2 ^ 39) (2 ^ 32)) (FD * FD)) (leb (eval2 (less2 M L) (2 ^ 39) (2 ^ 32)) (FD * FD)) t in
      let el : eval2 L a b ≡ 2 ^ 40 * eval2 l a b = eval2_scale (2 ^ 40) l a b in
      let em : eval2 M a b ≡ 2 ^ 40 * (FD * eval p (a + b)) =
      eval2_scale (2 ^ 40 * FD) (joined p) a b ∙ ap (λ (x : ℕ). 2 ^ 40 * FD * x) (eval2_joined p a b)
      ∙ mul_assoc (2 ^ 40) FD (eval p (a + b)) in
      record {
        under = subst₂ (λ (x y : ℕ). x ≤ y + FD * FD) el em (apart_le L M (2 ^ 39) (2 ^ 32) (FD * FD) t1 a b ha hb);
        over = subst₂ (λ (x y : ℕ). x ≤ y + FD * FD) em el (apart_le M L (2 ^ 39) (2 ^ 32) (FD * FD) t2 a b ha hb);
      }

  sp_close : Close (fsp a * fcp b + fsm a * fcm b + (fcp a * fsp b + fcm a * fsm b)) (fsp (a + b))
  sp_close =
      rw (
        ← sp_is a,
        ← sm_is a,
        ← cp_is a,
        ← cm_is a,
        ← sp_is b,
        ← sm_is b,
        ← cp_is b,
        ← cm_is b,
        ← sp_is (a + b),
        ← four_is sin_p' cos_p' sin_m' cos_m' cos_p' sin_p' cos_m' sin_m' a b,
      )
      (close (four sin_p' cos_p' sin_m' cos_m' cos_p' sin_p' cos_m' sin_m') sin_p' plus_sine)

  sm_close : Close (fsp a * fcm b + fsm a * fcp b + (fcp a * fsm b + fcm a * fsp b)) (fsm (a + b))
  sm_close =
      rw (
        ← sp_is a,
        ← sm_is a,
        ← cp_is a,
        ← cm_is a,
        ← sp_is b,
        ← sm_is b,
        ← cp_is b,
        ← cm_is b,
        ← sm_is (a + b),
        ← four_is sin_p' cos_m' sin_m' cos_p' cos_p' sin_m' cos_m' sin_p' a b,
      )
      (close (four sin_p' cos_m' sin_m' cos_p' cos_p' sin_m' cos_m' sin_p') sin_m' minus_sine)

  cp_close : Close (fcp a * fcp b + fcm a * fcm b + (fsp a * fsm b + fsm a * fsp b)) (fcp (a + b))
  cp_close =
      rw (
        ← sp_is a,
        ← sm_is a,
        ← cp_is a,
        ← cm_is a,
        ← sp_is b,
        ← sm_is b,
        ← cp_is b,
        ← cm_is b,
        ← cp_is (a + b),
        ← four_is cos_p' cos_p' cos_m' cos_m' sin_p' sin_m' sin_m' sin_p' a b,
      )
      (close (four cos_p' cos_p' cos_m' cos_m' sin_p' sin_m' sin_m' sin_p') cos_p' plus_cosine)

  cm_close : Close (fcp a * fcm b + fcm a * fcp b + (fsp a * fsp b + fsm a * fsm b)) (fcm (a + b))
  cm_close =
      rw (
        ← sp_is a,
        ← sm_is a,
        ← cp_is a,
        ← cm_is a,
        ← sp_is b,
        ← sm_is b,
        ← cp_is b,
        ← cm_is b,
        ← cm_is (a + b),
        ← four_is cos_p' cos_m' cos_m' cos_p' sin_p' sin_p' sin_m' sin_m' a b,
      )
      (close (four cos_p' cos_m' cos_m' cos_p' sin_p' sin_p' sin_m' sin_m') cos_m' minus_cosine)

-- ---- the two laws: x - y is FD times p - m, to within 2 ^ -39 of FD * FD
pub record Added (x y p m : ℕ) : Type 0 where
  pub low : 2 ^ 40 * (x + FD * m) ≤ 2 ^ 40 * (y + FD * p) + 2 * (FD * FD)
  pub high : 2 ^ 40 * (y + FD * p) ≤ 2 ^ 40 * (x + FD * m) + 2 * (FD * FD)

added : (x y p m : ℕ) → Close x p → Close y m → Added x y p m
added x y p m h k = let r = go (FD * p) (FD * m) (FD * FD) h.under h.over k.under k.over in record { low = r.0; high = r.1 }
  where
    go : (P M D : ℕ) → 2 ^ 40 * x ≤ 2 ^ 40 * P + D → 2 ^ 40 * P ≤ 2 ^ 40 * x + D → 2 ^ 40 * y ≤ 2 ^ 40 * M + D → 2 ^ 40 * M ≤ 2 ^ 40 * y + D
        → (2 ^ 40 * (x + M) ≤ 2 ^ 40 * (y + P) + 2 * D) × (2 ^ 40 * (y + P) ≤ 2 ^ 40 * (x + M) + 2 * D)
    go P M D a b c d = (omega arith, omega arith)

pub sine_sum_lem : (a b : ℕ) → a ≤ 2 ^ 39 → b ≤ 2 ^ 32
    → Added (fsp a * fcp b + fsm a * fcm b + (fcp a * fsp b + fcm a * fsm b))
    (fsp a * fcm b + fsm a * fcp b + (fcp a * fsm b + fcm a * fsp b)) (fsp (a + b)) (fsm (a + b))
sine_sum_lem a b ha hb = added _ _ (fsp (a + b)) (fsm (a + b)) (sp_close a b ha hb) (sm_close a b ha hb)

pub cosine_sum_lem : (a b : ℕ) → a ≤ 2 ^ 39 → b ≤ 2 ^ 32
    → Added (fcp a * fcp b + fcm a * fcm b + (fsp a * fsm b + fsm a * fsp b))
    (fcp a * fcm b + fcm a * fcp b + (fsp a * fsp b + fsm a * fsm b)) (fcp (a + b)) (fcm (a + b))
cosine_sum_lem a b ha hb = added _ _ (fcp (a + b)) (fcm (a + b)) (cp_close a b ha hb) (cm_close a b ha hb)

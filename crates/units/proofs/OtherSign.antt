-- Rounding with the other sign gives the number with the other sign. Assumes nothing.
use mathlib.Core.Path.{◌≡◌, refl}
use mathlib.Core.Bool.{Bool, true, false, not, cond}
use Prim.Native.Nat.{ℕ, zero, suc, ◌+◌, ◌*◌, ◌^◌}
use lib.Dec.{ltb}
use lib.Ieee.{Float, Format, inf, low, prec, emax, neg, round, units, odd}

turned_odd : (d : ℕ) (s : Bool) (q k l : ℕ) → odd d (not s) q k l ≡ neg (odd d s q k l)
unfolding odd neg
turned_odd d s zero k l = refl
turned_odd d s (suc q) k l = refl

-- a number or an infinity
turned_cond : (b s : Bool) (x y : Float) → x ≡ neg y → cond b x (inf (not s)) ≡ neg (cond b y (inf s))
unfolding neg
turned_cond true s x y e = e
turned_cond false s x y e = refl

turned_units : (f : Format) (s : Bool) (q k : ℕ) → units f (not s) q k ≡ neg (units f s q k)
unfolding units
turned_units f s q k =
    turned_cond (ltb (q * 2 ^ k) (2 ^ (low f + suc (emax f)))) s (odd (suc (prec f)) (not s) q k (low f)) (odd (suc (prec f)) s q k (low f))
    (turned_odd (suc (prec f)) s q k (low f))

pub turned_round : (f : Format) (s : Bool) (num den : ℕ) → round f (not s) num den ≡ neg (round f s num den)
unfolding round
turned_round f s num den = turned_units f s _ _

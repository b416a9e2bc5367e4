-- What the ranges say: a coordinate is at most 40,000 from 0, a height and a progress are natural numbers up to 1,000 and 2,048. Assumes
-- nothing.
use Prim.Native.Nat.{ℕ, ◌+◌, ◌≤◌, ◌<◌}
use mathlib.Core.Path.{◌≡◌, refl, sym}
use mathlib.Core.Bool.{true, true≢false}
use native.Mathlib.Omega.{arith}
use lib.Dec.{leb}
use borrow.Author.Tests.{leb-true}
use lib.IntN.{ℤ, pos, negsuc, nat_abs}
use mir.Syntax.{w32}
use mir.Val.{SFits}
use Rattle.numbers.proofs.OnePass.{and_left, and_right}
use Rattle.wholes.specs.Wholes.{in_range, is_coordinate, is_height, is_progress}
use Rattle.wholes.proofs.Parts.{plus, minus}

-- ---- a number within 31 bits
pub fits : (z : ℤ) → plus z + minus z < 2147483648 → SFits w32 z
fits (pos n) h = record { sfits = omega arith }
fits (negsuc n) h = record { sfits = omega arith }

-- ---- a range about 0, and one from 0 on
pub record Near0 (n : ℕ) (z : ℤ) : Type 0 where
  pub plus_most : plus z ≤ n
  pub minus_most : minus z ≤ n

pub coordinate : (z : ℤ) → is_coordinate z ≡ true → Near0 40000 z
coordinate (pos n) h = record { plus_most = leb-true n 40000 h; minus_most = omega arith }
coordinate (negsuc n) h =
    let l : n ≤ 39999 = leb-true n 39999 (and_left (leb n 39999) true h) in record { plus_most = omega arith; minus_most = omega arith }

from_zero : (n : ℕ) (z : ℤ) → in_range (pos 0) (pos n) z ≡ true → (z ≡ pos (nat_abs z)) × (nat_abs z ≤ n)
from_zero n (pos k) h = (refl, leb-true k n (and_right (leb 0 k) (leb k n) h))
from_zero n (negsuc k) h = absurd (true≢false (sym h))

pub height : (z : ℤ) → is_height z ≡ true → (z ≡ pos (nat_abs z)) × (nat_abs z ≤ 1000)
height z h = from_zero 1000 z h

pub progress : (z : ℤ) → is_progress z ≡ true → (z ≡ pos (nat_abs z)) × (nat_abs z ≤ 2048)
progress z h = from_zero 2048 z h

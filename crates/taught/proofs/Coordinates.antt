-- A coordinate's bits without its sign are at most 4's exactly where the float is finite and permitted; so eighteen words from a place on
-- say whether the pose there is one that a put takes.
use Rattle.std.specs.Prelude.{◌≡◌, ℕ, suc, ◌+◌, ◌*◌, ◌^◌, ◌≤◌, Bool, true, false, ◌&&◌, T, List, drop}
use native.Mathlib.Nat.{add_assoc, le_trans, le_of_eq, lt_of_le_of_lt}
use mathlib.Core.Path.{refl, sym, ap, ap₂, ◌∙◌}
use lib.Dec.{lit<, lit≤}
use lib.Ieee.{binary32, of_bits}
use lib.Ieee.Bits.{is_true, of_bits-fits}
use borrow.Author.Tests.{leb-true, le-leb}
use Rattle.numbers.specs.Door.{finite, permits}
use Rattle.numbers.specs.Limits.{foot_limit}
use Rattle.numbers.proofs.Flags.{both_ways, and_both}
use Rattle.numbers.proofs.OnePass.{and_left, and_right}
use Rattle.units.specs.Units.{unity, mag}
use Rattle.units.specs.Patterns.{val, sign_set, bare}
use Rattle.units.proofs.Bits.{finite_bits}
use Rattle.units.proofs.Door.{holds, finite_of, finite_single, permits_mag, permitted_mag}
use Rattle.units.proofs.PatternOrder.{val_le, val_le_back}
use Rattle.units.proofs.Patterns.{bits_value}
use Rattle.units.proofs.Table.{foot_ends}
use Rattle.units.proofs.Values.{mag_is}
use Rattle.legs.specs.Legs.{finite_point, permitted_point}
use Rattle.packed.specs.Packed.{word_at, float_at, point_at, feet_at}
use Rattle.packed.proofs.Back.{feet_behind}
use Rattle.taught.specs.How.{low, words_low}
use Rattle.taught.specs.Room.{pose_of, pose_good}

-- ---- one coordinate
low_is_permitted : (b : ℕ) → low b ≡ true → (finite (of_bits binary32 b) && permits foot_limit (of_bits binary32 b)) ≡ true
low_is_permitted b e =
    let x = of_bits binary32 b in
    let small : bare b ≤ 1082130432 = leb-true (bare b) 1082130432 e in
    let value = bits_value b (lt_of_le_of_lt small (lit< tt)) in
    let number : T (finite x) = finite_of x (sign_set b) (val (bare b)) (2 ^ 149) value in
    let size : mag x ≤ 4 * unity =
    le_trans (le_of_eq (mag_is x (sign_set b) (val (bare b)) value)) (val_le (bare b) 1082130432 small) in
    and_both (finite x) (permits foot_limit x) (is_true (finite x) number)
    (is_true (permits foot_limit x)
    (permits_mag foot_limit (4 * unity) foot_ends x (finite_single x number (of_bits-fits binary32 b)) size))

permitted_is_low : (b : ℕ) → (finite (of_bits binary32 b) && permits foot_limit (of_bits binary32 b)) ≡ true → low b ≡ true
permitted_is_low b e =
    let x = of_bits binary32 b in
    let number : T (finite x) = holds (and_left (finite x) (permits foot_limit x) e) in
    let row : T (permits foot_limit x) = holds (and_right (finite x) (permits foot_limit x) e) in
    let value = bits_value b (finite_bits b number) in
    let most = 4 * unity in
    let size : mag x ≤ most =
    permitted_mag foot_limit 0 most most 0 foot_ends most (lit≤ tt) (lit≤ tt) x (of_bits-fits binary32 b) row in
    let above : val (bare b) ≤ val 1082130432 = le_trans (le_of_eq (sym (mag_is x (sign_set b) (val (bare b)) value))) size in
    le-leb (bare b) 1082130432 (val_le_back (bare b) 1082130432 above)

pub low_permitted : (b : ℕ) → low b ≡ (finite (of_bits binary32 b) && permits foot_limit (of_bits binary32 b))
low_permitted b =
    both_ways (low b) (finite (of_bits binary32 b) && permits foot_limit (of_bits binary32 b)) (low_is_permitted b) (permitted_is_low b)

-- ---- two tests of each of two: of both the one, and of both the other
regroup : (a b c d : Bool) → (a && b && (c && d)) ≡ (a && c && (b && d))
regroup true true c d = refl
regroup true false true d = refl
regroup true false false d = refl
regroup false b c d = refl

-- the three coordinates of a point
point_low : (l : List ℕ) (at : ℕ) → (low (word_at l at) && low (word_at l (at + 4)) && low (word_at l (at + 8)))
    ≡ (finite_point (point_at l at) && permitted_point foot_limit (point_at l at))
unfolding float_at point_at finite_point permitted_point
point_low l at =
    let x = float_at l at in
    let y = float_at l (at + 4) in
    let z = float_at l (at + 8) in
    (λ i. low_permitted (word_at l at) i && low_permitted (word_at l (at + 4)) i && low_permitted (word_at l (at + 8)) i)
    ∙ ap (λ (t : Bool). t && (finite z && permits foot_limit z))
    (regroup (finite x) (permits foot_limit x) (finite y) (permits foot_limit y))
    ∙ regroup (finite x && finite y) (permits foot_limit x && permits foot_limit y) (finite z) (permits foot_limit z)

-- ---- eighteen words: six points, each behind those before it
more : (n : ℕ) (l : List ℕ) (at : ℕ) (F P f p : Bool) → words_low n l at ≡ (F && P)
    → (low (word_at l (at + 4 * n)) && low (word_at l (at + 4 * suc n)) && low (word_at l (at + 4 * suc (suc n)))) ≡ (f && p)
    → words_low (suc (suc (suc n))) l at ≡ (F && f && (P && p))
unfolding words_low
more n l at F P f p before point =
    together (words_low n l at) (word n) (word (suc n)) (word (suc (suc n))) ∙ ap₂ ◌&&◌ before point ∙ regroup F P f p
  where
    word : ℕ → Bool
    word k = low (word_at l (at + 4 * k))

    together : (w a b c : Bool) → (w && a && b && c) ≡ (w && (a && b && c))
    together true a b c = refl
    together false a b c = refl

-- the point at a + c, by words that are counted from a on
point_at_lem : (l : List ℕ) (at a c : ℕ)
    → (low (word_at l (at + a + c)) && low (word_at l (at + a + (c + 4))) && low (word_at l (at + a + (c + 8))))
    ≡ (finite_point (point_at l (at + (a + c))) && permitted_point foot_limit (point_at l (at + (a + c))))
point_at_lem l at a c =
    (λ i. low (word_at l (add_assoc at a c i)) && low (word_at l (place 4 i)) && low (word_at l (place 8 i))) ∙ point_low l (at + (a + c))
  where
    place : (k : ℕ) → at + a + (c + k) ≡ at + (a + c) + k
    place k = sym (add_assoc (at + a) c k) ∙ ap (λ (n : ℕ). n + k) (add_assoc at a c)

pub words_low_lem : (l : List ℕ) (at : ℕ) → words_low 18 l (at + 6) ≡ pose_good (feet_at l at)
unfolding words_low feet_at
words_low_lem l at =
    let one : words_low 3 l (at + 6) ≡ (F 6 && P 6) = point_at_lem l at 6 0 in
    let two = more 3 l (at + 6) (F 6) (P 6) (F 18) (P 18) one (point_at_lem l at 6 12) in
    let three = more 6 l (at + 6) (F 6 && F 18) (P 6 && P 18) (F 30) (P 30) two (point_at_lem l at 6 24) in
    let four = more 9 l (at + 6) (F 6 && F 18 && F 30) (P 6 && P 18 && P 30) (F 42) (P 42) three (point_at_lem l at 6 36) in
    let five = more 12 l (at + 6) (F 6 && F 18 && F 30 && F 42) (P 6 && P 18 && P 30 && P 42) (F 54) (P 54) four (point_at_lem l at 6 48) in
    more 15 l (at + 6) (F 6 && F 18 && F 30 && F 42 && F 54) (P 6 && P 18 && P 30 && P 42 && P 54) (F 66) (P 66) five
    (point_at_lem l at 6 60)
  where
    F : ℕ → Bool
    F k = finite_point (point_at l (at + k))

    P : ℕ → Bool
    P k = permitted_point foot_limit (point_at l (at + k))

-- of the pose in the first place of the bytes from a place on
pub coordinates_good : (l : List ℕ) (at : ℕ) → words_low 18 l (at + 8) ≡ pose_good (pose_of (drop at l))
unfolding pose_of
coordinates_good l at =
    ap (words_low 18 l) (sym (add_assoc at 2 6)) ∙ words_low_lem l (at + 2) ∙ ap pose_good (sym (feet_behind at l 2))

-- What is read of bytes that were written, what is written of what was read, and what is read behind other bytes.
use mathlib.Core.Path.{◌≡◌, refl, sym, ap, ap₂, fun_ext, ◌∙◌}
use mathlib.Core.Bool.{Bool, true, false, ◌&&◌}
use mathlib.Core.List.{List, [], ◌∷◌, ◌++◌, append_assoc}
use Prim.Native.Nat.{ℕ, zero, suc, ◌+◌, ◌*◌, ◌/◌, ◌%◌, ◌≤◌, ◌<◌}
use native.Mathlib.Omega.{arith}
use native.Mathlib.Nat.{add_assoc, add_comm, add-zero, mod-lt, mod-eq_of_lt, div-div-eq-div-mul, le_of_suc-le-suc, lt_of_le_of_lt}
use lib.Dec.{T, eqb, leb, lit<, lit≤}
use lib.ListN.{length, get_or, take, drop}
use lib.Seq.{sets, sets-eq, get_or-drop, drop-append_seam, length-take-le}
use lib.Arith.{digits_div, digits_mod}
use lib.Ieee.{Float, binary32, fits, of_bits, to_bits}
use lib.Ieee.Bits.{of_bits-to_bits, to_bits-of_bits, to_bits-lt, of_bits-fits}
use borrow.Author.Tests.{leb-true}
use Rattle.numbers.specs.Told.{mark}
use Rattle.numbers.specs.Door.{finite}
use Rattle.numbers.proofs.OneAnswer.{flag_of_mark}
use Rattle.numbers.proofs.OnePass.{and_left, and_right}
use Rattle.legs.specs.Legs.{Leg, left_front, right_front, left_middle, right_middle, left_rear, right_rear}
use Rattle.legs.specs.Answers.{lifts}
use Rattle.legs.specs.Legs.{row, foot, lifted, marked, six_points, finite_point, finite_feet}
use Rattle.legs.specs.declared.Point.{Point}
use Rattle.legs.specs.Legs.{Feet}
use Rattle.packed.specs.Packed.{pair, word, pair_at, word_at, long_at, float_at, point_at, foot_at, feet_at, feet_in}
use Rattle.packed.specs.Packed.{pair_bytes, word_bytes, long_bytes, float_bytes, point_bytes, feet_bytes}
use Rattle.packed.proofs.Storing.{no_nan, finite_each, finite_foot}

-- ---- reading further on: behind n bytes as from n on
abbrev Reads : {A : Type 0} → (List ℕ → ℕ → A) → Type 0
Reads {A} g = (n : ℕ) (l : List ℕ) (at : ℕ) → g (drop n l) at ≡ g l (n + at)

further : {A : Type 0} (g : List ℕ → ℕ → A) → Reads g → (k : ℕ) → Reads (λ l at. g l (at + k))
further g h k n l at = h n l (at + k) ∙ ap (g l) (sym (add_assoc n at k))

byte_behind : (k : ℕ) → Reads (λ l at. get_or l (at + k) 0)
byte_behind = further (λ l at. get_or l at 0) (λ n l at. get_or-drop n l at 0)

pub pair_behind : (n : ℕ) (l : List ℕ) (at : ℕ) → pair_at (drop n l) at ≡ pair_at l (n + at)
unfolding pair_at
pair_behind n l at = ap₂ pair (get_or-drop n l at 0) (byte_behind 1 n l at)

pub word_behind : (n : ℕ) (l : List ℕ) (at : ℕ) → word_at (drop n l) at ≡ word_at l (n + at)
unfolding word_at
word_behind n l at = rw (get_or-drop n l at 0, byte_behind 1 n l at, byte_behind 2 n l at, byte_behind 3 n l at) refl

pub long_behind : (n : ℕ) (l : List ℕ) (at : ℕ) → long_at (drop n l) at ≡ long_at l (n + at)
unfolding long_at
long_behind n l at = rw (word_behind n l at, further word_at word_behind 4 n l at) refl

pub float_behind : (n : ℕ) (l : List ℕ) (at : ℕ) → float_at (drop n l) at ≡ float_at l (n + at)
unfolding float_at
float_behind n l at = ap (of_bits binary32) (word_behind n l at)

pub point_behind : (n : ℕ) (l : List ℕ) (at : ℕ) → point_at (drop n l) at ≡ point_at l (n + at)
unfolding point_at
point_behind n l at =
    rw (float_behind n l at, further float_at float_behind 4 n l at, further float_at float_behind 8 n l at) refl

foot_behind : (mark point : ℕ) → Reads (λ l at. foot_at l (at + mark) (at + point))
foot_behind mark point n l at = rw (byte_behind mark n l at, further point_at point_behind point n l at) refl

pub feet_behind : (n : ℕ) (l : List ℕ) (at : ℕ) → feet_at (drop n l) at ≡ feet_at l (n + at)
unfolding feet_at
feet_behind n l at =
    rw (
      get_or-drop n l at 0,
      further point_at point_behind 6 n l at,
      foot_behind 1 18 n l at,
      foot_behind 2 30 n l at,
      foot_behind 3 42 n l at,
      foot_behind 4 54 n l at,
      foot_behind 5 66 n l at,
    ) refl

-- ---- numbers: read of their bytes
step : (n : ℕ) → n % 256 + n / 256 * 256 ≡ n
step n = omega arith

pub pair_split : (n : ℕ) → n < 65536 → pair (n % 256) (n / 256 % 256) ≡ n
pair_split n h = omega arith

pub word_split : (n : ℕ) → n < 4294967296 → word (n % 256) (n / 256 % 256) (n / 65536 % 256) (n / 16777216 % 256) ≡ n
word_split n h =
    let a = n / 256 in
    let b = a / 256 in
    rw (sym (div-div-eq-div-mul n 256 256), sym (div-div-eq-div-mul n 256 65536), sym (div-div-eq-div-mul a 256 256))
    (ap (word (n % 256) (a % 256) (b % 256)) (mod-eq_of_lt (high n h)) ∙ joined n a b (b / 256) (step n) (step a) (step b))
  where
    high : (n : ℕ) → n < 4294967296 → n / 256 / 256 / 256 < 256
    high n h = omega arith

    joined : (n a b c : ℕ) → n % 256 + a * 256 ≡ n → a % 256 + b * 256 ≡ a → b % 256 + c * 256 ≡ b
        → word (n % 256) (a % 256) (b % 256) c ≡ n
    joined n a b c i j k = omega arith

pub pair_back : (n : ℕ) (rest : List ℕ) → n < 65536 → pair_at (pair_bytes n ++ rest) 0 ≡ n
unfolding pair_at
pair_back n rest h = pair_split n h

pub word_back : (n : ℕ) (rest : List ℕ) → n < 4294967296 → word_at (word_bytes n ++ rest) 0 ≡ n
unfolding word_at
word_back n rest h = word_split n h

-- eight bytes are two numbers of four
halves : (n : ℕ) → n % 4294967296 + n / 4294967296 * 4294967296 ≡ n
halves n = omega arith

pub long_back : (n : ℕ) (rest : List ℕ) → n < 18446744073709551616 → long_at (long_bytes n ++ rest) 0 ≡ n
unfolding word_at long_at
long_back n rest h =
    let high : n / 4294967296 < 4294967296 = omega arith in
    ap₂ (λ (a b : ℕ). a + b * 4294967296)
    (word_split (n % 4294967296) (mod-lt n (lit< tt)))
    (word_split (n / 4294967296) high)
    ∙ halves n

-- ---- and their bytes, of what was read: the lowest, and those above it
lowest : (q r : ℕ) → r < 256 → (r + q * 256) % 256 ≡ r
lowest q r h = ap (λ (n : ℕ). n % 256) (add_comm r (q * 256)) ∙ digits_mod q h

above : (q r : ℕ) → r < 256 → (r + q * 256) / 256 ≡ q
above q r h = ap (λ (n : ℕ). n / 256) (add_comm r (q * 256)) ∙ digits_div q h

pub pair_again : (a b : ℕ) → a < 256 → b < 256 → pair_bytes (pair a b) ≡ a ∷ b ∷ []
pair_again a b ha hb = rw (lowest b a ha, above b a ha, mod-eq_of_lt hb) refl

pub word_again : (a b c d : ℕ) → a < 256 → b < 256 → c < 256 → d < 256 → word_bytes (word a b c d) ≡ a ∷ b ∷ c ∷ d ∷ []
word_again a b c d ha hb hc hd =
    let two : ℕ = c + d * 256 in
    let three : ℕ = b + two * 256 in
    let e : word a b c d ≡ a + three * 256 = omega arith in
    let second : word a b c d / 256 ≡ three = ap (λ (n : ℕ). n / 256) e ∙ above three a ha in
    let third : word a b c d / 65536 ≡ two =
    sym (div-div-eq-div-mul (word a b c d) 256 256) ∙ ap (λ (n : ℕ). n / 256) second ∙ above two b hb in
    let fourth : word a b c d / 16777216 ≡ d =
    sym (div-div-eq-div-mul (word a b c d) 65536 256) ∙ ap (λ (n : ℕ). n / 256) third ∙ above d c hc in
    four (ap (λ (n : ℕ). n % 256) e ∙ lowest three a ha) (ap (λ (n : ℕ). n % 256) second ∙ lowest two b hb)
    (ap (λ (n : ℕ). n % 256) third ∙ lowest d c hc) (ap (λ (n : ℕ). n % 256) fourth ∙ mod-eq_of_lt hd)
  where
    four : {a b c d a' b' c' d' : ℕ} → a ≡ a' → b ≡ b' → c ≡ c' → d ≡ d' → a ∷ b ∷ c ∷ d ∷ [] ≡ a' ∷ b' ∷ c' ∷ d' ∷ []
    four p q r s = λ i. p i ∷ q i ∷ r i ∷ s i ∷ []

-- ---- floats: every float that the format holds, NaN among them, is read of its bytes; what was read is written as it was if it is finite
pub float_back : (x : Float) (rest : List ℕ) → T (fits binary32 x) → float_at (float_bytes x ++ rest) 0 ≡ x
unfolding float_at
float_back x rest held =
    ap (of_bits binary32) (word_split (to_bits binary32 x) (to_bits-lt binary32 x held)) ∙ of_bits-to_bits binary32 x held

pub float_again : (a b c d : ℕ) → a < 256 → b < 256 → c < 256 → d < 256 → finite (of_bits binary32 (word a b c d)) ≡ true
    → float_bytes (of_bits binary32 (word a b c d)) ≡ a ∷ b ∷ c ∷ d ∷ []
float_again a b c d ha hb hc hd e =
    let small : word a b c d < 4294967296 = omega arith in
    ap word_bytes (to_bits-of_bits binary32 (word a b c d) small (no_nan (of_bits binary32 (word a b c d)) e))
    ∙ word_again a b c d ha hb hc hd

pub mark_again : (m : ℕ) → m ≤ 1 → mark (eqb m 1) ≡ m
mark_again zero h = refl
mark_again (suc zero) h = refl
mark_again (suc (suc m)) h = absurd (omega arith)

-- ---- points and feet of f32
abbrev pub HeldPoint : Point → Type 0
HeldPoint p = T (fits binary32 p.x) × T (fits binary32 p.y) × T (fits binary32 p.z)

pub point_back : (p : Point) (rest : List ℕ) → HeldPoint p → point_at (point_bytes p ++ rest) 0 ≡ p
unfolding point_at
point_back p rest held =
    let x : float_at (float_bytes p.x) 0 ≡ p.x = float_back p.x [] held.0 in
    let y : float_at (float_bytes p.y) 0 ≡ p.y = float_back p.y [] held.1 in
    let z : float_at (float_bytes p.z) 0 ≡ p.z = float_back p.z [] held.2 in
    λ i. record { x = x i; y = y i; z = z i }

pub feet_back : (f : Feet) (rest : List ℕ) → ((l : Leg) → HeldPoint (foot f l)) → feet_at (feet_bytes f ++ rest) 0 ≡ f
unfolding feet_at
feet_back f rest held =
    ap₂ (λ (b : Leg → Bool) (p : Leg → Point). marked b (six_points p))
    (fun_ext (λ l. flag_of_mark (lifted f l)))
    (fun_ext (λ l. point_back (foot f l) [] (held l)))

pub feet_back_behind : (f : Feet) (front rest : List ℕ) → ((l : Leg) → HeldPoint (foot f l))
    → feet_at (front ++ (feet_bytes f ++ rest)) (length front) ≡ f
feet_back_behind f front rest held =
    let n = length front in
    let l = front ++ (feet_bytes f ++ rest) in
    ap (feet_at l) (sym (add-zero n))
    ∙ sym (feet_behind n l 0)
    ∙ ap (λ (m : List ℕ). feet_at m 0) (drop-append_seam front (feet_bytes f ++ rest))
    ∙ feet_back f rest held

-- six feet that were stored are read from where they were stored
pub stored_and_read : (l : List ℕ) (at : ℕ) (f : Feet) → at + 78 ≤ length l → ((k : Leg) → HeldPoint (foot f k))
    → feet_at (sets l at (feet_bytes f)) at ≡ f
stored_and_read l at f room held =
    let front : length (take at l) ≡ at = length-take-le at l (omega arith) in
    let rest = drop (at + 78) l in
    ap (λ (m : List ℕ). feet_at m at) (sets-eq (feet_bytes f) l at room ∙ append_assoc (take at l) (feet_bytes f) rest)
    ∙ ap (feet_at (take at l ++ (feet_bytes f ++ rest))) (sym front)
    ∙ feet_back_behind f (take at l) rest held

-- ---- and what was read of bytes, written again: those bytes
abbrev pub AllBytes : List ℕ → Type 0
AllBytes l = (i : ℕ) → get_or l i 0 < 256

-- the first n of a list, by their places
abbrev listed : ℕ → (ℕ → ℕ) → List ℕ
listed zero g = []
listed (suc n) g = g 0 ∷ listed n (λ k. g (suc k))

listed_front : (n : ℕ) (l : List ℕ) → n ≤ length l → listed n (λ k. get_or l k 0) ≡ take n l
listed_front zero l h = refl
listed_front (suc n) [] h = absurd (omega arith)
listed_front (suc n) (b ∷ l) h = ap (λ (r : List ℕ). b ∷ r) (listed_front n l (le_of_suc-le-suc h))

abbrev pub four : List ℕ → ℕ → List ℕ
four l at = get_or l at 0 ∷ get_or l (at + 1) 0 ∷ get_or l (at + 2) 0 ∷ get_or l (at + 3) 0 ∷ []

pub word_bytes_again : (l : List ℕ) (at : ℕ) → AllBytes l → word_bytes (word_at l at) ≡ four l at
unfolding word_at
word_bytes_again l at small =
    word_again (get_or l at 0) (get_or l (at + 1) 0) (get_or l (at + 2) 0) (get_or l (at + 3) 0)
    (small at) (small (at + 1)) (small (at + 2)) (small (at + 3))

-- a number of four bytes is below 2^32, of eight below 2^64
pub word_fits : (l : List ℕ) (at : ℕ) → AllBytes l → word_at l at < 4294967296
unfolding word_at
word_fits l at small =
    below (get_or l at 0) (get_or l (at + 1) 0) (get_or l (at + 2) 0) (get_or l (at + 3) 0)
    (small at) (small (at + 1)) (small (at + 2)) (small (at + 3))
  where
    below : (a b c d : ℕ) → a < 256 → b < 256 → c < 256 → d < 256 → word a b c d < 4294967296
    below a b c d ha hb hc hd = omega arith

pub long_fits : (l : List ℕ) (at : ℕ) → AllBytes l → long_at l at < 18446744073709551616
unfolding long_at
long_fits l at small = below (word_at l at) (word_at l (at + 4)) (word_fits l at small) (word_fits l (at + 4) small)
  where
    below : (a b : ℕ) → a < 4294967296 → b < 4294967296 → a + b * 4294967296 < 18446744073709551616
    below a b ha hb = omega arith

pub long_bytes_again : (l : List ℕ) (at : ℕ) → AllBytes l → long_bytes (long_at l at) ≡ four l at ++ four l (at + 4)
unfolding long_at
long_bytes_again l at small =
    let a = word_at l at in
    let b = word_at l (at + 4) in
    ap₂ (λ (m n : ℕ). word_bytes m ++ word_bytes n) (low a b first) (high a b first)
    ∙ ap₂ (λ (m n : List ℕ). m ++ n) (word_bytes_again l at small) (word_bytes_again l (at + 4) small)
  where
    first : word_at l at < 4294967296
    first = word_fits l at small

    low : (a b : ℕ) → a < 4294967296 → (a + b * 4294967296) % 4294967296 ≡ a
    low a b h = ap (λ (n : ℕ). n % 4294967296) (add_comm a (b * 4294967296)) ∙ digits_mod b h

    high : (a b : ℕ) → a < 4294967296 → (a + b * 4294967296) / 4294967296 ≡ b
    high a b h = ap (λ (n : ℕ). n / 4294967296) (add_comm a (b * 4294967296)) ∙ digits_div b h

pub four_again : (l : List ℕ) (at : ℕ) → AllBytes l → finite (float_at l at) ≡ true → float_bytes (float_at l at) ≡ four l at
unfolding float_at
four_again l at small e = float_again (get_or l at 0) (get_or l (at + 1) 0) (get_or l (at + 2) 0) (get_or l (at + 3) 0)
    (small at) (small (at + 1)) (small (at + 2)) (small (at + 3)) e

twelve_again : (l : List ℕ) (at : ℕ) → AllBytes l → finite_point (point_at l at) ≡ true
    → point_bytes (point_at l at) ≡ four l at ++ (four l (at + 4) ++ four l (at + 8))
unfolding point_at
twelve_again l at small e =
    let each = finite_each (point_at l at) e in
    let x = four_again l at small each.0 in
    let y = four_again l (at + 4) small each.1 in
    let z = four_again l (at + 8) small each.2 in
    λ i. x i ++ (y i ++ z i)

-- six marks from a place on are 0 or 1
abbrev pub marks_at : List ℕ → ℕ → Bool
marks_at l at =
    leb (get_or l at 0) 1
    && leb (get_or l (at + 1) 0) 1
    && leb (get_or l (at + 2) 0) 1
    && leb (get_or l (at + 3) 0) 1
    && leb (get_or l (at + 4) 0) 1
    && leb (get_or l (at + 5) 0) 1

pub marks_behind : (n : ℕ) (l : List ℕ) (at : ℕ) → marks_at (drop n l) at ≡ marks_at l (n + at)
marks_behind n l at = rw (
  get_or-drop n l at 0,
  byte_behind 1 n l at,
  byte_behind 2 n l at,
  byte_behind 3 n l at,
  byte_behind 4 n l at,
  byte_behind 5 n l at,
) refl

pub pair_bytes_again : (l : List ℕ) → AllBytes l → 2 ≤ length l → pair_bytes (pair_at l 0) ≡ take 2 l
unfolding pair_at
pair_bytes_again l small long = pair_again (get_or l 0 0) (get_or l 1 0) (small 0) (small 1) ∙ listed_front 2 l long

lifts_again : (l : List ℕ) → marks_at l 0 ≡ true → lifts (feet_at l 0) ≡ listed 6 (λ k. get_or l k 0)
unfolding feet_at
lifts_again l good =
    let five = and_left (m 0 && m 1 && m 2 && m 3 && m 4) (m 5) good in
    let four = and_left (m 0 && m 1 && m 2 && m 3) (m 4) five in
    let three = and_left (m 0 && m 1 && m 2) (m 3) four in
    let two = and_left (m 0 && m 1) (m 2) three in
    let a = again 0 (and_left (m 0) (m 1) two) in
    let b = again 1 (and_right (m 0) (m 1) two) in
    let c = again 2 (and_right (m 0 && m 1) (m 2) three) in
    let d = again 3 (and_right (m 0 && m 1 && m 2) (m 3) four) in
    let e = again 4 (and_right (m 0 && m 1 && m 2 && m 3) (m 4) five) in
    let f = again 5 (and_right (m 0 && m 1 && m 2 && m 3 && m 4) (m 5) good) in
    λ i. a i ∷ b i ∷ c i ∷ d i ∷ e i ∷ f i ∷ []
  where
    m : ℕ → Bool
    m k = leb (get_or l k 0) 1

    again : (k : ℕ) → leb (get_or l k 0) 1 ≡ true → mark (eqb (get_or l k 0) 1) ≡ get_or l k 0
    again k e = mark_again (get_or l k 0) (leb-true (get_or l k 0) 1 e)

pub feet_again : (l : List ℕ) → AllBytes l → 78 ≤ length l → marks_at l 0 ≡ true → finite_feet (feet_at l 0) ≡ true
    → feet_bytes (feet_at l 0) ≡ take 78 l
unfolding feet_at
feet_again l small long good e =
    let marks = lifts_again l good in
    let lf = twelve_again l 6 small (finite_foot (feet_at l 0) e left_front) in
    let rf = twelve_again l 18 small (finite_foot (feet_at l 0) e right_front) in
    let lm = twelve_again l 30 small (finite_foot (feet_at l 0) e left_middle) in
    let rm = twelve_again l 42 small (finite_foot (feet_at l 0) e right_middle) in
    let lr = twelve_again l 54 small (finite_foot (feet_at l 0) e left_rear) in
    let rr = twelve_again l 66 small (finite_foot (feet_at l 0) e right_rear) in
    (λ i. marks i ++ (lf i ++ (rf i ++ (lm i ++ (rm i ++ (lr i ++ rr i))))))
    ∙ listed_front 78 l long

-- ---- the format holds what is read
pub float_held : (l : List ℕ) (at : ℕ) → T (fits binary32 (float_at l at))
unfolding float_at
float_held l at = of_bits-fits binary32 (word_at l at)

pub point_held : (l : List ℕ) (at : ℕ) → HeldPoint (point_at l at)
unfolding point_at
point_held l at = (float_held l at, float_held l (at + 4), float_held l (at + 8))

pub feet_held : (l : List ℕ) (at : ℕ) (k : Leg) → HeldPoint (foot (feet_at l at) k)
unfolding feet_at
feet_held l at left_front = point_held l (at + 6)
feet_held l at right_front = point_held l (at + 18)
feet_held l at left_middle = point_held l (at + 30)
feet_held l at right_middle = point_held l (at + 42)
feet_held l at left_rear = point_held l (at + 54)
feet_held l at right_rear = point_held l (at + 66)

pub feet_in_held : (l : List ℕ) (marks at : ℕ) (k : Leg) → HeldPoint (foot (feet_in l marks at) k)
unfolding feet_in
feet_in_held l marks at left_front = point_held l at
feet_in_held l marks at right_front = point_held l (at + 12)
feet_in_held l marks at left_middle = point_held l (at + 24)
feet_in_held l marks at right_middle = point_held l (at + 36)
feet_in_held l marks at left_rear = point_held l (at + 48)
feet_in_held l marks at right_rear = point_held l (at + 60)

-- ---- what is written is bytes
pub bytes_joined : (a b : List ℕ) → AllBytes a → AllBytes b → AllBytes (a ++ b)
bytes_joined [] b p q i = q i
bytes_joined (x ∷ a) b p q zero = p 0
bytes_joined (x ∷ a) b p q (suc i) = bytes_joined a b (λ k. p (suc k)) q i

low_byte : (n : ℕ) → n % 256 < 256
low_byte n = mod-lt n (lit< tt)

pub bytes_of_pair : (n : ℕ) → AllBytes (pair_bytes n)
bytes_of_pair n zero = low_byte n
bytes_of_pair n (suc zero) = low_byte (n / 256)
bytes_of_pair n (suc (suc i)) = lit< tt

pub bytes_of_word : (n : ℕ) → AllBytes (word_bytes n)
bytes_of_word n zero = low_byte n
bytes_of_word n (suc zero) = low_byte (n / 256)
bytes_of_word n (suc (suc zero)) = low_byte (n / 65536)
bytes_of_word n (suc (suc (suc zero))) = low_byte (n / 16777216)
bytes_of_word n (suc (suc (suc (suc i)))) = lit< tt

bytes_of_point : (p : Point) → AllBytes (point_bytes p)
bytes_of_point p =
    bytes_joined (float_bytes p.x) (float_bytes p.y ++ float_bytes p.z) (float p.x)
    (bytes_joined (float_bytes p.y) (float_bytes p.z) (float p.y) (float p.z))
  where
    float : (x : Float) → AllBytes (float_bytes x)
    float x = bytes_of_word (to_bits binary32 x)

pub mark_low : (b : Bool) → mark b ≤ 1
mark_low true = lit≤ tt
mark_low false = lit≤ tt

bytes_of_lifts : (f : Feet) → AllBytes (lifts f)
bytes_of_lifts f = row_of (λ l. lt_of_le_of_lt (mark_low (lifted f l)) (lit< tt))
  where
    row_of : {g : Leg → ℕ} → ((l : Leg) → g l < 256) → AllBytes (row g)
    row_of h zero = h left_front
    row_of h (suc zero) = h right_front
    row_of h (suc (suc zero)) = h left_middle
    row_of h (suc (suc (suc zero))) = h right_middle
    row_of h (suc (suc (suc (suc zero)))) = h left_rear
    row_of h (suc (suc (suc (suc (suc zero))))) = h right_rear
    row_of h (suc (suc (suc (suc (suc (suc i)))))) = lit< tt

pub bytes_of_feet : (f : Feet) → AllBytes (feet_bytes f)
bytes_of_feet f =
    let rr = point right_rear in
    let lr = next left_rear (bytes right_rear) rr in
    let rm = next right_middle (bytes left_rear ++ bytes right_rear) lr in
    let lm = next left_middle (bytes right_middle ++ (bytes left_rear ++ bytes right_rear)) rm in
    let rf = next right_front (bytes left_middle ++ (bytes right_middle ++ (bytes left_rear ++ bytes right_rear))) lm in
    let rest = bytes right_front ++ (bytes left_middle ++ (bytes right_middle ++ (bytes left_rear ++ bytes right_rear))) in
    bytes_joined (lifts f) (bytes left_front ++ rest) (bytes_of_lifts f) (next left_front rest rf)
  where
    bytes : Leg → List ℕ
    bytes l = point_bytes (foot f l)

    point : (l : Leg) → AllBytes (bytes l)
    point l = bytes_of_point (foot f l)

    next : (l : Leg) (rest : List ℕ) → AllBytes rest → AllBytes (bytes l ++ rest)
    next l rest h = bytes_joined (bytes l) rest (point l) h

-- Fields in a row, each a tab and eight hex digits: they are good exactly where they are the written form of their bit patterns.
use mathlib.Core.Path.{◌≡◌, refl, ap, ◌∙◌, sym}
use mathlib.Core.Bool.{Bool, true, ◌&&◌, false≢true, and-true}
use mathlib.Core.List.{List, [], ◌∷◌, ◌++◌, map, append-nil}
use Prim.Native.Nat.{ℕ, zero, suc, ◌*◌, ◌<◌, ◌^◌}
use native.Mathlib.Omega.{arith}
use lib.Dec.{eqb}
use lib.ListN.{length, take, drop, length-append, length-drop, take-append-drop}
use lib.Seq.{take_at, drop_at}
use borrow.Author.Tests.{eqb-true}
use Rattle.lines.specs.Digits.{hex, hex_of}
use Rattle.lines.specs.Fields.{parted, AreBits}
use Rattle.lines.specs.Parts.{tabbed, tabbeds, all_good, bits_of}
use Rattle.numbers.proofs.OnePass.{and_left, and_right}
use Rattle.lines.proofs.Numerals.{length_hex}
use Rattle.lines.proofs.Exact.{hex_back, hex_exact}

-- bit patterns in a row, each after a tab
abbrev pub each : List ℕ → List ℕ
each [] = []
each (p ∷ ps) = 9 ∷ (hex p ++ each ps)

pub length_each : (ps : List ℕ) → length (each ps) ≡ 9 * length ps
length_each [] = refl
length_each (p ∷ ps) = omega (arith, length-append (hex p) (each ps), length_hex p, length_each ps)

-- a field and patterns, parted by tabs
pub parted_each : (f : List ℕ) (ps : List ℕ) → parted 9 (f ∷ map hex ps) ≡ f ++ each ps
unfolding parted
parted_each f [] = sym (append-nil f)
parted_each f (p ∷ ps) = ap (λ (t : List ℕ). f ++ (9 ∷ t)) (parted_each (hex p) ps)

module _ (p : ℕ) (rest : List ℕ) where
  pub tabbed_back : p < 2 ^ 32 → tabbed (9 ∷ (hex p ++ rest)) ≡ record { good = true; bits = p }
  unfolding tabbed
  tabbed_back h = rw (take_at (hex p) rest 8 (length_hex p), hex_back p h)

  drop_field : drop 8 (hex p ++ rest) ≡ rest
  drop_field = drop_at (hex p) rest 8 (length_hex p)

pub rows_back : (ps : List ℕ) (t : Bool) → AreBits ps → (all_good t (tabbeds (length ps) (each ps)) ≡ t)
    × (bits_of (tabbeds (length ps) (each ps)) ≡ ps)
unfolding tabbeds all_good bits_of
rows_back [] t h = (refl, refl)
rows_back (p ∷ ps) t h =
    let one = tabbed_back p (each ps) h.0 in
    let rest = drop_field p (each ps) in
    let was = rows_back ps (t && true) h.1 in
    (rw (one, rest) (was.0 ∙ and-true t), rw (one, rest) (ap (λ (l : List ℕ). p ∷ l) was.1))

pub tabbed_exact : (s : List ℕ) → (tabbed s).good ≡ true → (take 9 s ≡ 9 ∷ hex (tabbed s).bits) × ((tabbed s).bits < 2 ^ 32)
unfolding tabbed
tabbed_exact [] good = absurd (false≢true good)
tabbed_exact (b ∷ s) good =
    let d = hex_of 8 8 (take 8 s) in
    let was = hex_exact (take 8 s) (and_right (eqb b 9) d.good good) in
    let e : b ≡ 9 = eqb-true b 9 (and_left (eqb b 9) d.good good) in
    (ap (λ (x : ℕ). x ∷ take 8 s) e ∙ ap (λ (l : List ℕ). 9 ∷ l) was.0, was.1)

empty : (s : List ℕ) → length s ≡ 0 → s ≡ []
empty [] e = refl
empty (b ∷ s) e = absurd (omega arith)

pub rows_exact : (k : ℕ) (t : Bool) (s : List ℕ) → length s ≡ 9 * k → all_good t (tabbeds k s) ≡ true
    → (t ≡ true) × (s ≡ each (bits_of (tabbeds k s))) × AreBits (bits_of (tabbeds k s))
unfolding tabbeds all_good bits_of
rows_exact zero t s e good = (good, empty s (omega arith), tt)
rows_exact (suc k) t s e good =
    let was = rows_exact k (t && (tabbed s).good) (drop 9 s) (omega (arith, length-drop 9 s)) good in
    let one = tabbed_exact s (and_right t (tabbed s).good was.0) in (
      and_left t (tabbed s).good was.0,
      sym (take-append-drop 9 s) ∙ ap (λ (l : List ℕ). l ++ drop 9 s) one.0
          ∙ ap (λ (l : List ℕ). (9 ∷ hex (tabbed s).bits) ++ l) was.1,
      (one.1, was.2),
    )

pub length_bits : (k : ℕ) (s : List ℕ) → length (bits_of (tabbeds k s)) ≡ k
unfolding tabbeds bits_of
length_bits zero s = refl
length_bits (suc k) s = ap suc (length_bits k (drop 9 s))

-- A number in k digits of a base: as many bytes as digits.
use mathlib.Core.Path.{◌≡◌, refl, ap, ◌∙◌}
use Prim.Native.Nat.{ℕ, zero, suc, ◌/◌}
use native.Mathlib.Numerals.{add-one}
use lib.ListN.{length, length-append}
use Rattle.lines.specs.Digits.{numeral, hex}

pub length_numeral : (base k n : ℕ) → length (numeral base k n) ≡ k
unfolding numeral
length_numeral base zero n = refl
length_numeral base (suc k) n =
    length-append (numeral base k (n / base)) _ ∙ add-one _ ∙ ap suc (length_numeral base k (n / base))

pub length_hex : (n : ℕ) → length (hex n) ≡ 8
unfolding hex
length_hex n = length_numeral 16 8 n

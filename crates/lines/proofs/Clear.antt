-- What is written as digits holds no newline, so that a line with its newline is one line of a text.
use mathlib.Core.Path.{◌≡◌, refl, ap, ◌∙◌}
use mathlib.Core.Bool.{false}
use mathlib.Core.List.{List, [], ◌∷◌, ◌++◌, append_assoc}
use Prim.Native.Nat.{ℕ, zero, suc, ◌+◌, ◌/◌, ◌%◌, ◌≤◌, ◌<◌}
use native.Mathlib.Nat.{mod-lt}
use native.Mathlib.Omega.{arith}
use lib.Dec.{eqb, ltb, lit<, lit≤}
use lib.ListN.{length}
use borrow.Author.Tests.{ne_eqb, ltb-true}
use Rattle.lines.specs.Digits.{digit, numeral, hex, decimal_within, decimal}
use Rattle.lines.specs.Fields.{newline, span}
use Rattle.lines.specs.Lines.{ended}
use Rattle.lines.specs.Carry.{Lines, lines_from, with_last, input_lines}
use Rattle.numbers.proofs.Flags.{chosen}
use Rattle.lines.proofs.Cutting.{lines_piece}

abbrev pub Clear : List ℕ → Type 0
Clear [] = Unit
Clear (b ∷ s) = (eqb b newline ≡ false) × Clear s

pub clear_append : (s t : List ℕ) → Clear s → Clear t → Clear (s ++ t)
clear_append [] t c d = d
clear_append (b ∷ s) t c d = (c.0, clear_append s t c.1 d)

clear_span : (s : List ℕ) → Clear s → span newline s ≡ length s
unfolding span
clear_span [] c = refl
clear_span (b ∷ s) c = rw c.0 (ap suc (clear_span s c.1))

-- ---- digits
clear_digit : (d : ℕ) → d < 16 → eqb (digit d) newline ≡ false
unfolding digit
clear_digit d h =
    chosen (λ (b : ℕ). eqb b newline ≡ false) (ltb d 10) (48 + d) (87 + d) (λ low. ne_eqb (48 + d) 10 (λ e. omega arith))
    (λ high. ne_eqb (87 + d) 10 (λ e. omega arith))

clear_numeral : (base k n : ℕ) → 0 < base → base ≤ 16 → Clear (numeral base k n)
unfolding numeral
clear_numeral base zero n some few = tt
clear_numeral base (suc k) n some few =
    let d : n % base < base = mod-lt n some in
    clear_append (numeral base k (n / base)) (digit (n % base) ∷ []) (clear_numeral base k (n / base) some few)
    (clear_digit (n % base) (omega arith), tt)

pub clear_hex : (n : ℕ) → Clear (hex n)
unfolding hex
clear_hex n = clear_numeral 16 8 n (lit< tt) (lit≤ tt)

clear_within : (k n : ℕ) → Clear (decimal_within k n)
unfolding decimal_within
clear_within zero n = tt
clear_within (suc k) n =
    let d : n % 10 < 10 = mod-lt n (lit< tt) in
    chosen Clear (ltb n 10) (digit n ∷ []) (decimal_within k (n / 10) ++ (digit (n % 10) ∷ []))
    (λ low. let h : n < 10 = ltb-true n 10 low in (clear_digit n (omega arith), tt))
    (λ high. clear_append (decimal_within k (n / 10)) (digit (n % 10) ∷ []) (clear_within k (n / 10)) (
      clear_digit (n % 10)
          (omega arith),
      tt,
    ))

pub clear_decimal : (n : ℕ) → Clear (decimal n)
unfolding decimal
clear_decimal n = clear_within (suc n) n

-- ---- a text that begins with a line: its lines are that one and those of what follows
pub begins_with : (t s : List ℕ) → Clear t → input_lines (ended t ++ s) ≡ t ∷ input_lines s
unfolding lines_from
begins_with t s c =
    ap (λ (ls : Lines). with_last ls.finished ls.begun)
    (ap (lines_from []) (append_assoc t (newline ∷ []) s) ∙ lines_piece t (newline ∷ s) [] (clear_span t c))
    ∙ by_last (lines_from [] s).begun
  where
    by_last : (b : List ℕ) → with_last (t ∷ (lines_from [] s).finished) b ≡ t ∷ with_last (lines_from [] s).finished b
    by_last [] = refl
    by_last (b ∷ u) = refl

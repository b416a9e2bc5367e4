-- What is kept of a line says what the line says: no good line is longer than 128 bytes.
use mathlib.Core.Path.{◌≡◌, refl, ap, ◌∙◌}
use mathlib.Core.Bool.{false}
use mathlib.Core.List.{List}
use mathlib.Core.Logic.{⊎_elim}
use Prim.Native.Nat.{ℕ, ◌+◌, ◌≤◌, ◌<◌}
use native.Mathlib.Omega.{arith}
use lib.ListN.{length}
use borrow.Author.Tests.{le-leb, lt-leb}
use Rattle.lines.specs.Carry.{Held, fresh, has_begun, keep}
use Rattle.lines.specs.Lines.{count_digits}
use Rattle.lines.specs.Reading.{line_of}
use Rattle.std.specs.Prelude.{Option, Some, None}
use Rattle.lines.specs.declared.listed.Line.{Line}
use Rattle.lines.proofs.Cutting.{short_or_long, nothing_kept}
use Rattle.lines.proofs.Listings.{line_exact, listed_width}
use Rattle.compare.specs.Seen.{seen_in, read, read_kept}
use Rattle.compare.specs.declared.seen.Seen.TheVariants.{Bad}

-- a longer line is bad
pub long_is_bad : (v : ℕ) (l : List ℕ) → 128 < length l → read v l ≡ Bad
unfolding read
long_is_bad v l many = by_found (line_of (count_digits v) l) refl
  where
    by_found : (f : Option Line) → line_of (count_digits v) l ≡ f → seen_in v f ≡ Bad
    by_found None e = refl
    by_found (Some line) e =
        let was = line_exact (count_digits v) l line e in
        absurd (omega (arith, ap length was.bytes, listed_width (count_digits v) line was.listable))

pub kept_whole : (v : ℕ) (l : List ℕ) → read_kept v (keep fresh l) ≡ read v l
unfolding read_kept keep
kept_whole v l =
    ⊎_elim (λ (few : length l ≤ 128). rw (le-leb (0 + length l) 128 (omega arith)))
    (λ (many : 128 < length l). rw (lt-leb (0 + length l) 128 (omega arith), long_is_bad v l many))
    (short_or_long (length l))

-- where no line has begun, the bytes that follow are the whole line
pub kept_now : (v : ℕ) (h : Held) (s : List ℕ) → has_begun h ≡ false → read_kept v (keep h s) ≡ read v s
kept_now v h s e = ap (λ (k : Held). read_kept v (keep k s)) (nothing_kept h e) ∙ kept_whole v s

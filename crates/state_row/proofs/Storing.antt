-- Runs of bytes stored one behind the other, each into the row that the one before left, are one run; one as long as the row is all that
-- the row holds. Assumes nothing.
use Rattle.std.specs.Prelude.{◌≡◌, ℕ, ◌+◌, List, ◌++◌, length, drop}
use mathlib.Core.Path.{refl, ap, ◌∙◌}
use mathlib.Core.List.{append-nil}
use native.Mathlib.Omega.{arith}
use lib.Seq.{sets, sets-eq, drop-length}
use Rattle.numbers.specs.Stored.{Stored}
use Rattle.numbers.proofs.Stores.{stored_more}

-- the first run, up to a place
pub run : (l : List ℕ) {l' : List ℕ} (at : ℕ) (bytes : List ℕ) (next : ℕ) → next ≡ at + length bytes → l' ≡ sets l at bytes
    → Stored l at bytes next l'
run l at bytes next ends e = record { place = ends; bytes = e }

-- and one behind it
pub more : {l l' l'' : List ℕ} {at k : ℕ} {a : List ℕ} → Stored l at a k l' → (b : List ℕ) (next : ℕ) → next ≡ at + length (a ++ b)
    → l'' ≡ sets l' k b → Stored l at (a ++ b) next l''
more p b next ends e = record { place = ends; bytes = (stored_more p (record { place = refl; bytes = e })).bytes }

-- the same bytes, said otherwise
pub as_bytes : {l l' : List ℕ} {at next : ℕ} {a : List ℕ} → Stored l at a next l' → (b : List ℕ) → a ≡ b → l' ≡ sets l at b
as_bytes {l} {at = at} p b e = p.bytes ∙ ap (sets l at) e

-- a run from the first place of a row to its last
pub whole_row : {l l' : List ℕ} {next : ℕ} {a : List ℕ} → Stored l 0 a next l' → length l ≡ next → (b : List ℕ) → a ≡ b → l' ≡ b
whole_row {l} {next = next} {a = a} p full b e =
    let ends : next ≡ 0 + length a = p.place in
    let all : 0 + length a ≡ length l = omega arith in
    p.bytes
    ∙ sets-eq a l 0 (omega arith)
    ∙ ap (λ (n : ℕ). a ++ drop n l) all
    ∙ ap (λ (rest : List ℕ). a ++ rest) (drop-length l)
    ∙ append-nil a
    ∙ e

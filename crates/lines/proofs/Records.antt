-- A line is a record exactly where it is the written form of seven bit patterns; and the record has the floats of these.
use mathlib.Core.Path.{◌≡◌, ap, ◌∙◌, sym, subst}
use mathlib.Core.Bool.{true}
use mathlib.Core.List.{List, [], ◌∷◌}
use Prim.Native.Nat.{ℕ}
use native.Mathlib.Omega.{arith}
use lib.Dec.{eqb}
use lib.ListN.{length, get_or, drop, length-drop}
use borrow.Author.Tests.{eq-eqb, eqb-true}
use Rattle.lines.specs.declared.record.Walk.{Walk}
use Rattle.std.specs.Prelude.{Option}
use Rattle.std.specs.Prelude.{Some, None}
use Rattle.numbers.specs.Told.{choose}
use Rattle.lines.specs.Fields.{AreBits}
use Rattle.lines.specs.Parts.{tabbeds, all_good, bits_of}
use Rattle.lines.specs.Record.{walk_line, walk_of, record_of}
use Rattle.numbers.proofs.Flags.{chosen}
use Rattle.lines.proofs.Rows.{each, length_each, parted_each, rows_back, rows_exact, length_bits}

line_of : (ps : List ℕ) → walk_line ps ≡ 87 ∷ each ps
unfolding walk_line
line_of ps = parted_each (87 ∷ []) ps

-- the written form of seven patterns is the record of them
pub record_back : (ps : List ℕ) → length ps ≡ 7 → AreBits ps → record_of (walk_line ps) ≡ Some (walk_of ps)
unfolding record_of
record_back ps seven bits =
    let long : length (87 ∷ each ps) ≡ 64 = omega (arith, length_each ps) in
    let was = subst (λ (k : ℕ). (all_good true (tabbeds k (each ps)) ≡ true) × (bits_of (tabbeds k (each ps)) ≡ ps)) seven
    (rows_back ps true bits) in
    rw (line_of ps, eq-eqb (length (87 ∷ each ps)) 64 long, was.0, was.1)

-- what a record was read from
pub record ReadFrom (s : List ℕ) (w : Walk) : Type 0 where
  pub patterns : List ℕ
  pub seven : length patterns ≡ 7
  pub bits : AreBits patterns
  pub line : s ≡ walk_line patterns
  pub floats : w ≡ walk_of patterns

from_front : (s : List ℕ) → length s ≡ 64 → (ps : List ℕ) → get_or s 0 0 ≡ 87 → drop 1 s ≡ each ps → s ≡ walk_line ps
from_front [] e ps first rest = absurd (omega arith)
from_front (b ∷ s) e ps first rest = ap (λ (x : ℕ). x ∷ s) first ∙ ap (λ (t : List ℕ). 87 ∷ t) rest ∙ sym (line_of ps)

pub record_exact : (s : List ℕ) (w : Walk) → record_of s ≡ Some w → ReadFrom s w
unfolding record_of
record_exact s w =
    let fs = tabbeds 7 (drop 1 s) in
    let t = eqb (get_or s 0 0) 87 in
    chosen (λ (a : Option Walk). a ≡ Some w →
    ReadFrom s w) (eqb (length s) 64) (choose (all_good t fs) (Some (walk_of (bits_of fs))) None)
    None
    (λ long.
    let l : length s ≡ 64 = eqb-true (length s) 64 long in
    chosen (λ (a : Option Walk). a ≡ Some w → ReadFrom s w) (all_good t fs) (Some (walk_of (bits_of fs))) None
    (λ good e.
    let was = rows_exact 7 t (drop 1 s) (omega (arith, length-drop 1 s)) good in
    record {
      patterns = bits_of fs;
      seven = length_bits 7 (drop 1 s);
      bits = was.2;
      line = from_front s l (bits_of fs) (eqb-true (get_or s 0 0) 87 was.0) was.1;
      floats = cc;
    })
    (λ bad e. let z : ◌≡◌ {A = ℕ} 0 1 = cc in absurd (omega arith)))
    (λ short e. let z : ◌≡◌ {A = ℕ} 0 1 = cc in absurd (omega arith))

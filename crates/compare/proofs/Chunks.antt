-- A line in a chunk: it ends at the chunk's next newline, or goes on in the parts that follow.
use mathlib.Core.Path.{◌≡◌, ap, ◌∙◌, sym}
use mathlib.Core.Bool.{Bool}
use mathlib.Core.List.{List, ◌∷◌}
use mathlib.Core.Logic.{⊎_elim}
use Prim.Native.Nat.{ℕ, suc, ◌+◌, ◌-◌, ◌≤◌, ◌<◌, min}
use native.Mathlib.Omega.{arith}
use lib.ListN.{length, take, drop, length-drop, drop_of_length-le}
use lib.Seq.{take_all, drop-drop}
use borrow.Author.Tests.{lt-ltb, le-ltb}
use Rattle.lines.specs.Carry.{Held, keep}
use Rattle.lines.specs.Fields.{newline, span}
use Rattle.numbers.proofs.Flags.{lt_or_le}
use Rattle.compare.specs.Seen.{read_kept}
use Rattle.compare.specs.Parts.{Pulled, pulled}

-- a part with a newline, and one without
abbrev ended : ℕ → Bool → Held → List ℕ → ℕ → List (List ℕ) → Pulled
ended v f h q k ps =
    record { what = read_kept v (keep h (take k q)); left = record { failed = f; parts = drop (suc k) q ∷ ps } }

module _ (v : ℕ) (f : Bool) (h : Held) (q : List ℕ) (ps : List (List ℕ)) where
  part_ends : span newline q < length q → pulled v f h (q ∷ ps) ≡ ended v f h q (span newline q) ps
  unfolding pulled
  part_ends e = rw (lt-ltb (span newline q) (length q) e)

  part_goes_on : length q ≤ span newline q → pulled v f h (q ∷ ps) ≡ pulled v f (keep h q) ps
  unfolding pulled
  part_goes_on e = rw (le-ltb (span newline q) (length q) e)

-- from a place of a chunk on, which may be past its end
module _ (chunk : List ℕ) (from start end : ℕ) (is : start ≡ min from (length chunk)) (at : end ≡ start + span newline (drop start chunk))
  where
    from_start : drop from chunk ≡ drop start chunk
    from_start =
        ⊎_elim (λ (inside : from < length chunk). let e : from ≡ start = omega arith in ap (λ (k : ℕ). drop k chunk) e)
        (λ (past : length chunk ≤ from).
        let e : length chunk ≤ start = omega arith in drop_of_length-le chunk past ∙ sym (drop_of_length-le chunk e))
        (lt_or_le from (length chunk))

    pub line_ends : (v : ℕ) (f : Bool) (h : Held) (ps : List (List ℕ)) → end < length chunk → pulled v f h (drop from chunk ∷ ps)
        ≡ record {
          what = read_kept v (keep h (take (end - start) (drop start chunk)));
          left = record { failed = f; parts = drop (end + 1) chunk ∷ ps };
        }
    line_ends v f h ps inside =
        let q = drop start chunk in
        let k : end - start ≡ span newline q = omega arith in
        let d : start + suc (end - start) ≡ end + 1 = omega arith in
        ap (λ (p : List ℕ). pulled v f h (p ∷ ps)) from_start
        ∙ part_ends v f h q ps (omega (arith, length-drop start chunk))
        ∙ ap (λ (j : ℕ). ended v f h q j ps) (sym k)
        ∙ ap (λ (t : List ℕ). record {
          what = read_kept v (keep h (take (end - start) q));
          left = record { failed = f; parts = t ∷ ps };
        }) (drop-drop (suc (end - start)) start chunk ∙ ap (λ (j : ℕ). drop j chunk) d)

    pub line_goes_on : (v : ℕ) (f : Bool) (h : Held) (ps : List (List ℕ)) → length chunk ≤ end
        → pulled v f h (drop from chunk ∷ ps) ≡ pulled v f (keep h (take (length chunk - start) (drop start chunk))) ps
    line_goes_on v f h ps past =
        let q = drop start chunk in
        ap (λ (p : List ℕ). pulled v f h (p ∷ ps)) from_start
        ∙ part_goes_on v f h q ps (omega (arith, length-drop start chunk))
        ∙ ap (λ (p : List ℕ). pulled v f (keep h p) ps) (sym (take_all (length chunk - start) q (omega (arith, length-drop start chunk))))

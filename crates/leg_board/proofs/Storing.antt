-- What the C function answers and stores, from what the step tells of numbers that are read. Assumes nothing.
use mathlib.Core.Path.{◌≡◌, sym, ap, ap₂, ◌∙◌}
use Prim.Native.Nat.{ℕ}
use lib.Dec.{eqb}
use lib.IntN.{ℤ}
use mir.Syntax.{w32}
use mir.Val.{SFits}
use Rattle.std.specs.Prelude.{Result, Ok, Err}
use Rattle.numbers.specs.Refusals.{number_of}
use Rattle.numbers.specs.declared.refusal.Refusal.{Refusal}
use Rattle.numbers.proofs.Flags.{where_true, where_false}
use Rattle.wholes.specs.Wholes.{refusal}
use Rattle.wholes.specs.Answers.{told, step_leg_told}
use Rattle.wholes.specs.declared.WholePoint.{WholePoint}
use Rattle.wholes.proofs.Steps.{read, as_read, same_point}
use Rattle.wholes.proofs.Exactly.{at_is, refused_is}
use Rattle.leg_board.specs.Stored.{point, stored}

-- a point of numbers that are read
pub point_read : (x y z : ℤ) → SFits w32 x → SFits w32 y → SFits w32 z → point (read x) (read y) (read z) ≡ point x y z
point_read x y z X Y Z = same_point (as_read x X) (as_read y Y) (as_read z Z)

pub same_told : {a b c d : WholePoint} {h i p q : ℤ} → a ≡ b → c ≡ d → h ≡ i → p ≡ q → step_leg_told a c h p ≡ step_leg_told b d i q
same_told {a} {b} {c} {d} {h} {i} {p} {q} e f g k =
    ap₂ (λ (x y : WholePoint). step_leg_told x y h p) e f ∙ ap₂ (λ (x y : ℤ). step_leg_told b d x y) g k

module _ (start target held : WholePoint) (height progress : ℤ) (r : Result WholePoint Refusal)
    (tells : told r ≡ step_leg_told start target height progress)
  where
    pub stored_at : (foot : WholePoint) → r ≡ Ok foot
        → (0 ≡ refusal start target height progress) × (foot ≡ stored start target height progress held)
    stored_at foot e =
        let a = at_is start target height progress foot (sym (ap told e) ∙ tells) in (
          sym a.0,
          a.1 ∙ where_true (eqb (refusal start target height progress) 0) _ held (ap (λ (n : ℕ). eqb n 0) a.0),
        )

    pub kept : (why : Refusal) → r ≡ Err why
        → (number_of why ≡ refusal start target height progress) × (held ≡ stored start target height progress held)
    kept why e =
        let a = refused_is start target height progress why (sym (ap told e) ∙ tells) in
        (a.0, where_false (eqb (refusal start target height progress) 0) _ held a.1)

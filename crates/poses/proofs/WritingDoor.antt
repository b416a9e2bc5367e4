-- The door of writing: what is permitted is finite, so that one pass tells; and what a permitted point and pose say of each part.
use Rattle.std.specs.Prelude.{◌≡◌, ℕ, Bool, true, false, ◌&&◌, T, eqb, List, [], ◌∷◌, length}
use mathlib.Core.Path.{refl, sym, ap, ◌∙◌}
use native.Mathlib.Nat.{zero-add}
use native.Mathlib.Omega.{arith}
use lib.Seq.{sets}
use borrow.Author.Tests.{eq-eqb, eqb-true}
use lib.Ieee.Bits.{is_true}
use Rattle.numbers.specs.Told.{refused, given, choose}
use Rattle.numbers.specs.Door.{permits, unless}
use Rattle.numbers.specs.Limits.{foot_limit}
use Rattle.numbers.proofs.OnePass.{and_left, and_right, let_through_to, kept_out_of, none_refused_before}
use Rattle.units.proofs.Door.{holds}
use Rattle.legs.specs.Legs.{permitted_point}
use Rattle.legs.specs.declared.Point.{Point}
use Rattle.legs.proofs.OnePass.{all_six, in_foot_row}
use Rattle.numbers.specs.Stored.{Stored}
use Rattle.std.specs.Prelude.{Some, None}
use Rattle.poses.specs.Answers.{OptionalFoot, OptionalLegPositions}
use Rattle.numbers.specs.Refusals.{number_of}
use Rattle.numbers.specs.declared.refusal.Refusal.{Refusal}
use Rattle.numbers.proofs.Numbers.{has_a_number}
use Rattle.numbers.proofs.Admitted.{admitted, turned_back}
use Rattle.poses.specs.Answers.{leg_of, given_length}
use Rattle.poses.specs.Writing.{foot_finite, foot_permitted, pose_finite, pose_permitted, row_length, write_refused}
use Rattle.poses.specs.Writing.{pose_text, to_json_told, row_after}
use Rattle.numbers.proofs.Flags.{by_test}

-- ---- a permitted point's coordinates
module _ (p : Point) (h : permitted_point foot_limit p ≡ true) where
  x : Bool
  x = permits foot_limit p.x

  y : Bool
  y = permits foot_limit p.y

  z : Bool
  z = permits foot_limit p.z

  pub permits_x : T (permits foot_limit p.x)
  unfolding permitted_point x y z
  permits_x = holds {b = x} (and_left x y (and_left (x && y) z h))

  pub permits_y : T (permits foot_limit p.y)
  unfolding permitted_point x y z
  permits_y = holds {b = y} (and_right x y (and_left (x && y) z h))

  pub permits_z : T (permits foot_limit p.z)
  unfolding permitted_point x y z
  permits_z = holds {b = z} (and_right (x && y) z h)

-- ---- one pass
foot_finite_lem : (f : OptionalFoot) → foot_permitted f ≡ true → foot_finite f ≡ true
foot_finite_lem (Some f) h = in_foot_row f.point h
foot_finite_lem None h = refl

pose_finite_lem : (p : OptionalLegPositions) → pose_permitted p ≡ true → pose_finite p ≡ true
pose_finite_lem p = all_six (λ l. foot_permitted (leg_of p l)) (λ l. foot_finite (leg_of p l)) (λ l. foot_finite_lem (leg_of p l))

module _ (p : OptionalLegPositions) (n : ℕ) where
  pub room_alone : pose_permitted p ≡ true → unless (eqb n row_length) 5 ≡ write_refused p n
  unfolding write_refused
  room_alone h = let_through_to _ (pose_finite_lem p h) h

  pub coordinates_alone : pose_permitted p ≡ false → choose (pose_finite p) 2 1 ≡ write_refused p n
  unfolding write_refused
  coordinates_alone h = kept_out_of (pose_finite p) (pose_permitted p) (unless (eqb n row_length) 5) h

  -- no refusal: all are permitted, and the row has its length
  pub all_permitted : write_refused p n ≡ 0 → pose_permitted p ≡ true
  unfolding write_refused
  all_permitted e = is_true (pose_permitted p) (none_refused_before (pose_finite p) (pose_permitted p) (unless (eqb n row_length) 5) e)

  pub row_long : write_refused p n ≡ 0 → n ≡ row_length
  row_long e =
      by_test (eqb n row_length) (eqb-true n row_length)
      (λ other.
      let refusal : 5 ≡ 0 = sym (ap (λ (b : Bool). unless b 5) other) ∙ room_alone (all_permitted e) ∙ e in
      absurd (omega arith))

-- ---- the answer and the row
module _ (p : OptionalLegPositions) (row : List ℕ) where
  pub refused_told : (r : Refusal) → number_of r ≡ write_refused p (length row)
      → (refused (number_of r) ≡ to_json_told p (length row)) × (row ≡ row_after p row)
  unfolding to_json_told row_after
  refused_told r is =
      let e : eqb (write_refused p (length row)) 0 ≡ false = sym (ap (λ (n : ℕ). eqb n 0) is) ∙ has_a_number r in (
        turned_back r _ _ is,
        sym (ap (λ (b : Bool). choose b (sets row 0 (pose_text p)) row) e),
      )

  pub written_told : 0 ≡ write_refused p (length row) → {r : ℕ} {after : List ℕ} → Stored row 0 (pose_text p) r after
      → (given_length r ≡ to_json_told p (length row)) × (after ≡ row_after p row)
  unfolding to_json_told row_after
  written_told none stored =
      let e : eqb (write_refused p (length row)) 0 ≡ true = eq-eqb (write_refused p (length row)) 0 (sym none) in (
        admitted _ _ _ none (ap (λ (m : ℕ). given (m ∷ []) []) (stored.place ∙ zero-add (length (pose_text p)))),
        stored.bytes ∙ sym (ap (λ (b : Bool). choose b (sets row 0 (pose_text p)) row) e),
      )

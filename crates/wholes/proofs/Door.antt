-- The door of a step: refusal 2 where one of the four tests fails; where none does, each number is in its range. Assumes nothing.
use mathlib.Core.Path.{◌≡◌, sym, ap, ap₂}
use mathlib.Core.Bool.{Bool, true, false, ◌&&◌}
use lib.IntN.{ℤ, nat_abs}
use Rattle.numbers.specs.Told.{refused, answer}
use Rattle.numbers.specs.Door.{unless}
use Rattle.numbers.proofs.OnePass.{and_left, and_right}
use Rattle.wholes.specs.Wholes.{is_coordinate, is_place, is_height, is_progress, whole_step}
use Rattle.wholes.specs.Answers.{given_point, step_leg_told}
use Rattle.wholes.specs.declared.WholePoint.{WholePoint}

abbrev pub all_good : WholePoint → WholePoint → ℤ → ℤ → Bool
all_good start target height progress = is_place start && is_place target && is_height height && is_progress progress

pub four : {a b c d e f g h : Bool} → a ≡ e → b ≡ f → c ≡ g → d ≡ h → (a && b && c && d) ≡ (e && f && g && h)
four i j k l = ap₂ (λ (x y : Bool). x && y) (ap₂ (λ (x y : Bool). x && y) (ap₂ (λ (x y : Bool). x && y) i j) k) l

module _ (start target : WholePoint) (height progress : ℤ) where
  pub turned_away : all_good start target height progress ≡ false → refused 2 ≡ step_leg_told start target height progress
  turned_away e = sym (ap (λ (t : Bool). answer (unless t 2) (given_point (whole_step start target (nat_abs height) (nat_abs progress)))) e)

  pub let_through : all_good start target height progress ≡ true
      → given_point (whole_step start target (nat_abs height) (nat_abs progress)) ≡ step_leg_told start target height progress
  let_through e = sym (ap (λ (t : Bool). answer (unless t 2) (given_point (whole_step start target (nat_abs height) (nat_abs progress)))) e)

  -- ---- what was let through
  pub progress_good : all_good start target height progress ≡ true → is_progress progress ≡ true
  progress_good e = and_right (is_place start && is_place target && is_height height) (is_progress progress) e

  three : all_good start target height progress ≡ true → (is_place start && is_place target && is_height height) ≡ true
  three e = and_left (is_place start && is_place target && is_height height) (is_progress progress) e

  pub height_good : all_good start target height progress ≡ true → is_height height ≡ true
  height_good e = and_right (is_place start && is_place target) (is_height height) (three e)

  places : all_good start target height progress ≡ true → (is_place start && is_place target) ≡ true
  places e = and_left (is_place start && is_place target) (is_height height) (three e)

  pub start_good : all_good start target height progress ≡ true → is_place start ≡ true
  start_good e = and_left (is_place start) (is_place target) (places e)

  pub target_good : all_good start target height progress ≡ true → is_place target ≡ true
  target_good e = and_right (is_place start) (is_place target) (places e)

module _ (p : WholePoint) (h : is_place p ≡ true) where
  x_and_y : (is_coordinate p.x && is_coordinate p.y) ≡ true
  x_and_y = and_left (is_coordinate p.x && is_coordinate p.y) (is_coordinate p.z) h

  pub x_good : is_coordinate p.x ≡ true
  x_good = and_left (is_coordinate p.x) (is_coordinate p.y) x_and_y

  pub y_good : is_coordinate p.y ≡ true
  y_good = and_right (is_coordinate p.x) (is_coordinate p.y) x_and_y

  pub z_good : is_coordinate p.z ≡ true
  z_good = and_right (is_coordinate p.x && is_coordinate p.y) (is_coordinate p.z) h

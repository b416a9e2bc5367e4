-- What the entry that reads answers, from what was gathered.
use Rattle.std.specs.Prelude.{◌≡◌, ℕ, List, length}
use mathlib.Core.Path.{ap, ◌∙◌}
use Rattle.numbers.specs.Told.{refused, answer}
use Rattle.numbers.specs.Refusals.{number_of}
use Rattle.numbers.specs.declared.refusal.Refusal.{Refusal}
use Rattle.numbers.proofs.Admitted.{admitted, turned_back}
use Rattle.poses.specs.Answers.{OptionalLegPositions, given_pose}
use Rattle.poses.specs.Reading.{from_json_told}
use Rattle.poses.specs.Gathering.{object_read, progress_refused, pose_from}
use Rattle.poses.specs.declared.object.Progress.{Progress}
use Rattle.poses.proofs.Gathered.{gathered}

module _ (s : List ℕ) (p : Progress) (read : p ≡ object_read s) where
  said : answer (progress_refused p (length s)) (given_pose (pose_from p.slots)) ≡ from_json_told s
  said =
      ap (λ (q : Progress). answer (progress_refused q (length s)) (given_pose (pose_from q.slots))) read
      ∙ gathered s

  pub pose_told : (q : OptionalLegPositions) → q ≡ pose_from p.slots → 0 ≡ progress_refused p (length s) → given_pose q ≡ from_json_told s
  pose_told q is taken = admitted _ _ _ taken (ap given_pose is) ∙ said

  pub refusal_told : (r : Refusal) → number_of r ≡ progress_refused p (length s) → refused (number_of r) ≡ from_json_told s
  refusal_told r is = turned_back r _ _ is ∙ said

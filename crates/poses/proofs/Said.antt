-- What the entry that reads tells, by the grammar alone: where a text is derived with some members, what these say; where it is not, 13.
use Rattle.std.specs.Prelude.{◌≡◌, ℕ, List}
use mathlib.Core.Path.{ap}
use Rattle.numbers.specs.Told.{refused, answer}
use Rattle.poses.specs.Json.{Member, Text}
use Rattle.poses.specs.Answers.{given_pose}
use Rattle.poses.specs.Reading.{members_refused, pose_of, read_told, from_json_told}
use Rattle.poses.proofs.Exact.{accepted_exactly, underived_exactly}

pub told_derived : (s : List ℕ) (ms : List Member) → Text ms s → from_json_told s ≡ answer (members_refused ms) (given_pose (pose_of ms))
unfolding read_told
told_derived s ms d = ap read_told ((accepted_exactly s ms).1 d)

pub told_underived : (s : List ℕ) → ((ms : List Member) → Text ms s → ⊥) → from_json_told s ≡ refused 13
unfolding read_told
told_underived s none = ap read_told ((underived_exactly s).1 none)

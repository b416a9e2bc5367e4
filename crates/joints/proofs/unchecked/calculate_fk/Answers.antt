-- `joints::unchecked::calculate_fk` meets its contract, leg by leg: three places of the row of turns are those of its bends.
use Rattle.std.specs.Prelude.{◌≡◌, ℕ, List, map, get_or}
use mathlib.Core.Path.{ap, ◌∙◌}
use lib.Ieee.{nan}
use Rattle.sines.specs.How.{turn}
use Rattle.sines.specs.declared.unchecked.Turn.{Turn}
use Rattle.legs.specs.Legs.{left_front, right_front, left_middle, right_middle, left_rear, right_rear, angles}
use Rattle.joints.specs.Forward.{standing_points}
use Rattle.joints.specs.How.{bends_of, all_bends}
use Rattle.joints.proofs.unchecked.calculate_fk.Goals as goal

-- what a read past the row would give
abbrev nothing : Turn
nothing = record { sine = nan; cosine = nan }

pub returns : goal.returns
unfolding standing_points all_bends bends_of
returns c =
    let read : (k : ℕ) → get_or c.turns-t.result k nothing ≡ get_or (map turn (all_bends c.args.joints c.args.config)) k nothing =
    λ k. ap (λ (l : List Turn). get_or l k nothing) (c.turns-t.ensures ∙ ap (map turn) c.all_bends.ensures) in
    let j = c.args.joints in
    simp (
      c.standing-6.ensures (angles j right_rear) (read 15) (read 16) (read 17),
      c.standing-5.ensures (angles j right_middle) (read 12) (read 13) (read 14),
      c.standing-4.ensures (angles j right_front) (read 9) (read 10) (read 11),
      c.standing-3.ensures (angles j left_rear) (read 6) (read 7) (read 8),
      c.standing-2.ensures (angles j left_middle) (read 3) (read 4) (read 5),
      c.standing.ensures (angles j left_front) (read 0) (read 1) (read 2),
    )

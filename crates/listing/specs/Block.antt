-- How ours prints a block: what is left of it, the line that comes next, and the part of it that a buffer takes.
use Rattle.std.specs.Prelude.{◌≡◌, ℕ, zero, suc, ◌+◌, ◌-◌, ◌<◌, ◌≤◌, Bool, true, false, not, ◌&&◌, List, [], ◌++◌, length, ◌==◌, nat_lt}
use Rattle.std.specs.Prelude.{Float}
use Rattle.legs.specs.declared.Point.{Point}
use Rattle.moves.specs.Distance.{same}
use Rattle.moves.specs.Moving.{move_towards, point_of}
use Rattle.numbers.specs.Told.{choose}
use Rattle.numbers.specs.Stored.{Stored}
use Rattle.lines.specs.Lines.{written}
use Rattle.lines.specs.declared.listed.Line.{Line}
use Rattle.lines.specs.declared.listed.Line.TheVariants.{Arrived, Refused}
use Rattle.listing.specs.Listing.{step}
use Rattle.listing.specs.declared.block.Rest.{Rest}
use Rattle.listing.specs.declared.block.Rest.TheVariants.{Walking, Refusing, Done}
use Rattle.listing.specs.declared.block.Next.{Next}
use Rattle.numbers.specs.Refusals.{number_of}

-- the last line of a block
abbrev pub end_line : ℕ → ℕ → Line
end_line count refused = choose (refused == 0) (Arrived count) (Refused refused)

-- the most steps that a block shows: no walk within the table of permitted numbers has more
unfoldable pub most_steps : ℕ
most_steps = 147457

-- whether another step follows, after k of them, at l
unfoldable pub moves_on : Point → Point → ℕ → Bool
moves_on l t k = not (same l t) && nat_lt k most_steps

-- at most d steps more, from l on, until it is at the target, the first of them the one after k; then the last line: the count, or the
-- number of a refusal
unfoldable pub left : Float → Point → ℕ → ℕ → ℕ → Point → List ℕ
left m t refused k zero l = written (end_line k refused)
left m t refused k (suc d) l =
    choose (same l t) (written (end_line k refused))
    (written (step (k + 1) (point_of (move_towards l t m))) ++ left m t refused (k + 1) d (point_of (move_towards l t m)))

unfoldable pub text_of : Rest → List ℕ
text_of (Walking w) = left w.max_move w.target w.refused w.made (most_steps - w.made) w.last
text_of (Refusing r) = written (Refused (number_of r))
text_of Done = []

-- whether nothing is left
abbrev pub is_done : Rest → Bool
is_done (Walking w) = false
is_done (Refusing r) = false
is_done Done = true

-- how many lines are left at most
unfoldable pub lines_left : Rest → ℕ
lines_left (Walking w) = suc (most_steps - w.made)
lines_left (Refusing r) = 1
lines_left Done = 0

-- the next line of a block and what is left after it
pub record IsNext (r : Rest) (n : Next) : Type 0 where
  pub joins : text_of r ≡ written n.line ++ text_of n.rest
  pub fewer : lines_left n.rest < lines_left r

-- a part of a text, stored from a place on, and what is left of it. From a place in the buffer it leads to one, so that no byte is lost
pub record Part (before : List ℕ) (at : ℕ) (whole : List ℕ) (next : ℕ) (rest : List ℕ) (after : List ℕ) : Type 0 where
  pub text : List ℕ
  pub stored : Stored before at text next after
  pub joins : whole ≡ text ++ rest
  pub within : at ≤ length before → next ≤ length after

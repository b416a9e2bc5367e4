-- How ours stores what is left to print and goes through the lines that lie whole in a part.
use Rattle.std.specs.Prelude.{◌≡◌, ℕ, ◌+◌, ◌<◌, ◌≤◌, Bool, false, List, length, Option, IfSome}
use Rattle.lines.specs.Carry.{held, fresh}
use Rattle.lines.specs.Lines.{has_room}
use Rattle.lines.specs.declared.carry.Carry.{Carry}
use Rattle.listing.specs.Printer.{Puts}
use Rattle.listing.specs.declared.printer.Reached.{Reached}
use Rattle.listing.specs.declared.stretch.Stretch.{Stretch}

-- the printer that it belongs to
abbrev pub reached : Carry → Stretch → Reached
reached c g = record { printer = record { carry = c; rest = g.rest }; from = g.from; at = g.at }

-- what is left is stored as far as there is room, whatever part and row it is
abbrev pub Stores : List ℕ → Stretch → List ℕ → Stretch → Type 0
Stores before g after h =
    (h.from ≡ g.from) × ((part : List ℕ) (c : Carry) → Puts part before (reached c g).printer g.from g.at after (reached c h))

-- from one place to another: what a call does, with a row of which nothing is kept, unless a line has begun
abbrev pub Goes : List ℕ → Bool → List ℕ → Stretch → List ℕ → Stretch → Type 0
Goes part begun before g after h =
    (c : Carry) → (begun ≡ false → held c ≡ fresh) → Puts part before (reached c g).printer g.from g.at after (reached c h)

-- a buffer without a line's room changes nothing
abbrev pub Unmoved : List ℕ → Stretch → Stretch → Type 0
Unmoved before g h = has_room before g.at ≡ false → h ≡ g

-- one line is read where nothing is left to print and a buffer of n bytes has room: nothing of it is stored yet
pub record Read (part : List ℕ) (n : ℕ) (g h : Stretch) : Type 0 where
  pub goes : (buf : List ℕ) → Goes part false buf g buf h
  pub nearer : (g.from < h.from) × (h.from ≤ length part)
  pub room : g.at + 40 ≤ n

abbrev pub ReadsOn : List ℕ → ℕ → Stretch → Option Stretch → Type 0
ReadsOn part n g next = IfSome next (λ h. Read part n g h)

-- Document 01, "The walk printer", with the header of request K9: what is printed for a line, and for a whole input.
use Rattle.std.specs.Prelude.{◌≡◌, ℕ, zero, suc, List, [], ◌∷◌, ◌++◌, map, ◌==◌}
use Rattle.std.specs.Prelude.{Float}
use Rattle.legs.specs.declared.Point.{Point}
use Rattle.walks.specs.Walk.{point_after, Walk}
use Rattle.walks.specs.Answers.{walk_refusal}
use Rattle.numbers.specs.Told.{choose}
use Rattle.lines.specs.Record.{record_of, shown_bits}
use Rattle.lines.specs.Lines.{written}
use Rattle.lines.specs.declared.listed.Line.{Line}
use Rattle.lines.specs.declared.listed.Line.TheVariants.{Header, Move, Arrived, Refused}
use Rattle.lines.specs.declared.record.Place.{Place}
use Rattle.std.specs.Prelude.{Option}
use Rattle.lines.specs.declared.record.Walk.{Walk as Record}
use Rattle.std.specs.Prelude.{Some, None}
use Rattle.lines.specs.Carry.{input_lines}

-- a record's place as a point
abbrev pub point_at : Place → Point
point_at p = record { x = p.x; y = p.y; z = p.z }

-- `M`, the count of a step, the new point
abbrev pub step : ℕ → Point → Line
step k p = Move (record { count = k; x = shown_bits p.x; y = shown_bits p.y; z = shown_bits p.z })

-- `M` k with the k-th point of the walk of max move m from s to t: d of these lines, after the first j
unfoldable pub steps : Float → Point → Point → ℕ → ℕ → List ℕ
steps m s t j zero = []
steps m s t j (suc d) = written (step (suc j) (point_after m s t (suc j))) ++ steps m s t (suc j) d

-- a walk of n steps: those from 1 to n, then `A` and n
abbrev pub walk_block : Float → Point → Point → ℕ → List ℕ
walk_block m s t n = steps m s t 0 n ++ written (Arrived n)

-- "A bad line or refused walk prints `R`, tab, number, and nothing else for that line"
abbrev pub WalkPrints : Float → Point → Point → List ℕ → Type 0
WalkPrints m s t text =
    (n : ℕ)
    × (text ≡ choose (walk_refusal m s t == 0) (walk_block m s t n) (written (Refused (walk_refusal m s t))))
    × (walk_refusal m s t ≡ 0 → Walk m s t n)

abbrev pub Prints : Option Record → List ℕ → Type 0
Prints (Some w) text = WalkPrints w.max_move (point_at w.start) (point_at w.target) text
Prints None text = text ≡ written (Refused 7)

-- what each line prints, joined
abbrev pub AllPrint : List (Option Record) → List ℕ → Type 0
AllPrint [] text = text ≡ []
AllPrint (a ∷ as') text = (first : List ℕ) × (others : List ℕ) × (text ≡ first ++ others) × Prints a first × AllPrint as' others

-- request K9: "listings get header `hopper-walk`, tab, `2`"
abbrev pub listing_version : ℕ
listing_version = 2

-- "The header comes first"
abbrev pub Listing : List ℕ → List ℕ → Type 0
Listing input text =
    (blocks : List ℕ) × (text ≡ written (Header listing_version) ++ blocks) × AllPrint (map record_of (input_lines input)) blocks

-- A stretch of a part: what is left is stored, one line more is read, and two stretches behind each other are one.
use Rattle.std.specs.Prelude.{◌≡◌, ℕ, ◌+◌, ◌-◌, ◌<◌, ◌≤◌, Bool, true, false, not, ◌&&◌, List, length, take, drop, Option, leb}
use mathlib.Core.Path.{refl, ap, ◌∙◌, sym, subst}
use mathlib.Core.Bool.{false≢true}
use native.Mathlib.Omega.{arith}
use borrow.Author.Tests.{leb-true, le-leb}
use Rattle.lines.specs.Carry.{Held, held, keep}
use Rattle.lines.specs.Fields.{newline, field_end}
use Rattle.lines.specs.Lines.{has_room}
use Rattle.lines.specs.Record.{record_of}
use Rattle.lines.specs.declared.record.Walk.{Walk}
use Rattle.listing.specs.Listing.{Prints}
use Rattle.listing.specs.Asks.{asks}
use Rattle.listing.specs.Block.{text_of, is_done, Part}
use Rattle.listing.specs.Stretch.{reached, Stores, Goes, Unmoved, Read}
use Rattle.listing.specs.declared.block.Rest.{Rest}
use Rattle.listing.specs.declared.block.Filled.{Filled}
use Rattle.listing.specs.declared.stretch.Stretch.{Stretch}
use Rattle.listing.proofs.Asking.{asks_whole}
use Rattle.listing.proofs.Blocks.{same_room, no_room}
use Rattle.listing.proofs.Feeding.{reads_line, fills_nothing, puts_left, puts_line, puts_more}

-- what is left is stored
pub stores : (before after : List ℕ) (g : Stretch) (f : Filled) → Part before g.at (text_of g.rest) f.at (text_of f.rest) after
    → Stores before g after (record { rest = f.rest; from = g.from; at = f.at })
stores before after g f stored = (
  refl,
  λ part c.
      puts_left (reached c g) (reached c (record { rest = f.rest; from = g.from; at = f.at }))
      (record { same = refl; place = refl; stored = stored }),
)

pub goes_nowhere : (part buf : List ℕ) (begun : Bool) (g : Stretch) → Goes part begun buf g buf g
goes_nowhere part buf begun g c none = puts_left (reached c g) (reached c g) (fills_nothing buf (reached c g))

-- and then what a stretch behind it does
pub goes_more : {part before between after : List ℕ} {begun : Bool} (g h k : Stretch) → Goes part begun before g between h
    → Goes part begun between h after k → Goes part begun before g after k
goes_more g h k x y c none = puts_more (reached c h) (reached c k) (x c none) (y c none)

-- a line is read where nothing is left and there is room
pub may_read : (d r : Bool) → (not (not d) && r) ≡ true → (d ≡ true) × (r ≡ true)
may_read true r e = (refl, e)
may_read false r e = absurd (false≢true e)

module _ (part : List ℕ) (n : ℕ) (g : Stretch) (end : ℕ) (whole : Rest) (is : end ≡ field_end newline part g.from)
    (inside : end < length part) (goes : (not (not (is_done g.rest)) && leb (g.at + 40) n) ≡ true)
    (prints : Prints (record_of (take (end - g.from) (drop g.from part))) (text_of whole)) where
  abbrev behind : Stretch
  behind = record { rest = whole; from = end + 1; at = g.at }

  pub reads_on : Read part n g behind
  reads_on =
      let ready = may_read (is_done g.rest) (leb (g.at + 40) n) goes in
      let l = take (end - g.from) (drop g.from part) in
      let from_inside : g.from < length part = omega arith in
      record {
        goes = λ buf c whole_lines.
            let none = whole_lines refl in
            let same : record_of l ≡ asks (keep (held c) l) = sym (ap (λ (k : Held). asks (keep k l)) none ∙ asks_whole l) in
            puts_line (reached c behind) (reached c behind)
            (reads_line part (reached c g).printer g.from end (reached c behind) is from_inside ready.0 inside refl none
            (subst (λ (a : Option Walk). Prints a (text_of whole)) same prints))
            (fills_nothing buf (reached c behind));
        nearer = (omega arith, omega arith);
        room = leb-true (g.at + 40) n ready.1;
      }

-- with a line's room more lines may come, without it all stays
pub moved_on : {A : Type 0} (before buf : List ℕ) (g h : Stretch) → Unmoved before g h → length buf ≡ length before
    → h.at + 40 ≤ length buf → has_room before g.at ≡ false → A
moved_on before buf g h same long room none =
    no_room before buf g.at h.at none (ap (λ (s : Stretch). s.at) (same none)) long (le-leb (h.at + 40) (length buf) room)

pub unmoved_more : (before between : List ℕ) (g h k : Stretch) → length between ≡ length before → Unmoved before g h
    → Unmoved between h k → Unmoved before g k
unmoved_more before between g h k long x y none =
    y (sym (same_room before between g.at h.at (ap (λ (s : Stretch). s.at) (x none)) long) ∙ none) ∙ x none

-- ---- behind a stretch more is stored
module _ (part : List ℕ) (begun : Bool) {before between after : List ℕ} {g h k : Stretch} where
  pub filled_behind : length between ≡ length before → Goes part begun before g between h → Unmoved before g h
      → Stores between h after k → Unmoved between h k → Goes part begun before g after k × Unmoved before g k
  filled_behind long goes same stored still =
      (goes_more g h k goes (λ c none. stored.1 part c), unmoved_more before between g h k long same still)

-- or a line is read, where none has begun
pub read_behind : {part before after : List ℕ} {n : ℕ} {g h k : Stretch} (begun : Bool) → begun ≡ false → Goes part begun before g after h
    → Read part n h k → Goes part begun before g after k
read_behind {after = after} {g = g} {h = h} {k = k} begun whole goes read =
    goes_more g h k goes (λ c none. read.goes after c (λ z. none whole))

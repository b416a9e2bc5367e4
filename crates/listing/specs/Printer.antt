-- Request K3: "The printer's reader must accept a record cut anywhere, keep at most 128 bytes of an unfinished line, and give the same
-- records and refusals as for the joined input." What a call of the printer does, told as what is kept of the unfinished line, as the text
-- that is left to print, and as bytes stored; and what a run of such calls over the parts of an input prints.
use Rattle.std.specs.Prelude.{◌≡◌, ℕ, zero, suc, ◌+◌, ◌≤◌, Bool, true, ◌&&◌, List, [], ◌∷◌, ◌++◌, map, length, take, drop, nat_le}
use Rattle.numbers.specs.Told.{choose}
use Rattle.lines.specs.Carry.{held, fresh, has_begun, Run, run_from}
use Rattle.lines.specs.Lines.{written}
use Rattle.lines.specs.declared.listed.Line.TheVariants.{Header}
use Rattle.listing.specs.Listing.{AllPrint, listing_version}
use Rattle.listing.specs.Asks.{asks}
use Rattle.listing.specs.Block.{is_done, text_of, Part}
use Rattle.listing.specs.declared.printer.Printer.{Printer}
use Rattle.listing.specs.declared.printer.Reached.{Reached}

-- ---- what the functions promise
-- nothing is read, nothing is left to print
pub record Fresh (p : Printer) : Type 0 where
  pub nothing : held p.carry ≡ fresh
  pub idle : (is_done p.rest) ≡ true

-- lines are finished and one has begun: what is kept of it, and what the finished ones print
pub record Takes (run : Run) (r : Printer) : Type 0 where
  pub kept : held r.carry ≡ run.begun
  pub blocks : List ℕ
  pub print : AllPrint (map asks run.finished) blocks

-- some bytes of a part are read, from a place on
pub record Reads (part : List ℕ) (p : Printer) (from : ℕ) (q : Reached) : Type 0 where
  pub bytes : List ℕ
  pub cut : drop from part ≡ bytes ++ drop q.from part
  pub place : q.from ≡ from + length bytes
  pub takes : Takes (run_from (held p.carry) bytes) q.printer

-- and what their lines print follows what was left to print: nothing of it is stored
abbrev pub Leaves : List ℕ → Printer → ℕ → Reached → Type 0
Leaves part p from q = (x : Reads part p from q) × (text_of q.printer.rest ≡ text_of p.rest ++ x.takes.blocks)

-- or a part of it is stored
pub record Puts (part before : List ℕ) (p : Printer) (from at : ℕ) (after : List ℕ) (q : Reached) : Type 0 where
  pub reads : Reads part p from q
  pub stored : Part before at (text_of p.rest ++ reads.takes.blocks) q.at (text_of q.printer.rest) after

-- whether a part is used up and nothing is left to print
abbrev pub is_through : List ℕ → Reached → Bool
is_through part q = (is_done q.printer.rest) && nat_le (length part) q.from

-- "at its newline or at the input's end": there the unfinished line is a line, if one has begun. While a block is not done, all stays
unfoldable pub last_run : Printer → Run
last_run p =
    choose (is_done p.rest)
    (record { finished = choose (has_begun (held p.carry)) (held p.carry ∷ []) []; begun = fresh })
    (record { finished = []; begun = held p.carry })

abbrev pub Ends : Printer → Printer → Type 0
Ends p r = (x : Takes (last_run p) r) × (text_of r.rest ≡ text_of p.rest ++ x.blocks)

-- ---- a run of calls
-- one call, into any buffer: the text that stands there behind the place from which it was to be stored
pub record Call (part : List ℕ) (p : Printer) (from : ℕ) (text : List ℕ) (q : Reached) : Type 0 where
  pub before : List ℕ
  pub at : ℕ
  pub after : List ℕ
  pub inside : at ≤ length before
  pub puts : Puts part before p from at after q
  pub stands : text ≡ drop at (take q.at after)

-- so many calls, until the part is used up and nothing is left to print: what they store, joined
abbrev pub Through : ℕ → List ℕ → Printer → ℕ → List ℕ → Printer → Type 0
Through zero part p from text r = (p ≡ r) × (text ≡ []) × ((is_done p.rest) ≡ true) × (length part ≤ from)
Through (suc calls) part p from text r =
    (q : Reached) × (first : List ℕ) × (others : List ℕ) × (text ≡ first ++ others) × Call part p from first q
    × Through calls part q.printer q.from others r

-- a part from its front on
pub record Feeds (part : List ℕ) (p : Printer) (text : List ℕ) (r : Printer) : Type 0 where
  pub calls : ℕ
  pub through : Through calls part p 0 text r

-- one part after the other
abbrev pub FeedsAll : List (List ℕ) → Printer → List ℕ → Printer → Type 0
FeedsAll [] p text r = (p ≡ r) × (text ≡ [])
FeedsAll (part ∷ parts) p text r =
    (q : Printer) × (first : List ℕ) × (others : List ℕ) × (text ≡ first ++ others) × Feeds part p first q × FeedsAll parts q others r

-- what is printed for parts while more may come: the header first, once
pub record PrintsSoFar (parts : List (List ℕ)) (text : List ℕ) (r : Printer) : Type 0 where
  pub start : Printer
  pub unread : Fresh start
  pub blocks : List ℕ
  pub feeds : FeedsAll parts start blocks r
  pub headed : text ≡ written (Header listing_version) ++ blocks

-- and then for the end of the input
pub record PrintsParts (parts : List (List ℕ)) (text : List ℕ) : Type 0 where
  pub before : List ℕ
  pub last : List ℕ
  pub reached : Printer
  pub ended : Printer
  pub final : Printer
  pub so_far : PrintsSoFar parts before reached
  pub ends : Ends reached ended
  pub feeds : Feeds [] ended last final
  pub joins : text ≡ before ++ last

-- What a printer reads, stores and leaves: nothing, a line, the rest of a part; and two calls behind each other are one.
use Rattle.std.specs.Prelude.{◌≡◌, ℕ, suc, ◌+◌, ◌-◌, ◌<◌, ◌≤◌, Bool, true, false, not, ◌&&◌, leb, List, [], ◌∷◌, ◌++◌, map, length, take}
use Rattle.std.specs.Prelude.{drop}
use mathlib.Core.Path.{refl, ap, ◌∙◌, sym, subst}
use mathlib.Core.Bool.{false≢true}
use mathlib.Core.List.{append_assoc, append-nil}
use native.Mathlib.Nat.{add-zero, le_antisymm}
use native.Mathlib.Omega.{arith}
use lib.ListN.{length-append, length-drop, drop_of_length-le}
use lib.Seq.{take_all, drop-drop, length-take-le, sets}
use borrow.Author.Tests.{leb-false}
use borrow.Table.Elements.{map_app}
use Rattle.numbers.specs.Told.{choose}
use Rattle.lines.specs.Carry.{Held, held, fresh, has_begun, keep, Run, run_from}
use Rattle.lines.specs.Fields.{newline, span, field_end}
use Rattle.lines.specs.Lines.{has_room}
use Rattle.std.specs.Prelude.{Option}
use Rattle.lines.specs.declared.record.Walk.{Walk as Record}
use Rattle.lines.proofs.Cutting.{go_on, run_joined, run_some, cut_at_newline, span_at_most, nothing_kept}
use Rattle.numbers.proofs.Stores.{stored_more, stored_length}
use Rattle.listing.specs.Listing.{Prints, AllPrint}
use Rattle.listing.specs.Asks.{asks}
use Rattle.listing.specs.Block.{is_done, text_of, Part}
use Rattle.listing.specs.Printer.{Takes, Leaves, Puts, is_through, last_run, Ends}
use Rattle.listing.specs.declared.printer.Printer.{Printer}
use Rattle.listing.specs.declared.printer.Reached.{Reached}
use Rattle.listing.proofs.Asking.{line_asks}
use Rattle.listing.proofs.Blocks.{done_text, part_none, part_goes_on}

-- ---- what lines print, one behind the other
pub both_print : (as' bs : List (Option Record)) (t u : List ℕ) → AllPrint as' t → AllPrint bs u → AllPrint (as' ++ bs) (t ++ u)
both_print [] bs t u a b = subst (λ (s : List ℕ). AllPrint bs (s ++ u)) (sym a) b
both_print (x ∷ as') bs t u a b =
    (a.0, a.1 ++ u, ap (λ (s : List ℕ). s ++ u) a.2 ∙ append_assoc a.0 a.1 u, a.3, both_print as' bs a.1 u a.4 b)

pub one_prints : (a : Option Record) (t : List ℕ) → Prints a t → AllPrint (a ∷ []) t
one_prints a t p = (t, [], sym (append-nil t), p, refl)

-- bytes behind bytes: the second ones go on with what is kept of the first
abbrev pub takes_more : (h : Held) (a b : List ℕ) (q r : Printer) → Takes (run_from h a) q → Takes (run_from (held q.carry) b) r
    → Takes (run_from h (a ++ b)) r
takes_more h a b q r x y =
    let run : run_from h (a ++ b) ≡ go_on (run_from h a) b = run_joined a b h in
    let again : run_from (run_from h a).begun b ≡ run_from (held q.carry) b = ap (λ (k : Held). run_from k b) (sym x.kept) in
    let lines : map asks (run_from h (a ++ b)).finished
    ≡ map asks (run_from h a).finished ++ map asks (run_from (held q.carry) b).finished =
    ap (λ (s : Run). map asks s.finished) run
    ∙ map_app asks (run_from h a).finished (run_from (run_from h a).begun b).finished
    ∙ ap (λ (s : Run). map asks (run_from h a).finished ++ map asks s.finished) again in
    record {
      kept = y.kept ∙ sym (ap (λ (s : Run). s.begun) run ∙ ap (λ (s : Run). s.begun) again);
      blocks = x.blocks ++ y.blocks;
      print =
          subst (λ (as' : List (Option Record)). AllPrint as' (x.blocks ++ y.blocks)) (sym lines)
          (both_print (map asks (run_from h a).finished) (map asks (run_from (held q.carry) b).finished) x.blocks y.blocks
          x.print y.print);
    }

-- ---- reading
-- a line goes on in bytes without a newline
rest_run : (h : Held) (s : List ℕ) → span newline s ≡ length s → 0 < length s → run_from h s ≡ record { finished = []; begun = keep h s }
unfolding run_from
rest_run h [] free some = absurd (omega arith)
rest_run h (x ∷ s) free some = ap (run_from h) (sym (append-nil (x ∷ s))) ∙ run_some x s [] h free

-- a line goes on from a place on, and a newline comes, or the part ends
module _ (part : List ℕ) (p : Printer) (from end : ℕ) (q : Reached) (is : end ≡ field_end newline part from) (inside : from < length part)
  where
    abbrev here : List ℕ
    here = drop from part

    abbrev before_newline : List ℕ
    before_newline = take (span newline here) here

    counted : end - from ≡ span newline here
    counted = omega arith

    line_read : end < length part → q.from ≡ end + 1
        → (here ≡ (before_newline ++ (newline ∷ [])) ++ drop q.from part) × (q.from ≡ from + length (before_newline ++ (newline ∷ [])))
        × (span newline before_newline ≡ length before_newline)
    line_read ends to =
        let room : span newline here < length here = omega (arith, length-drop from part) in
        let few : span newline here ≤ length here = omega arith in
        let splits = cut_at_newline here room in
        let d : from + suc (span newline here) ≡ q.from = omega arith in (
          splits.0
              ∙ ap (λ (s : List ℕ). before_newline ++ (newline ∷ s))
              (drop-drop (suc (span newline here)) from part ∙ ap (λ (k : ℕ). drop k part) d)
              ∙ sym (append_assoc before_newline (newline ∷ []) (drop q.from part)),
          omega (arith, length-append before_newline (newline ∷ []), length-take-le (span newline here) here few),
          splits.1,
        )

    pub reads_line : (is_done p.rest) ≡ true → end < length part → q.from ≡ end + 1 → held q.printer.carry ≡ fresh
        → Prints (asks (keep (held p.carry) (take (end - from) here))) (text_of q.printer.rest) → Leaves part p from q
    reads_line done ends to empty prints =
        let was = line_read ends to in
        let run = line_asks before_newline (held p.carry) was.2 in
        let text = text_of q.printer.rest in (
          record {
            bytes = before_newline ++ (newline ∷ []);
            cut = was.0;
            place = was.1;
            takes = record {
              kept = empty ∙ sym run.1;
              blocks = text;
              print =
                  subst (λ (as' : List (Option Record)). AllPrint as' text) (sym run.0)
                  (one_prints (asks (keep (held p.carry) before_newline)) text
                  (subst (λ (k : ℕ). Prints (asks (keep (held p.carry) (take k here))) text) counted prints));
            };
          },
          ap (λ (u : List ℕ). u ++ text) (sym (done_text p.rest done)),
        )

    pub reads_rest : length part ≤ end → q.from ≡ length part → q.printer.rest ≡ p.rest
        → held q.printer.carry ≡ keep (held p.carry) (take (length part - from) here) → Leaves part p from q
    reads_rest past to same kept =
        let long : length here ≡ length part - from = length-drop from part in
        let free : span newline here ≡ length here = le_antisymm (span_at_most here) (omega arith) in
        let some : 0 < length here = omega arith in
        let run = rest_run (held p.carry) here free some in
        let all : take (length part - from) here ≡ here = take_all (length part - from) here (omega arith) in
        let used : length part ≤ q.from = omega arith in
        let none : drop q.from part ≡ [] = drop_of_length-le part used in (
          record {
            bytes = here;
            cut = sym (append-nil here) ∙ ap (λ (s : List ℕ). here ++ s) (sym none);
            place = omega arith;
            takes = record {
              kept = kept ∙ ap (keep (held p.carry)) all ∙ sym (ap (λ (r : Run). r.begun) run);
              blocks = [];
              print = subst (λ (r : Run). AllPrint (map asks r.finished) []) (sym run) refl;
            };
          },
          ap text_of same ∙ sym (append-nil (text_of p.rest)),
        )

-- ---- the end of the input
module _ (p : Printer) where
  abbrev unfinished : Run
  unfinished = record { finished = []; begun = held p.carry }

  abbrev last : Bool → Run
  last begun = record { finished = choose begun (held p.carry ∷ []) []; begun = fresh }

  last_is : (d b : Bool) → (is_done p.rest) ≡ d → has_begun (held p.carry) ≡ b → choose d (last b) unfinished ≡ last_run p
  unfolding last_run
  last_is d b e f =
      ap (λ (x : Bool). choose x (last b) unfinished) (sym e)
      ∙ ap (λ (x : Bool). choose (is_done p.rest) (last x) unfinished) (sym f)

  -- told of a run that is the last
  abbrev TakesAll : Run → Printer → Type 0
  TakesAll run r = (x : Takes run r) × (text_of r.rest ≡ text_of p.rest ++ x.blocks)

  pub ends_later : (is_done p.rest) ≡ false → Ends p p
  ends_later going =
      subst (λ (run : Run). TakesAll run p) (last_is false (has_begun (held p.carry)) going refl)
      (record { kept = refl; blocks = []; print = refl }, sym (append-nil (text_of p.rest)))

  pub ends_nothing : (is_done p.rest) ≡ true → has_begun (held p.carry) ≡ false → Ends p p
  ends_nothing done none =
      subst (λ (run : Run). TakesAll run p) (last_is true false done none)
      (record { kept = nothing_kept (held p.carry) none; blocks = []; print = refl }, sym (append-nil (text_of p.rest)))

  pub ends_line : (r : Printer) → (is_done p.rest) ≡ true → has_begun (held p.carry) ≡ true → held r.carry ≡ fresh
      → Prints (asks (held p.carry)) (text_of r.rest) → Ends p r
  ends_line r done begun empty prints =
      subst (λ (run : Run). TakesAll run r) (last_is true true done begun) (
        record { kept = empty; blocks = text_of r.rest; print = one_prints (asks (held p.carry)) (text_of r.rest) prints },
        ap (λ (u : List ℕ). u ++ text_of r.rest) (sym (done_text p.rest done)),
      )

-- ---- storing
-- of what is left to print a part is stored, and nothing is read
pub record Fills (before : List ℕ) (q : Reached) (after : List ℕ) (r : Reached) : Type 0 where
  pub same : r.printer.carry ≡ q.printer.carry
  pub place : r.from ≡ q.from
  pub stored : Part before q.at (text_of q.printer.rest) r.at (text_of r.printer.rest) after

pub fills_nothing : (buf : List ℕ) (q : Reached) → Fills buf q buf q
fills_nothing buf q = record { same = refl; place = refl; stored = part_none buf q.at (text_of q.printer.rest) }

-- nothing is read
pub puts_left : {part before after : List ℕ} (q r : Reached) → Fills before q after r
    → Puts part before q.printer q.from q.at after r
unfolding run_from
puts_left {part} q r x =
    record {
      reads = record {
        bytes = [];
        cut = ap (λ (k : ℕ). drop k part) (sym x.place);
        place = x.place ∙ sym (add-zero q.from);
        takes = record { kept = ap held x.same; blocks = []; print = refl };
      };
      stored = record {
        text = x.stored.text;
        stored = x.stored.stored;
        joins = append-nil (text_of q.printer.rest) ∙ x.stored.joins;
        within = x.stored.within;
      };
    }

-- a line is read first
pub puts_line : {part before after : List ℕ} {p : Printer} {from : ℕ} (q r : Reached) → Leaves part p from q → Fills before q after r
    → Puts part before p from q.at after r
puts_line {part} q r (x, left) y =
    record {
      reads = record {
        bytes = x.bytes;
        cut = x.cut ∙ ap (λ (k : ℕ). x.bytes ++ drop k part) (sym y.place);
        place = y.place ∙ x.place;
        takes = record { kept = ap held y.same ∙ x.takes.kept; blocks = x.takes.blocks; print = x.takes.print };
      };
      stored = record {
        text = y.stored.text;
        stored = y.stored.stored;
        joins = sym left ∙ y.stored.joins;
        within = y.stored.within;
      };
    }

-- two calls, the second where the first has come to
pub puts_more : {part before between after : List ℕ} {p : Printer} {from at : ℕ} (q r : Reached) → Puts part before p from at between q
    → Puts part between q.printer q.from q.at after r → Puts part before p from at after r
puts_more {part} {p = p} q r x y =
    let a = x.reads in
    let b = y.reads in
    let s = a.takes.blocks in
    let t = b.takes.blocks in
    record {
      reads = record {
        bytes = a.bytes ++ b.bytes;
        cut =
            a.cut
            ∙ ap (λ (u : List ℕ). a.bytes ++ u) b.cut
            ∙ sym (append_assoc a.bytes b.bytes (drop r.from part));
        place = omega (arith, a.place, b.place, length-append a.bytes b.bytes);
        takes = takes_more (held p.carry) a.bytes b.bytes q.printer r.printer a.takes b.takes;
      };
      stored = record {
        text = x.stored.text ++ y.stored.text;
        stored = stored_more x.stored.stored y.stored.stored;
        joins =
            sym (append_assoc (text_of p.rest) s t)
            ∙ ap (λ (u : List ℕ). u ++ t) x.stored.joins
            ∙ append_assoc x.stored.text (text_of q.printer.rest) t
            ∙ ap (λ (u : List ℕ). x.stored.text ++ u) y.stored.joins
            ∙ sym (append_assoc x.stored.text y.stored.text (text_of r.printer.rest));
        within = λ h. y.stored.within (x.stored.within h);
      };
    }

-- where a call goes on, nothing is left to print, and something of the part is
is_ready : (d t room : Bool) → (not (d && t) && room) ≡ true → (not d && room) ≡ false → (d ≡ true) × (t ≡ false)
is_ready true true room going full = absurd (false≢true going)
is_ready true false room going full = (refl, refl)
is_ready false t room going full = absurd (false≢true (sym full ∙ going))

pub ready : (part buf : List ℕ) (q : Reached) (through goes : Bool) → through ≡ is_through part q
    → goes ≡ (not through && has_room buf q.at) → goes ≡ true → (not (is_done q.printer.rest) && has_room buf q.at) ≡ false
    → ((is_done q.printer.rest) ≡ true) × (q.from < length part)
ready part buf q through goes is so going full =
    let r = is_ready (is_done q.printer.rest) (leb (length part) q.from) (has_room buf q.at)
    (ap (λ (t : Bool). not t && has_room buf q.at) (sym is) ∙ sym so ∙ going) full in
    (r.0, leb-false (length part) q.from r.1)

-- into a buffer of 40 bytes or more, from its front, something is stored wherever the part is not gone through
pub goes_on_storing : {part before after : List ℕ} {p : Printer} {from : ℕ} (q : Reached) (x : Puts part before p from 0 after q)
    → (not (is_through part q) && has_room after q.at) ≡ false → is_through part q ≡ false → 40 ≤ length before
    → 0 < length x.stored.text
goes_on_storing {part} {before} {after} q x stop more room =
    let same : length after ≡ length before = stored_length x.stored.stored in
    let fits : 0 + 40 ≤ length after = omega arith in
    let further : 0 < q.at = part_goes_on (is_through part q) x.stored more stop fits in
    omega (arith, x.stored.stored.place)

-- a part that is used up, where nothing is left to print, gives back what came
none_first : (a b : List ℕ) → a ++ b ≡ [] → a ≡ []
none_first [] b e = refl
none_first (x ∷ a) b e = cc

none_second : (a b : List ℕ) → a ++ b ≡ [] → b ≡ []
none_second [] b e = e
none_second (x ∷ a) b e = cc

pub used_up_gives_back : {part before after : List ℕ} {p : Printer} {from at : ℕ} (q : Reached) → Puts part before p from at after q
    → length part ≤ from → (is_done p.rest) ≡ true
    → (q.from ≡ from) × (q.at ≡ at) × (after ≡ before) × (held q.printer.carry ≡ held p.carry) × (text_of q.printer.rest ≡ [])
unfolding run_from
used_up_gives_back {part} {before} {after} {p} {from} {at} q x used done =
    let a = x.reads in
    let s = x.stored in
    let none : a.bytes ≡ [] = none_first a.bytes (drop q.from part) (sym a.cut ∙ drop_of_length-le part used) in
    let no_blocks : a.takes.blocks ≡ [] =
    subst (λ (b : List ℕ). AllPrint (map asks (run_from (held p.carry) b).finished) a.takes.blocks) none a.takes.print in
    let all : s.text ++ text_of q.printer.rest ≡ [] =
    sym s.joins ∙ ap (λ (u : List ℕ). u ++ a.takes.blocks) (done_text p.rest done) ∙ no_blocks in
    let no_text : s.text ≡ [] = none_first s.text (text_of q.printer.rest) all in (
      a.place ∙ ap (λ (b : List ℕ). from + length b) none ∙ add-zero from,
      s.stored.place ∙ ap (λ (b : List ℕ). at + length b) no_text ∙ add-zero at,
      s.stored.bytes ∙ ap (sets before at) no_text,
      a.takes.kept ∙ ap (λ (b : List ℕ). (run_from (held p.carry) b).begun) none,
      none_second s.text (text_of q.printer.rest) all,
    )

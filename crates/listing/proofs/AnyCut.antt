-- Request K3: however the input is cut into parts, what is printed is the listing of the joined input; each line is answered once its
-- newline has come, and one past 128 bytes is refused once.
use Rattle.std.specs.Prelude.{◌≡◌, ℕ, zero, suc, ◌≤◌, Bool, true, List, [], ◌∷◌, ◌++◌, map, length, drop}
use mathlib.Core.Path.{refl, ap, ◌∙◌, sym, subst}
use mathlib.Core.List.{append_assoc, append-nil}
use lib.ListN.{drop_of_length-le}
use borrow.Table.Elements.{map_app}
use Rattle.numbers.specs.Told.{choose}
use Rattle.lines.specs.Carry.{Held, held, fresh, has_begun, keep, joined, lines_from, with_last, input_lines, Run, run_from}
use Rattle.lines.specs.Fields.{newline}
use Rattle.lines.specs.Lines.{written}
use Rattle.lines.specs.Record.{record_of}
use Rattle.lines.specs.declared.listed.Line.TheVariants.{Header}
use Rattle.std.specs.Prelude.{Option}
use Rattle.lines.specs.declared.record.Walk.{Walk as Record}
use Rattle.lines.proofs.Cutting.{run_lines, none_begun, begun_kept}
use Rattle.numbers.proofs.Stores.{stored_stands}
use Rattle.listing.specs.Listing.{AllPrint, listing_version, Listing}
use Rattle.listing.specs.Asks.{asks}
use Rattle.listing.specs.Block.{is_done, text_of}
use Rattle.listing.specs.Printer.{Takes, last_run, Ends, Call, Through, Feeds, FeedsAll, PrintsSoFar, PrintsParts}
use Rattle.listing.specs.declared.printer.Printer.{Printer}
use Rattle.listing.specs.declared.printer.Reached.{Reached}
use Rattle.listing.proofs.Asking.{asks_whole, asked_lines}
use Rattle.listing.proofs.Blocks.{done_text}
use Rattle.listing.proofs.Feeding.{both_print, takes_more}

-- ---- a part
-- what is printed while lines are finished: what was left, and then what each of them prints; nothing is left, and of the line that has
-- begun what is to be kept
pub record Answers (run : Run) (p : Printer) (text : List ℕ) (r : Printer) : Type 0 where
  pub takes : Takes run r
  pub done : (is_done r.rest) ≡ true
  pub joins : text ≡ text_of p.rest ++ takes.blocks

nothing_more : (p r : Printer) (text : List ℕ) → p ≡ r → text ≡ [] → (is_done p.rest) ≡ true
    → Answers (record { finished = []; begun = held p.carry }) p text r
nothing_more p r text same none done =
    record {
      takes = record { kept = ap (λ (x : Printer). held x.carry) (sym same); blocks = []; print = refl };
      done = subst (λ (x : Printer). (is_done x.rest) ≡ true) same done;
      joins = none ∙ sym (ap (λ (u : List ℕ). u ++ []) (done_text p.rest done));
    }

used_up : (h : Held) (from : ℕ) (part : List ℕ) → length part ≤ from → record { finished = []; begun = h } ≡ run_from h (drop from part)
unfolding run_from
used_up h from part used = ap (run_from h) (sym (drop_of_length-le part used))

call_stores : {part : List ℕ} {p : Printer} {from : ℕ} {text : List ℕ} {q : Reached} (x : Call part p from text q)
    → text ≡ x.puts.stored.text
call_stores x = let s = x.puts.stored in x.stands ∙ stored_stands s.stored x.inside (s.within x.inside)

-- a run of calls over a part answers the lines that the part finishes
pub part_answered : (calls : ℕ) (part : List ℕ) (p : Printer) (from : ℕ) (text : List ℕ) (r : Printer) → Through calls part p from text r
    → Answers (run_from (held p.carry) (drop from part)) p text r
part_answered zero part p from text r x =
    subst (λ (run : Run). Answers run p text r) (used_up (held p.carry) from part x.3) (nothing_more p r text x.0 x.1 x.2)
part_answered (suc calls) part p from text r x =
    let q = x.0 in
    let u = x.4.puts in
    let v = u.reads in
    let w = v.takes in
    let later = part_answered calls part q.printer q.from x.2 r x.5 in
    let l = later.takes in
    subst (λ (s : List ℕ). Answers (run_from (held p.carry) s) p text r) (sym v.cut)
    (record {
      takes = takes_more (held p.carry) v.bytes (drop q.from part) q.printer r w l;
      done = later.done;
      joins =
          x.3
          ∙ ap (λ (s : List ℕ). s ++ x.2) (call_stores x.4)
          ∙ ap (λ (s : List ℕ). u.stored.text ++ s) later.joins
          ∙ sym (append_assoc u.stored.text (text_of q.printer.rest) l.blocks)
          ∙ ap (λ (s : List ℕ). s ++ l.blocks) (sym u.stored.joins)
          ∙ append_assoc (text_of p.rest) w.blocks l.blocks;
    })

-- where nothing was left to print
pub answered_alone : {run : Run} {p r : Printer} {text : List ℕ} → (is_done p.rest) ≡ true → (x : Answers run p text r)
    → text ≡ x.takes.blocks
answered_alone {p = p} done x = x.joins ∙ ap (λ (u : List ℕ). u ++ x.takes.blocks) (done_text p.rest done)

-- ---- all parts, while more may come
pub parts_answered : (parts : List (List ℕ)) (p : Printer) (text : List ℕ) (r : Printer) → (is_done p.rest) ≡ true → FeedsAll parts p text r
    → Answers (run_from (held p.carry) (joined parts)) p text r
unfolding joined run_from
parts_answered [] p text r done x = nothing_more p r text x.0 x.1 done
parts_answered (part ∷ parts) p text r done x =
    let q = x.0 in
    let here = part_answered x.4.calls part p 0 x.1 q x.4.through in
    let later = parts_answered parts q x.2 r here.done x.5 in
    let w = here.takes in
    let l = later.takes in
    record {
      takes = takes_more (held p.carry) part (joined parts) q r w l;
      done = later.done;
      joins =
          x.3
          ∙ ap (λ (s : List ℕ). s ++ x.2) here.joins
          ∙ ap (λ (s : List ℕ). (text_of p.rest ++ w.blocks) ++ s) (answered_alone here.done later)
          ∙ append_assoc (text_of p.rest) w.blocks l.blocks;
    }

-- what is printed for parts, while more may come, is what their finished lines print; of the line that has begun is kept what is to be
pub record SoFar (parts : List (List ℕ)) (text : List ℕ) (r : Printer) : Type 0 where
  pub blocks : List ℕ
  pub headed : text ≡ written (Header listing_version) ++ blocks
  pub print : AllPrint (map record_of (lines_from [] (joined parts)).finished) blocks
  pub kept : held r.carry ≡ keep fresh (lines_from [] (joined parts)).begun
  pub done : (is_done r.rest) ≡ true

pub answered_so_far : {parts : List (List ℕ)} {text : List ℕ} {r : Printer} → PrintsSoFar parts text r → SoFar parts text r
answered_so_far {parts} {text} {r} x =
    let s = joined parts in
    let all = parts_answered parts x.start x.blocks r x.unread.idle x.feeds in
    let start : run_from (held x.start.carry) s ≡ run_from fresh s = ap (λ (h : Held). run_from h s) x.unread.nothing in
    let alone = answered_alone x.unread.idle all in
    record {
      blocks = all.takes.blocks;
      headed = x.headed ∙ ap (λ (t : List ℕ). written (Header listing_version) ++ t) alone;
      print =
          subst (λ (as' : List (Option Record)). AllPrint as' all.takes.blocks)
          (ap (λ (run : Run). map asks run.finished) start ∙ asked_lines s) all.takes.print;
      kept = all.takes.kept ∙ ap (λ (run : Run). run.begun) (start ∙ run_lines s);
      done = all.done;
    }

-- nothing waits for more behind a newline
pub answered_at_newline : {parts : List (List ℕ)} {text : List ℕ} {r : Printer} (s : List ℕ) → joined parts ≡ s ++ (newline ∷ [])
    → PrintsSoFar parts text r → Listing (joined parts) text
answered_at_newline {parts} s ends x =
    let so = answered_so_far x in
    let none : (lines_from [] (joined parts)).begun ≡ [] = ap (λ (i : List ℕ). (lines_from [] i).begun) ends ∙ none_begun s [] in
    let lines : (lines_from [] (joined parts)).finished ≡ input_lines (joined parts) =
    ap (with_last (lines_from [] (joined parts)).finished) (sym none) in
    (so.blocks, so.headed, subst (λ (ls : List (List ℕ)). AllPrint (map record_of ls) so.blocks) lines so.print)

-- ---- the end of the input
-- the line that has begun is one more
last_prints : (l : List ℕ) (h : Held) (ls : List (List ℕ)) (t u : List ℕ) → h ≡ keep fresh l → AllPrint (map record_of ls) t
    → AllPrint (map asks (choose (has_begun h) (h ∷ []) [])) u → AllPrint (map record_of (with_last ls l)) (t ++ u)
unfolding has_begun keep
last_prints [] h ls t u is x y =
    let none : u ≡ [] = subst (λ (k : Held). AllPrint (map asks (choose (has_begun k) (k ∷ []) [])) u) is y in
    subst (AllPrint (map record_of ls)) (sym (append-nil t) ∙ ap (λ (s : List ℕ). t ++ s) (sym none)) x
last_prints (b ∷ l) h ls t u is x y =
    let begun : has_begun h ≡ true = ap has_begun is ∙ begun_kept b l in
    let one : AllPrint (asks h ∷ []) u = subst (λ (c : Bool). AllPrint (map asks (choose c (h ∷ []) [])) u) begun y in
    let line : asks h ≡ record_of (b ∷ l) = ap asks is ∙ asks_whole (b ∷ l) in
    subst (λ (as' : List (Option Record)). AllPrint as' (t ++ u)) (sym (map_app record_of ls ((b ∷ l) ∷ [])))
    (both_print (map record_of ls) (record_of (b ∷ l) ∷ []) t u x (subst (λ (a : Option Record). AllPrint (a ∷ []) u) line one))

-- and is answered then
end_answered : (p r s : Printer) (text : List ℕ) → (is_done p.rest) ≡ true → Ends p r → Feeds [] r text s
    → AllPrint (map asks (choose (has_begun (held p.carry)) (held p.carry ∷ []) [])) text
unfolding last_run run_from
end_answered p r s text done (e, left) x =
    let run : Bool → Run =
    λ d. choose d (record { finished = choose (has_begun (held p.carry)) (held p.carry ∷ []) []; begun = fresh })
    (record { finished = []; begun = held p.carry }) in
    let a = part_answered x.calls [] r 0 text s x.through in
    let none : a.takes.blocks ≡ [] = a.takes.print in
    let all : text ≡ e.blocks =
    a.joins ∙ ap (λ (u : List ℕ). text_of r.rest ++ u) none ∙ append-nil (text_of r.rest) ∙ left
    ∙ ap (λ (u : List ℕ). u ++ e.blocks) (done_text p.rest done) in
    subst (AllPrint (map asks (choose (has_begun (held p.carry)) (held p.carry ∷ []) []))) (sym all)
    (subst (λ (d : Bool). AllPrint (map asks (run d).finished) e.blocks) done e.print)

-- ---- however the input is cut, its listing is printed
pub cut_anywhere : (parts : List (List ℕ)) (text : List ℕ) → PrintsParts parts text → Listing (joined parts) text
cut_anywhere parts text x =
    let so = answered_so_far x.so_far in
    let last = end_answered x.reached x.ended x.final x.last so.done x.ends x.feeds in
    let s = joined parts in (
      so.blocks ++ x.last,
      x.joins ∙ ap (λ (t : List ℕ). t ++ x.last) so.headed
          ∙ append_assoc (written (Header listing_version)) so.blocks x.last,
      last_prints (lines_from [] s).begun (held x.reached.carry) (lines_from [] s).finished so.blocks x.last so.kept
          so.print last,
    )

-- What is kept of a line asks for what the line asks for, so the lines of an input that comes in parts ask for what those of the joined
-- input ask for.
use Rattle.std.specs.Prelude.{◌≡◌, ℕ, ◌+◌, ◌<◌, ◌≤◌, Bool, true, false, List, [], ◌∷◌, ◌++◌, map, length}
use mathlib.Core.Path.{refl, ap, ◌∙◌, sym}
use mathlib.Core.List.{append-nil}
use mathlib.Core.Logic.{⊎_elim}
use native.Mathlib.Omega.{arith}
use borrow.Author.Tests.{le-leb, lt-leb, ne_eqb}
use Rattle.lines.specs.Carry.{Held, fresh, has_begun, keep, lines_from, Run, run_from}
use Rattle.lines.specs.Fields.{newline, span}
use Rattle.lines.specs.Record.{record_of}
use Rattle.std.specs.Prelude.{Option}
use Rattle.lines.specs.declared.record.Walk.{Walk as Record}
use Rattle.lines.proofs.Cutting.{short_or_long, nothing_kept, run_lines, run_some}
use Rattle.listing.specs.Asks.{asks}

-- what is kept of a line asks for what the line asks for: no record is longer than 128 bytes
pub asks_whole : (l : List ℕ) → asks (keep fresh l) ≡ record_of l
unfolding asks keep record_of
asks_whole l =
    ⊎_elim (λ (few : length l ≤ 128). rw (le-leb (0 + length l) 128 (omega arith)))
    (λ (many : 128 < length l). rw (lt-leb (0 + length l) 128 (omega arith), ne_eqb (length l) 64 (λ e. omega arith)))
    (short_or_long (length l))

-- where no line has begun, the bytes that follow are the whole line
pub asks_now : (h : Held) (s : List ℕ) → has_begun h ≡ false → asks (keep h s) ≡ record_of s
asks_now h s e = ap (λ (k : Held). asks (keep k s)) (nothing_kept h e) ∙ asks_whole s

-- so the lines that the run has kept ask for what the input's lines ask for
asks_each : (ls : List (List ℕ)) → map asks (map (keep fresh) ls) ≡ map record_of ls
asks_each [] = refl
asks_each (l ∷ ls) = ap (λ (a : Option Record). a ∷ map asks (map (keep fresh) ls)) (asks_whole l)
    ∙ ap (λ (as' : List (Option Record)). record_of l ∷ as') (asks_each ls)

pub asked_lines : (s : List ℕ) → map asks (run_from fresh s).finished ≡ map record_of (lines_from [] s).finished
asked_lines s = ap (λ (r : Run). map asks r.finished) (run_lines s) ∙ asks_each (lines_from [] s).finished

pub asked_last : (s : List ℕ) → asks (run_from fresh s).begun ≡ record_of (lines_from [] s).begun
asked_last s = ap (λ (r : Run). asks r.begun) (run_lines s) ∙ asks_whole (lines_from [] s).begun

-- what is kept asks for the same with no byte more, however much that is
asks_kept_by : (o : Bool) (t : List ℕ)
    → asks (keep (record { overlong = o; text = t }) []) ≡ asks (record { overlong = o; text = t })
unfolding asks keep record_of
asks_kept_by true t = refl
asks_kept_by false t =
    ⊎_elim (λ (few : length t ≤ 128). rw (le-leb (length t + 0) 128 (omega arith)) (ap record_of (append-nil t)))
    (λ (many : 128 < length t). rw (lt-leb (length t + 0) 128 (omega arith), ne_eqb (length t) 64 (λ e. omega arith)))
    (short_or_long (length t))

-- a line and its newline: one line is asked for, and no other has begun
pub line_asks : (l : List ℕ) (h : Held) → span newline l ≡ length l
    → (map asks (run_from h (l ++ (newline ∷ []))).finished ≡ asks (keep h l) ∷ []) × ((run_from h (l ++ (newline ∷ []))).begun ≡ fresh)
unfolding run_from
line_asks [] h free = (ap (λ (a : Option Record). a ∷ []) (sym (asks_kept_by h.overlong h.text)), refl)
line_asks (x ∷ l) h free =
    let run = run_some x l (newline ∷ []) h free in
    (ap (λ (r : Run). map asks r.finished) run, ap (λ (r : Run). r.begun) run)

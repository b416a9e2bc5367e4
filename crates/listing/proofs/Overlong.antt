-- Request K3: "A line past 128 bytes is refused once, at its newline or at the input's end." Nothing is printed for it before that, and
-- what follows its newline is printed as if it stood alone.
use Rattle.std.specs.Prelude.{◌≡◌, ℕ, ◌<◌, List, [], ◌∷◌, ◌++◌, map, length}
use mathlib.Core.Path.{refl, ap, ◌∙◌, sym, subst}
use mathlib.Core.List.{append_assoc, append-nil}
use native.Mathlib.Omega.{arith}
use borrow.Author.Tests.{ne_eqb}
use borrow.Table.Elements.{map_app}
use Rattle.lines.specs.Carry.{held, fresh, too_long, keep, joined, Lines, lines_from, with_last, input_lines}
use Rattle.lines.specs.Fields.{newline, span}
use Rattle.lines.specs.Lines.{written}
use Rattle.lines.specs.Record.{record_of}
use Rattle.lines.specs.declared.listed.Line.TheVariants.{Header, Refused}
use Rattle.std.specs.Prelude.{Option}
use Rattle.lines.specs.declared.record.Walk.{Walk as Record}
use Rattle.std.specs.Prelude.{None}
use Rattle.lines.proofs.Cutting.{keep_long, lines_piece, lines_joined, lines_newline}
use Rattle.listing.specs.Listing.{AllPrint, listing_version, Listing}
use Rattle.listing.specs.Printer.{PrintsSoFar, PrintsParts}
use Rattle.listing.specs.declared.printer.Printer.{Printer}
use Rattle.listing.proofs.AnyCut.{answered_so_far, cut_anywhere}

-- what two lists of lines print, taken apart
parted_print : (as' bs : List (Option Record)) (text : List ℕ) → AllPrint (as' ++ bs) text
    → (t : List ℕ) × (u : List ℕ) × (text ≡ t ++ u) × AllPrint as' t × AllPrint bs u
parted_print [] bs text x = ([], text, refl, refl, x)
parted_print (a ∷ as') bs text x =
    let y = parted_print as' bs x.1 x.4 in (
      x.0 ++ y.0,
      y.1,
      x.2 ∙ ap (λ (s : List ℕ). x.0 ++ s) y.2 ∙ sym (append_assoc x.0 y.0 y.1),
      (x.0, y.0, refl, x.3, y.3),
      y.4,
    )

-- whole lines, and behind them a line of more than 128 bytes
module _ (before l : List ℕ) (whole : (lines_from [] before).begun ≡ []) (free : span newline l ≡ length l) (long : 128 < length l) where
  abbrev earlier : List (List ℕ)
  earlier = (lines_from [] before).finished

  no_record : record_of l ≡ None
  unfolding record_of
  no_record = rw (ne_eqb (length l) 64 (λ e. omega arith))

  behind : (s : List ℕ) → lines_from [] (before ++ (l ++ s))
      ≡ record { finished = earlier ++ (lines_from l s).finished; begun = (lines_from l s).begun }
  behind s =
      lines_joined before (l ++ s) []
      ∙ ap (λ (k : List ℕ). record { finished = earlier ++ (lines_from k (l ++ s)).finished; begun = (lines_from k (l ++ s)).begun }) whole
      ∙ ap (λ (r : Lines). record { finished = earlier ++ r.finished; begun = r.begun }) (lines_piece l s [] free)

  unfinished : lines_from [] (before ++ l) ≡ record { finished = earlier; begun = l }
  unfolding lines_from
  unfinished =
      ap (λ (s : List ℕ). lines_from [] (before ++ s)) (sym (append-nil l))
      ∙ behind []
      ∙ ap (λ (ls : List (List ℕ)). record { finished = ls; begun = l }) (append-nil earlier)

  only_before : (blocks : List ℕ) → AllPrint (map record_of earlier) blocks → Listing before (written (Header listing_version) ++ blocks)
  only_before blocks x =
      (blocks, refl, subst (λ (ls : List (List ℕ)). AllPrint (map record_of ls) blocks) (ap (with_last earlier) (sym whole)) x)

  -- while it goes on, nothing is printed for it, and only that it is too long is kept
  pub overlong_waits : (parts : List (List ℕ)) (text : List ℕ) (r : Printer) → joined parts ≡ before ++ l → PrintsSoFar parts text r
      → Listing before text × (held r.carry ≡ too_long)
  overlong_waits parts text r is x =
      let so = answered_so_far x in
      let lines : lines_from [] (joined parts) ≡ record { finished = earlier; begun = l } = ap (lines_from []) is ∙ unfinished in (
        subst (Listing before) (sym so.headed)
            (only_before so.blocks
            (subst (λ (r : Lines). AllPrint (map record_of r.finished) so.blocks) lines so.print)),
        so.kept ∙ ap (λ (r : Lines). keep fresh r.begun) lines ∙ keep_long fresh l refl (omega arith),
      )

  -- at its newline
  with_last_lem : (xs ys : List (List ℕ)) (b : List ℕ) → with_last (xs ++ (l ∷ ys)) b ≡ xs ++ (l ∷ with_last ys b)
  with_last_lem xs ys [] = refl
  with_last_lem xs ys (b ∷ s) = append_assoc xs (l ∷ ys) ((b ∷ s) ∷ [])

  asked_once : (s : List ℕ) → map record_of (input_lines (before ++ (l ++ (newline ∷ s))))
      ≡ map record_of earlier ++ (None ∷ map record_of (input_lines s))
  asked_once s =
      ap (λ (r : Lines). map record_of (with_last r.finished r.begun))
      (behind (newline ∷ s) ∙ ap (λ (r : Lines). record { finished = earlier ++ r.finished; begun = r.begun }) (lines_newline l s))
      ∙ ap (map record_of) (with_last_lem earlier (lines_from [] s).finished (lines_from [] s).begun)
      ∙ map_app record_of earlier (l ∷ input_lines s)
      ∙ ap (λ (a : Option Record). map record_of earlier ++ (a ∷ map record_of (input_lines s))) no_record

  -- and at the end of the input
  abbrev last : List (List ℕ)
  last = earlier ++ (l ∷ [])

  is_last : (k : List ℕ) → l ≡ k → with_last earlier k ≡ last
  is_last [] e = absurd (omega (arith, ap length e))
  is_last (b ∷ k) e = ap (λ (x : List ℕ). earlier ++ (x ∷ [])) (sym e)

  asked_last : map record_of (input_lines (before ++ l)) ≡ map record_of earlier ++ (None ∷ [])
  asked_last =
      ap (λ (r : Lines). map record_of (with_last r.finished r.begun)) unfinished
      ∙ ap (map record_of) (is_last l refl)
      ∙ map_app record_of earlier (l ∷ [])
      ∙ ap (λ (a : Option Record). map record_of earlier ++ (a ∷ [])) no_record

  -- one refusal, between what is printed before it and what is printed behind it
  between : (input text : List ℕ) (later : List (Option Record)) → Listing input text
      → map record_of (input_lines input) ≡ map record_of earlier ++ (None ∷ later)
      → (t : List ℕ) × (u : List ℕ) × (text ≡ t ++ (written (Refused 7) ++ u)) × Listing before t × AllPrint later u
  between input text later x lines =
      let all = subst (λ (as' : List (Option Record)). AllPrint as' x.0) lines x.2 in
      let y = parted_print (map record_of earlier) (None ∷ later) x.0 all in
      let header = written (Header listing_version) in (
        header ++ y.0,
        y.4.1,
        x.1
            ∙ ap (λ (s : List ℕ). header ++ s) (y.2 ∙ ap (λ (s : List ℕ). y.0 ++ s)
            (y.4.2 ∙ ap (λ (s : List ℕ). s ++ y.4.1) y.4.3))
            ∙ sym (append_assoc header y.0 (written (Refused 7) ++ y.4.1)),
        only_before y.0 y.3,
        y.4.4,
      )

  -- however the input is cut, it is refused once, at its newline
  pub overlong_once : (parts : List (List ℕ)) (text s : List ℕ) → joined parts ≡ before ++ (l ++ (newline ∷ s)) → PrintsParts parts text
      → (t : List ℕ) × (u : List ℕ) × (text ≡ t ++ (written (Refused 7) ++ u)) × Listing before t × AllPrint (map record_of (input_lines s))
      u
  overlong_once parts text s is x =
      between (before ++ (l ++ (newline ∷ s))) text (map record_of (input_lines s))
      (subst (λ (i : List ℕ). Listing i text) is (cut_anywhere parts text x)) (asked_once s)

  -- or at the input's end
  pub overlong_last : (parts : List (List ℕ)) (text : List ℕ) → joined parts ≡ before ++ l → PrintsParts parts text
      → (t : List ℕ) × (text ≡ t ++ written (Refused 7)) × Listing before t
  overlong_last parts text is x =
      let y = between (before ++ l) text [] (subst (λ (i : List ℕ). Listing i text) is (cut_anywhere parts text x)) asked_last in (
        y.0,
        y.2 ∙ ap (λ (u : List ℕ). y.0 ++ (written (Refused 7) ++ u)) y.4
            ∙ ap (λ (u : List ℕ). y.0 ++ u) (append-nil (written (Refused 7))),
        y.3,
      )

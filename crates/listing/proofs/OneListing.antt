-- An input has one listing, so that what is printed does not depend on how the input is cut.
use Rattle.std.specs.Prelude.{◌≡◌, ℕ, zero, suc, Bool, false, eqb, List, [], ◌∷◌, ◌++◌, map}
use mathlib.Core.Path.{refl, ap, ◌∙◌, sym, subst}
use mathlib.Core.List.{append-nil}
use native.Mathlib.Omega.{arith}
use lib.Ieee.{Float}
use borrow.Author.Tests.{ne_eqb}
use Rattle.legs.specs.declared.Point.{Point}
use Rattle.walks.specs.Answers.{walk_refusal}
use Rattle.walks.proofs.OneAnswer.{one_count}
use Rattle.numbers.specs.Told.{choose}
use Rattle.lines.specs.Carry.{held, keep, fresh, joined, lines_from, input_lines}
use Rattle.lines.specs.Lines.{written}
use Rattle.lines.specs.Record.{record_of}
use Rattle.lines.specs.declared.listed.Line.TheVariants.{Header, Refused}
use Rattle.std.specs.Prelude.{Option}
use Rattle.lines.specs.declared.record.Walk.{Walk as Record}
use Rattle.std.specs.Prelude.{Some, None}
use Rattle.listing.specs.Listing.{walk_block, WalkPrints, Prints, AllPrint, listing_version, Listing}
use Rattle.listing.specs.Printer.{PrintsSoFar, PrintsParts}
use Rattle.listing.specs.declared.printer.Printer.{Printer}
use Rattle.listing.proofs.AnyCut.{answered_so_far, cut_anywhere}

-- a walk has one count, and a refusal one number
one_walk : (m : Float) (s t : Point) (n : ℕ) (x y : List ℕ) → walk_refusal m s t ≡ n → WalkPrints m s t x → WalkPrints m s t y → x ≡ y
one_walk m s t zero x y is a b =
    let k : ℕ → List ℕ = λ k. choose (eqb (walk_refusal m s t) 0) (walk_block m s t k) (written (Refused (walk_refusal m s t))) in
    a.1 ∙ ap k (one_count m s t a.0 b.0 (a.2 is) (b.2 is)) ∙ sym b.1
one_walk m s t (suc n) x y is a b =
    let refused : eqb (walk_refusal m s t) 0 ≡ false = ne_eqb (walk_refusal m s t) 0 (λ e. some (sym is ∙ e)) in
    let k : ℕ → Bool → List ℕ = λ k c. choose c (walk_block m s t k) (written (Refused (walk_refusal m s t))) in
    a.1 ∙ ap (k a.0) refused ∙ sym (b.1 ∙ ap (k b.0) refused)
  where
    some : suc n ≡ 0 → ⊥
    some e = omega arith

one_block : (a : Option Record) (x y : List ℕ) → Prints a x → Prints a y → x ≡ y
one_block (Some w) x y p q = one_walk _ _ _ (walk_refusal _ _ _) x y refl p q
one_block None x y p q = p ∙ sym q

pub one_text : (as' : List (Option Record)) (x y : List ℕ) → AllPrint as' x → AllPrint as' y → x ≡ y
one_text [] x y p q = p ∙ sym q
one_text (a ∷ as') x y p q =
    p.2
    ∙ ap (λ (t : List ℕ). t ++ p.1) (one_block a p.0 q.0 p.3 q.3)
    ∙ ap (λ (t : List ℕ). q.0 ++ t) (one_text as' p.1 q.1 p.4 q.4)
    ∙ sym q.2

pub one_listing : (input text text' : List ℕ) → Listing input text → Listing input text' → text ≡ text'
one_listing input text text' x y =
    x.1
    ∙ ap (λ (t : List ℕ). written (Header listing_version) ++ t)
    (one_text (map record_of (input_lines input)) x.0 y.0 x.2 y.2)
    ∙ sym y.1

-- two ways of cutting one input print the same, at its end and wherever both have come to
module _ (parts parts' : List (List ℕ)) (same : joined parts ≡ joined parts') where
  pub one_output : (text text' : List ℕ) → PrintsParts parts text → PrintsParts parts' text' → text ≡ text'
  one_output text text' x y =
      one_listing (joined parts') text text' (subst (λ (s : List ℕ). Listing s text) same (cut_anywhere parts text x))
      (cut_anywhere parts' text' y)

  pub one_output_so_far : (text text' : List ℕ) (r r' : Printer) → PrintsSoFar parts text r → PrintsSoFar parts' text' r'
      → (text ≡ text') × (held r.carry ≡ held r'.carry)
  one_output_so_far text text' r r' x y =
      let a = answered_so_far x in
      let b = answered_so_far y in (
        a.headed
            ∙ ap (λ (t : List ℕ). written (Header listing_version) ++ t)
            (one_text (map record_of (lines_from [] (joined parts')).finished) a.blocks b.blocks
            (subst (λ (s : List ℕ). AllPrint (map record_of (lines_from [] s).finished) a.blocks) same a.print) b.print)
            ∙ sym b.headed,
        a.kept ∙ ap (λ (s : List ℕ). keep fresh (lines_from [] s).begun) same ∙ sym b.kept,
      )

-- in particular the input as one part
pub as_one_part : (parts : List (List ℕ)) (text text' : List ℕ) → PrintsParts parts text → PrintsParts (joined parts ∷ []) text'
    → text ≡ text'
unfolding joined
as_one_part parts text text' = one_output parts (joined parts ∷ []) (sym (append-nil (joined parts))) text text'

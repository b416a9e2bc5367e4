-- `lines::listed::line_of` meets its contract. The first byte picks the kind.
use mathlib.Core.Path.{◌≡◌, sym, ◌∙◌}
use native.Mathlib.Omega.{arith}
use borrow.Author.Tests.{ne_eqb}
use Rattle.lines.specs.declared.listed.Line.TheVariants.{Header, Arrived, Refused}
use Rattle.lines.specs.Parts.{short_of}
use Rattle.lines.specs.Reading.{line_of, header_of}
use Rattle.lines.proofs.Places.{found_is}
use Rattle.lines.proofs.listed.line_of.Goals as goal

pub returns-in-77 : goal.returns-in-77
unfolding line_of
returns-in-77 c = simp (← c.first.ensures, c.in-77.is) c.move_of.ensures

pub returns-in_err-short_of-in-65 : goal.returns-in_err-short_of-in-65
unfolding line_of
returns-in_err-short_of-in-65 c =
    c.from_residual.ensures
    ∙ simp (← c.first.ensures, c.in-65.is)
    (found_is Arrived (short_of c.args.limit c.args.s.now) _ (sym c.short_of.ensures ∙ c.in_err-short_of-in-65.was))

pub returns-in_ok-short_of-in-65 : goal.returns-in_ok-short_of-in-65
unfolding line_of
returns-in_ok-short_of-in-65 c =
    simp (← c.first.ensures, c.in-65.is)
    (found_is Arrived (short_of c.args.limit c.args.s.now) _ (sym c.short_of.ensures ∙ c.in_ok-short_of-in-65.was))

pub returns-in_err-short_of-in-82 : goal.returns-in_err-short_of-in-82
unfolding line_of
returns-in_err-short_of-in-82 c =
    c.from_residual-in_err-short_of-in-82.ensures
    ∙ simp (← c.first.ensures, c.in-82.is)
    (found_is Refused (short_of c.args.limit c.args.s.now) _ (sym c.short_of-in-82.ensures ∙ c.in_err-short_of-in-82.was))

pub returns-in_ok-short_of-in-82 : goal.returns-in_ok-short_of-in-82
unfolding line_of
returns-in_ok-short_of-in-82 c =
    simp (← c.first.ensures, c.in-82.is)
    (found_is Refused (short_of c.args.limit c.args.s.now) _ (sym c.short_of-in-82.ensures ∙ c.in_ok-short_of-in-82.was))

pub returns-in_err-header_of-in_default : goal.returns-in_err-header_of-in_default
unfolding line_of
returns-in_err-header_of-in_default c =
    let no_m : c.first.result ≡ 77 → ⊥ = λ e. omega arith in
    let no_a : c.first.result ≡ 65 → ⊥ = λ e. omega arith in
    let no_r : c.first.result ≡ 82 → ⊥ = λ e. omega arith in
    c.from_residual-in_err-header_of-in_default.ensures
    ∙ simp (← c.first.ensures, ne_eqb _ 77 no_m, ne_eqb _ 65 no_a, ne_eqb _ 82 no_r)
    (found_is Header (header_of c.args.s.now) _ (sym c.header_of.ensures ∙ c.in_err-header_of-in_default.was))

pub returns-in_ok-header_of-in_default : goal.returns-in_ok-header_of-in_default
unfolding line_of
returns-in_ok-header_of-in_default c =
    let no_m : c.first.result ≡ 77 → ⊥ = λ e. omega arith in
    let no_a : c.first.result ≡ 65 → ⊥ = λ e. omega arith in
    let no_r : c.first.result ≡ 82 → ⊥ = λ e. omega arith in
    simp (← c.first.ensures, ne_eqb _ 77 no_m, ne_eqb _ 65 no_a, ne_eqb _ 82 no_r)
    (found_is Header (header_of c.args.s.now) _ (sym c.header_of.ensures ∙ c.in_ok-header_of-in_default.was))

-- `lines::digits::all_hex` meets its contract: digits are good where all of them are.
use Rattle.std.proofs.Common.{◌≡◌, ◌&&◌, ℕ, Bool, ltb, List, get_or, ap, sym, ◌∙◌, rules}
use Rattle.std.proofs.lemmas.List.Folds.{list_all_more}
use Rattle.std.specs.List.{list_all}
use lib.Seq.{take_all}
use Rattle.lines.specs.Digits.{value_of}
use Rattle.lines.proofs.Reading.{all_good_in}
use Rattle.lines.proofs.digits.all_hex.Goals as goal

abbrev is_digit : ℕ → Bool
is_digit b = ltb (value_of b) 16

pub loop-b-preserved : goal.loop-b-preserved
loop-b-preserved c =
    let s = c.args.s.now in
    let i = c.loop-b.b-index in
    rw c.is_hex-good.ensures
    (ap (λ (t : Bool). t && is_digit (get_or s i 0)) c.loop-b.invariant ∙ sym (list_all_more is_digit s i 0 c.loop-b-test.true))

pub returns : goal.returns
returns c =
    let s = c.args.s.now in
    c.loop-b.invariant ∙ ap (list_all is_digit) (take_all c.loop-b.b-index s c.loop-b-test.false) ∙ all_good_in 16 s

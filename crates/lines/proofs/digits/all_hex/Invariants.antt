-- `lines::digits::all_hex` meets its contract: digits are good where all of them are.
use Rattle.std.proofs.Common.{◌≡◌, ltb, take}
use Rattle.std.specs.List.{list_all}
use Rattle.lines.specs.Digits.{value_of}
use Rattle.lines.proofs.digits.all_hex.Given as goal

abbrev pub invariant-loop-b : goal.invariant-loop-b
invariant-loop-b l = l.good ≡ list_all (λ b. ltb (value_of b) 16) (take l.b-index l.s)

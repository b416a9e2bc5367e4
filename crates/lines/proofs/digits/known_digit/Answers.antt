-- `lines::digits::known_digit` meets its contract, by the bits of a digit's byte.
use Rattle.lines.proofs.Values.{digit_by_bits}
use Rattle.lines.proofs.digits.known_digit.Goals as goal

pub returns : goal.returns
returns c = digit_by_bits c.args.b c.requires

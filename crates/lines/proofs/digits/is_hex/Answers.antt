-- `lines::digits::is_hex` meets its contract: its two ranges are those of the definition.
use Rattle.lines.proofs.Values.{is_digit}
use Rattle.lines.proofs.digits.is_hex.Goals as goal

pub returns : goal.returns
returns c = is_digit c.args.b

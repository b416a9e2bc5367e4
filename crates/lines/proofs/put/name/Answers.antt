-- `lines::put::name` meets its contract: what is copied over a part is stored there.
use mathlib.Core.Path.{refl}
use native.Mathlib.Omega.{arith}
use mathlib.Core.List.{[], ◌∷◌, ◌++◌}
use Rattle.lines.specs.Lines.{walk_word}
use Rattle.lines.proofs.Places.{stored_copied}
use Rattle.lines.proofs.put.name.Goals as goal

pub returns : goal.returns
returns c = record {
  place = refl;
  bytes =
      rw c.copy_from_slice.ensures.after
      (stored_copied c.args.buf.now (walk_word ++ (9 ∷ [])) c.args.at 12 (omega arith) refl c.requires);
}

-- `poses::object::admit` meets its contract: the first refusal that there is.
use Rattle.std.specs.Prelude.{◌≡◌, true, false}
use Rattle.poses.proofs.object.admit.Goals as goal

pub returns-then-p-n : goal.returns-then-p-n
returns-then-p-n c = simp c.if-p-n.true

pub returns-then-p : goal.returns-then-p
returns-then-p c =
    let p = c.args.p in
    let outside : p.outside ≡ true = c.if-p.true in
    simp (c.if-p-n.false, outside)

pub returns : goal.returns
returns c =
    let p = c.args.p in
    let inside : p.outside ≡ false = c.if-p.false in
    simp (c.ensure.ensures, c.is_complete.ensures, c.if-p-n.false, inside)

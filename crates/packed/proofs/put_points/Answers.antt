-- `packed::put_points` meets its contract: one point more, and at the end all six.
use Rattle.std.proofs.Common.{List, take, length, ap, ◌∙◌, refl, arith}
use Rattle.std.proofs.lemmas.List.Edits.{sets}
use Rattle.legs.specs.declared.Foot.{Foot}
use Rattle.packed.specs.Packed.{point_bytes}
use Rattle.packed.proofs.Runs.{points_run, runs_more, six_points_run}
use Rattle.packed.proofs.put_points.Goals as goal

pub loop-i-preserved : goal.loop-i-preserved
loop-i-preserved c =
    runs_more (λ p. point_bytes p.point) 12 (λ p. refl) c.args.s.now c.loop-i.s _ c.args.at c.loop-i.i c.as_legs.result _
    (omega (arith, ap length c.as_legs.ensures)) c.loop-i.invariant c.put_point.ensures

pub returns : goal.returns
returns c =
    c.loop-i.invariant
    ∙ ap (λ (ps : List Foot). sets c.args.s.now c.args.at (points_run (take c.loop-i.i ps))) c.as_legs.ensures
    ∙ ap (sets c.args.s.now c.args.at) (six_points_run c.args.f c.loop-i.i c.loop-i-test.false)

-- How ours goes through a stretch of positions whose lines lie whole in a chunk of each file: so many steps, of which the text is stored.
use Rattle.std.specs.Prelude.{ℕ, ◌+◌, ◌≤◌, ◌<◌, ◌≡◌, Bool, List, [], ◌∷◌, ◌++◌, length, drop, Option, MatchOption}
use Rattle.numbers.specs.Told.{choose}
use Rattle.numbers.specs.Stored.{Stored}
use Rattle.compare.specs.Step.{is_last}
use Rattle.compare.specs.Rule.{printed}
use Rattle.compare.specs.Parts.{steps}
use Rattle.compare.specs.declared.step.Step.{Step}
use Rattle.compare.specs.declared.stretch.Reached.{Reached}

abbrev pub told_at : ℕ → Step → ℕ → ℕ → Reached
told_at at s bench office =
    record { at = at; bench = bench; office = office; st = s.next; done = is_last s.told }

-- what is still to be printed, in so many turns, whatever parts follow the two chunks
abbrev pub left : List ℕ → List ℕ → Reached → ℕ → Bool → List (List ℕ) → Bool → List (List ℕ) → List ℕ
left bench office r turns f ps g qs =
    choose r.done []
    (printed
    (steps turns r.st (record { failed = f; parts = drop r.bench bench ∷ ps })
    (record { failed = g; parts = drop r.office office ∷ qs })))

-- from one place to another: a text is stored, and it is that of the steps between them
pub record Goes (bench office before : List ℕ) (r : Reached) (after : List ℕ) (q : Reached) : Type 0 where
  pub text : List ℕ
  pub count : ℕ
  pub stored : Stored before r.at text q.at after
  pub joins : (turns : ℕ) (f : Bool) (ps : List (List ℕ)) (g : Bool) (qs : List (List ℕ))
      → left bench office r (turns + count) f ps g qs ≡ text ++ left bench office q turns f ps g qs

-- one position more, or it stops and all stays
pub record Nearer (bench office before : List ℕ) (r : Reached) (after : List ℕ) (q : Reached) : Type 0 where
  pub goes : Goes bench office before r after q
  pub nearer : (r.bench < q.bench) × (q.bench ≤ length bench)

abbrev pub Onward : List ℕ → List ℕ → List ℕ → Reached → List ℕ → Option Reached → Type 0
Onward bench office before r after next = MatchOption next (after ≡ before) (λ q. Nearer bench office before r after q)
